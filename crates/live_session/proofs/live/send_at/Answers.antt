use Rattle.std.proofs.Common.{length, ap, ◌∙◌, ◌+◌, max, arith}
use Rattle.live_session.proofs.Sending.{sent_stays}
use Rattle.live_session.proofs.live.send_at.Goals as goal

-- the record has the event, and the board has taken it
pub returns-clause-ok : goal.returns-clause-ok
returns-clause-ok g c =
    sent_stays c.writing_law.ensures.more _ (record { console = c.add_event.new.record.console; ticks = c.add_event.new.record.ticks; lines = c.add_event.new.record.lines; last = c.add_event.new.record.last; board = _ })
    c.in-Some.time c.args.event c.args.bytes.now c.deref.result.now c.requires.sound
    (record {
      console = c.add_event.ensures.console;
      ticks = c.add_event.ensures.ticks;
      lines = c.add_event.ensures.lines;
      last = c.add_event.ensures.last;
      board = c.in-Ok.ensures.ok;
      late = omega (arith, c.in-Some.ensures.some.0);
      later = omega (arith, c.in-Some.ensures.some.0, c.time.ensures);
      fits = c.in-Some.ensures.some.1;
      range = c.requires.range;
      asked = c.requires.asked;
      line_is = c.deref.ensures.value ∙ c.in_ok-line.ensures;
      console_room = omega (arith, c.if-room-bytes.false, c.room.ensures);
      ticks_room = omega (arith, c.if-room-len.false, c.len.ensures, c.room-2.ensures, ap length c.deref.ensures.value);
    })
    _ (c.in-Some.ensures.some.0 ∙ ap (λ now. max (max (now + 1) c.args.live.now.record.last) (c.args.from + c.args.period)) c.time.ensures) c.growing_law.ensures
