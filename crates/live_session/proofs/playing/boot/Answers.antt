use Rattle.std.proofs.Common.{◌∙◌, ap}
use Rattle.tick_file.specs.Schedule.{timetable_of}
use Rattle.live_session.proofs.Starting.{new_begins}
use Rattle.live_session.proofs.playing.boot.Goals as goal

pub returns-in-Ok-boot : goal.returns-in-Ok-boot
returns-in-Ok-boot g c = record {
  begins = new_begins c.writing_law.ensures.written _ _ _ _ _ _ _ _ (record { console = c.in_ok-record.record.console; ticks = c.in_ok-record.record.ticks; lines = c.in_ok-record.record.lines; last = c.in_ok-record.record.last; board = _ })
      c.requires.texts (c.in-Ok.ensures.value ∙ ap timetable_of c.deref.ensures.value) c.in-Ok-boot.ensures.ok
      (record {
        console_is = c.in_ok-record.ensures.holds.0;
        ticks_is = c.in_ok-record.ensures.holds.1;
        lines_is = c.in_ok-record.ensures.holds.2;
        last_is = c.in_ok-record.ensures.holds.3;
        kept = c.in_ok-record.ensures.record;
        within = c.in_ok-record.ensures.console;
      });
}
