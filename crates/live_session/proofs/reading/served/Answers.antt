use Rattle.std.proofs.Common.{◌∙◌, ap, arith, length}
use Rattle.std.proofs.lemmas.List.{length-append}
use Rattle.live_session.proofs.Cuts.{serving_begins, serving_ends, serving_more}
use Rattle.live_session.proofs.reading.served.Goals as goal

pub loop-first-init : goal.loop-first-init
loop-first-init c = rw c.new-ticks.ensures.items (serving_begins c.args.len c.args.events.now)

-- the line of the next event
pub loop-first-preserved : goal.loop-first-preserved
loop-first-preserved c =
    let x = c.in-Some.first.now in
    rw (c.in_ok-push_bytes.ensures, c.bytes_asked-bytes.ensures)
    (serving_more _ _ _ _ _ _ c.loop-first.invariant c.writing_law.ensures.more x.0 x.1 c.in-Some.more.now c.deref.result.now c.in-Some.ensures.0 c.in-Some.ensures.1 (c.deref.ensures.value ∙ c.in_ok-line.ensures))

pub overflow_sub-lines : goal.overflow_sub-lines
overflow_sub-lines c = omega (arith, ap length c.loop-first.invariant.whole, length-append c.loop-first.invariant.done c.loop-first.rest.now)

pub returns : goal.returns
returns c = serving_ends _ _ _ _ _ _ c.loop-first.invariant c.in_default.ensures
