use Rattle.std.proofs.Common.{◌+◌, Bor, subst, sym}
use Rattle.trace_session.specs.Choice.{choice_state}
use Rattle.trace_session.specs.Traced.{HoldsSteps}
use Rattle.trace_session.specs.declared.choice.Choice.{Choice}
use Rattle.trace_session.proofs.Telling.{held_on}
use Rattle.trace_session.proofs.events.TracerTeller.tell.Goals as goal

pub returns-clause-tells : goal.returns-clause-tells
returns-clause-tells g c = λ done first said next s u i is ready on holds.
    subst (λ (x : Bor Choice). HoldsSteps g.L.LineForm.is_line (choice_state x.now) first.bytes (g.O.Sink.bytes c.put_full.new.out) c.put_full.new.page next s (i + 1)) (sym c.in_ok-add_step.ensures.choice)
    (c.put_full.ensures.done done first.bytes _ (held_on g.L.LineForm.is_line _ first.bytes _ _ _ said next s u _ _ i on (λ given lines. c.in_ok-add_step.ensures.lines (next i) u given lines is ready.0 on.replied) holds))

pub returns-clause-lost : goal.returns-clause-lost
returns-clause-lost g c = λ failed first said next s u i is ready on holds.
    c.put_full.ensures.part failed first.bytes _ (held_on g.L.LineForm.is_line _ first.bytes _ _ _ said next s u _ _ i on (λ given lines. c.in_ok-add_step.ensures.lines (next i) u given lines is ready.0 on.replied) holds)
