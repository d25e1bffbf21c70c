use Rattle.std.proofs.Common.{◌+◌, Bor, arith, subst, sym}
use Rattle.trace_text.specs.Pages.{Ends}
use Rattle.trace_session.specs.Choice.{choice_state, chosen_lines}
use Rattle.trace_session.specs.declared.choice.Choice.{Choice}
use Rattle.trace_session.proofs.Telling.{ready_on, with_scope}
use Rattle.trace_session.proofs.events.TracerTeller.burst.Goals as goal

pub burst-requires-clause-fits : goal.burst-requires-clause-fits
burst-requires-clause-fits g c = omega (arith, c.requires.told.1, c.requires.few)

pub returns-clause-tells : goal.returns-clause-tells
returns-clause-tells g c =
    with_scope c.burst.result _ _ c.burst.ensures.choice (λ k stays lines first now said s i here holds. record {
      given = holds.given;
      gained = holds.gained;
      ends = subst (λ (x : Bor Choice). Ends g.L.LineForm.is_line holds.given c.burst.new.tracer.page (chosen_lines (choice_state x.now) said s (i + k))) (sym stays) (lines said s i holds.given here holds.ends);
    }) c.burst.ensures.lines

pub returns-clause-ready : goal.returns-clause-ready
returns-clause-ready g c = ready_on c.burst.result _ _ _ _ _ c.silent_law.ensures c.requires.told.1 c.burst.ensures.made c.burst.ensures.waits c.burst.ensures.before
