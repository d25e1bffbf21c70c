use Rattle.std.proofs.Common.{Bor, ap, arith, refl, ◌∙◌}
use Rattle.std.proofs.lemmas.Result.{err_from_is_err_and}
use Rattle.wind_session.proofs.RunLemmas.{begun}
use Rattle.wind_session.proofs.ToldLemmas.{given_up}
use Rattle.trace_session.specs.Choice.{choice_state}
use Rattle.trace_session.specs.Traced.{HoldsPart}
use Rattle.trace_session.specs.declared.choice.Choice.{Choice}
use Rattle.trace_session.proofs.Puts.{none_put}
use Rattle.trace_session.proofs.Seeing.{alone}
use Rattle.trace_session.proofs.Telling.{last_given_up, last_told, lost_before, no_lines, none_waits, part_of, told_of}
use Rattle.trace_session.proofs.events.tell_lines.Goals as goal

-- no step was made
pub returns-in_err-tracer-clause-given_up : goal.returns-in_err-tracer-clause-given_up
returns-in_err-tracer-clause-given_up g c =
    let p = err_from_is_err_and c.from_residual.result c.from_residual.ensures.1 in
    rw p.1 (given_up (HoldsPart g.L.LineForm.is_line _ _ _) _ _ _ _ c.args.limit 0 0 _ _ (none_put g.L.LineForm.is_line _ _ refl) (omega arith) (begun _ _ c.args.limit _ c.requires.fresh))

pub tell_run-requires-clause-tells : goal.tell_run-requires-clause-tells
tell_run-requires-clause-tells g c = λ said. no_lines g.L.LineForm.is_line _ _ c.in_ok-tracer.ensures.page

pub tell_run-requires-clause-ready : goal.tell_run-requires-clause-ready
tell_run-requires-clause-ready g c = (c.in_ok-tracer.ensures.before, none_waits _ _ c.in_ok-tracer.ensures.page)

-- a put failed before the last line
pub returns-in-WriteFault-clause-told : goal.returns-in-WriteFault-clause-told
returns-in-WriteFault-clause-told g c =
    rw c.text.ensures (alone _ _ _ _ _ _ _ _ refl
    (lost_before g.L.LineForm.is_line g.L.LineForm.is_end _ _ (ap (λ (x : Bor Choice). choice_state x.now) (c.in_ok-end.ensures.scope ∙ c.in_ok-tracer.ensures.choice)) _ _ _ _ _ _ _ _ _ _ (told_of g.L.LineForm.is_line _ _ _ (ap (λ (x : Bor Choice). choice_state x.now) c.in_ok-tracer.ensures.choice) _ _ _ _ _ _ _ _ _ _ c.in_ok-end.ensures.told) c.in-WriteFault.is))

-- the last line was put, or memory ran out for it
pub returns-clause-told : goal.returns-clause-told
returns-clause-told g c =
    rw c.text-in_default.ensures (alone _ _ _ _ _ _ _ _ refl
    (last_told g.L.LineForm.is_line g.L.LineForm.is_end _ _ (ap (λ (x : Bor Choice). choice_state x.now) (c.in_ok-end.ensures.scope ∙ c.in_ok-tracer.ensures.choice)) _ _ _ _ _ _ _ _ _ _ (told_of g.L.LineForm.is_line _ _ _ (ap (λ (x : Bor Choice). choice_state x.now) c.in_ok-tracer.ensures.choice) _ _ _ _ _ _ _ _ _ _ c.in_ok-end.ensures.told) c.in_default.not-WriteFault _ _ (c.in_ok-last-in_default.ensures.told _)))

pub returns-in_err-last-in_default-clause-given_up : goal.returns-in_err-last-in_default-clause-given_up
returns-in_err-last-in_default-clause-given_up g c =
    let p = err_from_is_err_and c.from_residual-in_err-last-in_default.result c.from_residual-in_err-last-in_default.ensures.1 in
    rw p.1 (last_given_up g.L.LineForm.is_line g.L.LineForm.is_end _ _ (ap (λ (x : Bor Choice). choice_state x.now) (c.in_ok-end.ensures.scope ∙ c.in_ok-tracer.ensures.choice)) _ _ _ _ _ _ _ _ _ _ (told_of g.L.LineForm.is_line _ _ _ (ap (λ (x : Bor Choice). choice_state x.now) c.in_ok-tracer.ensures.choice) _ _ _ _ _ _ _ _ _ _ c.in_ok-end.ensures.told) c.in_default.not-WriteFault _ c.in_err-last-in_default.ensures.given_up)

-- memory ran out for a step
pub returns-in_err-end-clause-given_up : goal.returns-in_err-end-clause-given_up
returns-in_err-end-clause-given_up g c =
    let p = err_from_is_err_and c.from_residual-in_err-end.result c.from_residual-in_err-end.ensures.1 in
    rw p.1 (part_of g.L.LineForm.is_line _ _ (choice_state c.args.choice.now) (ap (λ (x : Bor Choice). choice_state x.now) c.in_ok-tracer.ensures.choice) _ _ _ _ _ _ _ _ c.in_err-end.ensures.given_up)
