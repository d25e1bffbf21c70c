use Rattle.std.proofs.Common.{Bor, ap, arith, refl, ◌∙◌}
use Rattle.std.proofs.lemmas.Result.{err_from_is_err_and}
use Rattle.wind_session.specs.BoardPlayerSeen.{board_by}
use Rattle.wind_session.proofs.RunLemmas.{begun}
use Rattle.wind_session.proofs.ToldLemmas.{given_up}
use Rattle.trace_session.specs.Choice.{choice_state}
use Rattle.trace_session.specs.Chrome.{ChartsPart, charted}
use Rattle.trace_session.specs.declared.choice.Choice.{Choice}
use Rattle.trace_session.proofs.Charting.{chart_given_up, chart_lost, chart_told, charted_first, charted_none, charted_of, end_by, none_charted}
use Rattle.trace_session.proofs.Seeing.{alone}
use Rattle.trace_session.proofs.chrome.tell_chrome.Goals as goal

-- no step was made
pub returns-in_err-charter-clause-given_up : goal.returns-in_err-charter-clause-given_up
returns-in_err-charter-clause-given_up g c =
    let p = err_from_is_err_and c.from_residual.result c.from_residual.ensures.1 in
    rw p.1 (given_up (ChartsPart (choice_state c.args.choice.now) _ _) _ _ _ _ c.args.limit 0 0 _ _ (none_charted _ _ refl _) (omega arith) (begun _ _ c.args.limit _ c.requires.fresh))

pub tell_run-requires-clause-tells : goal.tell_run-requires-clause-tells
tell_run-requires-clause-tells g c = λ said. charted_none _ _ (ap (λ (x : Bor Choice). choice_state x.now) c.in_ok-charter.ensures.choice) _ _ _ said _ c.in_ok-charter.ensures.chart c.in_ok-charter.ensures.text

-- a put failed before the end
pub returns-in-WriteFault-clause-told : goal.returns-in-WriteFault-clause-told
returns-in-WriteFault-clause-told g c =
    rw c.text.ensures (alone _ _ _ _ _ _ _ _ refl
    (chart_lost _ _ (ap (λ (x : Bor Choice). choice_state x.now) (c.in_ok-end.ensures.scope ∙ c.in_ok-charter.ensures.choice)) _ _ _ _ _ _ _ _ _ _ _ (charted_of _ _ _ (ap (λ (x : Bor Choice). choice_state x.now) c.in_ok-charter.ensures.choice) _ _ _ _ _ _ _ _ _ _ _ c.in_ok-end.ensures.told) c.in-WriteFault.is))

-- the end was put, or memory ran out for it
pub returns-clause-told : goal.returns-clause-told
returns-clause-told g c =
    let state = board_by (λ d. (goal.Device-dyn g (d.vtable, d.value)).kind_of d.value) (λ d. (goal.Device-dyn g (d.vtable, d.value)).words_of d.value) in
    let same = ap (λ (x : Bor Choice). choice_state x.now) (c.in_ok-end.ensures.scope ∙ c.in_ok-charter.ensures.choice) in
    rw c.text-in_default.ensures (alone _ _ _ _ _ _ _ _ refl
    (chart_told _ _ same _ _ _ _ _ _ _ _ _ _ _ (charted_of _ _ _ (ap (λ (x : Bor Choice). choice_state x.now) c.in_ok-charter.ensures.choice) _ _ _ _ _ _ _ _ _ _ _ c.in_ok-end.ensures.told) c.in_default.not-WriteFault _ _ (end_by _ _ same _ _ _ _ (charted c.tell_run.new.teller.spans c.tell_run.new.teller.level c.tell_run.new.teller.flows) (state c.tell_run.new.board) _ _ (c.in_ok-last-in_default.ensures.told _))))

pub returns-in_err-last-in_default-clause-given_up : goal.returns-in_err-last-in_default-clause-given_up
returns-in_err-last-in_default-clause-given_up g c =
    let p = err_from_is_err_and c.from_residual-in_err-last-in_default.result c.from_residual-in_err-last-in_default.ensures.1 in
    rw p.1 (chart_given_up _ _ (ap (λ (x : Bor Choice). choice_state x.now) (c.in_ok-end.ensures.scope ∙ c.in_ok-charter.ensures.choice)) _ _ _ _ _ _ _ _ _ _ _ (charted_of _ _ _ (ap (λ (x : Bor Choice). choice_state x.now) c.in_ok-charter.ensures.choice) _ _ _ _ _ _ _ _ _ _ _ c.in_ok-end.ensures.told) c.in_default.not-WriteFault _ c.in_err-last-in_default.ensures.given_up)

-- memory ran out for a step
pub returns-in_err-end-clause-given_up : goal.returns-in_err-end-clause-given_up
returns-in_err-end-clause-given_up g c =
    let p = err_from_is_err_and c.from_residual-in_err-end.result c.from_residual-in_err-end.ensures.1 in
    rw p.1 (charted_first _ _ (choice_state c.args.choice.now) (ap (λ (x : Bor Choice). choice_state x.now) c.in_ok-charter.ensures.choice) _ _ _ _ _ _ _ _ c.in_err-end.ensures.given_up)
