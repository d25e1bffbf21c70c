use Rattle.std.proofs.Common.{◌∙◌, List, ap}
use Rattle.std.specs.Prelude.{ℕ}
use Rattle.wind_session.specs.WindMachineState.{State}
use Rattle.wind_session.specs.WindMachineMachine.{opening}
use Rattle.wind_session.specs.Program.{opening_devices}
use Rattle.kept_files.specs.Kept.{kept_of}
use Rattle.sweep_run.specs.Runs.{start_state}
use Rattle.sweep_run.proofs.RunLemmas.{from_opening, opening_fresh}
use Rattle.sweep_run.proofs.playing.play_on.Goals as goal

pub outcome_from-requires-clause-fresh : goal.outcome_from-requires-clause-fresh
outcome_from-requires-clause-fresh g c = ap (λ (v : State). v.steps) c.in_ok-board.ensures ∙ opening_fresh _ _ _ _ _

pub returns-clause-outcome : goal.returns-clause-outcome
returns-clause-outcome g c =
    let start = c.args.start.now in
    from_opening (start_state start) (kept_of c.outcome_from.new.kept) c.args.schedule _ (λ text. text.items) c.outcome_from.result
    (c.in_ok-board.ensures ∙ ap (λ (console : List ℕ). opening console c.args.schedule opening_devices start.profile start.kind) c.deref.ensures.value)
    c.outcome_from.ensures.outcome
