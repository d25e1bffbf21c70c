use Rattle.std.proofs.Common.{ap, refl}
use Rattle.board_player.specs.WindMachineState.{State}
use Rattle.board_player.specs.WindMachineMachine.{opening}
use Rattle.wind_session.specs.Fetches.{source_requests}
use Rattle.wind_session.specs.Keeping.{around}
use Rattle.wind_session.specs.Outside.{outside}
use Rattle.wind_session.specs.Words.{command_state}
use Rattle.wind_session.specs.declared.ending.Status.TheVariants as status
use Rattle.wind_session.proofs.FetchLemmas.{source_found}
use Rattle.wind_session.proofs.ProgramLemmas.{unbooted}
use Rattle.wind_session.proofs.FailureLemmas.{fails_after, left_fails, source_fails}
use Rattle.wind_session.proofs.InputLemmas.{left_after}
use Rattle.wind_session.proofs.PlanLemmas.{complete_refused}
use Rattle.wind_session.proofs.playing.session.Goals as goal

-- the run that was played followed the fetches of the command's files
pub returns-clause-machine : goal.returns-clause-machine
returns-clause-machine g c =
    let source = c.args.command.now.source in
    let outside_now = outside (g.F.Folder.requests c.args.folder.now) (g.O.Sink.bytes c.args.out.now) (g.O.Sink.pieces c.args.out.now) in
    let left = c.played-status.ensures.left in
    record {
      plan = _;
      planned = c.in-Ok.ensures.start;
      leaves = record {
        end = left.0;
        console = _;
        schedule = _;
        planned = refl;
        left =
            left_after (source_requests source (command_state c.args.command.now)) outside_now (g.F.Folder.requests c.inputs_of.new.folder) c.in-Ok.ensures.found source c.played-status.result left.0 _ _ c.args.command.now.modules.now _ _ _ _ _
            c.inputs_of.ensures.keeps.0 c.in-Ok-boot.ensures.ok left.1;
      };
    }

-- memory ran out for the board
pub returns-in-Err-boot-clause-machine : goal.returns-in-Err-boot-clause-machine
returns-in-Err-boot-clause-machine g c =
    let outside_now = outside (g.F.Folder.requests c.args.folder.now) (g.O.Sink.bytes c.args.out.now) (g.O.Sink.pieces c.args.out.now) in
    rw c.refused-in-Err-boot.ensures
    (record { plan = _; planned = c.in-Ok.ensures.start; leaves = (c.in-Err-boot.ensures.err, unbooted _ (command_state c.args.command.now) _ outside_now _ c.in-Ok.ensures.found c.inputs_of.ensures.unasked) })

-- what is refused had no plan to start, or a fault came
pub returns-in-Err-clause-complete : goal.returns-in-Err-clause-complete
returns-in-Err-clause-complete g c =
    rw c.refused.ensures
    (complete_refused c.in-Err.status (command_state c.args.command.now)
    (around g.F.Folder g.O.Sink c.args.folder.now c.args.out.now) (around g.F.Folder g.O.Sink c.inputs_of.new.folder c.args.out.now) c.in-Err.ensures.refused)

-- a machine that booted has made no step
pub played-status-requires-clause-fresh : goal.played-status-requires-clause-fresh
unfolding opening
played-status-requires-clause-fresh g c = ap (λ (s : State). s.steps) c.in-Ok-boot.ensures.ok

-- the board that is left keeps the invariant, and so what holds at each instant
pub returns-clause-kept : goal.returns-clause-kept
returns-clause-kept g c = (c.facts.ensures, c.instant_law.ensures _ c.facts.ensures)

-- ---- only the last fetch may have failed
pub returns-in-Err-clause-fails_last : goal.returns-in-Err-clause-fails_last
returns-in-Err-clause-fails_last g c =
    rw c.refused.ensures (source_fails (command_state c.args.command.now) c.in-Err.status _ _ c.args.command.now.source c.in-Err.ensures.without_run)

pub returns-clause-fails_last : goal.returns-clause-fails_last
returns-clause-fails_last g c =
    let left = c.played-status.ensures.left in
    fails_after c.played-status.result c.args.command.now.source (command_state c.args.command.now) _ _ _ c.in-Ok.ensures.found
    (left_fails c.args.command.now.source c.played-status.result left.0 _ _ _ _ _ _ left.1)

-- memory ran out for the board
pub returns-in-Err-boot-clause-fails_last : goal.returns-in-Err-boot-clause-fails_last
returns-in-Err-boot-clause-fails_last g c =
    rw c.refused-in-Err-boot.ensures
    (source_fails (command_state c.args.command.now) status.NoMemory _ _ c.args.command.now.source
    (source_found c.args.command.now.source (command_state c.args.command.now) _ _ c.in-Ok.ensures.found c.inputs_of.ensures.unasked))
