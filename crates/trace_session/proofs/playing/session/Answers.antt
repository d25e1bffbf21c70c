use Rattle.std.proofs.Common.{ap, refl}
use Rattle.wind_session.specs.WindMachineState.{State}
use Rattle.wind_session.specs.WindMachineMachine.{opening}
use Rattle.wind_session.specs.Fetches.{source_requests}
use Rattle.wind_session.specs.Keeping.{around}
use Rattle.wind_session.specs.Outside.{outside}
use Rattle.wind_session.specs.Words.{command_state}
use Rattle.wind_session.proofs.ProgramLemmas.{unbooted}
use Rattle.wind_session.proofs.PlanLemmas.{complete_refused}
use Rattle.wind_session.proofs.AppendingLemmas.{rose_earlier}
use Rattle.trace_session.specs.Choice.{choice_state}
use Rattle.trace_session.proofs.LeftLemmas.{complete_left, known_left, left_after}
use Rattle.trace_session.proofs.playing.session.Goals as goal

-- the run that was traced followed the fetches of the command's files
pub returns-clause-machine : goal.returns-clause-machine
returns-clause-machine g c =
    let session = c.args.command.now.session in
    let outside_now = outside (g.F.Folder.requests c.args.folder.now) (g.O.Sink.bytes c.args.out.now) (g.O.Sink.pieces c.args.out.now) in
    record {
      plan = _;
      planned = c.in-Ok.ensures.start;
      leaves = record {
        console = _;
        schedule = _;
        planned = refl;
        left =
            left_after (source_requests session.source (command_state session)) outside_now (g.F.Folder.requests c.inputs_of.new.folder) c.in-Ok.ensures.found
            c.args.command.now.form (choice_state c.args.command.now.choice) c.play_board-outcome.result.product c.play_board-outcome.result.status _ _ session.modules.now _ _ _ _
            (outside (g.F.Folder.requests c.play_board-outcome.new.folder) (g.O.Sink.bytes c.play_board-outcome.new.out) (g.O.Sink.pieces c.play_board-outcome.new.out))
            c.inputs_of.ensures.keeps.0 c.in-Ok-boot.ensures.ok c.play_board-outcome.ensures.left;
      };
    }

-- memory ran out for the board
pub returns-in-Err-boot-clause-machine : goal.returns-in-Err-boot-clause-machine
returns-in-Err-boot-clause-machine g c =
    let outside_now = outside (g.F.Folder.requests c.args.folder.now) (g.O.Sink.bytes c.args.out.now) (g.O.Sink.pieces c.args.out.now) in
    rw c.refusal-in-Err-boot.ensures
    (record { plan = _; planned = c.in-Ok.ensures.start; leaves = (c.in-Err-boot.ensures.err, unbooted _ (command_state c.args.command.now.session) _ outside_now _ c.in-Ok.ensures.found c.inputs_of.ensures.unasked) })

-- what is refused had no plan to start, or a fault came
pub returns-in-Err-clause-complete : goal.returns-in-Err-clause-complete
returns-in-Err-clause-complete g c =
    rw c.refusal.ensures
    (complete_refused c.in-Err.status (command_state c.args.command.now.session)
    (around g.F.Folder g.O.Sink c.args.folder.now c.args.out.now) (around g.F.Folder g.O.Sink c.inputs_of.new.folder c.args.out.now) c.in-Err.ensures.refused)

pub returns-clause-complete : goal.returns-clause-complete
returns-clause-complete g c =
    complete_left _ _ _ c.play_board-outcome.result.status _ _ _ _
    (outside (g.F.Folder.requests c.inputs_of.new.folder) (g.O.Sink.bytes c.args.out.now) (g.O.Sink.pieces c.args.out.now))
    (outside (g.F.Folder.requests c.play_board-outcome.new.folder) (g.O.Sink.bytes c.play_board-outcome.new.out) (g.O.Sink.pieces c.play_board-outcome.new.out))
    (command_state c.args.command.now.session)
    (around g.F.Folder g.O.Sink c.args.folder.now c.args.out.now) (around g.F.Folder g.O.Sink c.play_board-outcome.new.folder c.play_board-outcome.new.out)
    (λ e. rose_earlier _ _ _ c.inputs_of.ensures.keeps.1 c.play_board-outcome.ensures.keeps.0.1 (c.play_board-outcome.ensures.read_fault e))
    c.play_board-outcome.ensures.fault c.play_board-outcome.ensures.left

-- the arguments were a command
pub returns-clause-known : goal.returns-clause-known
returns-clause-known g c =
    known_left _ _ _ c.play_board-outcome.result.status _ _ _ _
    (outside (g.F.Folder.requests c.inputs_of.new.folder) (g.O.Sink.bytes c.args.out.now) (g.O.Sink.pieces c.args.out.now))
    (outside (g.F.Folder.requests c.play_board-outcome.new.folder) (g.O.Sink.bytes c.play_board-outcome.new.out) (g.O.Sink.pieces c.play_board-outcome.new.out))
    c.play_board-outcome.ensures.left

-- a machine that booted has made no step
pub play_board-outcome-requires-clause-fresh : goal.play_board-outcome-requires-clause-fresh
unfolding opening
play_board-outcome-requires-clause-fresh g c = ap (λ (s : State). s.steps) c.in-Ok-boot.ensures.ok

-- the board that is left keeps the invariant, and so what holds at each instant
pub returns-clause-kept : goal.returns-clause-kept
returns-clause-kept g c = (c.facts.ensures, c.instant_law.ensures _ c.facts.ensures)
