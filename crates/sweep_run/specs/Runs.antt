-- The run of a member of a sweep.
use Rattle.std.specs.Prelude.{ℕ, zero, suc, List, [], ◌++◌, Option, None, Some, Result, Ok, Err, map}
use Rattle.wind_base.specs.declared.board_kind.BoardKind.{BoardKind}
use Rattle.wind_base.specs.declared.profile.Profile.{Profile}
use Rattle.tick_file.specs.Schedule.{Timetable}
use Rattle.wind_session.specs.WindMachineState.{State}
use Rattle.wind_session.specs.WindMachineMachine.{machine_step, opening}
use Rattle.wind_session.specs.Headline.{status_of}
use Rattle.wind_session.specs.Program.{opening_devices}
use Rattle.wind_session.specs.declared.run.RunEnd.{RunEnd}
use Rattle.wind_session.specs.declared.run.RunEnd.TheVariants as ends
use Rattle.wind_session.specs.declared.ending.Status.{Status}
use Rattle.again.specs.Libraries.{Library, said_in}
use Rattle.sweep_run.specs.declared.finish.Finish.{Finish}
use Rattle.sweep_run.specs.declared.finish.Finish.TheVariants.{NoStepLeft, LimitReached}
use Rattle.sweep_run.specs.declared.start.Start.{Start}

-- what the runs of a sweep start from besides their events, and the marks of their outcomes
pub record StartState : Type 0 where
  pub console : List ℕ
  pub modules : List ℕ
  pub limit : ℕ
  pub profile : Profile
  pub kind : BoardKind
  pub marks : List (List ℕ)

abbrev pub start_state : Start → StartState
start_state s = record {
  console = s.console.items;
  modules = s.modules.now;
  limit = s.limit;
  profile = s.profile;
  kind = s.kind;
  marks = map (λ m. m.now) s.marks.items;
}

-- a run that is over: how it ended, the state that it left, and what it wrote
pub record Ended : Type 0 where
  pub finish : Finish
  pub state : State
  pub written : List ℕ

-- a run is over, or goes on from the state after the next step
abbrev pub unless_step : Ended → (State → Ended) → Option State → Ended
unless_step over go None = over
unless_step over go (Some t) = go t

-- at most n steps from a state, after this was written, if each module has this answer
unfoldable pub run_on : Library → ℕ → State → List ℕ → Ended
run_on library zero s written = record { finish = LimitReached; state = s; written = written }
run_on library (suc n) s written =
    unless_step (record { finish = NoStepLeft; state = s; written = written })
    (λ t. run_on library n t (written ++ t.world.output)) (machine_step (said_in library s) s)

-- the state in which a run with these events starts, on the program's board
abbrev pub opening_of : StartState → Timetable → State
opening_of start events = opening start.console events opening_devices start.profile start.kind

-- the run with these events, if each module has this answer
abbrev pub run_of : Library → StartState → Timetable → Ended
run_of library start events = run_on library start.limit (opening_of start events) []

-- how a run ended, or the status of one that was given up
abbrev pub finish_of : RunEnd → Result Finish Status
finish_of ends.Quiet = Ok NoStepLeft
finish_of ends.Limit = Ok LimitReached
finish_of end = Err (status_of end)
