-- The observations of a run's tasks, and their spans.
use Rattle.std.specs.Prelude.{◌≡◌, ℕ, zero, suc, ◌+◌, ◌<◌, ◌≤◌, true, if◌then◌else◌, List, [], ◌∷◌}
use Rattle.std.specs.List.{list_any}
use Rattle.tick_file.specs.Schedule.{timetable_of}
use Rattle.wind_machine.specs.Extending.{Setup, booted}
use Rattle.wind_machine.specs.Run.{Answers, after}
use Rattle.wind_machine.specs.State.{State}
use Rattle.board_changes.specs.declared.look.Look.{Look}
use Rattle.board_changes.specs.declared.spans.Span.{Span}
use Rattle.board_changes.specs.Tiling.{Observation, SaysOnce, said_at, says_running, seen_at, spans_until}
use Rattle.board_trace.specs.Before.{before_step}
use Rattle.board_trace.specs.Running.{running_task}
use Rattle.board_trace.specs.Snapshots.{snapshot_of}
use Rattle.board_trace.specs.Steps.{is_instruction}

-- the tasks of a state as they are observed
abbrev pub observation_of : State → Observation
observation_of s = record { time = s.time; views = (snapshot_of s.world).tasks; runner = running_task s.world }

-- the tasks are observed before the first step and after each step that isn't one instruction; the last observation is
-- first
abbrev pub observations : Answers → State → ℕ → List Observation
observations said s zero = observation_of s ∷ []
observations said s (suc k) =
    if is_instruction (before_step (after said s k)) (after said s (suc k)).world.output then observations said s k
    else observation_of (after said s (suc k)) ∷ observations said s k

-- the state of a board after k steps from its start, with this console file and this tick file
abbrev pub run_state : Answers → Setup → List ℕ → List ℕ → ℕ → State
run_state said setup console ticks k = after said (booted setup console (timetable_of ticks)) k

-- the observations of these steps
abbrev pub run_observations : Answers → Setup → List ℕ → List ℕ → ℕ → List Observation
run_observations said setup console ticks k = observations said (booted setup console (timetable_of ticks)) k

-- what the spans of these steps say of a task at a time
abbrev pub run_says : Answers → Setup → List ℕ → List ℕ → ℕ → ℕ → ℕ → List Look
run_says said setup console ticks k who t =
    said_at who t (spans_until (run_state said setup console ticks k).time (run_observations said setup console ticks k))

-- in every run, the spans of a task tile its life: at each time before the end they say once how it looked when it was
-- last observed, if it lived then, and nothing if it didn't
abbrev pub RunTilingLaw : Type 0
RunTilingLaw = (said : Answers) (setup : Setup) (console ticks : List ℕ) (k who t : ℕ)
    → t < (run_state said setup console ticks k).time
    → SaysOnce (seen_at who t (run_observations said setup console ticks k)) (run_says said setup console ticks k who t)

-- and say at each time of at most one task that it runs
abbrev pub RunOneRunsLaw : Type 0
RunOneRunsLaw = (said : Answers) (setup : Setup) (console ticks : List ℕ) (k t one other : ℕ)
    → t < (run_state said setup console ticks k).time
    → list_any (λ look. says_running look.standing) (run_says said setup console ticks k one t) ≡ true
    → list_any (λ look. says_running look.standing) (run_says said setup console ticks k other t) ≡ true → one ≡ other

-- ---- a part of a run
-- what the folder answers after the first m steps
abbrev pub later : Answers → ℕ → Answers
later said m j = said (m + j)

-- the tasks are observed before the first of the n steps after the first m from s, and after each that isn't one instruction
abbrev pub part_observations : Answers → State → ℕ → ℕ → List Observation
part_observations said s m n = observations (later said m) (after said s m) n

-- the spans of these steps; those that go on end with the last step
abbrev pub part_spans : Answers → State → ℕ → ℕ → List Span
part_spans said s m n = spans_until (after said s (m + n)).time (part_observations said s m n)

-- the spans of a part tile it: at each time before its end, those of a task say once how it looked when it was last observed
-- in the part, if it lived then, and nothing if it didn't, nor before the part; from its end on, they say nothing
pub record PartTilingLaw : Type 0 where
  pub within : (said : Answers) (setup : Setup) (console ticks : List ℕ) (m n who t : ℕ) → t < (run_state said setup console ticks (m + n)).time
      → SaysOnce (seen_at who t (part_observations said (booted setup console (timetable_of ticks)) m n)) (said_at who t (part_spans said (booted setup console (timetable_of ticks)) m n))
  pub past : (said : Answers) (setup : Setup) (console ticks : List ℕ) (m n who t : ℕ) → (run_state said setup console ticks (m + n)).time ≤ t
      → said_at who t (part_spans said (booted setup console (timetable_of ticks)) m n) ≡ []
