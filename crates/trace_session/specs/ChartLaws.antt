-- Laws of the objects of a run.
use Rattle.std.specs.Prelude.{◌≡◌, ℕ, suc, ◌<◌, List, [], ◌∷◌, Some, IsSome}
use Rattle.std.specs.List.{All, Contains, filter, flat_map}
use Rattle.kernel_world.specs.declared.actor.Actor.{Actor}
use Rattle.wind_machine.specs.Machine.{machine_step}
use Rattle.wind_machine.specs.State.{State}
use Rattle.wind_machine.specs.Run.{Answers, after}
use Rattle.board_changes.specs.declared.awaited.Awaited.{Awaited}
use Rattle.board_changes.specs.declared.spans.Span.{Span}
use Rattle.board_trace.specs.Before.{before_step}
use Rattle.board_trace.specs.Steps.{happenings}
use Rattle.board_trace.specs.Subjects.{subject_actor}
use Rattle.board_trace.specs.declared.happening.Happening.{Happening}
use Rattle.board_trace.specs.declared.who.Subject.{Subject}
use Rattle.trace_json.specs.Chrome.{TraceObject, FlowStart, TaskSpan}
use Rattle.trace_json.specs.declared.members.EndedWait.{EndedWait}
use Rattle.trace_session.specs.Choice.{ChoiceState}
use Rattle.trace_session.specs.Chrome.{objects_of, tells_span, wait_of}
use Rattle.trace_session.specs.Spans.{part_of}

-- the spans of tasks among objects
abbrev pub span_in : TraceObject → List Span
span_in (TaskSpan span) = span ∷ []
span_in object = []

abbrev pub spans_in : List TraceObject → List Span
spans_in objects = flat_map span_in objects

-- in one of the first k steps, which begins at this time, this task or an interrupt routine ended a wait for this
pub record EndsWait (said : Answers) (s : State) (k : ℕ) (time : ℕ) (object : Awaited) (giver : Subject) : Type 0 where
  pub j : ℕ
  pub below : j < k
  pub begins : time ≡ (after said s j).time
  pub who : Actor
  pub makes : (before_step (after said s j)).actor ≡ Some who
  pub gives : giver ≡ subject_actor who
  pub wait : EndedWait
  pub waits_for : object ≡ wait.object
  pub happening : Happening
  pub ends : wait_of happening ≡ Some wait
  pub happens : Contains (happenings (said j) (after said s j) (after said s (suc j))) happening

-- a flow begins with whoever ended the wait, in one of the first k steps
abbrev pub IsGiven : Answers → State → ℕ → TraceObject → Type 0
IsGiven said s k (FlowStart number time object giver) = EndsWait said s k time object giver
IsGiven said s k object = Unit {0}

-- of a run of k steps from a state without one: the spans of tasks among its objects are those of the choice's steps, in
-- their order, without those that aren't told; and each flow begins with whoever ended the wait
pub record ChartLaw : Type 0 where
  pub spans : (c : ChoiceState) (said : Answers) (s : State) (k : ℕ) → s.steps ≡ 0 → ((j : ℕ) → j < k → IsSome (machine_step (said j) (after said s j)))
      → spans_in (objects_of c said s k) ≡ filter (tells_span c) (part_of c said s k).done
  pub givers : (c : ChoiceState) (said : Answers) (s : State) (k : ℕ) → All (IsGiven said s k) (objects_of c said s k)
