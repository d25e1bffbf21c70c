-- What of a run a picture shows: its areas of a choice's tasks and kinds.
use Rattle.std.specs.Prelude.{◌≡◌, Bool, ◌&&◌, List, []}
use Rattle.std.specs.List.{filter}
use Rattle.board_trace.specs.declared.who.Subject.TheVariants as subjects
use Rattle.board_changes.specs.declared.look.Standing.{Standing}
use Rattle.board_changes.specs.declared.look.Standing.TheVariants.{Running, Ready, Waiting, Sleeping, Suspended}
use Rattle.board_changes.specs.Spans.{SpanState}
use Rattle.board_changes.specs.declared.spans.Span.{Span}
use Rattle.trace_picture.specs.Areas.{areas_of}
use Rattle.trace_picture.specs.declared.areas.Area.{Area}
use Rattle.trace_picture.specs.declared.areas.AreaKind.{AreaKind}
use Rattle.trace_picture.specs.declared.areas.AreaKind.TheVariants.{Bar, Band}
use Rattle.trace_session.specs.Choice.{ChoiceState, is_among, is_of}
use Rattle.trace_session.specs.declared.choice.Kind.{Kind}
use Rattle.trace_session.specs.declared.choice.Kind.TheVariants as kinds

-- the kind of what a task does
abbrev pub kind_of_standing : Standing → Kind
kind_of_standing Running = kinds.Runs
kind_of_standing Ready = kinds.Runs
kind_of_standing Waiting = kinds.Waits
kind_of_standing Sleeping = kinds.Waits
kind_of_standing Suspended = kinds.Tasks

-- the kind of an area: a bar's is that of what the task does, and a band shows a priority
abbrev pub kind_by : AreaKind → Standing → Kind
kind_by Bar standing = kind_of_standing standing
kind_by Band standing = kinds.Priorities

abbrev pub kind_of_area : Area → Kind
kind_of_area a = kind_by a.kind a.title.standing

-- a picture of a choice shows an area
abbrev pub shows : ChoiceState → Area → Bool
shows c a = is_of c.tasks (subjects.Task a.row) && is_among c.kinds (kind_of_area a)

-- the areas of these spans that it shows
abbrev pub shown_areas : ChoiceState → List Span → List Area
shown_areas c spans = filter (shows c) (areas_of spans)

-- ---- a picture under way
-- it is one of these spans: it keeps those that go on and, of those that have ended, the areas that are shown
pub record Pictures (c : ChoiceState) (kept : SpanState) (areas : List Area) (spans : SpanState) : Type 0 where
  pub going : kept.going ≡ spans.going
  pub forgotten : kept.done ≡ []
  pub areas_are : areas ≡ shown_areas c spans.done

-- a picture of some spans becomes one of what is made of these
abbrev pub Carries : ChoiceState → SpanState → List Area → SpanState → List Area → (SpanState → SpanState) → Type 0
Carries c old before new after change = (spans : SpanState) → Pictures c old before spans → Pictures c new after (change spans)
