-- More console bytes and more events, after those that are left.
use Rattle.std.specs.Option.{option_map}
use Rattle.std.specs.Prelude.{◌≡◌, ◌≢◌, ℕ, suc, ◌<◌, ◌≤◌, Bool, true, not, ◌&&◌, List, [], ◌∷◌, ◌++◌, length, Option, Some, IfSome, IsSome}
use Rattle.std.specs.List.{All, sum_by}
use Rattle.wind_base.specs.declared.board_kind.BoardKind.{BoardKind}
use Rattle.wind_base.specs.declared.profile.Profile.{Profile}
use Rattle.id_table.specs.Sorting.{first}
use Rattle.wind_outside.specs.Devices.{DeviceState}
use Rattle.tick_file.specs.Schedule.{Timed, Timetable, brings_bytes}
use Rattle.tick_file.specs.declared.event.Event.{Event}
use Rattle.tick_file.specs.declared.event.Event.TheVariants.{Tick, Rx, Irq}
use Rattle.live_loading.specs.Said.{FileSaid}
use Rattle.wind_machine.specs.State.{State}
use Rattle.wind_machine.specs.Feed.{brought}
use Rattle.wind_machine.specs.Events.{next_event}
use Rattle.wind_machine.specs.Run.{Answers, after, text}
use Rattle.wind_machine.specs.Next.{next, first_or_over}
use Rattle.wind_machine.specs.Machine.{file_asked, machine_step, opening, IsOver}
use Rattle.wind_machine.specs.declared.next.Next.TheVariants.{Jump, Over}

-- what is added: bytes of the console file, events, and whether input comes on demand with all of it
pub record More : Type 0 where
  pub bytes : List ℕ
  pub events : List Timed
  pub on_demand : Bool

-- some bytes, and one event that line n asks for, added to a timetable that is on demand or not
abbrev pub more_of : List ℕ → ℕ → ℕ → Event → Bool → More
more_of bytes n time event on_demand = record {
  bytes = bytes;
  events = record { time = time; line = n; number = 1; event = event } ∷ [];
  on_demand = on_demand && not (brings_bytes event);
}

-- a timetable and a state with more at their ends
abbrev pub longer : More → Timetable → Timetable
longer m t = record { events = t.events ++ m.events; on_demand = m.on_demand }

abbrev pub extended : More → State → State
extended m s = record s { left = s.left ++ m.bytes; schedule = longer m s.schedule }

-- how many bytes an event asks for
abbrev pub bytes_asked : Event → ℕ
bytes_asked Tick = 0
bytes_asked (Rx n) = brought n
bytes_asked (Irq slot) = 0

abbrev pub bytes_at : Timed → ℕ
bytes_at e = bytes_asked e.event

-- if input comes on demand, no byte is left
abbrev pub IsUndemanded : Bool → List ℕ → Type 0
IsUndemanded on_demand left = on_demand ≡ true → length left ≡ 0

-- the first of these events, if there is one, comes later than this time
abbrev pub IsLater : ℕ → List Timed → Type 0
IsLater time events = IfSome (first events) (λ e. time < e.time)

-- ---- one step
-- no chunk of the console is due in either state; the next event asks for no more bytes than are left; and if no event
-- is left, board time has not reached the added ones
pub record MayExtend (m : More) (s : State) : Type 0 where
  pub shorter : IsUndemanded s.schedule.on_demand s.left
  pub longer : IsUndemanded m.on_demand (s.left ++ m.bytes)
  pub bytes : IfSome (next_event s) (λ e. bytes_at e ≤ length s.left)
  pub late : s.schedule.events ≡ [] → IsLater s.time m.events

-- then the same comes next in both, unless the shorter run is over
abbrev pub SameNext : Type 0
SameNext = (m : More) (s : State) → MayExtend m s → next s ≢ Over → next (extended m s) ≡ next s

-- and the longer run makes the same step, whatever the folder answers about the file that it needs
abbrev pub StepExtends : Type 0
StepExtends = (said : FileSaid) (m : More) (s t : State) → MayExtend m s → machine_step said s ≡ Some t → machine_step said (extended m s) ≡ Some (extended m t)

-- if the shorter run is over, time jumps to the first added event, if there is one
abbrev pub OverExtends : Type 0
OverExtends = (m : More) (s : State) → MayExtend m s → IsOver s → next (extended m s) ≡ first_or_over (option_map (λ e. Jump e.time) (first m.events) ∷ [])

-- an event at this time in this line would come last: no future event comes later, or is asked for by this line or a
-- later one
abbrev pub IsRoom : ℕ → ℕ → State → Type 0
IsRoom time line s = All (λ e. (e.time ≤ time) × (e.line < line)) s.schedule.events

-- every step keeps that
abbrev pub RoomStays : Type 0
RoomStays = (time line : ℕ) (said : FileSaid) (s t : State) → IsRoom time line s → machine_step said s ≡ Some t → IsRoom time line t

-- no step changes whether input comes on demand
abbrev pub DemandStays : Type 0
DemandStays = (said : FileSaid) (s t : State) → machine_step said s ≡ Some t → t.schedule.on_demand ≡ s.schedule.on_demand

-- board time never goes back
abbrev pub TimeGrows : Type 0
TimeGrows = (said : FileSaid) (s t : State) → machine_step said s ≡ Some t → s.time ≤ t.time

-- ---- runs
-- there is a step at each of the first k states
abbrev pub AreSteps : Answers → State → ℕ → Type 0
AreSteps said s k = (j : ℕ) → j < k → IsSome (machine_step (said j) (after said s j))

-- the longer run, from u, begins with the k steps of the shorter, from s: its states are the same but for what was
-- added, and its text is the same; each step needs the same file
pub record Begins (said : Answers) (m : More) (s u : State) (k : ℕ) : Type 0 where
  pub states : (j : ℕ) → j < suc k → after said u j ≡ extended m (after said s j)
  pub wrote : text said u k ≡ text said s k
  pub made : AreSteps said u k
  pub files : (j : ℕ) → j < k → file_asked (after said u j) ≡ file_asked (after said s j)

-- it does so if each state may be extended
abbrev pub RunExtends : Type 0
RunExtends = (said : Answers) (m : More) (s : State) (k : ℕ) → AreSteps said s k → ((j : ℕ) → j < k → MayExtend m (after said s j)) → Begins said m s (extended m s) k

-- what every step keeps: no chunk is due in either, and all future events together ask for no more bytes than are left
pub record Joins (m : More) (left : List ℕ) (schedule : Timetable) : Type 0 where
  pub shorter : IsUndemanded schedule.on_demand left
  pub longer : IsUndemanded m.on_demand (left ++ m.bytes)
  pub bytes : sum_by bytes_at schedule.events ≤ length left

-- so it is enough that this holds at the start, and that the added events come later than the last time reached
abbrev pub ExtendLaw : Type 0
ExtendLaw = (said : Answers) (m : More) (s : State) (k : ℕ) → Joins m s.left s.schedule → AreSteps said s k → IsLater (after said s k).time m.events → Begins said m s (extended m s) k

-- ---- a record, from which a board starts
-- what a board has besides its inputs: its devices, the rule of inheritance, and its kind
pub record Setup : Type 0 where
  pub slots : List (Option DeviceState)
  pub profile : Profile
  pub board : BoardKind

-- its opening state with this console file and these events
abbrev pub booted : Setup → List ℕ → Timetable → State
booted setup console schedule = opening console schedule setup.slots setup.profile setup.board

-- the opening state with more is that of the longer record
abbrev pub RecordLaw : Type 0
RecordLaw = (setup : Setup) (console : List ℕ) (schedule : Timetable) (m : More) → extended m (booted setup console schedule) ≡ booted setup (console ++ m.bytes) (longer m schedule)

-- no chunk of a record is ever due, and its events ask for no more bytes than it has
pub record IsFed (console : List ℕ) (schedule : Timetable) : Type 0 where
  pub demand : IsUndemanded schedule.on_demand console
  pub bytes : sum_by bytes_at schedule.events ≤ length console

-- the run of a record so far, of k steps: more bytes and events that come later than the board time reached, and ask for
-- no more than these bytes, make a longer record, whose run begins with it
pub record Grows (said : Answers) (setup : Setup) (console : List ℕ) (schedule : Timetable) (m : More) (k : ℕ) : Type 0 where
  pub fed : IsFed (console ++ m.bytes) (longer m schedule)
  pub begins : Begins said m (booted setup console schedule) (booted setup (console ++ m.bytes) (longer m schedule)) k

abbrev pub GrowsLaw : Type 0
GrowsLaw = (said : Answers) (setup : Setup) (console : List ℕ) (schedule : Timetable) (m : More) (k : ℕ)
    → IsFed console schedule → IsUndemanded m.on_demand (console ++ m.bytes) → sum_by bytes_at m.events ≤ length m.bytes
    → AreSteps said (booted setup console schedule) k → IsLater (after said (booted setup console schedule) k).time m.events
    → Grows said setup console schedule m k
