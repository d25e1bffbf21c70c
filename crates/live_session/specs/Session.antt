-- What a live session leaves.
use Rattle.std.specs.Prelude.{◌≡◌, ◌≢◌, ◌⊎◌, ◌↔◌, ℕ, ◌-◌, ◌^◌, true, false, if◌then◌else◌, List, [], ◌∷◌, ◌++◌, Option, Some, None, IfSome, length}
use Rattle.std.specs.Option.{option_map}
use Rattle.wind_outside.specs.Devices.{DeviceState}
use Rattle.wind_outside.specs.Files.{Files}
use Rattle.wind_machine.specs.State.{State}
use Rattle.wind_machine.specs.Extending.{Setup, booted}
use Rattle.tick_file.specs.Schedule.{timetable_of}
use Rattle.wind_session.specs.Keeping.{Around, Messages}
use Rattle.wind_session.specs.Modules.{Shelf}
use Rattle.wind_session.specs.Outside.{Outside}
use Rattle.wind_session.specs.Plan.{Start, plan_of}
use Rattle.wind_session.specs.Runs.{Ran}
use Rattle.wind_session.specs.declared.run.RunEnd.{RunEnd}
use Rattle.wind_session.specs.declared.run.RunEnd.TheVariants as ends
use Rattle.live_session.specs.Command.{CommandState}
use Rattle.live_session.specs.Continuing.{IsForeign, Kept, TakesOver}
use Rattle.live_session.specs.Ending.{IsAfterRun, IsGoing, is_quiet}
use Rattle.live_session.specs.Input.{IsLongest, IsPart, Takes}
use Rattle.live_session.specs.LiveAround.{LiveAround, ReadFailed, RecordFailed, Store, WriteFailed}
use Rattle.live_session.specs.Journal.{IsAlwaysReplayed, IsReplayed, scene}
use Rattle.live_session.specs.Moments.{CanGoOn, Moment, RunsFor, moment}
use Rattle.live_session.specs.Obeying.{Serves}
use Rattle.live_session.specs.Positions.{position_after, request_of, sent_of}
use Rattle.live_session.specs.Saving.{IsFree, IsOpened, IsReplayText, IsSaved, IsTaken, WritesFor, WritesOnly, replay_limit}
use Rattle.live_session.specs.Seen.{BeginsWith, LiveState}
use Rattle.live_session.specs.declared.dot_line.DotLine.TheVariants as lines
use Rattle.live_session.specs.declared.record.Refusal.{Refusal}
use Rattle.live_session.specs.declared.saving.Unsaved.{Unsaved}
use Rattle.live_session.specs.declared.saving.Unsaved.TheVariants as failures
use Rattle.live_session.specs.declared.serving.Position.{Position}
use Rattle.live_session.specs.declared.serving.Position.TheVariants.{Start as LineStart}
use Rattle.live_session.specs.declared.serving.Request.TheVariants as requests
use Rattle.live_session.specs.declared.status.Status.{Status}
use Rattle.live_session.specs.declared.status.Status.TheVariants as status

-- ---- what was typed
-- the parts of the input that were taken, each with why it was not sent, if it was refused
abbrev pub Parts : Type 0
Parts = List (List ℕ × Option Refusal)

abbrev pub joined : Parts → List ℕ
joined [] = []
joined (x ∷ xs) = x.0 ++ joined xs

-- each is a part of the input, with what comes after it
abbrev pub AreParts : Parts → Option (List ℕ) → Type 0
AreParts [] left = Unit {0}
AreParts (x ∷ xs) left = IsPart x.0 × IsLongest x.0 (option_map (λ rest. joined xs ++ rest) left) × AreParts xs left

-- where the input is after them
abbrev pub position_of : Position → Parts → Position
position_of position [] = position
position_of position (x ∷ xs) = position_of (position_after position x.0) xs

-- these bytes, if they were not refused
abbrev pub sent_unless : Option Refusal → List ℕ → List ℕ
sent_unless None bytes = bytes
sent_unless (Some cause) bytes = []

-- what they sent to the console
abbrev pub sent_by : Position → Parts → List ℕ
sent_by position [] = []
sent_by position (x ∷ xs) = sent_unless x.1 (sent_of (request_of position x.0) x.0) ++ sent_by (position_after position x.0) xs

-- none of them is the line `.quit`
abbrev pub NoneQuits : Position → Parts → Type 0
NoneQuits position [] = Unit {0}
NoneQuits position (x ∷ xs) = (request_of position x.0 ≢ requests.Obey lines.Quit) × NoneQuits (position_after position x.0) xs

-- the last of them is the line `.quit`, and no other
pub record EndsByQuit (parts : Parts) : Type 0 where
  pub before : Parts
  pub last : List ℕ × Option Refusal
  pub parts_are : parts ≡ before ++ last ∷ []
  pub none : NoneQuits LineStart before
  pub quits : request_of (position_of LineStart before) last.0 ≡ requests.Obey lines.Quit

-- no part follows the line `.quit`
abbrev pub IsQuitLast : Parts → Type 0
IsQuitLast parts = NoneQuits LineStart parts ⊎ EndsByQuit parts

-- the most parts that a session takes: no computer reaches it
abbrev pub most_parts : ℕ
most_parts = 2 ^ 64 - 1

-- no byte of the input is left, or the end was asked for, or there were as many parts as a session takes
abbrev pub IsWhole : Option (List ℕ) → Parts → Type 0
IsWhole left parts = IfSome left (λ bytes. bytes ≡ []) ⊎ (EndsByQuit parts ⊎ (length parts ≡ most_parts))

-- only after the whole input does a session end by itself
abbrev pub IsStop : Status → Option (List ℕ) → Parts → Type 0
IsStop status.Ended left parts = IsWhole left parts
IsStop s left parts = Unit {0}

-- these bytes were sent after those that were taken over, and they are those of the parts that were taken from the input;
-- and this holds of the parts
pub record IsTyped (s : Status) (old new : Option (List ℕ)) (kept console : List ℕ) (holds : Parts → Type 0) : Type 0 where
  pub parts : Parts
  pub taken : Takes old new (joined parts)
  pub parts_are : AreParts parts new
  pub sent : console ≡ kept ++ sent_by LineStart parts
  pub stop : IsStop s new parts
  pub quit_last : IsQuitLast parts
  pub held : holds parts

-- ---- what the parts did
-- the session could go on before each part, and each did what it asks for
abbrev pub AreServed : CommandState → Shelf → Setup → Outside → Position → Parts → Moment → Moment → Type 0
AreServed c shelf setup old position [] now later = later ≡ now
AreServed c shelf setup old position (x ∷ xs) now later =
    (next : Moment) × CanGoOn now × Serves c (request_of position x.0) x.0 x.1 shelf setup old now next
    × AreServed c shelf setup old (position_after position x.0) xs next later

-- the most steps of the first run: those of the replay of what was taken over, or as many as after a part
abbrev pub first_steps : CommandState → ℕ → ℕ
first_steps c limit = if c.continues then limit else c.quiet_after

-- the board ran for at most this many steps, and then the parts were served
pub record IsTalk (c : CommandState) (first_most : ℕ) (parts : Parts) (shelf : Shelf) (setup : Setup) (old : Outside) (begin : LiveState) (around : Around) (opened : Store) (later : Moment) : Type 0 where
  pub first : Moment
  pub opening : RunsFor first_most shelf setup old begin around opened first
  pub served : AreServed c shelf setup old LineStart parts first later

-- ---- how it ended
-- the status, given how the board's last run ended: reading may also fail, and memory may also run out, outside the board
abbrev pub IsStatusOf : RunEnd → Status → Type 0
IsStatusOf end status.Ended = IsGoing end
IsStatusOf end status.Unrecorded = IsGoing end
IsStatusOf end status.ReadFault = (end ≡ ends.ReadFault) ⊎ IsGoing end
IsStatusOf end status.WriteFault = end ≡ ends.WriteFault
IsStatusOf end status.NoMemory = (end ≡ ends.NoMemory) ⊎ IsGoing end
IsStatusOf end status.Usage = ⊥

-- the status if nothing but the board's last run decides it
abbrev pub status_of : RunEnd → Status
status_of ends.ReadFault = status.ReadFault
status_of ends.WriteFault = status.WriteFault
status_of ends.NoMemory = status.NoMemory
status_of end = status.Ended

-- the status if the record of a session that ended was not written
abbrev pub status_unless : Unsaved → Status → Status
status_unless failures.Failed status.Ended = status.Unrecorded
status_unless failures.NoMemory status.Ended = status.NoMemory
status_unless failure s = s

-- the status if neither the input nor the writing at the end decides it
abbrev pub status_at : Option Unsaved → RunEnd → Status
status_at None end = status_of end
status_at (Some failure) end = status_unless failure status.Ended

-- what the board has besides its inputs
abbrev pub setup_of : CommandState → List (Option DeviceState) → Setup
setup_of c devices = record { slots = devices; profile = c.profile; board = c.board }

-- the folder of its modules
abbrev pub shelf_of : Option Files → CommandState → Shelf
shelf_of modules c = record { files = modules; name = c.modules }

-- the record was written, with this limit: a run of it by windplay, up to this limit, leaves what the session left. One
-- step more is allowed if the session's last run ended because no step was left. windplay takes the record's words for
-- this run
pub record IsRecorded (end : RunEnd) (c : CommandState) (shelf : Shelf) (setup : Setup) (console ticks : List ℕ) (board : State) (old now : Outside) (before new : Option Files) : Type 0 where
  pub replay_end : RunEnd
  pub going : IsGoing replay_end
  pub replay : Ran replay_end shelf (booted setup console (timetable_of ticks)) (replay_limit board.steps (is_quiet end)) board old now
  pub replay_text : IsReplayText c (replay_limit board.steps (is_quiet end))
  pub saved : IsSaved c console ticks (replay_limit board.steps (is_quiet end)) before new

-- ---- a session that was played
-- at every moment from the opening of the record to the end nothing that was shown is lost
pub record IsSafe (c : CommandState) (shelf : Shelf) (setup : Setup) (opened new : Option Files) (old now : Outside) : Type 0 where
  pub opening : IsReplayed c shelf setup old.bytes opened old.bytes
  pub always : IsAlwaysReplayed c shelf setup old.bytes (scene opened old.bytes) (scene new now.bytes)

-- a record that is there may be set aside, or the session goes on from it, or there is none, or none is asked for
abbrev pub IsPermitted : CommandState → Option Files → Type 0
IsPermitted c files = c.record_folder ≢ [] → c.force ≡ false → c.continues ≡ false → IsFree c.record_folder files

-- a session was played with these arguments: its console file and its tick file, for which windplay starts a run; the
-- board of the first steps of that run; and what was shown is the text of these steps. It began with an empty record,
-- which was written after an older one was set aside, or with the record from which it goes on; and each part of the
-- input did what it asks for, until the record was written at the end. At every moment since the beginning, what was shown
-- is a prefix of what a replay of the record's files writes
pub record Played (s : Status) (c : CommandState) (devices : List (Option DeviceState)) (before after : LiveAround) : Type 0 where
  pub begin : LiveState
  pub live : LiveState
  pub end : RunEnd
  pub told : Messages
  pub opened : Store
  pub closed : Store
  pub unsaved : Option Unsaved
  pub planned : plan_of (Some live.console.bytes) (Some live.ticks.bytes) ≡ Start live.console.bytes (timetable_of live.ticks.bytes)
  pub run : IsAfterRun end (shelf_of before.session.files c) (setup_of c devices) live.console.bytes live.ticks.bytes live.board before.session.logged after.session.logged
  pub status_is : IsStatusOf end s
  pub kept : Kept
  pub takes : TakesOver c.continues c kept before.records
  pub begins : BeginsWith (setup_of c devices) kept.console kept.ticks begin
  pub unopened : c.record_folder ≡ [] → opened.files ≡ before.records
  pub opens : c.record_folder ≢ [] → IsOpened c kept.console kept.ticks kept.limit before.records opened.files
  pub typed : IsTyped s before.input after.input kept.console live.console.bytes
      (λ parts. IsTalk c (first_steps c kept.limit) parts (shelf_of before.session.files c) (setup_of c devices) before.session.logged begin before.session opened (moment live after.session told closed end unsaved))
  pub permitted : IsPermitted c before.records
  pub writes : WritesFor c before.records after.records
  pub since : WritesOnly c.record_folder opened.files after.records
  pub recorded : s ≡ status.Ended → c.record_folder ≢ []
      → IsRecorded end c (shelf_of before.session.files c) (setup_of c devices) live.console.bytes live.ticks.bytes live.board before.session.logged after.session.logged closed.files after.records
  pub unrecorded : s ≡ status.Unrecorded → (c.record_folder ≢ []) × RecordFailed before after
  pub safe : c.record_folder ≢ [] → IsSafe c (shelf_of before.session.files c) (setup_of c devices) opened.files after.records before.session.logged after.session.logged

-- ---- a session that was not played
-- its status: memory may run out at any time; otherwise there is a record that is not to be replaced, or none from which
-- the session can go on; or asking for it, reading it, making its folder or writing its files failed, so that the count of
-- faults of its folder rose
abbrev pub IsRefusal : Status → CommandState → Option Files → Type 0 → Type 0
IsRefusal status.NoMemory c files rose = Unit {0}
IsRefusal status.Unrecorded c files rose = (c.record_folder ≢ []) × (((c.force ≡ false) × (c.continues ≡ false) × IsTaken c.record_folder files) ⊎ (((c.continues ≡ true) × IfSome files (IsForeign c)) ⊎ rose))
IsRefusal s c files rose = ⊥

-- nothing was read, fetched or shown
pub record IsUntouched (before after : LiveAround) : Type 0 where
  pub outside : after.session.logged ≡ before.session.logged
  pub input : after.input ≡ before.input

-- a record may be written, and what its session takes over is there
pub record MayBegin (c : CommandState) (files : Option Files) : Type 0 where
  pub permitted : IsPermitted c files
  pub kept : Kept
  pub takes : TakesOver c.continues c kept files

-- only files of a record that may be written were written
pub record IsUnopened (c : CommandState) (before after : Option Files) : Type 0 where
  pub writes : WritesFor c before after
  pub permitted : MayBegin c before ⊎ (after ≡ before)

-- what these arguments leave
abbrev pub Leaves : Status → Option CommandState → List (Option DeviceState) → LiveAround → LiveAround → Type 0
Leaves s None devices before after = ((s ≡ status.Usage) ⊎ (s ≡ status.NoMemory)) × IsUntouched before after × (after.records ≡ before.records)
Leaves s (Some c) devices before after = (IsRefusal s c before.records (RecordFailed before after) × IsUntouched before after × IsUnopened c before.records after.records) ⊎ Played s c devices before after

-- ---- the program
-- a session of these arguments on a board with these devices
pub record IsSession (s : Status) (command : Option CommandState) (devices : List (Option DeviceState)) (before after : LiveAround) : Type 0 where
  pub leaves : Leaves s command devices before after
  pub usage : s ≢ status.NoMemory → ((s ≡ status.Usage) ↔ (command ≡ None))
  pub read_fault : s ≡ status.ReadFault → ReadFailed before after
  pub write_fault : s ≡ status.WriteFault → WriteFailed before after
