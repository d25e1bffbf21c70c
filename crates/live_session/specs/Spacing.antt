-- Events that come a period of board time apart.
use Rattle.std.specs.Prelude.{◌≡◌, ◌≢◌, ◌⊎◌, ℕ, suc, zero, ◌+◌, ◌-◌, ◌*◌, Bool, true, false, ◌&&◌, nat_lt, List, [], ◌++◌, Option, Some, None, codes, max, min}
use Rattle.std.specs.Fmt.{decimal}
use Rattle.wind_base.specs.Limits.{most_slots, most_steps}
use Rattle.board_bus.specs.Slots.{is_occupied}
use Rattle.tick_file.specs.declared.event.Event.{Event}
use Rattle.tick_file.specs.declared.event.Event.TheVariants.{Tick, Rx, Irq}
use Rattle.wind_machine.specs.Extending.{Setup}
use Rattle.wind_machine.specs.State.{State}
use Rattle.wind_session.specs.Modules.{Shelf}
use Rattle.wind_session.specs.Outside.{Outside}
use Rattle.live_session.specs.Moments.{Moment, IsCauseAt, IsGiven, IsTold, RunsFor, event_time}
use Rattle.live_session.specs.Seen.{LiveState, IsLiveAt}
use Rattle.live_session.specs.Telling.{refusal_text}
use Rattle.live_session.specs.declared.dot_line.Series.{Series}
use Rattle.live_session.specs.declared.record.Refusal.{Refusal}
use Rattle.live_session.specs.declared.saving.Unsaved.{Unsaved}

-- the time of an event that is due then: later than board time, and not before the last event
abbrev pub time_due : ℕ → LiveState → ℕ
time_due due l = max (event_time l) due

-- up to n events are sent, each due a period after the one before it, and the first a period after a time. Fewer are sent
-- only if the next was refused for a cause, or a file of the record was not written
abbrev pub AreSent : ℕ → ℕ → Event → ℕ → Option Refusal → Option Unsaved → ℕ → LiveState → LiveState → Type 0
AreSent zero period event from refusal unsaved sent l m = (m ≡ l) × (refusal ≡ None) × (sent ≡ 0)
AreSent (suc n) period event from refusal unsaved sent l m =
    ((unsaved ≢ None) × (refusal ≡ None) × (sent ≡ 0) × (m ≡ l))
    ⊎ (((cause : Refusal) × (refusal ≡ Some cause) × (sent ≡ 0) × (m ≡ l) × IsCauseAt (time_due (from + period) l) cause event [] l)
    ⊎ ((next : LiveState) × (rest : ℕ) × (sent ≡ rest + 1) × IsGiven (time_due (from + period) l) event [] l next
    × AreSent n period event (time_due (from + period) l) refusal unsaved rest next m))

-- an event may come: a tick, or an interrupt of a slot with a device
abbrev pub may_come : Event → State → Bool
may_come Tick board = true
may_come (Irq slot) board = nat_lt slot most_slots && is_occupied board.world.slots slot
may_come (Rx bytes) board = false

-- how many steps the board makes after them: one for each unit of board time up to the last, two for each event, whose
-- arrival and delivery take no board time, and then as many as after a part of the input
abbrev pub steps_for : ℕ → ℕ → LiveState → ℕ
steps_for most sent l = min (most + (l.last - l.board.time) + 2 * sent) most_steps

-- the number of a slot, as it is told
abbrev pub slot_of : Event → ℕ
slot_of (Irq slot) = slot
slot_of event = 0

abbrev pub no_device_text : Event → List ℕ
no_device_text event = codes "windlive: not sent: slot " ++ decimal (slot_of event) ++ codes " has no device\n"

-- how many were sent, and why the next was not
abbrev pub cause_text : Option Refusal → List ℕ
cause_text None = codes "\n"
cause_text (Some cause) = codes "\n" ++ refusal_text cause

abbrev pub sent_text : ℕ → Option Refusal → List ℕ
sent_text sent refusal = codes "windlive: events sent: " ++ decimal sent ++ cause_text refusal

-- the events were sent, then the board ran, and then it was told how many were sent. If a file of the record was not written
-- for an event, the board didn't run
pub record SeriesRuns (s : Series) (most : ℕ) (shelf : Shelf) (setup : Setup) (old : Outside) (now later : Moment) : Type 0 where
  pub sent : ℕ
  pub refusal : Option Refusal
  pub failure : Option Unsaved
  pub mid : LiveState
  pub ran : Moment
  pub may : may_come s.event now.live.board ≡ true
  pub are_sent : AreSent s.count s.period s.event now.live.board.time refusal failure sent now.live mid
  pub live : IsLiveAt shelf setup mid old now.around.logged
  pub halted : failure ≢ None → (ran.unsaved ≡ failure) × (ran.live ≡ mid)
  pub runs : RunsFor (steps_for most sent mid) shelf setup old mid now.around now.store ran
  pub same : later ≡ record ran { told = later.told }
  pub told : IsTold (sent_text sent refusal) ran.told later.told

-- nothing was sent to an empty slot, which was told
abbrev pub IsUnfilled : Series → Moment → Moment → Type 0
IsUnfilled s now later = (may_come s.event now.live.board ≡ false) × (later ≡ record now { told = later.told }) × IsTold (no_device_text s.event) now.told later.told

abbrev pub SeriesComes : Series → ℕ → Shelf → Setup → Outside → Moment → Moment → Type 0
SeriesComes s most shelf setup old now later = IsUnfilled s now later ⊎ SeriesRuns s most shelf setup old now later
