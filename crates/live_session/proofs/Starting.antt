-- The start of a record: the board without one, and windplay's run of it.
use Rattle.std.proofs.Common.{◌≡◌, ℕ, ◌+◌, ◌<◌, ◌≤◌, true, false, cond, List, [], ◌∷◌, length, Option, None, Some, refl, sym, ap, ◌∙◌, subst, arith, zero-add}
use Rattle.std.specs.Prelude.{nat_lt}
use Rattle.std.specs.List.{All, sum_by}
use Rattle.std.proofs.lemmas.Bool.Decides.{nat_tests}
use Rattle.std.proofs.lemmas.List.{length-append}
use Rattle.std.proofs.lemmas.List.Sums.{sum_by-cons}
use Rattle.std.proofs.lemmas.List.Elements.{All-cons, All-nil}
use Rattle.wind_base.specs.Limits.{longest_text_file}
use Rattle.wind_base.specs.OutBuf.{Output}
use Rattle.wind_base.specs.declared.board_kind.BoardKind.{BoardKind}
use Rattle.wind_base.specs.declared.profile.Profile.{Profile}
use Rattle.wind_outside.specs.Devices.{DeviceState}
use Rattle.tick_file.specs.Lines.{first_bad_line}
use Rattle.tick_file.specs.Schedule.{Timed, Timetable, timetable_of}
use Rattle.tick_file.specs.declared.event.Event.{Event}
use Rattle.tick_file.specs.declared.event.Event.TheVariants as events
use Rattle.tick_file.specs.Writing.{AreRecordable, WritingLaw, bring_no_bytes, event_line, numbered, recorded}
use Rattle.wind_machine.specs.State.{State}
use Rattle.wind_machine.specs.Machine.{opening}
use Rattle.wind_machine.specs.Extending.{IsRoom, Setup, booted, bytes_asked, bytes_at}
use Rattle.wind_session.specs.Live.{IsLive}
use Rattle.wind_session.specs.Modules.{Shelf}
use Rattle.wind_session.specs.Outside.{Outside}
use Rattle.wind_session.specs.Plan.{Plan, Refuse, Start, plan_file, plan_lines, plan_of, plan_ticks}
use Rattle.wind_session.specs.Runs.{Ran}
use Rattle.wind_session.specs.declared.run.RunEnd.TheVariants as ends
use Rattle.wind_session.specs.declared.ending.Status.TheVariants as status
use Rattle.wind_session.specs.declared.ending.Which.{Which}
use Rattle.wind_session.specs.declared.ending.Which.TheVariants as which
use Rattle.wind_session.proofs.Continuing.{at_start}
use Rattle.live_session.proofs.Cuts.{later_start}
use Rattle.live_session.specs.Cutting.{IsTextOf, bytes_of}
use Rattle.live_session.specs.Record.{IsRecord, IsWithinFile, last_time}
use Rattle.live_session.specs.Seen.{LiveState, BeginsWith, IsLiveAt, IsSound}

-- ---- windplay plays the two files
short_file : (file : Which) (next : List ℕ → Plan) (bytes : List ℕ) → length bytes ≤ longest_text_file → plan_file file next (Some bytes) ≡ next bytes
short_file file next bytes h = let short : nat_lt longest_text_file (length bytes) ≡ false = grind (arith, nat_tests) in ap (λ t. cond t (Refuse (status.TooLong file)) (next bytes)) short

pub planned : WritingLaw → (console ticks : Output) (lines last : ℕ) → IsWithinFile console → IsRecord ticks lines last → plan_of (Some console.bytes) (Some ticks.bytes) ≡ Start console.bytes (timetable_of ticks.bytes)
planned law console ticks lines last within r =
    let valid : first_bad_line ticks.bytes ≡ None = subst (λ text. first_bad_line text ≡ None) (sym r.text) (law r.events r.fits).1 in
    short_file which.Console (λ bytes. plan_file which.Ticks (plan_ticks bytes) (Some ticks.bytes)) console.bytes (omega (arith, within))
    ∙ short_file which.Ticks (plan_ticks console.bytes) ticks.bytes (omega (arith, r.within))
    ∙ ap (λ bad. plan_lines console.bytes ticks.bytes bad) valid

-- ---- the events of a record
numbered_bytes : (n : ℕ) (xs : List (ℕ × Event)) → sum_by bytes_at (numbered n xs) ≡ bytes_of xs
numbered_bytes n [] = refl
numbered_bytes n (x ∷ xs) =
    sum_by-cons bytes_at (record { time = x.0; line = n; number = 1; event = x.1 }) (numbered (n + 1) xs)
    ∙ ap (λ rest. bytes_asked x.1 + rest) (numbered_bytes (n + 1) xs) ∙ sym (sum_by-cons (λ y. bytes_asked y.1) x xs)

no_bytes : (xs : List (ℕ × Event)) → bring_no_bytes xs ≡ true → bytes_of xs ≡ 0
no_bytes [] e = refl
no_bytes ((time, events.Tick) ∷ xs) e = sum_by-cons (λ y. bytes_asked y.1) (time, events.Tick) xs ∙ zero-add (bytes_of xs) ∙ no_bytes xs e
no_bytes ((time, events.Rx bytes) ∷ xs) e = absurd (cc)
no_bytes ((time, events.Irq slot) ∷ xs) e = sum_by-cons (λ y. bytes_asked y.1) (time, events.Irq slot) xs ∙ zero-add (bytes_of xs) ∙ no_bytes xs e

last_late : (least : ℕ) (xs : List (ℕ × Event)) → AreRecordable least xs → least ≤ last_time least xs
last_late least [] h = omega arith
last_late least (x ∷ xs) h = omega (arith, h.0, last_late x.0 xs h.3)

-- none comes later than the last, or is asked for by a later line
abbrev IsEarlier : ℕ → ℕ → Timed → Type 0
IsEarlier time line e = (e.time ≤ time) × (e.line < line)

all_earlier : (n least : ℕ) (xs : List (ℕ × Event)) (time line : ℕ) → AreRecordable least xs → time ≡ last_time least xs → line ≡ n + length xs → All (IsEarlier time line) (numbered n xs)
all_earlier n least [] time line h last count = All-nil (IsEarlier time line)
all_earlier n least (x ∷ xs) time line h last count =
    All-cons (IsEarlier time line) (record { time = x.0; line = n; number = 1; event = x.1 }) (numbered (n + 1) xs)
    (omega (arith, last, last_late x.0 xs h.3), omega (arith, count))
    (all_earlier (n + 1) x.0 xs time line h.3 last (omega (arith, count)))

few_lines : (xs : List (ℕ × Event)) → length xs ≤ length (recorded xs)
few_lines [] = omega arith
few_lines (x ∷ xs) = omega (arith, few_lines xs, length-append (event_line x.0 x.1) (10 ∷ recorded xs))

-- ---- a board before its first step
pub no_steps : (setup : Setup) (console ticks : List ℕ) (board : State) → board ≡ booted setup console (timetable_of ticks) → board.steps ≡ 0
unfolding opening
no_steps setup console ticks board same = ap (λ (s : State). s.steps) same

events_at_boot : (setup : Setup) (console ticks : List ℕ) (board : State) → board ≡ booted setup console (timetable_of ticks) → board.schedule.events ≡ (timetable_of ticks).events
unfolding opening
events_at_boot setup console ticks board same = ap (λ (s : State). s.schedule.events) same

module _ (law : WritingLaw) (setup : Setup) (console ticks : List ℕ) (lines last : ℕ) (board : State) (same : board ≡ booted setup console (timetable_of ticks)) (t : IsTextOf console ticks lines last) where
  recordable_from_start : AreRecordable 0 t.events
  recordable_from_start = later_start t.events t.fits

  its_timetable : timetable_of ticks ≡ record { events = numbered 1 t.events; on_demand = bring_no_bytes t.events }
  its_timetable = ap timetable_of t.text ∙ (law t.events recordable_from_start).0

  pub live_at_start : (shelf : Shelf) (old : Outside) → IsLive shelf setup console ticks board old old
  live_at_start shelf old = record {
    fed = record {
      demand = λ e. t.bytes ∙ no_bytes t.events (sym (ap (λ (s : Timetable). s.on_demand) its_timetable) ∙ e);
      bytes = subst (λ (es : List Timed). sum_by bytes_at es ≤ length console) (sym (ap (λ (s : Timetable). s.events) its_timetable)) (omega (arith, numbered_bytes 1 t.events, t.bytes));
    };
    ran = subst (λ (start : State). Ran ends.Limit shelf start board.steps board old old) same (at_start shelf board old (no_steps setup console ticks board same));
  }

  pub room_at_start : IsRoom last (lines + 1) board
  room_at_start =
      subst (λ (es : List Timed). All (IsEarlier last (lines + 1)) es)
      (sym (events_at_boot setup console ticks board same ∙ ap (λ (s : Timetable). s.events) its_timetable))
      (all_earlier 1 0 t.events last (lines + 1) recordable_from_start t.last_is (omega (arith, t.count)))

-- a record that holds these texts
pub record HoldsTexts (l : LiveState) (console ticks : List ℕ) (lines last : ℕ) : Type 0 where
  pub console_is : l.console.bytes ≡ console
  pub ticks_is : l.ticks.bytes ≡ ticks
  pub lines_is : l.lines ≡ lines
  pub last_is : l.last ≡ last
  pub kept : IsRecord l.ticks l.lines l.last
  pub within : IsWithinFile l.console

-- the tick file of these texts
pub record_at_start : (ticks : Output) (console : List ℕ) (lines last : ℕ) → IsTextOf console ticks.bytes lines last → IsWithinFile ticks → IsRecord ticks lines last
record_at_start ticks console lines last t within = record {
  events = t.events;
  text = t.text;
  count = t.count;
  few = omega (arith, t.count, ap length t.text, few_lines t.events);
  fits = later_start t.events t.fits;
  last_is = t.last_is;
  within = within;
}

module _ (law : WritingLaw) (slots : List (Option DeviceState)) (profile : Profile) (kind : BoardKind) (console ticks : List ℕ) (lines last : ℕ) (schedule : Timetable) (l : LiveState) (t : IsTextOf console ticks lines last) (scheduled : schedule ≡ timetable_of ticks) (begun : l.board ≡ opening console schedule slots profile kind) (h : HoldsTexts l console ticks lines last) where
  setup : Setup
  setup = record { slots = slots; profile = profile; board = kind }

  at_boot : l.board ≡ booted setup console (timetable_of ticks)
  unfolding setup
  at_boot = begun ∙ ap (λ (s : Timetable). opening console s slots profile kind) scheduled

  new_live : (shelf : Shelf) (old : Outside) → IsLiveAt shelf setup l old old
  new_live shelf old =
      subst (λ text. IsLive shelf setup text l.ticks.bytes l.board old old) (sym h.console_is)
      (subst (λ text. IsLive shelf setup console text l.board old old) (sym h.ticks_is) (live_at_start law setup console ticks lines last l.board at_boot t shelf old))

  new_sound : IsSound l
  new_sound = record {
    kept = h.kept;
    console = h.within;
    room =
        subst (λ time. IsRoom time (l.lines + 1) l.board) (sym h.last_is)
        (subst (λ n. IsRoom last (n + 1) l.board) (sym h.lines_is) (room_at_start law setup console ticks lines last l.board at_boot t));
    few = omega (arith, no_steps setup console ticks l.board at_boot);
  }

  pub new_begins : BeginsWith (record { slots = slots; profile = profile; board = kind }) console ticks l
  unfolding setup
  new_begins = record { sound = new_sound; console_is = h.console_is; ticks_is = h.ticks_is; no_steps = no_steps setup console ticks l.board at_boot; live = new_live }
