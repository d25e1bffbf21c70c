-- A session that was played, from its parts.
use Rattle.std.proofs.Common.{◌≡◌, ◌≢◌, ℕ, ◌≤◌, List, [], Option, refl, subst}
use Rattle.wind_base.specs.Limits.{most_steps}
use Rattle.wind_outside.specs.Devices.{DeviceState}
use Rattle.wind_outside.specs.Files.{Files}
use Rattle.tick_file.specs.Writing.{WritingLaw}
use Rattle.wind_machine.specs.State.{State}
use Rattle.wind_machine.specs.Machine.{IsOver}
use Rattle.wind_machine.specs.Extending.{Setup}
use Rattle.wind_session.specs.Keeping.{Messages}
use Rattle.wind_session.specs.Modules.{Shelf}
use Rattle.wind_session.specs.Outside.{Outside}
use Rattle.wind_session.specs.declared.run.RunEnd.{RunEnd}
use Rattle.wind_session.specs.declared.run.RunEnd.TheVariants as ends
use Rattle.live_session.specs.Command.{CommandState}
use Rattle.live_session.specs.Continuing.{Kept, TakesOver}
use Rattle.live_session.specs.Ending.{IsAfterRun, IsGoing, is_quiet}
use Rattle.live_session.specs.Journal.{IsAlwaysReplayed, IsCurrent, scene}
use Rattle.live_session.specs.LiveAround.{LiveAround, RecordFailed, Store}
use Rattle.live_session.specs.Moments.{Wherever, moment}
use Rattle.live_session.specs.Saving.{IsOpened, IsSaved, WritesFor, WritesOnly, replay_limit}
use Rattle.live_session.specs.Seen.{BeginsWith, LiveState, IsLiveAt, Runs}
use Rattle.live_session.specs.Session.{IsPermitted, IsRecorded, IsStatusOf, IsTalk, IsTyped, Parts, Played, first_steps, setup_of, shelf_of}
use Rattle.live_session.specs.declared.saving.Unsaved.{Unsaved}
use Rattle.live_session.specs.declared.status.Status.{Status}
use Rattle.live_session.specs.declared.status.Status.TheVariants as status
use Rattle.live_session.proofs.ReplayText.{replay_text}
use Rattle.live_session.proofs.Replaying.{replayed_here}
use Rattle.live_session.proofs.Replays.{limit_within, replayed}
use Rattle.live_session.proofs.Starting.{planned}

-- ---- the record that was written
is_recorded : (end : RunEnd) (c : CommandState) (shelf : Shelf) (setup : Setup) (console ticks : List ℕ) (board : State) (old now : Outside) (files new : Option Files)
    → IsGoing end → IsAfterRun end shelf setup console ticks board old now → (end ≡ ends.Quiet → IsOver board) → replay_limit board.steps (is_quiet end) ≤ most_steps
    → IsSaved c console ticks (replay_limit board.steps (is_quiet end)) files new → IsRecorded end c shelf setup console ticks board old now files new
is_recorded end c shelf setup console ticks board old now files new going run over few saved =
    let replay = replayed end shelf setup console ticks board old now going run over in
    record { replay_end = replay.0; going = replay.1; replay = replay.2; replay_text = replay_text c (replay_limit board.steps (is_quiet end)) few; saved = saved }

-- what the conversation made of its parts
abbrev pub Talks : CommandState → ℕ → LiveState → LiveState → LiveAround → LiveAround → Messages → RunEnd → Option Unsaved → Store → Store → Parts → Type 0
Talks c first l m before after told end failure opened closed parts =
    Wherever c.modules l before.session (λ shelf setup old. IsTalk c first parts shelf setup old l before.session opened (moment m after.session told closed end failure))

-- how the conversation ended, and what became of the record
pub record Closed (s : Status) (c : CommandState) (kept : Kept) (end : RunEnd) (l m : LiveState) (before after : LiveAround) (told : Messages) (failure : Option Unsaved) (opened closed : Store) : Type 0 where
  pub runs : Runs end c.modules l before.session m after.session
  pub status_is : IsStatusOf end s
  pub typed : IsTyped s before.input after.input kept.console m.console.bytes (Talks c (first_steps c kept.limit) l m before after told end failure opened closed)
  pub unopened : c.record_folder ≡ [] → opened.files ≡ before.records
  pub opens : c.record_folder ≢ [] → IsOpened c kept.console kept.ticks kept.limit before.records opened.files
  pub writes : WritesFor c before.records after.records
  pub since : WritesOnly c.record_folder opened.files after.records
  pub saved : s ≡ status.Ended → c.record_folder ≢ [] → IsGoing end × IsSaved c m.console.bytes m.ticks.bytes (replay_limit m.board.steps (is_quiet end)) closed.files after.records
  pub unrecorded : s ≡ status.Unrecorded → (c.record_folder ≢ []) × RecordFailed before after
  pub safe : c.record_folder ≢ [] → IsCurrent c l opened.files
      × Wherever c.modules l before.session (λ shelf setup old. IsAlwaysReplayed c shelf setup old.bytes (scene opened.files before.session.logged.bytes) (scene after.records after.session.logged.bytes))

-- the same parts, with another property
pub typed_as : (s : Status) (old new : Option (List ℕ)) (kept console : List ℕ) (holds more : Parts → Type 0) → ((parts : Parts) → holds parts → more parts)
    → IsTyped s old new kept console holds → IsTyped s old new kept console more
typed_as s old new kept console holds more so t = record {
  parts = t.parts;
  taken = t.taken;
  parts_are = t.parts_are;
  sent = t.sent;
  stop = t.stop;
  quit_last = t.quit_last;
  held = so t.parts t.held;
}

-- they follow what was taken over, and the first run is as long as its replay
pub typed_from : (c : CommandState) (kept : Kept) (s : Status) (old new : Option (List ℕ)) (start console : List ℕ) (first : ℕ) (l m : LiveState) (before after : LiveAround) (told : Messages) (end : RunEnd) (failure : Option Unsaved) (opened closed : Store)
    → start ≡ kept.console → first ≡ first_steps c kept.limit → IsTyped s old new start console (Talks c first l m before after told end failure opened closed)
    → IsTyped s old new kept.console console (Talks c (first_steps c kept.limit) l m before after told end failure opened closed)
typed_from c kept s old new start console first l m before after told end failure opened closed start_is first_is t =
    subst (λ n. IsTyped s old new kept.console console (Talks c n l m before after told end failure opened closed)) first_is
    (subst (λ text. IsTyped s old new text console (Talks c first l m before after told end failure opened closed)) start_is t)

pub plays : WritingLaw → (s : Status) (c : CommandState) (kept : Kept) (end : RunEnd) (l m : LiveState) (before after : LiveAround) (told : Messages) (failure : Option Unsaved) (opened closed : Store)
    → Closed s c kept end l m before after told failure opened closed → (devices : List (Option DeviceState)) → IsPermitted c before.records → TakesOver c.continues c kept before.records → BeginsWith (setup_of c devices) kept.console kept.ticks l
    → Played s c devices before after
plays law s c kept end l m before after told failure opened closed h devices permitted takes begins =
    let shelf = shelf_of before.session.files c in
    let old = before.session.logged in
    let now = after.session.logged in
    let live : IsLiveAt shelf (setup_of c devices) l old old = begins.live shelf old in
    let run : IsAfterRun end shelf (setup_of c devices) m.console.bytes m.ticks.bytes m.board old now = h.runs.goes.goes (setup_of c devices) old live in
    record {
      begin = l;
      live = m;
      end = end;
      told = told;
      opened = opened;
      closed = closed;
      unsaved = failure;
      planned = planned law m.console m.ticks m.lines m.last h.runs.sound.console h.runs.sound.kept;
      run = run;
      status_is = h.status_is;
      kept = kept;
      takes = takes;
      begins = begins;
      unopened = h.unopened;
      opens = h.opens;
      typed =
          typed_as s before.input after.input kept.console m.console.bytes (Talks c (first_steps c kept.limit) l m before after told end failure opened closed)
          (λ parts. IsTalk c (first_steps c kept.limit) parts shelf (setup_of c devices) old l before.session opened (moment m after.session told closed end failure))
          (λ parts talks. talks shelf (setup_of c devices) old (record { shelf_is = refl; live = live }))
          h.typed;
      permitted = permitted;
      writes = h.writes;
      since = h.since;
      recorded = λ e named.
          is_recorded end c shelf (setup_of c devices) m.console.bytes m.ticks.bytes m.board old now closed.files after.records (h.saved e named).0 run h.runs.quiet (limit_within m.board.steps (is_quiet end) h.runs.sound.few) (h.saved e named).1;
      unrecorded = h.unrecorded;
      safe = λ named.
          record {
            opening = replayed_here law c shelf (setup_of c devices) l ends.Limit old old opened.files begins.sound live (h.safe named).0;
            always = (h.safe named).1 shelf (setup_of c devices) old (record { shelf_is = refl; live = live });
          };
    }
