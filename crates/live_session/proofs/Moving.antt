-- Where a session is after it went on, and what the parts of its input did.
use Rattle.std.proofs.Common.{◌≡◌, ℕ, ◌≤◌, List, [], ◌∷◌, ◌++◌, Option, None, Some, refl, sym, ap, ◌∙◌, subst}
use Rattle.wind_outside.specs.Counts.{Rose}
use Rattle.wind_outside.specs.Files.{Files}
use Rattle.tick_file.specs.Schedule.{timetable_of}
use Rattle.wind_machine.specs.State.{State}
use Rattle.wind_machine.specs.Machine.{IsOver}
use Rattle.wind_machine.specs.Extending.{Setup, booted}
use Rattle.wind_session.specs.Keeping.{Around, FolderFailed, Messages, SinkFailed}
use Rattle.wind_session.specs.Modules.{Shelf}
use Rattle.wind_session.specs.Outside.{Outside}
use Rattle.wind_session.specs.Runs.{Ran}
use Rattle.wind_session.proofs.AppendingLemmas.{rose_earlier}
use Rattle.wind_session.specs.declared.run.RunEnd.{RunEnd}
use Rattle.wind_session.specs.declared.run.RunEnd.TheVariants as ends
use Rattle.live_session.specs.Command.{CommandState}
use Rattle.live_session.specs.Ending.{IsGoing}
use Rattle.live_session.specs.LiveAround.{Store}
use Rattle.live_session.specs.Moments.{CanGoOn, HasGone, HasRun, IsHere, IsSameRecord, Moment, RunsFor, Wherever, moment, steps_after}
use Rattle.live_session.specs.Obeying.{Serves}
use Rattle.live_session.specs.Positions.{position_after, request_of}
use Rattle.live_session.specs.Seen.{LiveState, GoesOn, IsLiveAt, IsRun, Runs}
use Rattle.live_session.specs.Session.{AreServed, IsTalk, Parts, position_of}
use Rattle.live_session.specs.declared.record.Refusal.{Refusal}
use Rattle.live_session.specs.declared.saving.Unsaved.{Unsaved}
use Rattle.live_session.specs.declared.saving.Unsaved.TheVariants as failures
use Rattle.live_session.specs.declared.serving.Position.{Position}
use Rattle.live_session.specs.declared.serving.Position.TheVariants.{Start as LineStart}
use Rattle.live_session.specs.declared.serving.Request.{Request}
use Rattle.live_session.proofs.Flow.{is_live}

-- ---- where it is
goes_at : (end : RunEnd) (shelf s : Shelf) (setup : Setup) (old now later : Outside) (l m : LiveState) → shelf ≡ s → GoesOn end s l now m later → IsLiveAt shelf setup l old now → IsRun end shelf setup m old later
goes_at end shelf s setup old now later l m same goes live =
    let here : GoesOn end shelf l now m later = subst (λ (x : Shelf). GoesOn end x l now m later) (sym same) goes in
    here.goes setup old live

module _ (modules : List ℕ) (shelf : Shelf) (setup : Setup) (old : Outside) (l : LiveState) (a : Around) (here : IsHere modules shelf setup old l a) (end : RunEnd) (m : LiveState) (b : Around) (runs : Runs end modules l a m b) where
  pub run_at : IsRun end shelf setup m old b.logged
  run_at = goes_at end shelf (record { files = a.files; name = modules }) setup old a.logged b.logged l m here.shelf_is runs.goes here.live

  pub here_on : IsGoing end → IsHere modules shelf setup old m b
  here_on going = record {
    shelf_is = here.shelf_is ∙ ap (λ (files : Option Files). record { files = files; name = modules }) (sym runs.keeps.0.0);
    live = is_live end shelf setup m old b.logged going run_at;
  }

  -- what a run of the board did
  pub runs_for : (most : ℕ) (told : Messages) (files later : Store) (unsaved : Option Unsaved) → IsSameRecord l m → HasGone unsaved end most l.board m.board a b files later → RunsFor most shelf setup old l a files (moment m b told later end unsaved)
  runs_for most told files later unsaved same made = record { record_is = same; at = run_at; made = made }

-- a file of the record was not written before the board ran
pub not_written : (failure : Unsaved) (end : RunEnd) (most : ℕ) (old new : State) (before after : Around) (files later : Store) → (failure ≡ failures.Failed → Rose files.faults later.faults) → HasGone (Some failure) end most old new before after files later
not_written failures.Failed end most old new before after files later rose = rose refl
not_written failures.NoMemory end most old new before after files later rose = tt

pub stopped_for : (shelf : Shelf) (setup : Setup) (old : Outside) (l : LiveState) (a : Around) (most : ℕ) (told : Messages) (files later : Store) (failure : Unsaved) → (failure ≡ failures.Failed → Rose files.faults later.faults)
    → IsLiveAt shelf setup l old a.logged → RunsFor most shelf setup old l a files (moment l a told later ends.Limit (Some failure))
stopped_for shelf setup old l a most told files later failure rose live = record {
  record_is = record { console = refl; ticks = refl; lines = refl; last = refl };
  at = live;
  made = not_written failure ends.Limit most l.board l.board a a files later rose;
}

-- the count of faults was taken earlier
gone_later : (unsaved : Option Unsaved) (end : RunEnd) (most : ℕ) (old new : State) (before after : Around) (files mid later : Store) → files.faults ≤ mid.faults → mid.faults ≤ later.faults
    → HasGone unsaved end most old new before after mid later → HasGone unsaved end most old new before after files later
gone_later None end most old new before after files mid later first second made = made
gone_later (Some failures.Failed) end most old new before after files mid later first second made = rose_earlier files.faults mid.faults later.faults first second made
gone_later (Some failures.NoMemory) end most old new before after files mid later first second made = tt

pub runs_later : (most : ℕ) (shelf : Shelf) (setup : Setup) (old : Outside) (l : LiveState) (a : Around) (files mid : Store) (later : Moment) → files.faults ≤ mid.faults → mid.faults ≤ later.store.faults
    → RunsFor most shelf setup old l a mid later → RunsFor most shelf setup old l a files later
runs_later most shelf setup old l a files mid later first second runs = record {
  record_is = runs.record_is;
  at = runs.at;
  made = gone_later later.unsaved later.end most l.board later.live.board a later.around files mid later.store first second runs.made;
}

-- why a run ended
pub has_run : (end : RunEnd) (most n : ℕ) (shelf : Shelf) (start board new : State) (first now : Outside) (before after : Around) → Ran end shelf start n new first now → n ≡ steps_after most board.steps
    → (end ≡ ends.Quiet → IsOver new) → (end ≡ ends.ReadFault → FolderFailed before after) → (end ≡ ends.WriteFault → SinkFailed before after) → HasRun end most board new before after
has_run ends.Quiet most n shelf start board new first now before after ran steps quiet read put = quiet refl
has_run ends.Limit most n shelf start board new first now before after ran steps quiet read put =
    let ended : ran.k ≡ n = ran.made.ended in
    ran.made.counted ∙ ended ∙ steps
has_run ends.ReadFault most n shelf start board new first now before after ran steps quiet read put = read refl
has_run ends.WriteFault most n shelf start board new first now before after ran steps quiet read put = put refl
has_run ends.NoMemory most n shelf start board new first now before after ran steps quiet read put = tt

-- the same for a run that goes on where the session is
pub has_gone : (modules : List ℕ) (shelf : Shelf) (setup : Setup) (old : Outside) (l : LiveState) (a : Around) → IsHere modules shelf setup old l a
    → (end : RunEnd) (most n : ℕ) (new : State) (b : Around)
    → ((start : State) (first : Outside) → Ran ends.Limit (record { files = a.files; name = modules }) start l.board.steps l.board first a.logged
    → Ran end (record { files = a.files; name = modules }) start n new first b.logged)
    → n ≡ steps_after most l.board.steps
    → (end ≡ ends.Quiet → IsOver new) → (end ≡ ends.ReadFault → FolderFailed a b) → (end ≡ ends.WriteFault → SinkFailed a b) → HasRun end most l.board new a b
has_gone modules shelf setup old l a here end most n new b on steps quiet read put =
    let start : State = booted setup l.console.bytes (timetable_of l.ticks.bytes) in
    let ran : Ran ends.Limit (record { files = a.files; name = modules }) start l.board.steps l.board old a.logged =
    subst (λ (x : Shelf). Ran ends.Limit x start l.board.steps l.board old a.logged) here.shelf_is here.live.ran in
    has_run end most n (record { files = a.files; name = modules }) start l.board new old b.logged a b (on start old ran) steps quiet read put

-- ---- one more part
pub served_more : (c : CommandState) (shelf : Shelf) (setup : Setup) (old : Outside) (position : Position) (xs : Parts) (part : List ℕ) (refusal : Option Refusal) (now here next : Moment)
    → AreServed c shelf setup old position xs now here → CanGoOn here
    → Serves c (request_of (position_of position xs) part) part refusal shelf setup old here next
    → AreServed c shelf setup old position (xs ++ (part, refusal) ∷ []) now next
served_more c shelf setup old position [] part refusal now here next served going serves = (
  next,
  subst (λ (m : Moment). CanGoOn m) served going,
  subst (λ (m : Moment). Serves c (request_of position part) part refusal shelf setup old m next) served serves,
  refl,
)
served_more c shelf setup old position (x ∷ xs) part refusal now here next served going serves = (
  served.0,
  served.1,
  served.2,
  served_more c shelf setup old (position_after position x.0) xs part refusal served.0 here next served.3 going serves,
)

-- ---- the talk with one more part
-- the session could go on, and did what the part asks for
pub record ServesMore (c : CommandState) (request : Request) (part : List ℕ) (refusal : Option Refusal) (begin l : LiveState) (around a : Around) (told : Messages) (mid : Store) (end : RunEnd) (next : Moment) : Type 0 where
  pub going : IsGoing end
  pub runs : Runs end c.modules begin around l a
  pub serves : Wherever c.modules l a (λ shelf setup old. Serves c request part refusal shelf setup old (moment l a told mid end None) next)

module _ (c : CommandState) (most : ℕ) (request : Request) (part : List ℕ) (refusal : Option Refusal) (begin l : LiveState) (around a : Around) (told : Messages) (opened mid : Store) (end : RunEnd) (unsaved : Option Unsaved) (none : unsaved ≡ None) (next : Moment) (position : Position)
    (s : ServesMore c request part refusal begin l around a told mid end next) (asks : request ≡ request_of position part) where
  -- wherever the session began
  pub talk_more : (xs : Parts) → position ≡ position_of LineStart xs
      → Wherever c.modules begin around (λ shelf setup old. IsTalk c most xs shelf setup old begin around opened (moment l a told mid end unsaved))
      → Wherever c.modules begin around (λ shelf setup old. IsTalk c most (xs ++ (part, refusal) ∷ []) shelf setup old begin around opened next)
  talk_more xs there talks = λ shelf setup old here.
      let talk : IsTalk c most xs shelf setup old begin around opened (moment l a told mid end None) =
      subst (λ (u : Option Unsaved). IsTalk c most xs shelf setup old begin around opened (moment l a told mid end u)) none (talks shelf setup old here) in
      let now : IsHere c.modules shelf setup old l a = here_on c.modules shelf setup old begin around here end l a s.runs s.going in
      let same : request ≡ request_of (position_of LineStart xs) part = asks ∙ ap (λ (p : Position). request_of p part) there in
      record {
        first = talk.first;
        opening = talk.opening;
        served =
            served_more c shelf setup old LineStart xs part refusal talk.first (moment l a told mid end None) next talk.served (s.going, refl)
            (subst (λ (r : Request). Serves c r part refusal shelf setup old (moment l a told mid end None) next) same (s.serves shelf setup old now));
      }
