-- The files of a record that was written whole.
use Rattle.std.proofs.Common.{◌≡◌, ◌≢◌, ℕ, ◌≤◌, Bool, false, [], Option, None, inl, inr, refl, subst, sym, arith}
use Rattle.std.specs.Prelude.{IfSome}
use Rattle.wind_base.specs.Limits.{most_steps}
use Rattle.wind_outside.specs.Files.{Files}
use Rattle.tick_file.specs.Writing.{WritingLaw}
use Rattle.wind_machine.specs.Extending.{Setup}
use Rattle.wind_session.specs.Keeping.{Around}
use Rattle.wind_session.specs.Modules.{Shelf}
use Rattle.wind_session.specs.Outside.{Outside}
use Rattle.wind_session.specs.declared.run.RunEnd.{RunEnd}
use Rattle.wind_session.specs.declared.run.RunEnd.TheVariants as ends
use Rattle.live_session.specs.Command.{CommandState}
use Rattle.live_session.specs.Ending.{is_quiet}
use Rattle.live_session.specs.Folder.{Replaced}
use Rattle.live_session.specs.Journal.{Holds, IsAlwaysReplayed, IsCurrent, Journaled, scene}
use Rattle.live_session.specs.LiveAround.{Store}
use Rattle.live_session.specs.Moments.{Wherever}
use Rattle.live_session.specs.Saving.{IsSaved, IsSavedInPart, WritesOnly, replay_limit, command_path, command_text, console_path, ticks_path}
use Rattle.live_session.specs.Seen.{IsRun, IsSound, LiveState, Runs}
use Rattle.live_session.specs.declared.saving.Unsaved.{Unsaved}
use Rattle.live_session.proofs.Journaling.{always_on, always_same, always_written}
use Rattle.live_session.proofs.Moving.{run_at}
use Rattle.live_session.proofs.Replaying.{replayed_here}
use Rattle.live_session.proofs.Replays.{limit_reached, limit_within}
use Rattle.live_session.proofs.Scenes.{all_held, console_written, limit_written, ticks_written}

-- ---- whatever the files were
pub opening_current : (c : CommandState) (l : LiveState) (limit : ℕ) (old new : Option Files) → l.board.steps ≡ 0 → limit ≤ most_steps → IsSaved c l.console.bytes l.ticks.bytes limit old new → IsCurrent c l new
opening_current c l limit old new none few saved = record {
  limit = limit;
  within = omega (arith, none);
  few = few;
  held = all_held c l.console.bytes l.ticks.bytes limit old saved.with_console saved.with_ticks new saved.first saved.second saved.last;
}

-- ---- if they were current
module _ (law : WritingLaw) (c : CommandState) (l : LiveState) (end : RunEnd) (limit : ℕ) (sound : IsSound l) (reached : l.board.steps ≤ limit) (few : limit ≤ most_steps) (old new : Option Files) (now : IsCurrent c l old) where
  abbrev Ends : Type 0
  Ends = IsCurrent c l new × ((shelf : Shelf) (setup : Setup) (first here : Outside) → IsRun end shelf setup l first here → IsAlwaysReplayed c shelf setup first.bytes (scene old here.bytes) (scene new here.bytes))

  current_with : (files : Option Files) → IfSome files (Holds c l.console.bytes l.ticks.bytes now.limit) → IsCurrent c l files
  current_with files held = record { limit = now.limit; within = now.within; few = now.few; held = held }

  nothing_written : new ≡ old → Ends
  nothing_written same = (
    subst (λ (f : Option Files). IsCurrent c l f) (sym same) now,
    λ shelf setup first here run. always_same c shelf setup first.bytes old new here.bytes same,
  )

  module _ (with_console : Option Files) (one : Replaced old with_console (console_path c.record_folder) l.console.bytes) where
    held_one : IfSome with_console (Holds c l.console.bytes l.ticks.bytes now.limit)
    held_one = console_written c l.console.bytes l.ticks.bytes now.limit old with_console now.held l.console.bytes one

    always_one : (shelf : Shelf) (setup : Setup) (first here : Outside) → IsRun end shelf setup l first here → IsAlwaysReplayed c shelf setup first.bytes (scene old here.bytes) (scene with_console here.bytes)
    always_one shelf setup first here run =
        always_written c shelf setup first.bytes old with_console here.bytes (console_path c.record_folder) l.console.bytes one
        (replayed_here law c shelf setup l end first here with_console sound run (current_with with_console held_one))

    one_written : new ≡ with_console → Ends
    one_written same = (
      subst (λ (f : Option Files). IsCurrent c l f) (sym same) (current_with with_console held_one),
      λ shelf setup first here run.
          always_on c shelf setup first.bytes (scene old here.bytes) (scene with_console here.bytes) (scene new here.bytes)
          (always_one shelf setup first here run) (always_same c shelf setup first.bytes with_console new here.bytes same),
    )

    module _ (with_ticks : Option Files) (two : Replaced with_console with_ticks (ticks_path c.record_folder) l.ticks.bytes) where
      held_two : IfSome with_ticks (Holds c l.console.bytes l.ticks.bytes now.limit)
      held_two = ticks_written c l.console.bytes l.ticks.bytes now.limit with_console with_ticks held_one l.ticks.bytes two

      always_two : (shelf : Shelf) (setup : Setup) (first here : Outside) → IsRun end shelf setup l first here → IsAlwaysReplayed c shelf setup first.bytes (scene old here.bytes) (scene with_ticks here.bytes)
      always_two shelf setup first here run =
          always_on c shelf setup first.bytes (scene old here.bytes) (scene with_console here.bytes) (scene with_ticks here.bytes) (always_one shelf setup first here run)
          (always_written c shelf setup first.bytes with_console with_ticks here.bytes (ticks_path c.record_folder) l.ticks.bytes two
          (replayed_here law c shelf setup l end first here with_ticks sound run (current_with with_ticks held_two)))

      two_written : new ≡ with_ticks → Ends
      two_written same = (
        subst (λ (f : Option Files). IsCurrent c l f) (sym same) (current_with with_ticks held_two),
        λ shelf setup first here run.
            always_on c shelf setup first.bytes (scene old here.bytes) (scene with_ticks here.bytes) (scene new here.bytes)
            (always_two shelf setup first here run) (always_same c shelf setup first.bytes with_ticks new here.bytes same),
      )

      all_written : Replaced with_ticks new (command_path c.record_folder) (command_text c limit) → Ends
      all_written three =
          let held : IfSome new (Holds c l.console.bytes l.ticks.bytes limit) = limit_written c l.console.bytes l.ticks.bytes now.limit with_ticks new held_two limit three in
          let current : IsCurrent c l new = record { limit = limit; within = reached; few = few; held = held } in (
            current,
            λ shelf setup first here run.
                always_on c shelf setup first.bytes (scene old here.bytes) (scene with_ticks here.bytes) (scene new here.bytes) (always_two shelf setup first here run)
                (always_written c shelf setup first.bytes with_ticks new here.bytes (command_path c.record_folder) (command_text c limit) three
                (replayed_here law c shelf setup l end first here new sound run current)),
          )

  pub saved_in_part : IsSavedInPart c l.console.bytes l.ticks.bytes limit old new → Ends
  saved_in_part (inl same) = nothing_written same
  saved_in_part (inr (with_console, one, inl same)) = one_written with_console one same
  saved_in_part (inr (with_console, one, inr (with_ticks, two, inl same))) = two_written with_console one with_ticks two same
  saved_in_part (inr (with_console, one, inr (with_ticks, two, inr three))) = all_written with_console one with_ticks two three

-- ---- in the middle of a session
pub journal_saved : WritingLaw → (c : CommandState) (end : RunEnd) (l : LiveState) (a : Around) (before after : Store) (over : Bool) → IsSound l → WritesOnly c.record_folder before.files after.files → before.faults ≤ after.faults
    → IsSavedInPart c l.console.bytes l.ticks.bytes (replay_limit l.board.steps over) before.files after.files → Journaled c None end l a before l a after
journal_saved law c end l a before after over sound writes faults parts =
    let ends_so = saved_in_part law c l ends.Limit (replay_limit l.board.steps over) sound (limit_reached l.board.steps over) (limit_within l.board.steps over sound.few) before.files after.files in
    record {
      writes = writes;
      faults = faults;
      failed = λ x. cc;
      stuck = λ h. absurd (h refl);
      current = λ named now none. (ends_so now parts).0;
      always = λ named now shelf setup old here. (ends_so now parts).1 shelf setup old a.logged here.live;
    }

-- ---- at the end of a session
pub safe_end : WritingLaw → (c : CommandState) (failure : Option Unsaved) (end : RunEnd) (l m : LiveState) (a b : Around) (opened closed : Store) (new : Option Files) → c.record_folder ≢ [] → IsCurrent c l opened.files
    → Runs end c.modules l a m b → Journaled c failure end l a opened m b closed → failure ≡ None → IsSavedInPart c m.console.bytes m.ticks.bytes (replay_limit m.board.steps (is_quiet end)) closed.files new
    → Wherever c.modules l a (λ shelf setup old. IsAlwaysReplayed c shelf setup old.bytes (scene opened.files a.logged.bytes) (scene new b.logged.bytes))
safe_end law c failure end l m a b opened closed new named now runs journal none parts = λ shelf setup old here.
    let steps = m.board.steps in
    let ends_so = saved_in_part law c m end (replay_limit steps (is_quiet end)) runs.sound (limit_reached steps (is_quiet end)) (limit_within steps (is_quiet end) runs.sound.few) closed.files new (journal.current named now none) parts in
    always_on c shelf setup old.bytes (scene opened.files a.logged.bytes) (scene closed.files b.logged.bytes) (scene new b.logged.bytes)
    (journal.always named now shelf setup old here)
    (ends_so.1 shelf setup old b.logged (run_at c.modules shelf setup old l a here end m b runs))
