-- What a fetch tells about the file of a module.
use Rattle.std.proofs.Common.{◌≡◌, ℕ, ◌<◌, ◌≤◌, true, false, cond, List, Option, Some, None, IsSome, Result, Ok, Err, refl, sym, ap, subst, arith, length}
use Rattle.std.specs.Prelude.{IfErr, IfSome, IsSomeAnd, nat_lt}
use Rattle.std.specs.Str.{IsUtf8, is_utf8}
use Rattle.std.proofs.lemmas.Str.{IsUtf8-from_is_utf8, is_utf8-from_IsUtf8}
use Rattle.std.proofs.lemmas.Bool.Decides.{nat_tests}
use Rattle.wind_base.specs.Limits.{longest_module_file}
use Rattle.wind_outside.specs.Files.{Files}
use Rattle.board_player.proofs.WindMachineAsking.{asked_may}
use Rattle.board_player.specs.WindMachineMachine.{file_asked}
use Rattle.board_player.specs.WindMachineState.{State}
use Rattle.board_player.specs.LiveLoadingSaid.{FileSaid, Held, Missing, TooLong, said_by}
use Rattle.wind_session.specs.Modules.{IsSaidBy}
use Rattle.wind_session.specs.Runs.{IsHalt, is_given_up}
use Rattle.wind_session.specs.declared.run.RunEnd.{RunEnd}
use Rattle.wind_session.specs.declared.run.RunEnd.TheVariants as ends
use Rattle.wind_session.proofs.PlanLemmas.{found_entry, missing_entry, long_entry}

-- a name that is a text, and one that isn't
pub of_text : (files : Option Files) (name path : List ℕ) (said : FileSaid) → IsUtf8 name → IsSaidBy true files path said → IsSaidBy (is_utf8 name) files path said
of_text files name path said text h = subst (λ b. IsSaidBy b files path said) (sym (is_utf8-from_IsUtf8 name text)) h

pub of_no_text : (files : Option Files) (name path : List ℕ) → (IsUtf8 name → ⊥) → IsSaidBy (is_utf8 name) files path Missing
of_no_text files name path none =
    elim (is_utf8 name) as (λ b. is_utf8 name ≡ b → IsSaidBy b files path Missing) [
      | true ↦ λ e. absurd (none (IsUtf8-from_is_utf8 name e))
      | false ↦ λ e. refl
    ] refl

-- the file was found, doesn't exist, or is too long
pub found_said : (files : Option Files) (path bytes : List ℕ) → IfSome files (λ held. (held path ≡ Some bytes) × (length bytes ≤ longest_module_file)) → length bytes ≤ longest_module_file → IsSaidBy true files path (Held bytes)
found_said files path bytes h within =
    let short : nat_lt longest_module_file (length bytes) ≡ false = grind (arith, nat_tests, within) in
    (Some bytes, found_entry longest_module_file files path bytes h, sym (ap (λ b. cond b TooLong (Held bytes)) short))

pub missing_said : (files : Option Files) (path : List ℕ) → IfSome files (λ held. held path ≡ None) → IsSaidBy true files path Missing
missing_said files path h = (None, missing_entry files path h, refl)

says_long : (file : Option (List ℕ)) → IsSomeAnd file (λ bytes. longest_module_file < length bytes) → TooLong ≡ said_by file
says_long None h = elim h [ ]
says_long (Some bytes) h = let long : nat_lt longest_module_file (length bytes) ≡ true = grind (arith, nat_tests, h) in sym (ap (λ b. cond b TooLong (Held bytes)) long)

pub long_said : (files : Option Files) (path : List ℕ) → IfSome files (λ held. IsSomeAnd (held path) (λ bytes. longest_module_file < length bytes)) → IsSaidBy true files path TooLong
long_said files path h = let long = long_entry longest_module_file files path h in (long.0, long.1, says_long long.0 long.2)

-- a run that is given up at a step that needs a file makes no step
halts_given_up : (s : State) (name : List ℕ) → file_asked s ≡ Some name → (end : RunEnd) → is_given_up end ≡ true → IsHalt end s
halts_given_up s name asked ends.ReadFault given = subst IsSome (sym asked) refl
halts_given_up s name asked ends.NoMemory given = asked_may s name asked
halts_given_up s name asked ends.Quiet given = absurd (cc)
halts_given_up s name asked ends.Limit given = absurd (cc)
halts_given_up s name asked ends.WriteFault given = absurd (cc)

pub halts_asked : {A : Type 0} (s : State) (name : List ℕ) → file_asked s ≡ Some name → (r : Result A RunEnd) → IfErr r (λ end. is_given_up end ≡ true) → IfErr r (λ end. IsHalt end s)
halts_asked s name asked (Ok x) given = tt
halts_asked s name asked (Err end) given = halts_given_up s name asked end given
