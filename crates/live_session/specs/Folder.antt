-- The files of the folder into which a record is written.
use Rattle.std.specs.Prelude.{◌≡◌, ◌≢◌, ℕ, List, ◌++◌, Option, Some, None, IsSome, IsSomeAnd, codes}
use Rattle.std.specs.Option.{option_or}
use Rattle.wind_outside.specs.Files.{Files, with_file}
use Rattle.live_session.specs.declared.record_folder.Presence.{Presence}
use Rattle.live_session.specs.declared.record_folder.Presence.TheVariants as presence

-- an answer that says whether there is a file is true
abbrev pub IsPresence : Option (List ℕ) → Presence → Type 0
IsPresence file presence.There = IsSome file
IsPresence file presence.Absent = file ≡ None
IsPresence file presence.Failed = Unit {0}

-- the file with this name has these bytes, and the others are as before; what is untold stays untold
abbrev pub Replaced : Option Files → Option Files → List ℕ → List ℕ → Type 0
Replaced None new name bytes = new ≡ None
Replaced (Some old) new name bytes = IsSomeAnd new (λ held. (other : List ℕ) → held other ≡ with_file old name bytes other)

-- the file with this name was there and has these bytes more, and the others are as before; what is untold stays untold
abbrev pub Lengthened : Option Files → Option Files → List ℕ → List ℕ → Type 0
Lengthened None new name bytes = new ≡ None
Lengthened (Some old) new name bytes = IsSomeAnd (old name) (λ own. Replaced (Some old) new name (own ++ bytes))

-- the name of a file that was set aside
abbrev pub aside_path : List ℕ → List ℕ
aside_path name = name ++ codes ".old"

-- the file with this name is gone, and its bytes are under the other name, instead of what was there; if there was none,
-- what was there stays. The other files are as before
pub record IsMoved (old new : Files) (name : List ℕ) : Type 0 where
  pub gone : new name ≡ None
  pub aside : new (aside_path name) ≡ option_or (old name) (old (aside_path name))
  pub others : (other : List ℕ) → other ≢ name → other ≢ aside_path name → new other ≡ old other

-- the file with this name was set aside; what is untold stays untold
abbrev pub SetAside : Option Files → Option Files → List ℕ → Type 0
SetAside None new name = new ≡ None
SetAside (Some old) new name = IsSomeAnd new (λ held. IsMoved old held name)
