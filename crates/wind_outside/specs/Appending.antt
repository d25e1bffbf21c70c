-- What is added to a sink, if it tells its bytes; what is untold stays untold.
use Rattle.std.specs.Prelude.{◌≡◌, ℕ, List, ◌++◌, Option, take}
use Rattle.std.specs.Option.{option_map}

-- the piece was added at the end
abbrev pub Appended : Option (List ℕ) → Option (List ℕ) → List ℕ → Type 0
Appended old new piece = new ≡ option_map (λ bytes. bytes ++ piece) old

-- a prefix of the piece was added at the end
abbrev pub AppendedPrefix : Option (List ℕ) → Option (List ℕ) → List ℕ → Type 0
AppendedPrefix old new piece = (n : ℕ) × Appended old new (take n piece)
