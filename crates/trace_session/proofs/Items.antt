-- The values of a list's items, as far as a loop has come.
use Rattle.std.proofs.Common.{List, ◌++◌, Option}
use Rattle.std.specs.Option.{option_map}
use Rattle.clap.specs.Words.{Text}
use Rattle.trace_session.specs.Command.{each}

-- these values, and those of the items that are left
abbrev pub so_far : {V : Type 0} → (Text → Option V) → List V → List Text → Option (List V)
so_far value vs rest = option_map (λ ws. vs ++ ws) (each value rest)
