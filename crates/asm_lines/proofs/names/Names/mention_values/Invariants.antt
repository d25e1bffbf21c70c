use Rattle.std.proofs.Common.{ℕ, List, ◌++◌, take}
use Rattle.std.specs.List.{flat_map}
use Rattle.asm_lines.specs.Names.{value_names}
use Rattle.asm_lines.specs.Drafts.{AreNames}
use Rattle.asm_lines.proofs.names.Names.mention_values.Given as goal

abbrev pub invariant-loop-value : goal.invariant-loop-value
invariant-loop-value l =
    (ns ls gs : List (List ℕ)) → AreNames l.fn.self ns ls gs → AreNames l.self (ns ++ flat_map value_names (take l.value-index l.values)) ls gs
