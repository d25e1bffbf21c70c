use Rattle.std.proofs.Common.{◌≡◌, ◌++◌, take, length}
use Rattle.std.specs.List.{flat_map}
use Rattle.asm_lines.specs.Items.{value_bytes}
use Rattle.asm_lines.specs.Names.{value_fixes}
use Rattle.asm_lines.proofs.section.put_values.Given as goal

abbrev pub invariant-loop-value : goal.invariant-loop-value
invariant-loop-value l = record {
  bytes : l.section.bytes.items ≡ l.fn.section.bytes.items ++ flat_map value_bytes (take l.value-index l.values);
  fixes : l.section.fixes.items ≡ l.fn.section.fixes.items ++ value_fixes (length l.fn.section.bytes.items) (take l.value-index l.values);
}
