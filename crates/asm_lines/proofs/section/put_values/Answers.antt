use Rattle.std.proofs.Common.{ℕ, List, [], ◌∷◌, ◌++◌, length, ap, ◌∙◌, refl}
use Rattle.asm_lines.specs.declared.section.Fix.{Fix}
use Rattle.asm_lines.specs.Items.{value_bytes}
use Rattle.asm_lines.specs.Names.{value_fixes}
use Rattle.asm_lines.proofs.Steps.{flat_more, fixes_more}
use Rattle.asm_lines.proofs.section.put_values.Goals as goal

pub loop-value-preserved : goal.loop-value-preserved
loop-value-preserved c =
    let i = c.loop-value.value-index in
    let v = c.value-item.result in
    let was = c.args.section.now in
    record {
      bytes = c.in_ok-put_value.ensures.bytes ∙ ap (λ (bs : List ℕ). bs ++ value_bytes v) c.loop-value.invariant.bytes ∙ flat_more value_bytes was.bytes.items c.args.values.now i v c.loop-value-test.true c.value-item.is;
      fixes = c.in_ok-put_value.ensures.fixes ∙ ap (λ (fs : List Fix). fs ++ value_fixes (length c.loop-value.section.bytes.items) (v ∷ [])) c.loop-value.invariant.fixes
          ∙ fixes_more was.fixes.items c.loop-value.section.bytes.items (length was.bytes.items) was.bytes.items c.args.values.now i v c.loop-value-test.true c.value-item.is refl c.loop-value.invariant.bytes;
    }
