use Rattle.std.proofs.Common.{refl, arith}
use Rattle.ppc_word.specs.declared.row.Row.TheVariants as row
use Rattle.ppc_core.specs.Registers.{in_rs, next}
use Rattle.ppc_core.specs.Conditions.{moved_fields}
use Rattle.ppc_core.specs.Instructions.{effect_of}
use Rattle.ppc_core.proofs.CrFields.{moved-bit}
use Rattle.ppc_core.proofs.Effects.{exec-row}
use Rattle.ppc_core.proofs.laws.move_to_cr_law.Goals as goal

pub returns : goal.returns
unfolding effect_of next
returns g c =
    λ r w b e. (
      next (record r { cr = moved_fields r.cr (in_rs r w) w 8 }),
      exec-row g.B.Bus.meaning row.Mtcrf r w b e,
      refl,
      λ i lt. moved-bit r.cr (in_rs r w) w 8 i (omega arith) (omega arith),
    )
