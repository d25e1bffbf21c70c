-- The effect of a word, by its instruction.
use Rattle.std.proofs.Common.{◌≡◌, ℕ, ◌^◌, ◌<◌, Option, Some, None, refl, ap}
use Rattle.ppc_word.specs.declared.row.Row.{Row}
use Rattle.ppc_word.specs.declared.insn.Insn.{Insn}
use Rattle.ppc_word.specs.Rows.{row_of}
use Rattle.ppc_word.specs.Insn.{word_of}
use Rattle.ppc_word.proofs.Found.{row_of-insn}
use Rattle.ppc_word.proofs.Placed.{row-word}
use Rattle.wind_base.specs.declared.regs.Regs.{Regs}
use Rattle.ppc_core.specs.declared.trap.Trap.TheVariants as trap
use Rattle.ppc_core.specs.Buses.{Meaning}
use Rattle.ppc_core.specs.Outcomes.{Trapped}
use Rattle.ppc_core.specs.Instructions.{effect_of, row_effect, exec_of}

module _ {B : Type 0} (m : Meaning B) where
  pub exec-row : (row : Row) (r : Regs) (w : ℕ) (b : B) → row_of w ≡ Some row → exec_of m r w b ≡ effect_of m row r w b
  unfolding exec_of
  exec-row row r w b e = ap (λ o. row_effect m o r w b) e

  pub exec-insn : (i : Insn) (r : Regs) (b : B) → exec_of m r (word_of i) b ≡ effect_of m i.row r (word_of i) b
  exec-insn i r b = exec-row i.row r (word_of i) b (row_of-insn i (word_of i) refl)

  pub exec-illegal : (w : ℕ) → w < 2 ^ 32 → ((i : Insn) → word_of i ≡ w → ⊥) → (r : Regs) (b : B) → exec_of m r w b ≡ Trapped trap.Illegal
  unfolding exec_of
  exec-illegal w lt none r b = go (row_of w) refl where
    go : (o : Option Row) → row_of w ≡ o → row_effect m o r w b ≡ Trapped trap.Illegal
    go None e = refl
    go (Some row) e = let p = row-word row w lt e in absurd (none p.0 p.1)
