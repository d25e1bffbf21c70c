-- The effective address of a load or store.
use Rattle.std.proofs.Common.{◌≡◌, ◌≢◌, ℕ, ◌+◌, cond, sym, ap, ap₂, ◌∙◌}
use Rattle.std.specs.Prelude.{◌%◌, ◌/◌, ◌^◌, slice_index}
use Rattle.std.proofs.lemmas.Bool.{eq-eqb, ne_eqb}
use Rattle.wind_base.specs.declared.regs.Regs.{Regs}
use Rattle.ppc_core.specs.Fields.{ra, rb}
use Rattle.ppc_core.specs.Registers.{gpr, in_ra_or_0}
use Rattle.ppc_core.specs.Storage.{indexed, offset}
use Rattle.board_trace.specs.Causes.{effective_address}

-- the content of a register that isn't register 0
pub base_is : (r : Regs) (w n : ℕ) → n ≡ ra w → n ≢ 0 → slice_index r.gpr n ≡ in_ra_or_0 r w
unfolding gpr
base_is r w n is some = ap (slice_index r.gpr) is ∙ sym (ap (λ b. cond b 0 (slice_index r.gpr (ra w))) (ne_eqb (ra w) 0 (λ e. some (is ∙ e))))

-- the sum of two registers
pub indexed_is : (r : Regs) (w base n : ℕ) → base ≡ in_ra_or_0 r w → n ≡ rb w → w / 2 ^ 26 ≡ 31 → (base + slice_index r.gpr n) % 2 ^ 32 ≡ effective_address r w
unfolding gpr
indexed_is r w base n eb en form =
    ap₂ (λ b m. (b + slice_index r.gpr m) % 2 ^ 32) eb en ∙ sym (ap (λ t. cond t (indexed r w) (offset r w)) (eq-eqb (w / 2 ^ 26) 31 form))
