-- Registers loaded with several words.
use Rattle.std.proofs.Common.{◌≡◌, ◌≢◌, ℕ, zero, suc, ◌+◌, ◌*◌, ◌%◌, ◌<◌, ◌≤◌, true, eq-eqb, length, set, refl, sym, ap, ◌∙◌, ◌⊎◌, inl, inr, arith}
use Rattle.std.proofs.lemmas.List.{length-set, get_or-set_same, get_or-set_other}
use Rattle.wind_base.specs.declared.regs.Regs.{Regs}
use Rattle.ppc_core.specs.Buses.{Meaning, all_ram}
use Rattle.ppc_core.specs.Outcomes.{Outcome}
use Rattle.ppc_core.specs.Registers.{gpr, with_gpr, next}
use Rattle.ppc_core.specs.Multiples.{words_loaded, with_words, in_ram}

length-with_gpr : (r : Regs) (n value : ℕ) → length (with_gpr r n value).gpr ≡ length r.gpr
unfolding with_gpr
length-with_gpr r n value = length-set r.gpr n value

gpr-same : (r : Regs) (n value : ℕ) → n < length r.gpr → gpr (with_gpr r n value) n ≡ value
unfolding gpr with_gpr
gpr-same r n value lt = get_or-set_same r.gpr n value 0 lt

gpr-other : (r : Regs) (n value j : ℕ) → j ≢ n → gpr (with_gpr r n value) j ≡ gpr r j
unfolding gpr with_gpr
gpr-other r n value j apart = get_or-set_other r.gpr n j value 0 apart

gpr-alone : (r s : Regs) (n value : ℕ) → s ≡ record r { gpr = s.gpr } → with_gpr s n value ≡ record r { gpr = (with_gpr s n value).gpr }
unfolding with_gpr
gpr-alone r s n value h = ap (λ (t : Regs). record t { gpr = set s.gpr n value }) h

last_or_below : (k n : ℕ) → k < suc n → (k < n) ⊎ (k ≡ n)
last_or_below k n h = grind arith

module _ {B : Type 0} (m : Meaning B) (r : Regs) (b : B) (t at : ℕ) where
  length-with_words : (n : ℕ) → length (with_words m r b t at n).gpr ≡ length r.gpr
  length-with_words zero = refl
  length-with_words (suc n) = length-with_gpr (with_words m r b t at n) (t + n) (m.answer (words_loaded m b at n) 4 (at + 4 * n)) ∙ length-with_words n

  -- no other register changes
  pub with_words-alone : (n : ℕ) → with_words m r b t at n ≡ record r { gpr = (with_words m r b t at n).gpr }
  with_words-alone zero = refl
  with_words-alone (suc n) = gpr-alone r (with_words m r b t at n) (t + n) (m.answer (words_loaded m b at n) 4 (at + 4 * n)) (with_words-alone n)

  -- register t + k takes word k
  pub gpr-loaded : (n k : ℕ) → k < n → t + n ≤ length r.gpr → gpr (with_words m r b t at n) (t + k) ≡ m.answer (words_loaded m b at k) 4 (at + 4 * k)
  gpr-loaded zero k lt fits = absurd (omega arith)
  gpr-loaded (suc n) k lt fits =
      let value = m.answer (words_loaded m b at n) 4 (at + 4 * n) in
      elim (last_or_below k n lt) [
        | inl below ↦ gpr-other (with_words m r b t at n) (t + n) value (t + k) (omega arith) ∙ gpr-loaded n k below (omega arith)
        | inr same ↦
            ap (λ j. gpr (with_gpr (with_words m r b t at n) (t + n) value) (t + j)) same
            ∙ gpr-same (with_words m r b t at n) (t + n) value (omega (arith, length-with_words n))
            ∙ ap (λ j. m.answer (words_loaded m b at j) 4 (at + 4 * j)) (sym same)
      ]

  -- a register below t stays
  pub gpr-kept : (n j : ℕ) → j < t → gpr (with_words m r b t at n) j ≡ gpr r j
  gpr-kept zero j lt = refl
  gpr-kept (suc n) j lt =
      gpr-other (with_words m r b t at n) (t + n) (m.answer (words_loaded m b at n) 4 (at + 4 * n)) j (omega arith) ∙ gpr-kept n j lt

-- an access to words that are all in RAM, at a multiple of 4, is executed
pub in_ram-made : {B : Type 0} (m : Meaning B) (b : B) (at n : ℕ) (outcome : Outcome B) → at % 4 ≡ 0 → all_ram m b at n ≡ true → in_ram m b at n outcome ≡ outcome
in_ram-made m b at n outcome aligned there = rw (eq-eqb (at % 4) 0 aligned, there) refl

pub gpr-next : (r : Regs) (j : ℕ) → gpr (next r) j ≡ gpr r j
unfolding gpr next
gpr-next r j = refl

pub next-alone : (r s : Regs) → s ≡ record r { gpr = s.gpr } → next s ≡ record (next r) { gpr = (next s).gpr }
unfolding next
next-alone r s h = ap next h
