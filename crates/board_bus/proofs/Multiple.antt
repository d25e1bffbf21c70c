-- The words that `lmw` and `stmw` move.
use Rattle.std.proofs.Common.{◌≡◌, ℕ, zero, suc, ◌+◌, ◌-◌, ◌*◌, ◌/◌, ◌^◌, ◌<◌, ◌≤◌, Bool, true, false, ◌||◌, nat_eq, nat_le, length, get_or, Some, refl, sym, ap, subst, ◌∙◌, ◌⊎◌, inl, inr, arith, le-leb}
use Rattle.std.specs.Prelude.{if◌then◌else◌}
use Rattle.std.proofs.lemmas.Bool.Decides.{nat_tests}
use Rattle.std.proofs.lemmas.Nat.{mod_below, pow_pos}
use Rattle.ppc_word.specs.declared.row.Row.TheVariants as row
use Rattle.ppc_word.specs.Rows.{row_of}
use Rattle.wind_base.specs.declared.regs.Regs.{Regs}
use Rattle.ppc_core.specs.Fields.{rt}
use Rattle.ppc_core.specs.Registers.{gpr, next}
use Rattle.ppc_core.specs.Storage.{offset}
use Rattle.ppc_core.specs.Buses.{all_ram}
use Rattle.ppc_core.specs.Multiples.{words_loaded, with_words, words_stored, load_multiple_of, store_multiple_of}
use Rattle.ppc_core.specs.Outcomes.{Done}
use Rattle.ppc_core.specs.Instructions.{effect_of, exec_of}
use Rattle.ppc_core.proofs.RamRanges.{all_ram-within}
use Rattle.ppc_core.proofs.ManyWords.{with_words-alone, gpr-loaded, gpr-kept, in_ram-made, gpr-next, next-alone}
use Rattle.ppc_core.proofs.Effects.{exec-row}
use Rattle.board_mem.specs.Memory.{has, word_at, with_word}
use Rattle.board_mem.proofs.Sizes.{length-with_number}
use Rattle.board_mem.proofs.Words.{word_at-same, word_at-below, byte-elsewhere}
use Rattle.board_bus.specs.BusState.{BusState}
use Rattle.board_bus.specs.Slots.{slots_stored}
use Rattle.board_bus.specs.Access.{board_meaning, loaded_at, stored_at, answer_at}
use Rattle.board_bus.specs.Lawful.{has-all_ram}
use Rattle.board_bus.specs.Laws.{AreInRam, HasLoaded, HasStored}

rt-below : (w : ℕ) → rt w < 32
unfolding rt
rt-below w = mod_below (w / 2 ^ 21) (2 ^ 5) (pow_pos 5)

-- a choice by a test that is true
if_true : {A : Type 0} (t : Bool) (x y : A) → t ≡ true → (if t then x else y) ≡ x
if_true true x y h = refl
if_true false x y h = absurd (cc)

module _ (b : BusState) (at count : ℕ) (h : all_ram board_meaning b at (4 * count) ≡ true) where
  -- each word of the range is in RAM
  word-there : (k : ℕ) → k < count → has b.ram (at + 4 * k) 4 ≡ true
  word-there k lt = has-all_ram b (at + 4 * k) 4 ∙ all_ram-within board_meaning b at (4 * count) (4 * k) 4 (omega arith) h

  -- loads leave the bus as it is
  bus-loaded : (k : ℕ) → k ≤ count → words_loaded board_meaning b at k ≡ b
  bus-loaded zero le = refl
  bus-loaded (suc k) le =
      ap (λ c. loaded_at c 4 (at + 4 * k)) (bus-loaded k (omega arith))
      ∙ if_true (has b.ram (at + 4 * k) 4) b _ (word-there k (omega arith))

  -- the result of the load of word k
  word-loaded : (k : ℕ) → k < count → answer_at (words_loaded board_meaning b at k) 4 (at + 4 * k) ≡ word_at b.ram (at + 4 * k)
  word-loaded k lt =
      ap (λ c. answer_at c 4 (at + 4 * k)) (bus-loaded k (omega arith))
      ∙ if_true (has b.ram (at + 4 * k) 4) (word_at b.ram (at + 4 * k)) _ (word-there k lt)

-- the bus after n stores from an address on
record IsStoredTo (r : Regs) (b c : BusState) (t at n : ℕ) : Type 0 where
  words : (k : ℕ) → k < n → word_at c.ram (at + 4 * k) ≡ gpr r (t + k)
  others : (a : ℕ) → (a < at) ⊎ (at + 4 * n ≤ a) → get_or c.ram a 0 ≡ get_or b.ram a 0
  size : length c.ram ≡ length b.ram
  slots : c.slots ≡ b.slots

last_or_below : (k n : ℕ) → k < suc n → (k < n) ⊎ (k ≡ n)
last_or_below k n h = grind arith

-- one more word
store-step : (r : Regs) (b c : BusState) (t at n : ℕ) → ((j : ℕ) → gpr r j < 2 ^ 32) → at + 4 * suc n ≤ length b.ram → IsStoredTo r b c t at n → IsStoredTo r b (record c { ram = with_word c.ram (at + 4 * n) (gpr r (t + n)) }) t at (suc n)
store-step r b c t at n small fits i =
    let value = gpr r (t + n) in
    let place = at + 4 * n in
    let le : place + 4 ≤ length c.ram = omega (arith, i.size) in
    let there : has c.ram place 4 ≡ true = le-leb _ _ le in
    record {
      words = λ k lt.
          elim (last_or_below k n lt) [
            | inl below ↦ word_at-below c.ram place value (at + 4 * k) (omega arith) (omega arith) ∙ i.words k below
            | inr same ↦
                ap (λ j. word_at (with_word c.ram place value) (at + 4 * j)) same
                ∙ word_at-same c.ram place value (omega arith) (small (t + n))
                ∙ ap (λ j. gpr r (t + j)) (sym same)
          ];
      others = λ a side.
          elim side [
            | inl below ↦ byte-elsewhere c.ram place value a (omega arith) (inl (omega arith)) ∙ i.others a (inl below)
            | inr after ↦ byte-elsewhere c.ram place value a (omega arith) (inr (omega arith)) ∙ i.others a (inr (omega arith))
          ];
      size = length-with_number 4 c.ram place value there ∙ i.size;
      slots = i.slots;
    }

module _ (r : Regs) (b : BusState) (t at count : ℕ) (small : (j : ℕ) → gpr r j < 2 ^ 32) (fits : at + 4 * count ≤ length b.ram) where
  stored-to : (n : ℕ) → n ≤ count → IsStoredTo r b (words_stored board_meaning r b t at n) t at n
  stored-to zero le = record { words = λ k lt. absurd (omega arith); others = λ a side. refl; size = refl; slots = refl }
  stored-to (suc n) le =
      let before = stored-to n (omega arith) in
      let c = words_stored board_meaning r b t at n in
      let there : has c.ram (at + 4 * n) 4 ≡ true = le-leb _ _ (omega (arith, before.size)) in
      let made = record c { ram = with_word c.ram (at + 4 * n) (gpr r (t + n)) } in
      let e : stored_at c 4 (at + 4 * n) (gpr r (t + n)) ≡ made = if_true (has c.ram (at + 4 * n) 4) made (record c { slots = slots_stored c.slots 4 (at + 4 * n) (gpr r (t + n)) }) there in
      subst (λ d. IsStoredTo r b d t at (suc n)) (sym e) (store-step r b c t at n small (omega arith) before)

all-in_ram : (r : Regs) (w : ℕ) (b : BusState) → AreInRam r w b → all_ram board_meaning b (offset r w) (4 * (32 - rt w)) ≡ true
all-in_ram r w b h = sym (has-all_ram b (offset r w) (4 * (32 - rt w))) ∙ h.there

end-within : (end size n : ℕ) → 0 < n → (nat_eq n 0 || nat_le end size) ≡ true → end ≤ size
end-within end size n some h = grind (arith, nat_tests)

ends-in_ram : (r : Regs) (w : ℕ) (b : BusState) → AreInRam r w b → offset r w + 4 * (32 - rt w) ≤ length b.ram
ends-in_ram r w b h = end-within (offset r w + 4 * (32 - rt w)) (length b.ram) (4 * (32 - rt w)) (let t = rt-below w in omega arith) h.there

pub load-multiple : (r : Regs) (w : ℕ) (b : BusState) → length r.gpr ≡ 32 → row_of w ≡ Some row.Lmw → AreInRam r w b → (s : Regs) × (exec_of board_meaning r w b ≡ Done s b) × HasLoaded r s w b
unfolding effect_of load_multiple_of
load-multiple r w b size e h =
    let at = offset r w in
    let n = 32 - rt w in
    let t = rt-below w in
    let ram = all-in_ram r w b h in
    let s = with_words board_meaning r b (rt w) at n in
    let bus = bus-loaded b at n ram n (omega arith) in
    let made = in_ram-made board_meaning b at (4 * n) (Done (next s) (words_loaded board_meaning b at n)) h.aligned ram in (
      next s,
      exec-row board_meaning row.Lmw r w b e ∙ made ∙ ap (Done (next s)) bus,
      record {
        words = λ k lt.
            gpr-next s (rt w + k)
            ∙ gpr-loaded board_meaning r b (rt w) at n k (omega arith) (omega arith)
            ∙ word-loaded b at n ram k (omega arith);
        below = λ j lt. gpr-next s j ∙ gpr-kept board_meaning r b (rt w) at n j lt;
        others = next-alone r s (with_words-alone board_meaning r b (rt w) at n);
      },
    )

pub store-multiple : (r : Regs) (w : ℕ) (b : BusState) → ((j : ℕ) → gpr r j < 2 ^ 32) → row_of w ≡ Some row.Stmw → AreInRam r w b → (c : BusState) × (exec_of board_meaning r w b ≡ Done (next r) c) × HasStored r w b c
unfolding effect_of store_multiple_of
store-multiple r w b small e h =
    let at = offset r w in
    let n = 32 - rt w in
    let ram = all-in_ram r w b h in
    let c = words_stored board_meaning r b (rt w) at n in
    let i = stored-to r b (rt w) at n small (ends-in_ram r w b h) n (omega arith) in
    let made = in_ram-made board_meaning b at (4 * n) (Done (next r) c) h.aligned ram in (
      c,
      exec-row board_meaning row.Stmw r w b e ∙ made,
      record { words = λ k lt. i.words k (omega arith); others = i.others; size = i.size; slots = i.slots },
    )
