-- The block of a class at an address, sought by halving.
use Rattle.std.proofs.Common.{◌≡◌, ℕ, zero, suc, ◌+◌, ◌-◌, ◌<◌, ◌≤◌, true, false, cond, ltb, eqb, not, ◌&&◌, List, [], ◌∷◌, length, get_or, Some, None, refl, sym, ap, ◌∙◌, subst, inl, inr, arith}
use Rattle.std.specs.List.{position_or_len}
use Rattle.std.proofs.lemmas.Bool.{ltb-true, ltb-false, eq-eqb, ne_eqb, eqb-true, and_parts, cases_lt, cases_eq}
use Rattle.std.proofs.lemmas.List.{get_or_default}
use Rattle.std.proofs.lemmas.List.Sums.{fails_before_first, passes_at_first}
use Rattle.mem_partition.specs.declared.block.Block.{Block}
use Rattle.mem_partition.specs.declared.block.Class.{Class}
use Rattle.mem_partition.specs.State.{Laid, same_class, own_block}
use Rattle.mem_partition.specs.Own.{Rising, IsOwn}
use Rattle.mem_partition.proofs.Keeping.{laid_above}

-- blocks in order rise in address, and no two begin at the same
pub laid_rising : (lo hi : ℕ) (bs : List Block) → Laid lo hi bs → Rising bs
laid_rising lo hi [] laid i j d hij h = absurd (omega arith)
laid_rising lo hi (b ∷ bs) laid zero zero d hij h = absurd (omega (arith, hij))
laid_rising lo hi (b ∷ bs) (low, some, high, rest) zero (suc j) d hij h = let more = laid_above (b.addr + b.size) hi bs rest j d (omega arith) in omega (arith, more)
laid_rising lo hi (b ∷ bs) laid (suc i) zero d hij h = absurd (omega (arith, hij))
laid_rising lo hi (b ∷ bs) (low, some, high, rest) (suc i) (suc j) d hij h = laid_rising (b.addr + b.size) hi bs rest i j d (omega (arith, hij)) (omega arith)

-- the number of blocks that begin at or before an address
abbrev pub rank : ℕ → List Block → ℕ
rank at bs = position_or_len (λ b. ltb at b.addr) bs

own_here : (bs : List Block) (at : ℕ) (class : Class) (k : ℕ) (d : Block) → Rising bs → k < length bs → (get_or bs k d).addr ≡ at → same_class (get_or bs k d).class class ≡ true
    → own_block bs at class ≡ Some (get_or bs k d)
own_here [] at class k d up h e same = absurd (omega arith)
own_here (b ∷ bs) at class zero d up h e same =
    ap (λ t. cond (t && same_class b.class class) (Some b) (own_block bs at class)) (eq-eqb b.addr at e)
    ∙ ap (λ t. cond t (Some b) (own_block bs at class)) same
own_here (b ∷ bs) at class (suc k) d up h e same =
    let less = up 0 (suc k) d (omega arith) h in
    ap (λ t. cond (t && same_class b.class class) (Some b) (own_block bs at class)) (ne_eqb b.addr at (λ q. omega arith))
    ∙ own_here bs at class k d (λ i j f hij hj. up (suc i) (suc j) f (omega (arith, hij)) (omega (arith, hj))) (omega arith) e same

pub own_found : (bs : List Block) (at : ℕ) (class : Class) (k : ℕ) (e : Block) → Rising bs → k < length bs → (eqb (get_or bs k e).addr at && same_class (get_or bs k e).class class) ≡ true
    → IsOwn bs at class k
own_found bs at class k e up h own =
    let parts = and_parts (eqb (get_or bs k e).addr at) (same_class (get_or bs k e).class class) own in
    let here : (d : Block) → get_or bs k d ≡ get_or bs k e = λ d. get_or_default bs k d e h in
    let begins : (d : Block) → (get_or bs k d).addr ≡ at = λ d. ap (λ (b : Block). b.addr) (here d) ∙ eqb-true (get_or bs k e).addr at parts.0 in
    record {
      within = h;
      same = begins;
      block = λ d. own_here bs at class k d up h (begins d) (ap (λ (b : Block). same_class b.class class) (here d) ∙ parts.1);
    }

no_own : (bs : List Block) (at : ℕ) (class : Class) → ((k : ℕ) (d : Block) → k < length bs → (get_or bs k d).addr ≡ at → same_class (get_or bs k d).class class ≡ false)
    → own_block bs at class ≡ None
no_own [] at class none = refl
no_own (b ∷ bs) at class none =
    elim (eqb b.addr at) as (λ t. eqb b.addr at ≡ t → cond (t && same_class b.class class) (Some b) (own_block bs at class) ≡ own_block bs at class) [
      | true ↦ λ e. ap (λ t. cond t (Some b) (own_block bs at class)) (none 0 b (omega arith) (eqb-true b.addr at e))
      | false ↦ λ e. refl
    ] refl
    ∙ no_own bs at class (λ k d h. none (suc k) d (omega (arith, h)))

rank_within : (at : ℕ) (bs : List Block) → rank at bs ≤ length bs
rank_within at [] = omega arith
rank_within at (b ∷ bs) =
    let rest = rank_within at bs in
    elim (ltb at b.addr) as (λ t. cond (not t) (1 + rank at bs) 0 ≤ length (b ∷ bs)) [ true ↦ omega arith | false ↦ omega arith ]

own_missed : (bs : List Block) (at : ℕ) (class : Class) → Rising bs
    → ((d : Block) → 0 < rank at bs → (eqb (get_or bs (rank at bs - 1) d).addr at && same_class (get_or bs (rank at bs - 1) d).class class) ≡ false) → own_block bs at class ≡ None
own_missed bs at class up other = no_own bs at class (λ k d h e.
    elim (cases_lt k (rank at bs)) [
      | inl before ↦ elim (cases_eq k (rank at bs - 1)) [
        | inl last ↦
            let fails : (eqb (get_or bs k d).addr at && same_class (get_or bs k d).class class) ≡ false = subst (λ i. (eqb (get_or bs i d).addr at && same_class (get_or bs i d).class class) ≡ false) (sym last) (other d (omega arith)) in
            sym (ap (λ t. t && same_class (get_or bs k d).class class) (eq-eqb (get_or bs k d).addr at e)) ∙ fails
        | inr lower ↦
            let rise = up k (rank at bs - 1) d (omega arith) (omega (arith, rank_within at bs)) in
            let low = ltb-false at (get_or bs (rank at bs - 1) d).addr (fails_before_first (λ b. ltb at b.addr) bs (rank at bs - 1) d (omega arith)) in
            absurd (omega arith)
      ]
      | inr from ↦
          let high = ltb-true at (get_or bs (rank at bs) d).addr (passes_at_first (λ b. ltb at b.addr) bs d (omega arith)) in
          elim (cases_eq k (rank at bs)) [
            | inl here ↦ (let same = ap (λ i. (get_or bs i d).addr) here in absurd (omega arith))
            | inr above ↦ (let rise = up (rank at bs) k d (omega arith) h in absurd (omega arith))
          ]
    ])

pub none_own : (bs : List Block) (at : ℕ) (class : Class) (k : ℕ) → Rising bs → k ≡ rank at bs → k ≡ 0 → own_block bs at class ≡ None
none_own bs at class k up is zero_rank = own_missed bs at class up (λ d some. absurd (omega arith))

-- if the last block that begins at or before an address isn't the one, none is
pub other_own : (bs : List Block) (at : ℕ) (class : Class) (k : ℕ) (e : Block) → Rising bs → k ≡ rank at bs → (k ≡ 0 → ⊥)
    → (eqb (get_or bs (k - 1) e).addr at && same_class (get_or bs (k - 1) e).class class) ≡ false → own_block bs at class ≡ None
other_own bs at class k e up is some fails =
    let within = rank_within at bs in
    own_missed bs at class up (λ d more.
    ap (λ (b : Block). eqb b.addr at && same_class b.class class) (get_or_default bs (rank at bs - 1) d e (omega arith))
    ∙ ap (λ i. eqb (get_or bs (i - 1) e).addr at && same_class (get_or bs (i - 1) e).class class) (sym is) ∙ fails)
