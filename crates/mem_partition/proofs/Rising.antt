-- The holes between blocks in order: they rise in address, no two touch, and they are where no block is.
use Rattle.std.proofs.Common.{◌≡◌, ℕ, zero, suc, ◌+◌, ◌<◌, ◌≤◌, true, false, cond, leb, ltb, ◌&&◌, ◌||◌, List, [], ◌∷◌, ◌++◌, length, get_or, refl, sym, ap, ◌∙◌, subst, inl, inr, arith}
use Rattle.std.specs.List.{All}
use Rattle.std.specs.List.Sorted.{IsNonDecreasingBy}
use Rattle.std.proofs.lemmas.Bool.{le-leb, lt-leb, lt-ltb, le-ltb, ltb-true, cases_lt}
use Rattle.std.proofs.lemmas.List.Elements.{All-cons}
use Rattle.mem_partition.specs.declared.block.Block.{Block}
use Rattle.mem_partition.specs.declared.hole.Hole.{Hole}
use Rattle.mem_partition.specs.State.{Laid, is_free}
use Rattle.mem_partition.specs.Holes.{HolesState, AreHoles, gap, holes_of, Rise, is_in_hole}
use Rattle.mem_partition.proofs.Places.{nothing_more}
use Rattle.mem_partition.proofs.Counting.{before_all, in_first, after_first}

-- each is between two addresses
abbrev Within : ℕ → ℕ → List Hole → Type 0
Within lo hi hs = All (λ h. (lo ≤ h.start) × (h.end ≤ hi)) hs

within_none : (lo hi : ℕ) → Within lo hi []
within_none lo hi = λ k d h. absurd (omega arith)

within_gap : (lo hi x y : ℕ) (hs : List Hole) → lo ≤ x → (x < y → y ≤ hi) → Within lo hi hs → Within lo hi (gap x y ++ hs)
within_gap lo hi x y hs low high rest =
    elim (ltb x y) as (λ t. ltb x y ≡ t → Within lo hi (cond t (record { start = x; end = y } ∷ []) [] ++ hs)) [
      | true ↦ λ q. All-cons (λ h. (lo ≤ h.start) × (h.end ≤ hi)) (record { start = x; end = y }) hs (low, high (ltb-true x y q)) rest
      | false ↦ λ q. rest
    ] refl

pub within : (lo x hi : ℕ) (bs : List Block) → lo ≤ x → Laid x hi bs → Within lo hi (holes_of x hi bs)
within lo x hi [] low laid = subst (Within lo hi) (nothing_more (gap x hi)) (within_gap lo hi x hi [] low (λ h. omega arith) (within_none lo hi))
within lo x hi (b ∷ bs) low (b_low, full, high, laid) =
    within_gap lo hi x b.addr (holes_of (b.addr + b.size) hi bs) low (λ h. omega arith) (within lo (b.addr + b.size) hi bs (omega arith) laid)

-- all holes after an address begin after what ends there
begin_after : (end lo hi : ℕ) (hs : List Hole) → end < lo → Within lo hi hs → All (λ g. end < g.start) hs
begin_after end lo hi hs less all = λ k d h. let low = (all k d h).0 in omega arith

rise_gap : (x y lo hi : ℕ) (hs : List Hole) → y < lo → Within lo hi hs → Rise hs → Rise (gap x y ++ hs)
rise_gap x y lo hi hs less all rest =
    elim (ltb x y) as (λ t. ltb x y ≡ t → Rise (cond t (record { start = x; end = y } ∷ []) [] ++ hs)) [
      | true ↦ λ q. (ltb-true x y q, begin_after y lo hi hs less all, rest)
      | false ↦ λ q. rest
    ] refl

pub rises : (lo hi : ℕ) (bs : List Block) → Laid lo hi bs → Rise (holes_of lo hi bs)
rises lo hi [] laid = subst Rise (nothing_more (gap lo hi)) (rise_gap lo hi (hi + 1) (hi + 1) [] (omega arith) (within_none (hi + 1) (hi + 1)) tt)
rises lo hi (b ∷ bs) (low, full, high, laid) =
    rise_gap lo b.addr (b.addr + b.size) hi (holes_of (b.addr + b.size) hi bs) (omega arith) (within (b.addr + b.size) (b.addr + b.size) hi bs (omega arith) laid)
    (rises (b.addr + b.size) hi bs laid)

-- an address in a gap, or not
gap_has : (x y at : ℕ) (hs : List Hole) → x ≤ at → at < y → is_in_hole (gap x y ++ hs) at ≡ true
gap_has x y at hs low high =
    ap (λ t. is_in_hole (cond t (record { start = x; end = y } ∷ []) [] ++ hs) at) (lt-ltb x y (omega arith))
    ∙ ap (λ t. t && ltb at y || is_in_hole hs at) (le-leb x at low)
    ∙ ap (λ t. t || is_in_hole hs at) (lt-ltb at y high)

gap_ends : (x y at : ℕ) (hs : List Hole) → y ≤ at → is_in_hole (gap x y ++ hs) at ≡ is_in_hole hs at
gap_ends x y at hs high =
    elim (ltb x y) as (λ t. is_in_hole (cond t (record { start = x; end = y } ∷ []) [] ++ hs) at ≡ is_in_hole hs at) [
      | true ↦
          ap (λ t. (leb x at && t) || is_in_hole hs at) (le-ltb at y high)
          ∙ elim (leb x at) as (λ t. (t && false) || is_in_hole hs at ≡ is_in_hole hs at) [ true ↦ refl | false ↦ refl ]
      | false ↦ refl
    ]

gap_begins : (x y at : ℕ) (hs : List Hole) → at < x → is_in_hole (gap x y ++ hs) at ≡ is_in_hole hs at
gap_begins x y at hs low =
    elim (ltb x y) as (λ t. is_in_hole (cond t (record { start = x; end = y } ∷ []) [] ++ hs) at ≡ is_in_hole hs at) [
      | true ↦ ap (λ t. (t && ltb at y) || is_in_hole hs at) (lt-leb x at low)
      | false ↦ refl
    ]

none_below : (lo hi at : ℕ) (bs : List Block) → Laid lo hi bs → at < lo → is_in_hole (holes_of lo hi bs) at ≡ false
none_below lo hi at [] laid less = ap (λ hs. is_in_hole hs at) (sym (nothing_more (gap lo hi))) ∙ gap_begins lo hi at [] less
none_below lo hi at (b ∷ bs) (low, full, high, laid) less =
    gap_begins lo b.addr at (holes_of (b.addr + b.size) hi bs) less ∙ none_below (b.addr + b.size) hi at bs laid (omega arith)

pub in_hole : (lo hi at : ℕ) (bs : List Block) → Laid lo hi bs → lo ≤ at → at < hi → is_in_hole (holes_of lo hi bs) at ≡ is_free bs at
in_hole lo hi at [] laid low less = ap (λ hs. is_in_hole hs at) (sym (nothing_more (gap lo hi))) ∙ gap_has lo hi at [] low less
in_hole lo hi at (b ∷ bs) (b_low, full, high, laid) low less =
    elim (cases_lt at b.addr) [
      | inl before ↦
          gap_has lo b.addr at (holes_of (b.addr + b.size) hi bs) low before
          ∙ sym (before_all b.addr hi at (b ∷ bs) (omega arith, full, high, laid) before)
      | inr from ↦
          gap_ends lo b.addr at (holes_of (b.addr + b.size) hi bs) from
          ∙ elim (cases_lt at (b.addr + b.size)) as (λ c. is_in_hole (holes_of (b.addr + b.size) hi bs) at ≡ is_free (b ∷ bs) at) [
            | inl inside ↦ none_below (b.addr + b.size) hi at bs laid inside ∙ sym (in_first b bs at from inside)
            | inr after ↦ in_hole (b.addr + b.size) hi at bs laid after less ∙ sym (after_first b bs at after)
          ]
    ]

-- ---- of a partition

pub law_rise : (s : HolesState) → AreHoles s → Rise s.holes
law_rise s k = subst Rise (sym k.exact) (rises s.part.start s.part.end s.part.blocks k.part.laid)

pub law_inside : (s : HolesState) → AreHoles s → All (λ h. (s.part.start ≤ h.start) × (h.end ≤ s.part.end)) s.holes
law_inside s k = subst (Within s.part.start s.part.end) (sym k.exact) (within s.part.start s.part.start s.part.end s.part.blocks (omega arith) k.part.laid)

pub law_exact : (s : HolesState) (at : ℕ) → AreHoles s → s.part.start ≤ at → at < s.part.end → is_in_hole s.holes at ≡ is_free s.part.blocks at
law_exact s at k low less = ap (λ hs. is_in_hole hs at) k.exact ∙ in_hole s.part.start s.part.end at s.part.blocks k.part.laid low less

-- ---- holes in order rise in their ends

full : (hs : List Hole) (k : ℕ) (d : Hole) → Rise hs → k < length hs → (get_or hs k d).start < (get_or hs k d).end
full [] k d rise h = absurd (omega arith)
full (h ∷ hs) zero d (some, after, rise) less = some
full (h ∷ hs) (suc k) d (some, after, rise) less = full hs k d rise (omega arith)

pub ends_rise : (hs : List Hole) → Rise hs → IsNonDecreasingBy (λ h. h.end) hs
ends_rise [] rise i j d hij less = absurd (omega arith)
ends_rise (h ∷ hs) rise zero zero d hij less = omega arith
ends_rise (h ∷ hs) (some, after, rise) zero (suc j) d hij less =
    let begins = after j d (omega arith) in let ends = full hs j d rise (omega arith) in omega arith
ends_rise (h ∷ hs) rise (suc i) zero d hij less = absurd (omega (arith, hij))
ends_rise (h ∷ hs) (some, after, rise) (suc i) (suc j) d hij less = ends_rise hs rise i j d (omega (arith, hij)) (omega arith)

-- the holes of a partition do
pub holes_rise : (s : HolesState) → AreHoles s → IsNonDecreasingBy (λ h. h.end) s.holes
holes_rise s k = ends_rise s.holes (law_rise s k)
