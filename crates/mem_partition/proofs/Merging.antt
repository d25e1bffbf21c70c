-- Freed addresses merge with the holes on both sides; and how many holes there are.
use Rattle.std.proofs.Common.{◌≡◌, ℕ, zero, suc, ◌+◌, ◌<◌, ◌≤◌, true, false, cond, leb, ltb, eqb, not, List, [], ◌∷◌, ◌++◌, length, get_or, set, take, drop, refl, sym, ap, ◌∙◌, subst, arith, length-append}
use Rattle.std.specs.Bool.{⊤}
use Rattle.std.specs.List.{insert, remove, position_or_len}
use Rattle.std.proofs.lemmas.Bool.{lt-ltb, ltb-true, ltb-false, le-leb, lt-leb, eq-eqb, ne_eqb}
use Rattle.mem_partition.specs.declared.block.Block.{Block}
use Rattle.mem_partition.specs.declared.hole.Hole.{Hole}
use Rattle.mem_partition.specs.State.{Laid, without_block}
use Rattle.mem_partition.specs.Holes.{gap, holes_of, joined, merged}
use Rattle.mem_partition.proofs.Keeping.{none_after, place_after}
use Rattle.mem_partition.proofs.Places.{nothing_more}

abbrev pub hole : ℕ → ℕ → Hole
hole lo hi = record { start = lo; end = hi }

-- the first hole, if there is one, begins after an address and isn't empty
abbrev Above : ℕ → List Hole → Type 0
Above at [] = ⊤
Above at (h ∷ hs) = (at < h.start) × (h.start < h.end)

above_gap : (at x y : ℕ) (hs : List Hole) → at < x → Above at hs → Above at (gap x y ++ hs)
above_gap at x y hs less rest =
    elim (ltb x y) as (λ t. ltb x y ≡ t → Above at (cond t (hole x y ∷ []) [] ++ hs)) [ true ↦ λ q. (less, ltb-true x y q) | false ↦ λ q. rest ] refl

above_holes : (at x y : ℕ) (bs : List Block) → at < x → Laid x y bs → Above at (holes_of x y bs)
above_holes at x y [] less laid = subst (Above at) (nothing_more (gap x y)) (above_gap at x y [] less tt)
above_holes at x y (b ∷ bs) less (low, full, high, laid) =
    above_gap at x b.addr (holes_of (b.addr + b.size) y bs) less (above_holes at (b.addr + b.size) y bs (omega arith) laid)

-- ---- addresses between the gaps on their sides

joined_apart : (lo hi : ℕ) (hs : List Hole) → Above hi hs → joined lo hi hs ≡ hole lo hi ∷ hs
joined_apart lo hi [] above = refl
joined_apart lo hi (h ∷ hs) (after, full) = ap (λ t. cond t (hole lo h.end ∷ hs) (hole lo hi ∷ h ∷ hs)) (ne_eqb h.start hi (λ e. omega arith))

-- a hole that ends where a gap begins ends with the gap
joined_gap : (lo at hi : ℕ) (hs : List Hole) → lo < at → at ≤ hi → Above hi hs → joined lo at (gap at hi ++ hs) ≡ gap lo hi ++ hs
joined_gap lo at hi hs some up above =
    elim (ltb at hi) as (λ t. ltb at hi ≡ t → joined lo at (cond t (hole at hi ∷ []) [] ++ hs) ≡ hole lo hi ∷ hs) [
      | true ↦ λ q. ap (λ t. cond t (hole lo hi ∷ hs) (hole lo at ∷ hole at hi ∷ hs)) (eq-eqb at at refl)
      | false ↦ λ q.
          let least = ltb-false at hi q in
          let same : at ≡ hi = omega arith in
          subst (λ n. joined lo n hs ≡ hole lo hi ∷ hs) (sym same) (joined_apart lo hi hs above)
    ] refl
    ∙ sym (ap (λ t. cond t (hole lo hi ∷ []) [] ++ hs) (lt-ltb lo hi (omega arith)))

merged_above : (lo hi : ℕ) (hs : List Hole) → Above lo hs → merged lo hi hs ≡ joined lo hi hs
merged_above lo hi [] above = refl
merged_above lo hi (h ∷ hs) (after, full) =
    ap (λ t. cond t (cond (eqb h.end lo) (joined h.start hi hs) (joined lo hi (h ∷ hs))) (h ∷ merged lo hi hs)) (le-leb lo h.end (omega arith))
    ∙ ap (λ t. cond t (joined h.start hi hs) (joined lo hi (h ∷ hs))) (ne_eqb h.end lo (λ e. omega arith))

merged_here : (lo at end hi : ℕ) (hs : List Hole) → lo ≤ at → at < end → end ≤ hi → Above hi hs → merged at end (gap lo at ++ (gap end hi ++ hs)) ≡ gap lo hi ++ hs
merged_here lo at end hi hs low some high above =
    let xs = gap end hi ++ hs in
    elim (ltb lo at) as (λ t. ltb lo at ≡ t → merged at end (cond t (hole lo at ∷ []) [] ++ xs) ≡ gap lo hi ++ hs) [
      | true ↦ λ q.
          let less = ltb-true lo at q in
          ap (λ t. cond t (cond (eqb at at) (joined lo end xs) (joined at end (hole lo at ∷ xs))) (hole lo at ∷ merged at end xs)) (le-leb at at (omega arith))
          ∙ ap (λ t. cond t (joined lo end xs) (joined at end (hole lo at ∷ xs))) (eq-eqb at at refl)
          ∙ joined_gap lo end hi hs (omega arith) high above
      | false ↦ λ q.
          let least = ltb-false lo at q in
          let same : lo ≡ at = omega arith in
          merged_above at end xs (above_gap at end hi hs some (lower at hi hs (omega arith) above))
          ∙ joined_gap at end hi hs some high above
          ∙ ap (λ n. gap n hi ++ hs) (sym same)
    ] refl
  where
    lower : (at hi : ℕ) (hs : List Hole) → at < hi → Above hi hs → Above at hs
    lower at hi [] less above = tt
    lower at hi (h ∷ hs) less (after, full) = (omega arith, full)

-- ---- addresses after a gap

merged_after : (x y at end : ℕ) (hs : List Hole) → y < at → merged at end (gap x y ++ hs) ≡ gap x y ++ merged at end hs
merged_after x y at end hs after =
    elim (ltb x y) as (λ t. merged at end (cond t (hole x y ∷ []) [] ++ hs) ≡ cond t (hole x y ∷ []) [] ++ merged at end hs) [
      | true ↦ ap (λ t. cond t (cond (eqb y at) (joined x end hs) (joined at end (hole x y ∷ hs))) (hole x y ∷ merged at end hs)) (lt-leb at y after)
      | false ↦ refl
    ]

-- ---- a block that is taken out

head_merged : (lo hi : ℕ) (b : Block) (bs : List Block) → Laid lo hi (b ∷ bs) → merged b.addr (b.addr + b.size) (holes_of lo hi (b ∷ bs)) ≡ holes_of lo hi bs
head_merged lo hi b [] (low, full, high, laid) =
    ap (λ hs. merged b.addr (b.addr + b.size) (gap lo b.addr ++ hs)) (sym (nothing_more (gap (b.addr + b.size) hi)))
    ∙ merged_here lo b.addr (b.addr + b.size) hi [] low (omega arith) high tt
    ∙ nothing_more (gap lo hi)
head_merged lo hi b (c ∷ cs) (low, full, high, (c_low, c_full, c_high, laid)) =
    merged_here lo b.addr (b.addr + b.size) c.addr (holes_of (c.addr + c.size) hi cs) low (omega arith) c_low
    (above_holes c.addr (c.addr + c.size) hi cs (omega arith) laid)

pub taken_out : (lo hi : ℕ) (bs : List Block) (k : ℕ) (d : Block) → Laid lo hi bs → k < length bs
    → merged (get_or bs k d).addr ((get_or bs k d).addr + (get_or bs k d).size) (holes_of lo hi bs) ≡ holes_of lo hi (without_block (get_or bs k d).addr bs)
taken_out lo hi [] k d laid less = absurd (omega arith)
taken_out lo hi (b ∷ bs) zero d (low, full, high, laid) less =
    head_merged lo hi b bs (low, full, high, laid)
    ∙ sym (ap (holes_of lo hi) (ap (λ t. cond (not t) (b ∷ without_block b.addr bs) (without_block b.addr bs)) (eq-eqb b.addr b.addr refl)
    ∙ none_after (b.addr + b.size) hi b.addr bs laid (omega arith)))
taken_out lo hi (b ∷ bs) (suc k) d (low, full, high, laid) less =
    let c = get_or bs k d in
    let after : b.addr + b.size ≤ c.addr = place_after (b.addr + b.size) hi bs k d laid (omega arith) in
    merged_after lo b.addr c.addr (c.addr + c.size) (holes_of (b.addr + b.size) hi bs) (omega arith)
    ∙ ap (λ hs. gap lo b.addr ++ hs) (taken_out (b.addr + b.size) hi bs k d laid (omega arith))
    ∙ sym (ap (holes_of lo hi) (ap (λ t. cond (not t) (b ∷ without_block c.addr bs) (without_block c.addr bs)) (ne_eqb b.addr c.addr (λ e. omega arith))))

-- ---- how many holes there are

length-gap : (lo hi : ℕ) → length (gap lo hi) ≤ 1
length-gap lo hi = elim (ltb lo hi) as (λ t. length (cond t (hole lo hi ∷ []) []) ≤ 1) [ true ↦ omega arith | false ↦ omega arith ]

pub length-holes : (lo hi : ℕ) (bs : List Block) → length (holes_of lo hi bs) ≤ length bs + 1
length-holes lo hi [] = omega (arith, length-gap lo hi)
length-holes lo hi (b ∷ bs) =
    let one = length-gap lo b.addr in
    let rest = length-holes (b.addr + b.size) hi bs in
    let both : length (gap lo b.addr ++ holes_of (b.addr + b.size) hi bs) ≡ length (gap lo b.addr) + length (holes_of (b.addr + b.size) hi bs) = length-append (gap lo b.addr) (holes_of (b.addr + b.size) hi bs) in
    omega arith

-- ---- as the code merges

-- the number of holes that end before an address
abbrev pub ending_before : ℕ → List Hole → ℕ
ending_before at hs = position_or_len (λ h. leb at h.end) hs

touching : (lo hi : ℕ) (hs : List Hole) (d : Hole) → ending_before lo hs < length hs → (get_or hs (ending_before lo hs) d).end ≡ lo
    → take (ending_before lo hs) hs ++ joined (get_or hs (ending_before lo hs) d).start hi (drop (suc (ending_before lo hs)) hs) ≡ merged lo hi hs
touching lo hi [] d less touches = absurd (omega arith)
touching lo hi (h ∷ hs) d less touches =
    elim (leb lo h.end) as (λ t. cond (not t) (1 + ending_before lo hs) 0 < length (h ∷ hs) → (get_or (h ∷ hs) (cond (not t) (1 + ending_before lo hs) 0) d).end ≡ lo
    → take (cond (not t) (1 + ending_before lo hs) 0) (h ∷ hs) ++ joined (get_or (h ∷ hs) (cond (not t) (1 + ending_before lo hs) 0) d).start hi (drop (suc (cond (not t) (1 + ending_before lo hs) 0)) (h ∷ hs))
    ≡ cond t (cond (eqb h.end lo) (joined h.start hi hs) (joined lo hi (h ∷ hs))) (h ∷ merged lo hi hs)) [
      | true ↦ λ q e. sym (ap (λ t. cond t (joined h.start hi hs) (joined lo hi (h ∷ hs))) (eq-eqb h.end lo e))
      | false ↦ λ q e.
          let j = ending_before lo hs in
          let next : 1 + j ≡ suc j = omega arith in
          ap (λ i. take i (h ∷ hs) ++ joined (get_or (h ∷ hs) i d).start hi (drop (suc i) (h ∷ hs))) next
          ∙ ap (λ x. h ∷ x) (touching lo hi hs d (omega (arith, q)) (sym (ap (λ i. (get_or (h ∷ hs) i d).end) next) ∙ e))
    ] less touches

apart : (lo hi : ℕ) (hs : List Hole) (d : Hole) → (ending_before lo hs < length hs → (get_or hs (ending_before lo hs) d).end ≡ lo → ⊥)
    → take (ending_before lo hs) hs ++ joined lo hi (drop (ending_before lo hs) hs) ≡ merged lo hi hs
apart lo hi [] d other = refl
apart lo hi (h ∷ hs) d other =
    elim (leb lo h.end) as (λ t. (cond (not t) (1 + ending_before lo hs) 0 < length (h ∷ hs) → (get_or (h ∷ hs) (cond (not t) (1 + ending_before lo hs) 0) d).end ≡ lo → ⊥)
    → take (cond (not t) (1 + ending_before lo hs) 0) (h ∷ hs) ++ joined lo hi (drop (cond (not t) (1 + ending_before lo hs) 0) (h ∷ hs))
    ≡ cond t (cond (eqb h.end lo) (joined h.start hi hs) (joined lo hi (h ∷ hs))) (h ∷ merged lo hi hs)) [
      | true ↦ λ differ. sym (ap (λ t. cond t (joined h.start hi hs) (joined lo hi (h ∷ hs))) (ne_eqb h.end lo (differ (omega arith))))
      | false ↦ λ differ.
          let j = ending_before lo hs in
          let next : 1 + j ≡ suc j = omega arith in
          ap (λ i. take i (h ∷ hs) ++ joined lo hi (drop i (h ∷ hs))) next
          ∙ ap (λ x. h ∷ x) (apart lo hi hs d (λ less e. differ (omega (arith, less)) (ap (λ i. (get_or (h ∷ hs) i d).end) next ∙ e)))
    ] other

pub merged_touching : (lo hi : ℕ) (hs : List Hole) (k : ℕ) (d : Hole) → k ≡ ending_before lo hs → k < length hs → (get_or hs k d).end ≡ lo
    → take k hs ++ joined (get_or hs k d).start hi (drop (suc k) hs) ≡ merged lo hi hs
merged_touching lo hi hs k d is =
    subst (λ i. i < length hs → (get_or hs i d).end ≡ lo → take i hs ++ joined (get_or hs i d).start hi (drop (suc i) hs) ≡ merged lo hi hs) (sym is) (touching lo hi hs d)

pub merged_apart : (lo hi : ℕ) (hs : List Hole) (k : ℕ) (d : Hole) → k ≡ ending_before lo hs → (k < length hs → (get_or hs k d).end ≡ lo → ⊥)
    → take k hs ++ joined lo hi (drop k hs) ≡ merged lo hi hs
merged_apart lo hi hs k d is = subst (λ i. (i < length hs → (get_or hs i d).end ≡ lo → ⊥) → take i hs ++ joined lo hi (drop i hs) ≡ merged lo hi hs) (sym is) (apart lo hi hs d)

-- a hole that begins where another ends is extended down
pub extended_down : (lo hi : ℕ) (hs : List Hole) (k : ℕ) (d : Hole) → k < length hs → (get_or hs k d).start ≡ hi
    → set hs k (hole lo (get_or hs k d).end) ≡ take k hs ++ joined lo hi (drop k hs)
extended_down lo hi [] k d less e = absurd (omega arith)
extended_down lo hi (h ∷ hs) zero d less e = sym (ap (λ t. cond t (hole lo h.end ∷ hs) (hole lo hi ∷ h ∷ hs)) (eq-eqb h.start hi e))
extended_down lo hi (h ∷ hs) (suc k) d less e = ap (λ x. h ∷ x) (extended_down lo hi hs k d (omega arith) e)

pub inserted_joined : (lo hi : ℕ) (hs : List Hole) (k : ℕ) (d : Hole) → k ≤ length hs → (k < length hs → (get_or hs k d).start ≡ hi → ⊥)
    → insert hs k (hole lo hi) ≡ take k hs ++ joined lo hi (drop k hs)
inserted_joined lo hi [] zero d le apart = refl
inserted_joined lo hi [] (suc k) d le apart = absurd (omega arith)
inserted_joined lo hi (h ∷ hs) zero d le apart = sym (ap (λ t. cond t (hole lo h.end ∷ hs) (hole lo hi ∷ h ∷ hs)) (ne_eqb h.start hi (apart (omega arith))))
inserted_joined lo hi (h ∷ hs) (suc k) d le apart = ap (λ x. h ∷ x) (inserted_joined lo hi hs k d (omega arith) (λ less. apart (omega (arith, less))))

-- a hole is extended up to an address, or through the hole that begins there
extended_through : (lo hi : ℕ) (hs : List Hole) (k : ℕ) (d : Hole) → suc k < length hs → (get_or hs (suc k) d).start ≡ hi
    → set (remove hs (suc k)) k (hole lo (get_or hs (suc k) d).end) ≡ take k hs ++ joined lo hi (drop (suc k) hs)
extended_through lo hi [] k d less e = absurd (omega arith)
extended_through lo hi (h ∷ []) zero d less e = absurd (omega arith)
extended_through lo hi (h ∷ g ∷ hs) zero d less e = sym (ap (λ t. cond t (hole lo g.end ∷ hs) (hole lo hi ∷ g ∷ hs)) (eq-eqb g.start hi e))
extended_through lo hi (h ∷ hs) (suc k) d less e = ap (λ x. h ∷ x) (extended_through lo hi hs k d (omega arith) e)

extended_alone : (lo hi : ℕ) (hs : List Hole) (k : ℕ) (d : Hole) → k < length hs → (suc k < length hs → (get_or hs (suc k) d).start ≡ hi → ⊥)
    → set hs k (hole lo hi) ≡ take k hs ++ joined lo hi (drop (suc k) hs)
extended_alone lo hi [] k d less apart = absurd (omega arith)
extended_alone lo hi (h ∷ []) zero d less apart = refl
extended_alone lo hi (h ∷ g ∷ hs) zero d less apart = sym (ap (λ t. cond t (hole lo g.end ∷ hs) (hole lo hi ∷ g ∷ hs)) (ne_eqb g.start hi (apart (omega arith))))
extended_alone lo hi (h ∷ hs) (suc k) d less apart = ap (λ x. h ∷ x) (extended_alone lo hi hs k d (omega arith) (λ more. apart (omega (arith, more))))

pub up_through : (lo hi : ℕ) (hs : List Hole) (k next : ℕ) (d : Hole) → next ≡ suc k → next < length hs → (get_or hs next d).start ≡ hi
    → set (remove hs next) k (hole lo (get_or hs next d).end) ≡ take k hs ++ joined lo hi (drop next hs)
up_through lo hi hs k next d is =
    subst (λ n. n < length hs → (get_or hs n d).start ≡ hi → set (remove hs n) k (hole lo (get_or hs n d).end) ≡ take k hs ++ joined lo hi (drop n hs)) (sym is) (extended_through lo hi hs k d)

pub up_alone : (lo hi : ℕ) (hs : List Hole) (k next : ℕ) (d : Hole) → next ≡ suc k → k < length hs → (next < length hs → (get_or hs next d).start ≡ hi → ⊥)
    → set hs k (hole lo hi) ≡ take k hs ++ joined lo hi (drop next hs)
up_alone lo hi hs k next d is less =
    subst (λ n. (n < length hs → (get_or hs n d).start ≡ hi → ⊥) → set hs k (hole lo hi) ≡ take k hs ++ joined lo hi (drop n hs)) (sym is) (extended_alone lo hi hs k d less)
