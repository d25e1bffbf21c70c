-- Which ranges of bytes overlap a block.
use Rattle.std.proofs.Common.{◌≡◌, ℕ, suc, ◌+◌, ◌<◌, ◌≤◌, ◌%◌, max, true, false, leb, eqb, ◌&&◌, List, [], ◌∷◌, Some, Ok, refl, sym, subst, inl, inr, ◌⊎◌, arith}
use Rattle.std.specs.List.{All, AllPairs, Any}
use Rattle.std.proofs.lemmas.Bool.{leb-false, eq-eqb, eqb-true, or_parts, and_cases, and_from, and_parts}
use Rattle.std.proofs.lemmas.List.Elements.{All-cons}
use Rattle.std.proofs.lemmas.List.Kept.{AllPairs-cons}
use Rattle.wind_base.specs.declared.board_kind.Side.{Side}
use Rattle.mem_partition.specs.declared.block.Block.{Block}
use Rattle.mem_partition.specs.Place.{aligned, rounded, place, is_apart, meets_none, Fits, IsNearer, IsPlace}
use Rattle.mem_partition.specs.State.{PartState, IsPart, Laid, alloc_on}
use Rattle.mem_partition.specs.Laws.{Meets, IsNextMultiple}
use Rattle.mem_partition.proofs.Places.{aligned_multiple, aligned_above, aligned_least, one_place}
use Rattle.mem_partition.proofs.Keeping.{apart_cases}
use Rattle.mem_partition.proofs.Allocs.{alloc_on_lies, rounded_some, place_is, place_of_alloc}

-- what is apart from a block doesn't overlap it
apart_meets_not : (size at : ℕ) (b : Block) → is_apart size at b ≡ true → Meets size at b → ⊥
apart_meets_not size at b e (a, (low, high), (from, to)) = elim (apart_cases size at b e) [ inl h ↦ omega arith | inr h ↦ omega arith ]

-- what isn't apart overlaps it
not_apart_meets : (size at : ℕ) (b : Block) → 0 < size → 0 < b.size → is_apart size at b ≡ false → Meets size at b
not_apart_meets size at b some full e =
    let two = or_parts (leb (at + size) b.addr) (leb (b.addr + b.size) at) e in
    let over = leb-false (at + size) b.addr two.0 in
    let under = leb-false (b.addr + b.size) at two.1 in
    (max at b.addr, (omega arith, omega arith), (omega arith, omega arith))

none_met : (size at : ℕ) (bs : List Block) → meets_none bs size at ≡ true → All (λ b. Meets size at b → ⊥) bs
none_met size at [] e = λ k d h. absurd (omega arith)
none_met size at (b ∷ bs) e =
    let parts = and_parts (is_apart size at b) (meets_none bs size at) e in
    All-cons (λ c. Meets size at c → ⊥) b bs (apart_meets_not size at b parts.0) (none_met size at bs parts.1)

one_met : (size at lo hi : ℕ) (bs : List Block) → 0 < size → Laid lo hi bs → meets_none bs size at ≡ false → Any (Meets size at) bs
one_met size at lo hi [] some laid e = absurd (cc)
one_met size at lo hi (b ∷ bs) some (low, full, high, laid) e = elim (and_cases (is_apart size at b) (meets_none bs size at) e) [
  | inl first ↦ (0, b, omega arith, refl, not_apart_meets size at b some full first)
  | inr later ↦
      let (place, block, within, is, meets) = one_met size at (b.addr + b.size) hi bs some laid later in
      (suc place, block, omega arith, is, meets)
]

-- a multiple that is nearer to the side doesn't fit, so it exceeds the pool or overlaps a block
pub nearer_meets : (start end : ℕ) (blocks : List Block) (n align at c : ℕ) (side : Side) → Laid start end blocks → place start end blocks n align side ≡ Some at
    → start ≤ c → IsNearer side c at → (c ≡ at → ⊥) → c % max align 16 ≡ 0 → (end < c + rounded n) ⊎ Any (Meets (rounded n) c) blocks
nearer_meets start end blocks n align at c side laid e low near other m =
    let size = rounded n in
    let is = subst (λ o. IsPlace start end blocks size (max align 16) side o) e (place_is start end blocks n align side) in
    let never : Fits start end blocks size (max align 16) c → ⊥ = λ f. other (sym (one_place side at c (is.1 c f) near)) in
    elim (leb (c + size) end) as (λ t. leb (c + size) end ≡ t → (end < c + size) ⊎ Any (Meets size c) blocks) [
      | false ↦ λ q. inl (leb-false (c + size) end q)
      | true ↦ λ q.
          elim (meets_none blocks size c) as (λ t. meets_none blocks size c ≡ t → (end < c + size) ⊎ Any (Meets size c) blocks) [
            | false ↦ λ r. inr (one_met size c start end blocks (rounded_some n) laid r)
            | true ↦ λ r. absurd (never (
              low,
              and_from (eqb (c % max align 16) 0) (leb (c + size) end && meets_none blocks size c) (eq-eqb (c % max align 16) 0 m)
                  (and_from (leb (c + size) end) (meets_none blocks size c) q r),
            ))
          ] refl
    ] refl

pub aligned_is_next : (n align : ℕ) → 1 ≤ align → IsNextMultiple n align (aligned n align)
aligned_is_next n align h = record {
  multiple = aligned_multiple n align h;
  above = aligned_above n align h;
  least = λ c low m. aligned_least n align c h low m;
}

pub alloc_apart : (side : Side) (s : PartState) (n align at : ℕ) → alloc_on side s n align ≡ Ok at → All (λ b. Meets (rounded n) at b → ⊥) s.blocks
alloc_apart side s n align at e = none_met (rounded n) at s.blocks (alloc_on_lies side s n align at e).apart

pub alloc_multiple : (side : Side) (s : PartState) (n align at : ℕ) → alloc_on side s n align ≡ Ok at → at % max align 16 ≡ 0
alloc_multiple side s n align at e =
    let is = subst (λ o. IsPlace s.start s.end s.blocks (rounded n) (max align 16) side o) (place_of_alloc side s n align at e) (place_is s.start s.end s.blocks n align side) in
    eqb-true (at % max align 16) 0
    (and_parts (eqb (at % max align 16) 0) (leb (at + rounded n) s.end && meets_none s.blocks (rounded n) at) is.0.1).0

-- the blocks after an address don't overlap one that ends there
after_apart : (b : Block) (lo hi : ℕ) (bs : List Block) → b.addr + b.size ≤ lo → Laid lo hi bs → All (λ c. Meets b.size b.addr c → ⊥) bs
after_apart b lo hi [] h laid = λ k d j. absurd (omega arith)
after_apart b lo hi (c ∷ cs) h (low, some, high, laid) =
    All-cons (λ x. Meets b.size b.addr x → ⊥) c cs (λ (a, (l, r), (from, to)). omega arith)
    (after_apart b (c.addr + c.size) hi cs (omega arith) laid)

laid_apart : (lo hi : ℕ) (bs : List Block) → Laid lo hi bs → AllPairs (λ b c. Meets b.size b.addr c → ⊥) bs
laid_apart lo hi [] laid = λ i j d h k. absurd (omega arith)
laid_apart lo hi (b ∷ bs) (low, some, high, laid) =
    AllPairs-cons (λ x y. Meets x.size x.addr y → ⊥) b bs (after_apart b (b.addr + b.size) hi bs (omega arith) laid)
    (laid_apart (b.addr + b.size) hi bs laid)

laid_inside : (lo from hi : ℕ) (bs : List Block) → from ≤ lo → Laid lo hi bs → All (λ b. (from ≤ b.addr) × (b.addr + b.size ≤ hi)) bs
laid_inside lo from hi [] h laid = λ k d j. absurd (omega arith)
laid_inside lo from hi (b ∷ bs) h (low, some, high, laid) =
    All-cons (λ x. (from ≤ x.addr) × (x.addr + x.size ≤ hi)) b bs (omega arith, high)
    (laid_inside (b.addr + b.size) from hi bs (omega arith) laid)

pub blocks_apart : (s : PartState) → IsPart s → AllPairs (λ b c. Meets b.size b.addr c → ⊥) s.blocks
blocks_apart s k = laid_apart s.start s.end s.blocks k.laid

pub blocks_inside : (s : PartState) → IsPart s → All (λ b. (s.start ≤ b.addr) × (b.addr + b.size ≤ s.end)) s.blocks
blocks_inside s k = laid_inside s.start s.start s.end s.blocks (omega arith) k.laid
