-- A block that is allocated, and one that is freed at once.
use Rattle.std.proofs.Common.{◌≡◌, ℕ, ◌+◌, ◌<◌, ◌≤◌, max, Bool, true, false, cond, leb, ltb, eqb, not, ◌&&◌, List, [], ◌∷◌, length, Option, Some, None, Result, Ok, Err, refl, ap, ◌∙◌, inl, inr, arith}
use Rattle.std.specs.List.{find}
use Rattle.std.proofs.lemmas.Bool.{leb-false, eq-eqb, ne_eqb, and_parts, and_from, and_left}
use Rattle.wind_base.specs.declared.board_kind.Side.{Side}
use Rattle.wind_base.specs.declared.board_kind.Side.TheVariants.{Low}
use Rattle.mem_partition.specs.declared.block.Block.{Block}
use Rattle.mem_partition.specs.declared.block.Class.{Class}
use Rattle.mem_partition.specs.declared.block.Class.TheVariants.{User, Kernel}
use Rattle.mem_partition.specs.declared.block.PartErr.{PartErr}
use Rattle.mem_partition.specs.declared.block.PartErr.TheVariants as errors
use Rattle.mem_partition.specs.Place.{rounded, place, is_apart, meets_none, IsPlace, Lies}
use Rattle.mem_partition.specs.State.{PartState, IsPart, Laid, is_align, found_or, alloc_on, alloc_of, with_block, taken_at, after_alloc_on, after_alloc, same_class, size_or, freed, after_free}
use Rattle.mem_partition.proofs.Places.{aligned_above, fit_is_place, fit_lies}
use Rattle.mem_partition.proofs.Keeping.{apart_cases, part_with, given_back, with_blocks}

pub rounded_holds : (n : ℕ) → n ≤ rounded n
unfolding rounded
rounded_holds n = let up = aligned_above (max n 1) 16 (omega arith) in omega arith

pub rounded_some : (n : ℕ) → 0 < rounded n
unfolding rounded
rounded_some n = let up = aligned_above (max n 1) 16 (omega arith) in omega arith

pub place_is : (start end : ℕ) (blocks : List Block) (n align : ℕ) (side : Side) → IsPlace start end blocks (rounded n) (max align 16) side (place start end blocks n align side)
unfolding place
place_is start end blocks n align side = fit_is_place side start end blocks (rounded n) (max align 16) (rounded_some n)

place_lies : (start end : ℕ) (blocks : List Block) (n align at : ℕ) (side : Side) → place start end blocks n align side ≡ Some at → Lies start end blocks (rounded n) at
unfolding place
place_lies start end blocks n align at side e = fit_lies side start end blocks (rounded n) (max align 16) at (rounded_some n) e

-- an answer was a place, and there was room for one block more
record Given (side : Side) (s : PartState) (n align at : ℕ) : Type 0 where
  pub room : length s.blocks < s.room
  pub answer : place s.start s.end s.blocks n align side ≡ Some at
  pub lies : Lies s.start s.end s.blocks (rounded n) at

found_some : (o : Option ℕ) (e : PartErr) (at : ℕ) → found_or e o ≡ Ok at → o ≡ Some at
found_some None e at h = absurd (cc)
found_some (Some a) e at h = cc

given : (side : Side) (s : PartState) (n align at : ℕ) → alloc_on side s n align ≡ Ok at → Given side s n align at
unfolding alloc_on
given side s n align at e =
    let found = place s.start s.end s.blocks n align side in
    elim (is_align align) as (λ t. cond (not t) (Err errors.BadAlign) (cond (leb s.room (length s.blocks)) (Err errors.BlocksFull) (found_or errors.NoRoom found)) ≡ Ok at → Given side s n align at) [
      | false ↦ λ h. absurd (cc)
      | true ↦ λ h.
          elim (leb s.room (length s.blocks)) as (λ t. leb s.room (length s.blocks) ≡ t → cond t (Err errors.BlocksFull) (found_or errors.NoRoom found) ≡ Ok at → Given side s n align at) [
            | true ↦ λ q k. absurd (cc)
            | false ↦ λ q k.
                let is = found_some found errors.NoRoom at k in record {
                  room = leb-false s.room (length s.blocks) q;
                  answer = is;
                  lies = place_lies s.start s.end s.blocks n align at side is;
                }
          ] refl h
    ] e

pub alloc_on_lies : (side : Side) (s : PartState) (n align at : ℕ) → alloc_on side s n align ≡ Ok at → Lies s.start s.end s.blocks (rounded n) at
alloc_on_lies side s n align at e = (given side s n align at e).lies

pub place_of_alloc : (side : Side) (s : PartState) (n align at : ℕ) → alloc_on side s n align ≡ Ok at → place s.start s.end s.blocks n align side ≡ Some at
place_of_alloc side s n align at e = (given side s n align at e).answer

pub room_of_alloc : (side : Side) (s : PartState) (n align at : ℕ) → alloc_on side s n align ≡ Ok at → length s.blocks < s.room
room_of_alloc side s n align at e = (given side s n align at e).room

-- a refusal changes nothing
pub refused_is : (side : Side) (s : PartState) (n align : ℕ) (class : Class) (e : PartErr) → alloc_on side s n align ≡ Err e → after_alloc_on side s n align class ≡ s
unfolding after_alloc_on
refused_is side s n align class e h = ap (taken_at s n class) h

abbrev pub given_block : ℕ → ℕ → Class → Block
given_block n at class = record { addr = at; size = rounded n; class = class }

pub after_on_is : (side : Side) (s : PartState) (n align at : ℕ) (class : Class) → alloc_on side s n align ≡ Ok at → after_alloc_on side s n align class ≡ with_blocks s (with_block (given_block n at class) s.blocks)
unfolding after_alloc_on
after_on_is side s n align at class e = ap (taken_at s n class) e

kept_by : (side : Side) (s : PartState) (n align : ℕ) (class : Class) (r : Result ℕ PartErr) → IsPart s → alloc_on side s n align ≡ r → IsPart (taken_at s n class r)
kept_by side s n align class (Err e) k h = k
kept_by side s n align class (Ok at) k h =
    let g = given side s n align at h in part_with s (given_block n at class) k g.lies (rounded_some n) g.room

pub alloc_on_kept : (side : Side) (s : PartState) (n align : ℕ) (class : Class) → IsPart s → IsPart (after_alloc_on side s n align class)
unfolding after_alloc_on
alloc_on_kept side s n align class k = kept_by side s n align class (alloc_on side s n align) k refl

-- the new block is found first by a test that no other block passes
pub find_with : (p : Block → Bool) (b : Block) (lo hi : ℕ) (bs : List Block) → Laid lo hi bs → 0 < b.size → meets_none bs b.size b.addr ≡ true → p b ≡ true
    → ((c : Block) → (c.addr ≡ b.addr → ⊥) → p c ≡ false) → find p (with_block b bs) ≡ Some b
find_with p b lo hi [] laid some free passes others = ap (λ t. cond t (Some b) None) passes
find_with p b lo hi (c ∷ cs) (c_low, c_some, c_high, laid) some free passes others =
    let parts = and_parts (is_apart b.size b.addr c) (meets_none cs b.size b.addr) free in
    let apart = apart_cases b.size b.addr c parts.0 in
    let differ : c.addr ≡ b.addr → ⊥ = λ q. elim apart [ inl h ↦ omega arith | inr h ↦ omega arith ] in
    elim (ltb b.addr c.addr) as (λ t. find p (cond t (b ∷ c ∷ cs) (c ∷ with_block b cs)) ≡ Some b) [
      | true ↦ ap (λ t. cond t (Some b) (find p (c ∷ cs))) passes
      | false ↦ ap (λ t. cond t (Some c) (find p (with_block b cs))) (others c differ) ∙ find_with p b (c.addr + c.size) hi cs laid some parts.1 passes others
    ]

same_class-refl : (class : Class) → same_class class class ≡ true
same_class-refl User = refl
same_class-refl Kernel = refl

pub free_with : (s : PartState) (b : Block) → IsPart s → 0 < b.size → meets_none s.blocks b.size b.addr ≡ true → after_free (with_blocks s (with_block b s.blocks)) b.addr b.class ≡ s
unfolding after_free
free_with s b k some free =
    let found = find_with (λ c. eqb c.addr b.addr && same_class c.class b.class) b s.start s.end s.blocks k.laid some free
    (and_from (eqb b.addr b.addr) (same_class b.class b.class) (eq-eqb b.addr b.addr refl) (same_class-refl b.class))
    (λ c q. and_left (eqb c.addr b.addr) (same_class c.class b.class) (ne_eqb c.addr b.addr q)) in
    ap (λ o. freed (with_blocks s (with_block b s.blocks)) b.addr (size_or o)) found
    ∙ ap (λ (bs : List Block). with_blocks s bs) (given_back s.start s.end s.blocks b k.laid some free)

pub alloc_on_back : (side : Side) (s : PartState) (n align at : ℕ) (class : Class) → IsPart s → alloc_on side s n align ≡ Ok at → after_free (after_alloc_on side s n align class) at class ≡ s
alloc_on_back side s n align at class k e =
    let g = given side s n align at e in
    ap (λ t. after_free t at class) (after_on_is side s n align at class e)
    ∙ free_with s (given_block n at class) k (rounded_some n) g.lies.apart

-- ---- of `alloc`, which places low

pub alloc_lies : (s : PartState) (n align at : ℕ) → alloc_of s n align ≡ Ok at → Lies s.start s.end s.blocks (rounded n) at
alloc_lies = alloc_on_lies Low

pub after_is : (s : PartState) (n align at : ℕ) (class : Class) → alloc_of s n align ≡ Ok at → after_alloc s n align class ≡ with_blocks s (with_block (given_block n at class) s.blocks)
after_is = after_on_is Low

pub alloc_kept : (s : PartState) (n align : ℕ) (class : Class) → IsPart s → IsPart (after_alloc s n align class)
alloc_kept = alloc_on_kept Low
