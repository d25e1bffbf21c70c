-- Where the segments' blocks are: in the pool, apart from the blocks before and from each other.
use Rattle.std.proofs.Common.{◌≡◌, ℕ, ◌+◌, ◌^◌, ◌<◌, ◌≤◌, min, true, false, cond, eqb, ltb, List, [], ◌∷◌, Result, Ok, refl, sym, ap, ◌∙◌, subst, inl, inr, ◌⊎◌, arith}
use Rattle.std.proofs.lemmas.Bool.{cases_lt, and_parts, and_from, eqb-true}
use Rattle.wind_base.specs.declared.board_kind.Side.{Side}
use Rattle.mem_partition.specs.declared.block.Block.{Block}
use Rattle.mem_partition.specs.declared.block.Class.TheVariants.{Kernel}
use Rattle.mem_partition.specs.declared.block.PartErr.{PartErr}
use Rattle.mem_partition.specs.Place.{aligned, rounded, is_apart, meets_none, Lies}
use Rattle.mem_partition.specs.State.{PartState, IsPart, alloc_on, with_block, after_alloc_on}
use Rattle.mem_partition.proofs.Allocs.{alloc_on_lies, rounded_holds, rounded_some, after_on_is, given_block}
use Rattle.mem_partition.proofs.Keeping.{apart_cases, with_blocks}
use Rattle.module_image.specs.declared.segments.Need.{Need}
use Rattle.module_image.specs.declared.segments.Needs.{Needs}
use Rattle.module_image.specs.declared.segments.Places.{Places}
use Rattle.wind_base.specs.Limits.{greatest_word}
use Rattle.module_loader.specs.Placing.{place_seg, with_seg, with_text, places_of}
use Rattle.module_loader.specs.Loading.{block_size}
use Rattle.module_loader.proofs.Taking.{seg_kept, are_places}

-- what overlaps none of the blocks with one more overlaps neither that one nor the others
pub meets_with : (b : Block) (bs : List Block) (size at : ℕ) → meets_none (with_block b bs) size at ≡ true → (is_apart size at b ≡ true) × (meets_none bs size at ≡ true)
meets_with b [] size at h = ((and_parts (is_apart size at b) true h).0, refl)
meets_with b (c ∷ cs) size at h =
    elim (ltb b.addr c.addr) as (λ t. meets_none (cond t (b ∷ c ∷ cs) (c ∷ with_block b cs)) size at ≡ true → (is_apart size at b ≡ true) × (meets_none (c ∷ cs) size at ≡ true)) [
      | true ↦ λ k. and_parts (is_apart size at b) (meets_none (c ∷ cs) size at) k
      | false ↦ λ k.
          let parts = and_parts (is_apart size at c) (meets_none (with_block b cs) size at) k in
          let rest = meets_with b cs size at parts.1 in
          (rest.0, and_from (is_apart size at c) (meets_none cs size at) parts.0 rest.1)
    ] h

-- a segment's block: it is empty, or its bytes are in a block of the pool that overlaps none of the others
pub record HasBlock (side : Side) (s : PartState) (n : Need) (at : ℕ) (b : Block) : Type 0 where
  pub addr : b.addr ≡ at
  pub holds : n.size ≤ b.size
  pub full : b.size ≡ block_size n.size
  pub lies : Lies s.start s.end s.blocks b.size b.addr
  pub after : with_seg side s n ≡ with_blocks s (with_block b s.blocks)
  pub class : b.class ≡ Kernel
  pub some : 0 < b.size

abbrev pub Stands : Side → PartState → Need → ℕ → Type 0
Stands side s n at = ((n.size ≡ 0) × (with_seg side s n ≡ s) × (at ≡ 0)) ⊎ ((b : Block) × HasBlock side s n at b)

round_most : rounded greatest_word ≡ 4294967296
unfolding rounded aligned
round_most = refl

holds_all : (size at end : ℕ) → end < 2 ^ 32 → at + rounded (min size greatest_word) ≤ end → size ≤ rounded (min size greatest_word)
holds_all size at end h k = elim (cases_lt size 4294967296) [
  | inl small ↦ let r = rounded_holds (min size greatest_word) in omega arith
  | inr large ↦
      let e : min size greatest_word ≡ greatest_word = omega arith in
      let r : rounded (min size greatest_word) ≡ 4294967296 = ap rounded e ∙ round_most in
      absurd (omega arith)
]

-- the block of a segment
pub block_some : (n : ℕ) → eqb n 0 ≡ false → block_size n ≡ rounded n
unfolding block_size
block_some n h = ap (λ t. cond t 0 (rounded n)) h

pub block_none : (n : ℕ) → n ≡ 0 → block_size n ≡ 0
unfolding block_size
block_none n h = ap (λ k. cond (eqb k 0) 0 (rounded k)) h

full_all : (size at end : ℕ) → eqb size 0 ≡ false → end < 2 ^ 32 → at + rounded (min size greatest_word) ≤ end → rounded (min size greatest_word) ≡ block_size size
full_all size at end some h k = elim (cases_lt size 4294967296) [
  | inl small ↦
      let e : min size greatest_word ≡ size = omega arith in
      ap rounded e ∙ sym (block_some size some)
  | inr large ↦
      let e : min size greatest_word ≡ greatest_word = omega arith in
      let r : rounded (min size greatest_word) ≡ 4294967296 = ap rounded e ∙ round_most in
      absurd (omega arith)
]

-- the same as a tuple, to look at its parts
abbrev StandsBy : Side → PartState → Need → ℕ → PartState → Type 0
StandsBy side s n at t =
    ((n.size ≡ 0) × (t ≡ s) × (at ≡ 0))
    ⊎ ((b : Block) × (b.addr ≡ at) × (n.size ≤ b.size) × Lies s.start s.end s.blocks b.size b.addr × (t ≡ with_blocks s (with_block b s.blocks)) × (b.class ≡ Kernel) × (0 < b.size) × (b.size ≡ block_size n.size))

same_Ok : (a b : ℕ) → ◌≡◌ {A = Result ℕ PartErr} (Ok a) (Ok b) → a ≡ b
same_Ok a b e = cc

stands_by : (side : Side) (s : PartState) (n : Need) (at : ℕ) → IsPart s → place_seg side s n ≡ Ok at → StandsBy side s n at (with_seg side s n)
stands_by side s n at k e =
    elim (eqb n.size 0) as (λ t. eqb n.size 0 ≡ t → cond t (Ok 0) (alloc_on side s (min n.size greatest_word) n.align) ≡ Ok at
    → StandsBy side s n at (cond t s (after_alloc_on side s (min n.size greatest_word) n.align Kernel))) [
      | true ↦ λ q h. inl (eqb-true n.size 0 q, refl, sym (same_Ok 0 at h))
      | false ↦ λ q h.
          let lies = alloc_on_lies side s (min n.size greatest_word) n.align at h in
          inr (given_block (min n.size greatest_word) at Kernel, refl, holds_all n.size at s.end k.bound lies.high, lies, after_on_is side s (min n.size greatest_word) n.align at Kernel h, refl, rounded_some (min n.size greatest_word), full_all n.size at s.end q k.bound lies.high)
    ] refl e

pub stands : (side : Side) (s : PartState) (n : Need) (at : ℕ) → IsPart s → place_seg side s n ≡ Ok at → Stands side s n at
stands side s n at k e = elim (stands_by side s n at k e) [
  | inl h ↦ inl h
  | inr h ↦ inr (h.0, record { addr = h.1; holds = h.2; full = h.7; lies = h.3; after = h.4; class = h.5; some = h.6 })
]

-- the pool stays
pub same_end : (side : Side) (s : PartState) (n : Need) (at : ℕ) → Stands side s n at → (with_seg side s n).end ≡ s.end
same_end side s n at (inl h) = ap (λ (x : PartState). x.end) h.1
same_end side s n at (inr h) = ap (λ (x : PartState). x.end) (h.1).after

-- a segment is inside the pool
pub in_pool : (side : Side) (s : PartState) (n : Need) (at : ℕ) → Stands side s n at → at + n.size ≤ s.end
in_pool side s n at (inl h) = let a = h.0 in let b = h.2 in omega arith
in_pool side s n at (inr h) = let a = (h.1).addr in let b = (h.1).holds in let c = (h.1).lies.high in omega arith

-- and so is its block
pub block_in_pool : (side : Side) (s : PartState) (n : Need) (at : ℕ) → Stands side s n at → at + block_size n.size ≤ s.end
block_in_pool side s n at (inl h) = let z = block_none n.size h.0 in let b = h.2 in omega arith
block_in_pool side s n at (inr h) = let a = (h.1).addr in let b = (h.1).full in let c = (h.1).lies.high in omega arith

-- size bytes at an address overlap none of the blocks, or there are no bytes
abbrev pub Meets : List Block → ℕ → ℕ → Type 0
Meets bs size at = (size ≡ 0) ⊎ (meets_none bs size at ≡ true)

-- a segment overlaps none of the blocks before
pub stands_free : (side : Side) (s : PartState) (n : Need) (at : ℕ) → Stands side s n at → (n.size ≡ 0) ⊎ ((z : ℕ) × (n.size ≤ z) × (meets_none s.blocks z at ≡ true))
stands_free side s n at (inl h) = inl h.0
stands_free side s n at (inr (b, h)) = inr (b.size, h.holds, subst (λ a. meets_none s.blocks b.size a ≡ true) h.addr h.lies.apart)

-- what overlaps none of the blocks after a segment
pub after_free : (side : Side) (s : PartState) (n : Need) (at size to : ℕ) → Stands side s n at → meets_none (with_seg side s n).blocks size to ≡ true
    → (meets_none s.blocks size to ≡ true) × ((n.size ≡ 0) ⊎ ((to + size ≤ at) ⊎ (at + n.size ≤ to)))
after_free side s n at size to (inl h) free = (subst (λ (x : PartState). meets_none x.blocks size to ≡ true) h.1 free, inl h.0)
after_free side s n at size to (inr (b, h)) free =
    let two = meets_with b s.blocks size to (subst (λ (x : PartState). meets_none x.blocks size to ≡ true) h.after free) in
    let holds = h.holds in
    let addr = h.addr in
    (two.1, inr (elim (apart_cases size to b two.0) [ inl a ↦ inl (omega arith) | inr a ↦ inr (omega arith) ]))

-- text and data together are smaller than the pool
pub total_small : (side : Side) (s : PartState) (z : Needs) (at : Places) → IsPart s → places_of side s z ≡ Ok at → z.text.size + z.«data».size < 2 ^ 32
total_small side s z at k e =
    let p = are_places side s z at e in
    let one = stands side s z.text at.text k p.text in
    let two = stands side (with_text side s z) z.«data» at.«data» (seg_kept side s z.text k) p.«data» in
    let bound = k.bound in
    let in_one = in_pool side s z.text at.text one in
    let in_two = in_pool side (with_text side s z) z.«data» at.«data» two in
    let end = same_end side s z.text at.text one in
    elim (stands_free side (with_text side s z) z.«data» at.«data» two) [
      | inl none ↦ omega arith
      | inr some ↦
          let size = some.1 in
          elim (after_free side s z.text at.text some.0 at.«data» one some.2).1 [
            | inl none ↦ omega arith
            | inr apart ↦ elim apart [ inl before ↦ omega arith | inr after ↦ omega arith ]
          ]
    ]
