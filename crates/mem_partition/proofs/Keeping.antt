-- Blocks stay in order when one is added or removed.
use Rattle.std.proofs.Common.{◌≡◌, ℕ, zero, suc, ◌+◌, ◌<◌, ◌≤◌, true, false, cond, leb, ltb, eqb, not, List, [], ◌∷◌, length, get_or, Option, Some, None, refl, sym, ap, ◌∙◌, subst, inl, inr, ◌⊎◌, arith}
use Rattle.std.specs.List.{insert, remove, position_or_len}
use Rattle.std.specs.List.Sorted.{IsPartitionPoint, IsNonDecreasingBy}
use Rattle.std.proofs.lemmas.Bool.{leb-true, leb-false, ltb-true, ltb-false, le-ltb, lt-ltb, eq-eqb, ne_eqb, and_parts, or_cases}
use Rattle.std.proofs.lemmas.List.Sums.{position_or_len_is}
use Rattle.mem_partition.specs.declared.block.Block.{Block}
use Rattle.mem_partition.specs.declared.block.Class.{Class}
use Rattle.mem_partition.specs.Place.{is_apart, meets_none, Lies}
use Rattle.mem_partition.specs.State.{PartState, IsPart, Laid, with_block, without_block, own_block, size_or, freed, after_free}
use Rattle.mem_partition.specs.Own.{IsOwn}

-- the place at which a block is inserted
abbrev place_of : Block → List Block → ℕ
place_of b bs = position_or_len (λ c. ltb b.addr c.addr) bs

pub inserted : (b : Block) (bs : List Block) (k : ℕ) → k ≡ position_or_len (λ c. ltb b.addr c.addr) bs → insert bs k b ≡ with_block b bs
inserted b bs k e = subst (λ n. insert bs n b ≡ with_block b bs) (sym e) (at_place b bs)
  where
    at_place : (b : Block) (bs : List Block) → insert bs (place_of b bs) b ≡ with_block b bs
    at_place b [] = refl
    at_place b (c ∷ cs) = elim (ltb b.addr c.addr) as (λ t. insert (c ∷ cs) (cond (not t) (1 + place_of b cs) 0) b ≡ cond t (b ∷ c ∷ cs) (c ∷ with_block b cs)) [
      | true ↦ refl
      | false ↦ let n : 1 + place_of b cs ≡ suc (place_of b cs) = omega arith in
          ap (λ j. insert (c ∷ cs) j b) n ∙ ap (λ xs. c ∷ xs) (at_place b cs)
    ]

-- the place of the first block above an address is the number of blocks at or below it
pub first_above : (bs : List Block) (at k : ℕ) → k ≤ length bs → IsPartitionPoint (λ b. leb b.addr at ≡ true) (λ b. leb b.addr at ≡ false) bs k
    → position_or_len (λ b. ltb at b.addr) bs ≡ k
first_above [] at zero h split = refl
first_above [] at (suc k) h split = absurd (omega arith)
first_above (b ∷ bs) at k h split =
    position_or_len_is (λ c. ltb at c.addr) (b ∷ bs) k b h
    (λ j less. le-ltb at (get_or (b ∷ bs) j b).addr (leb-true (get_or (b ∷ bs) j b).addr at (split.0 j b (omega (arith, less, h)) less)))
    (λ less. lt-ltb at (get_or (b ∷ bs) k b).addr (leb-false (get_or (b ∷ bs) k b).addr at (split.1 k b (omega arith) less)))

-- blocks in order rise in address
pub laid_above : (lo hi : ℕ) (bs : List Block) → Laid lo hi bs → (k : ℕ) (d : Block) → k < length bs → lo ≤ (get_or bs k d).addr
laid_above lo hi [] laid k d h = absurd (omega arith)
laid_above lo hi (b ∷ bs) (low, some, high, rest) zero d h = low
laid_above lo hi (b ∷ bs) (low, some, high, rest) (suc k) d h = let more = laid_above (b.addr + b.size) hi bs rest k d (omega arith) in omega (arith, more, low)

pub laid_rises : (lo hi : ℕ) (bs : List Block) → Laid lo hi bs → IsNonDecreasingBy (λ b. b.addr) bs
laid_rises lo hi [] laid i j d hij h = absurd (omega arith)
laid_rises lo hi (b ∷ bs) laid zero zero d hij h = omega arith
laid_rises lo hi (b ∷ bs) (low, some, high, rest) zero (suc j) d hij h = let more = laid_above (b.addr + b.size) hi bs rest j d (omega arith) in omega (arith, more)
laid_rises lo hi (b ∷ bs) laid (suc i) zero d hij h = absurd (omega (arith, hij))
laid_rises lo hi (b ∷ bs) (low, some, high, rest) (suc i) (suc j) d hij h = laid_rises (b.addr + b.size) hi bs rest i j d (omega (arith, hij)) (omega arith)

pub weaken : (lo lo' hi : ℕ) (bs : List Block) → lo' ≤ lo → Laid lo hi bs → Laid lo' hi bs
weaken lo lo' hi [] h laid = tt
weaken lo lo' hi (b ∷ bs) h (low, some, high, laid) = (omega arith, some, high, laid)

-- either block ends before the other begins
pub apart_cases : (size at : ℕ) (b : Block) → is_apart size at b ≡ true → (at + size ≤ b.addr) ⊎ (b.addr + b.size ≤ at)
apart_cases size at b e = elim (or_cases (leb (at + size) b.addr) (leb (b.addr + b.size) at) e) [
  | inl h ↦ inl (leb-true (at + size) b.addr h)
  | inr h ↦ inr (leb-true (b.addr + b.size) at h)
]

pub with_laid : (lo hi : ℕ) (bs : List Block) (b : Block) → Laid lo hi bs → lo ≤ b.addr → 0 < b.size → b.addr + b.size ≤ hi
    → meets_none bs b.size b.addr ≡ true → Laid lo hi (with_block b bs)
with_laid lo hi [] b laid low some high free = (low, some, high, tt)
with_laid lo hi (c ∷ cs) b (c_low, c_some, c_high, laid) low some high free =
    let parts = and_parts (is_apart b.size b.addr c) (meets_none cs b.size b.addr) free in
    let apart = apart_cases b.size b.addr c parts.0 in
    elim (ltb b.addr c.addr) as (λ t. ltb b.addr c.addr ≡ t → Laid lo hi (cond t (b ∷ c ∷ cs) (c ∷ with_block b cs))) [
      | true ↦ λ e.
          let k = ltb-true b.addr c.addr e in
          let before : b.addr + b.size ≤ c.addr = elim apart [ inl h ↦ h | inr h ↦ absurd (omega arith) ] in
          (low, some, high, (before, c_some, c_high, laid))
      | false ↦ λ e.
          let k = ltb-false b.addr c.addr e in
          let after : c.addr + c.size ≤ b.addr = elim apart [ inl h ↦ absurd (omega arith) | inr h ↦ h ] in
          (c_low, c_some, c_high, with_laid (c.addr + c.size) hi cs b laid after some high parts.1)
    ] refl

pub length-with_block : (b : Block) (bs : List Block) → length (with_block b bs) ≡ length bs + 1
length-with_block b [] = refl
length-with_block b (c ∷ cs) = elim (ltb b.addr c.addr) as (λ t. length (cond t (b ∷ c ∷ cs) (c ∷ with_block b cs)) ≡ length (c ∷ cs) + 1) [
  | true ↦ omega arith
  | false ↦ let rest = length-with_block b cs in omega arith
]

-- blocks that begin after an address are not the one at it
pub none_after : (lo hi at : ℕ) (bs : List Block) → Laid lo hi bs → at < lo → without_block at bs ≡ bs
none_after lo hi at [] laid h = refl
none_after lo hi at (b ∷ bs) (low, some, high, laid) h =
    ap (λ t. cond (not t) (b ∷ without_block at bs) (without_block at bs)) (ne_eqb b.addr at (λ e. omega arith))
    ∙ ap (λ xs. b ∷ xs) (none_after (b.addr + b.size) hi at bs laid (omega arith))

pub without_laid : (lo hi at : ℕ) (bs : List Block) → Laid lo hi bs → Laid lo hi (without_block at bs)
without_laid lo hi at [] laid = tt
without_laid lo hi at (b ∷ bs) (low, some, high, laid) =
    elim (eqb b.addr at) as (λ t. Laid lo hi (cond (not t) (b ∷ without_block at bs) (without_block at bs))) [
      | true ↦ weaken (b.addr + b.size) lo hi (without_block at bs) (omega arith) (without_laid (b.addr + b.size) hi at bs laid)
      | false ↦ (low, some, high, without_laid (b.addr + b.size) hi at bs laid)
    ]

pub length-without : (at : ℕ) (bs : List Block) → length (without_block at bs) ≤ length bs
length-without at [] = omega arith
length-without at (b ∷ bs) =
    let rest = length-without at bs in
    elim (eqb b.addr at) as (λ t. length (cond (not t) (b ∷ without_block at bs) (without_block at bs)) ≤ length (b ∷ bs)) [
      | true ↦ omega arith
      | false ↦ omega arith
    ]

-- the block at a place begins at or after lo
pub place_after : (lo hi : ℕ) (bs : List Block) (k : ℕ) (d : Block) → Laid lo hi bs → k < length bs → lo ≤ (get_or bs k d).addr
place_after lo hi [] k d laid h = omega arith
place_after lo hi (b ∷ bs) zero d (low, some, high, laid) h = low
place_after lo hi (b ∷ bs) (suc k) d (low, some, high, laid) h =
    let rest = place_after (b.addr + b.size) hi bs k d laid (omega arith) in omega arith

-- it ends in the pool
pub place_inside : (lo hi : ℕ) (bs : List Block) (k : ℕ) (d : Block) → Laid lo hi bs → k < length bs → (get_or bs k d).addr + (get_or bs k d).size ≤ hi
place_inside lo hi [] k d laid h = absurd (omega arith)
place_inside lo hi (b ∷ bs) zero d (low, some, high, laid) h = high
place_inside lo hi (b ∷ bs) (suc k) d (low, some, high, laid) h = place_inside (b.addr + b.size) hi bs k d laid (omega arith)

pub removed_at : (lo hi at : ℕ) (bs : List Block) (k : ℕ) (d : Block) → Laid lo hi bs → k < length bs → (get_or bs k d).addr ≡ at → remove bs k ≡ without_block at bs
removed_at lo hi at [] k d laid h e = absurd (omega arith)
removed_at lo hi at (b ∷ bs) zero d (low, some, high, laid) h e =
    sym (ap (λ t. cond (not t) (b ∷ without_block at bs) (without_block at bs)) (eq-eqb b.addr at e) ∙ none_after (b.addr + b.size) hi at bs laid (omega arith))
removed_at lo hi at (b ∷ bs) (suc k) d (low, some, high, laid) h e =
    let after = place_after (b.addr + b.size) hi bs k d laid (omega arith) in
    ap (λ xs. b ∷ xs) (removed_at (b.addr + b.size) hi at bs k d laid (omega arith) e)
    ∙ sym (ap (λ t. cond (not t) (b ∷ without_block at bs) (without_block at bs)) (ne_eqb b.addr at (λ q. omega arith)))

pub given_back : (lo hi : ℕ) (bs : List Block) (b : Block) → Laid lo hi bs → 0 < b.size → meets_none bs b.size b.addr ≡ true → without_block b.addr (with_block b bs) ≡ bs
given_back lo hi [] b laid some free = ap (λ t. cond (not t) (b ∷ []) []) (eq-eqb b.addr b.addr refl)
given_back lo hi (c ∷ cs) b (c_low, c_some, c_high, laid) some free =
    let parts = and_parts (is_apart b.size b.addr c) (meets_none cs b.size b.addr) free in
    let apart = apart_cases b.size b.addr c parts.0 in
    let differ : c.addr ≡ b.addr → ⊥ = λ q. elim apart [ inl h ↦ omega arith | inr h ↦ omega arith ] in
    let kept = ap (λ t. cond (not t) (c ∷ without_block b.addr cs) (without_block b.addr cs)) (ne_eqb c.addr b.addr differ) in
    elim (ltb b.addr c.addr) as (λ t. ltb b.addr c.addr ≡ t → without_block b.addr (cond t (b ∷ c ∷ cs) (c ∷ with_block b cs)) ≡ c ∷ cs) [
      | true ↦ λ e.
          let k = ltb-true b.addr c.addr e in
          let before : b.addr + b.size ≤ c.addr = elim apart [ inl h ↦ h | inr h ↦ absurd (omega arith) ] in
          ap (λ t. cond (not t) (b ∷ without_block b.addr (c ∷ cs)) (without_block b.addr (c ∷ cs))) (eq-eqb b.addr b.addr refl)
          ∙ none_after c.addr hi b.addr (c ∷ cs) (omega arith, c_some, c_high, laid) (omega arith)
      | false ↦ λ e.
          ap (λ t. cond (not t) (c ∷ without_block b.addr (with_block b cs)) (without_block b.addr (with_block b cs))) (ne_eqb c.addr b.addr differ)
          ∙ ap (λ xs. c ∷ xs) (given_back (c.addr + c.size) hi cs b laid some parts.1)
    ] refl

-- ---- the invariant of the partition

pub part_with : (s : PartState) (b : Block) → IsPart s → Lies s.start s.end s.blocks b.size b.addr → 0 < b.size → length s.blocks < s.room
    → IsPart (record s { blocks = with_block b s.blocks })
part_with s b k lies some room = record {
  laid = with_laid s.start s.end s.blocks b k.laid lies.low some lies.high lies.apart;
  few = (let n = length-with_block b s.blocks in omega arith);
  bound = k.bound;
}

pub part_without : (s : PartState) (at : ℕ) → IsPart s → IsPart (record s { blocks = without_block at s.blocks })
part_without s at k = record {
  laid = without_laid s.start s.end at s.blocks k.laid;
  few = (let n = length-without at s.blocks in let m = k.few in omega arith);
  bound = k.bound;
}

pub own_removed : (s : PartState) (at : ℕ) (class : Class) (k : ℕ) (bs : List Block) → IsPart s → IsOwn s.blocks at class k → bs ≡ remove s.blocks k → bs ≡ without_block at s.blocks
own_removed s at class k bs kept own e =
    let d : Block = record { addr = 0; size = 0; class = class } in
    e ∙ removed_at s.start s.end at s.blocks k d kept.laid own.within (own.same d)

abbrev pub with_blocks : PartState → List Block → PartState
with_blocks s bs = record s { blocks = bs }

with_same : (s : PartState) {bs cs : List Block} → bs ≡ cs → ◌≡◌ {A = PartState} (record s { blocks = bs }) (record s { blocks = cs })
with_same s e = ap (λ (x : List Block). with_blocks s x) e

pub freed_is : (s : PartState) (at : ℕ) (class : Class) (k : ℕ) (bs : List Block) → IsPart s → IsOwn s.blocks at class k → bs ≡ remove s.blocks k → record s { blocks = bs } ≡ after_free s at class
unfolding after_free
freed_is s at class k bs kept own e =
    let d : Block = record { addr = 0; size = 0; class = class } in
    with_same s (own_removed s at class k bs kept own e) ∙ sym (ap (λ o. freed s at (size_or o)) (own.block d))

-- a refusal changes nothing
pub not_freed : (s : PartState) (at : ℕ) (class : Class) → own_block s.blocks at class ≡ None → after_free s at class ≡ s
unfolding after_free
not_freed s at class e = ap (λ o. freed s at (size_or o)) e

freed_kept : (s : PartState) (at : ℕ) (o : Option Block) → IsPart s → IsPart (freed s at (size_or o))
freed_kept s at None k = k
freed_kept s at (Some b) k = part_without s at k

pub free_kept : (s : PartState) (at : ℕ) (class : Class) → IsPart s → IsPart (after_free s at class)
unfolding after_free
free_kept s at class k = freed_kept s at (own_block s.blocks at class) k
