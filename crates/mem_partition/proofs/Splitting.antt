-- A block that is cut out of a hole.
use Rattle.std.proofs.Common.{◌≡◌, ℕ, suc, ◌+◌, ◌<◌, ◌≤◌, true, false, cond, leb, ltb, not, List, [], ◌∷◌, ◌++◌, length, get_or, refl, sym, ap, ◌∙◌, inl, inr, arith}
use Rattle.std.specs.List.{insert, remove, position_or_len}
use Rattle.std.proofs.lemmas.Bool.{le-leb, lt-leb, lt-ltb, ltb-true, ltb-false, and_parts}
use Rattle.mem_partition.specs.declared.block.Block.{Block}
use Rattle.mem_partition.specs.declared.hole.Hole.{Hole}
use Rattle.mem_partition.specs.Place.{is_apart, meets_none, Lies}
use Rattle.mem_partition.specs.State.{Laid, with_block}
use Rattle.mem_partition.specs.Holes.{gap, holes_of, put_gap, cut_out}
use Rattle.mem_partition.proofs.Places.{nothing_more}
use Rattle.mem_partition.proofs.Keeping.{apart_cases}

-- ---- a block cut out of the gap that contains it, or of the holes after it

cut_here : (lo at end hi : ℕ) (hs : List Hole) → lo ≤ at → at < end → end ≤ hi → cut_out at end (gap lo hi ++ hs) ≡ gap lo at ++ (gap end hi ++ hs)
cut_here lo at end hi hs low some high =
    ap (λ t. cut_out at end (cond t (record { start = lo; end = hi } ∷ []) [] ++ hs)) (lt-ltb lo hi (omega arith))
    ∙ ap (λ t. cond t (gap lo at ++ (gap end hi ++ hs)) (record { start = lo; end = hi } ∷ cut_out at end hs)) (le-leb end hi high)

cut_after : (lo hi at end : ℕ) (hs : List Hole) → hi ≤ at → at < end → cut_out at end (gap lo hi ++ hs) ≡ gap lo hi ++ cut_out at end hs
cut_after lo hi at end hs high some =
    elim (ltb lo hi) as (λ t. cut_out at end (cond t (record { start = lo; end = hi } ∷ []) [] ++ hs) ≡ cond t (record { start = lo; end = hi } ∷ []) [] ++ cut_out at end hs) [
      | true ↦ ap (λ t. cond t (gap lo at ++ (gap end hi ++ hs)) (record { start = lo; end = hi } ∷ cut_out at end hs)) (lt-leb end hi (omega arith))
      | false ↦ refl
    ]

pub split : (lo hi : ℕ) (bs : List Block) (b : Block) → Laid lo hi bs → 0 < b.size → Lies lo hi bs b.size b.addr → cut_out b.addr (b.addr + b.size) (holes_of lo hi bs) ≡ holes_of lo hi (with_block b bs)
split lo hi [] b laid some lies =
    ap (cut_out b.addr (b.addr + b.size)) (sym (nothing_more (gap lo hi)))
    ∙ (cut_here lo b.addr (b.addr + b.size) hi [] lies.low (omega arith) lies.high
    ∙ ap (λ x. gap lo b.addr ++ x) (nothing_more (gap (b.addr + b.size) hi)))
split lo hi (c ∷ cs) b (c_low, c_some, c_high, laid) some lies =
    let parts = and_parts (is_apart b.size b.addr c) (meets_none cs b.size b.addr) lies.apart in
    let apart = apart_cases b.size b.addr c parts.0 in
    let low = lies.low in
    let high = lies.high in
    elim (ltb b.addr c.addr) as (λ t. ltb b.addr c.addr ≡ t → cut_out b.addr (b.addr + b.size) (gap lo c.addr ++ holes_of (c.addr + c.size) hi cs) ≡ holes_of lo hi (cond t (b ∷ c ∷ cs) (c ∷ with_block b cs))) [
      | true ↦ λ e.
          let k = ltb-true b.addr c.addr e in
          let before : b.addr + b.size ≤ c.addr = elim apart [ inl h ↦ h | inr h ↦ absurd (omega arith) ] in
          cut_here lo b.addr (b.addr + b.size) c.addr (holes_of (c.addr + c.size) hi cs) low (omega arith) before
      | false ↦ λ e.
          let k = ltb-false b.addr c.addr e in
          let after : c.addr + c.size ≤ b.addr = elim apart [ inl h ↦ absurd (omega arith) | inr h ↦ h ] in
          cut_after lo c.addr b.addr (b.addr + b.size) (holes_of (c.addr + c.size) hi cs) (omega arith) (omega arith)
          ∙ ap (λ x. gap lo c.addr ++ x) (split (c.addr + c.size) hi cs b laid some (record { low = after; high = high; apart = parts.1 }))
    ] refl

-- ---- as the code cuts

pub put_first : (lo hi : ℕ) (hs : List Hole) → put_gap 0 lo hi hs ≡ gap lo hi ++ hs
put_first lo hi hs = elim (ltb lo hi) as (λ t. cond t (insert hs 0 (record { start = lo; end = hi })) hs ≡ cond t (record { start = lo; end = hi } ∷ []) [] ++ hs) [ true ↦ refl | false ↦ refl ]

pub put_after : (k lo hi : ℕ) (h : Hole) (hs : List Hole) → put_gap (suc k) lo hi (h ∷ hs) ≡ h ∷ put_gap k lo hi hs
put_after k lo hi h hs =
    elim (ltb lo hi) as (λ t. cond t (insert (h ∷ hs) (suc k) (record { start = lo; end = hi })) (h ∷ hs) ≡ h ∷ cond t (insert hs k (record { start = lo; end = hi })) hs) [ true ↦ refl | false ↦ refl ]

-- the hole at a place left out, and what remains of it on both sides put in
abbrev pub cut_at : ℕ → ℕ → ℕ → Hole → List Hole → List Hole
cut_at k lo hi h hs = put_gap k h.start lo (put_gap k hi h.end (remove hs k))

-- the place of the first hole that ends at or after an address
abbrev pub reaching : ℕ → List Hole → ℕ
reaching hi hs = position_or_len (λ h. leb hi h.end) hs

pub cut_there : (lo hi : ℕ) (hs : List Hole) (d : Hole) → reaching hi hs < length hs → cut_at (reaching hi hs) lo hi (get_or hs (reaching hi hs) d) hs ≡ cut_out lo hi hs
cut_there lo hi [] d less = absurd (omega arith)
cut_there lo hi (h ∷ hs) d less =
    elim (leb hi h.end) as (λ t. cond (not t) (1 + reaching hi hs) 0 < length (h ∷ hs) → cut_at (cond (not t) (1 + reaching hi hs) 0) lo hi (get_or (h ∷ hs) (cond (not t) (1 + reaching hi hs) 0) d) (h ∷ hs) ≡ cond t (gap h.start lo ++ (gap hi h.end ++ hs)) (h ∷ cut_out lo hi hs)) [
      | true ↦ λ q.
          put_first h.start lo (put_gap 0 hi h.end hs)
          ∙ ap (λ x. gap h.start lo ++ x) (put_first hi h.end hs)
      | false ↦ λ q.
          let j = reaching hi hs in
          let next : 1 + j ≡ suc j = omega arith in
          let g = get_or hs j d in
          ap (λ i. cut_at i lo hi (get_or (h ∷ hs) i d) (h ∷ hs)) next
          ∙ ap (put_gap (suc j) g.start lo) (put_after j hi g.end h (remove hs j))
          ∙ put_after j g.start lo h (put_gap j hi g.end (remove hs j))
          ∙ ap (λ x. h ∷ x) (cut_there lo hi hs d (omega (arith, q)))
    ] less

-- if no hole ends at or after an address, nothing is cut out
pub none_reach : (lo hi : ℕ) (hs : List Hole) → length hs ≤ reaching hi hs → cut_out lo hi hs ≡ hs
none_reach lo hi [] h = refl
none_reach lo hi (h ∷ hs) more =
    elim (leb hi h.end) as (λ t. length (h ∷ hs) ≤ cond (not t) (1 + reaching hi hs) 0 → cond t (gap h.start lo ++ (gap hi h.end ++ hs)) (h ∷ cut_out lo hi hs) ≡ h ∷ hs) [
      | true ↦ λ q. absurd (omega (arith, q))
      | false ↦ λ q. ap (λ x. h ∷ x) (none_reach lo hi hs (omega (arith, q)))
    ] more
