-- How many addresses of the pool are in no block: the size of the pool without the bytes in blocks.
use Rattle.std.proofs.Common.{◌≡◌, ℕ, zero, suc, ◌+◌, ◌-◌, ◌<◌, ◌≤◌, Bool, true, false, cond, leb, ltb, not, ◌&&◌, ◌||◌, List, [], ◌∷◌, inl, inr, refl, sym, ap, ◌∙◌, arith, zero-add}
use Rattle.std.specs.List.{count_by, list_any, range_with_len}
use Rattle.std.proofs.lemmas.Bool.{le-leb, lt-ltb, le-ltb, lt-leb, and_from, and_left, and_right, cases_lt}
use Rattle.std.proofs.lemmas.List.Sums.{sum_by-cons}
use Rattle.mem_partition.specs.declared.block.Block.{Block}
use Rattle.mem_partition.specs.State.{PartState, IsPart, Laid, used, is_free, free_bytes}

-- how many of n numbers from s on pass
abbrev count : (ℕ → Bool) → ℕ → ℕ → ℕ
count p s n = count_by p (range_with_len s n)

-- 1 for a number that passes
abbrev one_if : Bool → ℕ
one_if t = cond t 1 0

count-suc : (p : ℕ → Bool) (s n : ℕ) → count p s (suc n) ≡ one_if (p s) + count p (s + 1) n
count-suc p s n = sum_by-cons (λ a. one_if (p a)) s (range_with_len (s + 1) n)

-- all of them, if each passes
all_pass : (p : ℕ → Bool) (s n : ℕ) → ((a : ℕ) → s ≤ a → a < s + n → p a ≡ true) → count p s n ≡ n
all_pass p s zero h = refl
all_pass p s (suc n) h =
    let rest = all_pass p (s + 1) n (λ a low high. h a (omega arith) (omega arith)) in
    let first : one_if (p s) ≡ 1 = ap one_if (h s (omega arith) (omega arith)) in
    let more = count-suc p s n in omega arith

-- none of them, if none passes
none_pass : (p : ℕ → Bool) (s n : ℕ) → ((a : ℕ) → s ≤ a → a < s + n → p a ≡ false) → count p s n ≡ 0
none_pass p s zero h = refl
none_pass p s (suc n) h =
    let rest = none_pass p (s + 1) n (λ a low high. h a (omega arith) (omega arith)) in
    let first : one_if (p s) ≡ 0 = ap one_if (h s (omega arith) (omega arith)) in
    let more = count-suc p s n in omega arith

-- equally many, if the same pass
same_pass : (p q : ℕ → Bool) (s n : ℕ) → ((a : ℕ) → s ≤ a → p a ≡ q a) → count p s n ≡ count q s n
same_pass p q s zero h = refl
same_pass p q s (suc n) h =
    let rest = same_pass p q (s + 1) n (λ a low. h a (omega arith)) in
    let first : one_if (p s) ≡ one_if (q s) = ap one_if (h s (omega arith)) in
    let more = count-suc p s n in
    let other = count-suc q s n in omega arith

-- the numbers in two parts
in_parts : (p : ℕ → Bool) (s m n k t : ℕ) → k ≡ m + n → t ≡ s + m → count p s k ≡ count p s m + count p t n
in_parts p s zero n k t e f =
    let ek : k ≡ n = omega arith in
    let es : s ≡ t = omega arith in
    ap (λ j. count p s j) ek ∙ ap (λ j. count p j n) es ∙ sym (zero-add (count p t n))
in_parts p s (suc m) n k t e f =
    let ek : k ≡ suc (m + n) = omega arith in
    let rest = in_parts p (s + 1) m n (m + n) t refl (omega arith) in
    let whole = ap (λ j. count p s j) ek in
    let more = count-suc p s (m + n) in
    let part = count-suc p s m in omega arith

-- the address is in the block
abbrev in_block : Block → ℕ → Bool
in_block b a = leb b.addr a && ltb a (b.addr + b.size)

-- an address before all blocks is in none
pub before_all : (lo hi a : ℕ) (bs : List Block) → Laid lo hi bs → a < lo → is_free bs a ≡ true
before_all lo hi a [] laid h = refl
before_all lo hi a (b ∷ bs) (low, some, high, laid) h =
    let outside = and_left (leb b.addr a) (ltb a (b.addr + b.size)) (lt-leb b.addr a (omega arith)) in
    ap (λ t. not (t || list_any (λ c. in_block c a) bs)) outside ∙ before_all (b.addr + b.size) hi a bs laid (omega arith)

-- an address of the first block is not free
pub in_first : (b : Block) (bs : List Block) (a : ℕ) → b.addr ≤ a → a < b.addr + b.size → is_free (b ∷ bs) a ≡ false
in_first b bs a low high =
    ap (λ t. not (t || list_any (λ c. in_block c a) bs))
    (and_from (leb b.addr a) (ltb a (b.addr + b.size)) (le-leb b.addr a low) (lt-ltb a (b.addr + b.size) high))

-- after the first block, the others decide
pub after_first : (b : Block) (bs : List Block) (a : ℕ) → b.addr + b.size ≤ a → is_free (b ∷ bs) a ≡ is_free bs a
after_first b bs a h =
    ap (λ t. not (t || list_any (λ c. in_block c a) bs))
    (and_right (leb b.addr a) (ltb a (b.addr + b.size)) (le-ltb a (b.addr + b.size) h))

free_counts : (lo hi : ℕ) (bs : List Block) → lo ≤ hi → Laid lo hi bs → count (is_free bs) lo (hi - lo) + used bs ≡ hi - lo
free_counts lo hi [] h laid = let all = all_pass (is_free []) lo (hi - lo) (λ a low high. refl) in omega arith
free_counts lo hi (b ∷ bs) h (low, some, high, laid) =
    let p = is_free (b ∷ bs) in
    let end = b.addr + b.size in
    let one = in_parts p lo (b.addr - lo) (hi - b.addr) (hi - lo) b.addr (omega arith) (omega arith) in
    let two = in_parts p b.addr b.size (hi - end) (hi - b.addr) end (omega arith) refl in
    let before = all_pass p lo (b.addr - lo) (λ a l r. before_all b.addr hi a (b ∷ bs) (omega arith, some, high, laid) (omega arith)) in
    let inside = none_pass p b.addr b.size (λ a l r. in_first b bs a l r) in
    let after = same_pass p (is_free bs) end (hi - end) (λ a l. after_first b bs a l) in
    let rest = free_counts end hi bs high laid in
    let sizes = sum_by-cons (λ (c : Block). c.size) b bs in omega arith

-- a pool that ends before it begins has no block
none_held : (lo hi : ℕ) (bs : List Block) → hi < lo → Laid lo hi bs → used bs ≡ 0
none_held lo hi [] h laid = refl
none_held lo hi (b ∷ bs) h (low, some, high, laid) = absurd (omega arith)

pub free_is : (s : PartState) → IsPart s → free_bytes s ≡ s.end - s.start - used s.blocks
unfolding free_bytes
free_is s k = elim (cases_lt s.end s.start) [
  | inl less ↦
      let none : s.end - s.start ≡ 0 = omega arith in
      let empty : count (is_free s.blocks) s.start (s.end - s.start) ≡ 0 = ap (λ n. count (is_free s.blocks) s.start n) none in
      omega arith
  | inr more ↦ let all = free_counts s.start s.end s.blocks more k.laid in omega arith
]
