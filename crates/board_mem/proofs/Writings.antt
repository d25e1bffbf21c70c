-- Consecutive writes, and writes of nothing.
use Rattle.std.proofs.Common.{◌≡◌, ℕ, ◌+◌, ◌-◌, ◌%◌, ◌<◌, ◌≤◌, Bool, true, false, List, [], ◌++◌, length, get_or, set, take, drop, refl, sym, ap, ap₂, ◌∙◌, arith, inl, inr}
use Rattle.std.specs.Prelude.{◌||◌, if◌then◌else◌}
use Rattle.std.proofs.lemmas.Bool.Decides.{nat_tests}
use Rattle.std.proofs.lemmas.Bool.{cases_eq}
use Rattle.std.proofs.lemmas.List.{append-nil, append_assoc, ext_get_or, get_or-set_same, get_or-set_other, length-append, length-take-le, length-set, take_at, take-take, take-append-le, drop_at, drop-drop, take-append-drop}
use Rattle.std.proofs.lemmas.List.FromFn.{length-map-range_with_len, get_or-map-range_with_len}
use Rattle.board_mem.specs.Memory.{with_bytes}
use Rattle.board_mem.specs.Pages.{PagesState, page_of, page_bytes, was_made, meets, made_with, written_at}

-- ---- the bytes
pub with_bytes-append : (ram : List ℕ) (at : ℕ) (xs ys : List ℕ) → at ≤ length ram → with_bytes (with_bytes ram at xs) (at + length xs) ys ≡ with_bytes ram at (xs ++ ys)
with_bytes-append ram at xs ys le =
    let prefix = take at ram ++ xs in
    let back = drop (at + length xs) ram in
    let size : length prefix ≡ at + length xs = omega (arith, length-append (take at ram) xs, length-take-le at ram le) in
    let before : take (at + length xs) (prefix ++ back) ≡ prefix = take_at prefix back (at + length xs) size in
    let after : drop (at + length xs + length ys) (prefix ++ back) ≡ drop (at + length (xs ++ ys)) ram =
    sym (drop-drop (length ys) (at + length xs) (prefix ++ back)) ∙ ap (drop (length ys)) (drop_at prefix back (at + length xs) size)
    ∙ drop-drop (length ys) (at + length xs) ram ∙ ap (λ n. drop n ram) (omega (arith, length-append xs ys)) in
    ap₂ (λ b d. b ++ ys ++ d) before after ∙ ap (λ b. b ++ drop (at + length (xs ++ ys)) ram) (append_assoc (take at ram) xs ys)

-- bytes written before other bytes
with_bytes-prepend : (ram : List ℕ) (at : ℕ) (xs ys : List ℕ) → at + length xs ≤ length ram → with_bytes (with_bytes ram (at + length xs) ys) at xs ≡ with_bytes ram at (xs ++ ys)
with_bytes-prepend ram at xs ys le =
    let prefix = take (at + length xs) ram in
    let back = drop (at + length xs + length ys) ram in
    let size : length prefix ≡ at + length xs = length-take-le (at + length xs) ram le in
    let before : take at (prefix ++ ys ++ back) ≡ take at ram =
    ap (take at) (append_assoc prefix ys back) ∙ take-append-le at prefix (ys ++ back) (omega (arith, size)) ∙ take-take at (at + length xs) ram (omega arith) in
    let after : drop (at + length xs) (prefix ++ ys ++ back) ≡ ys ++ drop (at + length (xs ++ ys)) ram =
    ap (drop (at + length xs)) (append_assoc prefix ys back) ∙ drop_at prefix (ys ++ back) (at + length xs) size
    ∙ ap (λ n. ys ++ drop n ram) (omega (arith, length-append xs ys)) in
    let rest = drop (at + length (xs ++ ys)) ram in
    ap₂ (λ b d. b ++ xs ++ d) before after ∙ sym (append_assoc (take at ram ++ xs) ys rest) ∙ ap (λ b. b ++ rest) (append_assoc (take at ram) xs ys)

pub with_bytes-none : (ram : List ℕ) (at : ℕ) → with_bytes ram at [] ≡ ram
with_bytes-none ram at =
    ap₂ (λ b d. b ++ d) (append-nil (take at ram)) (ap (λ n. drop n ram) (omega arith)) ∙ take-append-drop at ram

-- ---- the pages
pub length-made_with : (made : List Bool) (at n : ℕ) → length (made_with made at n) ≡ length made
unfolding made_with
length-made_with made at n = length-map-range_with_len (λ (k : ℕ). was_made made k || meets at n k) 0 (length made)

get_or-made_with : (made : List Bool) (at n k : ℕ) → k < length made → get_or (made_with made at n) k false ≡ (was_made made k || meets at n k)
unfolding made_with
get_or-made_with made at n k h =
    get_or-map-range_with_len (λ (p : ℕ). was_made made p || meets at n p) 0 (length made) k k false h (omega arith)

-- two lists of pages are equal if each page was created in both or in neither
made_with-is : (made now : List Bool) (at n : ℕ) → length now ≡ length made → ((k : ℕ) → k < length made → (was_made made k || meets at n k) ≡ get_or now k false) → made_with made at n ≡ now
made_with-is made now at n size same =
    let size_is = length-made_with made at n in
    ext_get_or false (made_with made at n) now (size_is ∙ sym size) (λ k h.
    let within : k < length made = omega (arith, size_is) in
    get_or-made_with made at n k within ∙ same k within)

-- a test, or one that fails
or_false : (a b : Bool) → b ≡ false → (a || b) ≡ a
or_false true b e = refl
or_false false b e = e

or_true : (a b : Bool) → b ≡ true → (a || b) ≡ true
or_true true b e = refl
or_true false b e = e

or_or : (a b c d : Bool) → (b || c) ≡ d → ((a || b) || c) ≡ (a || d)
or_or true b c d e = refl
or_or false b c d e = e

-- an empty range is in no page
pub made_with-none : (made : List Bool) (at : ℕ) → made_with made at 0 ≡ made
made_with-none made at = made_with-is made made at 0 refl (λ k h. or_false (was_made made k) (meets at 0 k) refl)

-- a range in one page is in no other page
pub made_with-page : (made : List Bool) (at n : ℕ) → 0 < n → at % page_bytes + n ≤ page_bytes → page_of at < length made → made_with made at n ≡ set made (page_of at) true
made_with-page made at n some page h =
    let last : page_of (at + n - 1) ≡ page_of at = omega arith in
    made_with-is made (set made (page_of at) true) at n (length-set made (page_of at) true) (λ k within.
    elim (cases_eq k (page_of at)) as (λ _. (was_made made k || meets at n k) ≡ get_or (set made (page_of at) true) k false) [
      | inl e ↦
          let met : meets at n k ≡ true = grind (arith, nat_tests) in
          or_true (was_made made k) (meets at n k) met ∙ sym (ap (λ p. get_or (set made (page_of at) true) p false) e ∙ get_or-set_same made (page_of at) true false h)
      | inr other ↦
          let missed : meets at n k ≡ false = grind (arith, nat_tests) in
          or_false (was_made made k) (meets at n k) missed ∙ sym (get_or-set_other made (page_of at) k true false other)
    ])

-- a range and the one after it are together in the pages of both
meets-append : (at n m k : ℕ) → (meets at n k || meets (at + n) m k) ≡ meets at (n + m) k
meets-append at n m k = grind (arith, nat_tests)

pub made_with-append : (made : List Bool) (at n m : ℕ) → made_with (made_with made at n) (at + n) m ≡ made_with made at (n + m)
made_with-append made at n m =
    let size = length-made_with made at n in
    made_with-is (made_with made at n) (made_with made at (n + m)) (at + n) m (length-made_with made at (n + m) ∙ sym size) (λ k h.
    let within : k < length made = omega (arith, size) in
    ap (λ b. b || meets (at + n) m k) (get_or-made_with made at n k within)
    ∙ or_or (was_made made k) (meets at n k) (meets (at + n) m k) (meets at (n + m) k) (meets-append at n m k)
    ∙ sym (get_or-made_with made at (n + m) k within))

-- the same in the other order
meets-prepend : (at n m k : ℕ) → (meets (at + n) m k || meets at n k) ≡ meets at (n + m) k
meets-prepend at n m k = grind (arith, nat_tests)

made_with-prepend : (made : List Bool) (at n m : ℕ) → made_with (made_with made (at + n) m) at n ≡ made_with made at (n + m)
made_with-prepend made at n m =
    let size = length-made_with made (at + n) m in
    made_with-is (made_with made (at + n) m) (made_with made at (n + m)) at n (length-made_with made at (n + m) ∙ sym size) (λ k h.
    let within : k < length made = omega (arith, size) in
    ap (λ b. b || meets at n k) (get_or-made_with made (at + n) m k within)
    ∙ or_or (was_made made k) (meets (at + n) m k) (meets at n k) (meets at (n + m) k) (meets-prepend at n m k)
    ∙ sym (get_or-made_with made at (n + m) k within))

-- ---- both
pub written_at-append : (s : PagesState) (at : ℕ) (xs ys : List ℕ) → at ≤ length s.bytes → written_at (written_at s at xs) (at + length xs) ys ≡ written_at s at (xs ++ ys)
written_at-append s at xs ys le =
    let b = with_bytes-append s.bytes at xs ys le in
    let m = made_with-append s.made at (length xs) (length ys) ∙ ap (made_with s.made at) (sym (length-append xs ys)) in
    ap₂ (λ (bytes : List ℕ) (made : List Bool). let r : PagesState = record { bytes = bytes; made = made } in r) b m

pub written_at-prepend : (s : PagesState) (at : ℕ) (xs ys : List ℕ) → at + length xs ≤ length s.bytes → written_at (written_at s (at + length xs) ys) at xs ≡ written_at s at (xs ++ ys)
written_at-prepend s at xs ys le =
    let b = with_bytes-prepend s.bytes at xs ys le in
    let m = made_with-prepend s.made at (length xs) (length ys) ∙ ap (made_with s.made at) (sym (length-append xs ys)) in
    ap₂ (λ (bytes : List ℕ) (made : List Bool). let r : PagesState = record { bytes = bytes; made = made } in r) b m

pub written_at-none : (s : PagesState) (at : ℕ) → written_at s at [] ≡ s
written_at-none s at =
    ap₂ (λ (bytes : List ℕ) (made : List Bool). let r : PagesState = record { bytes = bytes; made = made } in r) (with_bytes-none s.bytes at) (made_with-none s.made at)

-- if nothing is written, or the write is refused, the pages stay
pub written_or-none : (s : PagesState) (at : ℕ) (there : Bool) → (if there then written_at s at [] else s) ≡ s
written_or-none s at true = written_at-none s at
written_or-none s at false = refl
