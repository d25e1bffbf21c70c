-- Which pages were created, and the pages at the start.
use Rattle.std.proofs.Common.{◌≡◌, ℕ, zero, suc, ◌+◌, ◌%◌, ◌<◌, Bool, false, cond, List, [], ◌∷◌, length, get_or, map, replicate, refl, sym, ap, ◌∙◌, arith}
use Rattle.std.specs.Prelude.{nat_lt}
use Rattle.std.proofs.lemmas.Bool.Decides.{nat_tests}
use Rattle.std.proofs.lemmas.List.{get_or-map, length-replicate}
use Rattle.std.proofs.lemmas.List.Sums.{sum_by-cons}
use Rattle.board_mem.specs.Pages.{page_of, page_bytes, pages_for, was_made, made_count, ArePages}
use Rattle.board_mem.specs.Store.{offset_of, bytes_of, made_of, numbered, IsStore}
use Rattle.board_mem.proofs.Stores.{get_or-bytes_of, length-bytes_of, length-made_of, bytes_of-is}

-- a page was created exactly if it has a number
was_made-made_of : (index : List ℕ) (page : ℕ) → page < length index → was_made (made_of index) page ≡ nat_lt 0 (get_or index page 0)
unfolding made_of
was_made-made_of index page h = get_or-map (λ n. nat_lt 0 n) index page 0 false h

-- as many pages were created as have numbers
pub made_count-made_of : (index : List ℕ) → made_count (made_of index) ≡ numbered index
unfolding made_of
made_count-made_of [] = refl
made_count-made_of (x ∷ xs) =
    let count : Bool → ℕ = λ m. cond m 1 0 in
    let numbers : ℕ → ℕ = λ n. cond (nat_lt 0 n) 1 0 in
    sum_by-cons count (nat_lt 0 x) (map (λ n. nat_lt 0 n) xs) ∙ ap (λ r. cond (nat_lt 0 x) 1 0 + r) (made_count-made_of xs) ∙ sym (sum_by-cons numbers x xs)

-- the byte at an address whose page has no number
blank_byte : (size : ℕ) (index store : List ℕ) (at : ℕ) → ((i : ℕ) → i < page_bytes → get_or store i 0 ≡ 0) → get_or index (page_of at) 0 ≡ 0 → get_or store (offset_of index at) 0 ≡ 0
blank_byte size index store at zeros none =
    let start : offset_of index at ≡ at % page_bytes = omega (arith, none) in
    ap (λ k. get_or store k 0) start ∙ zeros (at % page_bytes) (omega arith)

-- what the store says about its pages
pub ArePages-stored : (size : ℕ) (index store : List ℕ) (capacity : ℕ) → IsStore size index store capacity → ArePages (record { bytes = bytes_of size index store; made = made_of index })
ArePages-stored size index store capacity kept =
    let size_is = length-bytes_of size index store in
    record {
      cover = length-made_of index ∙ kept.cover ∙ ap pages_for (sym size_is);
      blank = λ at h unmade.
          let within : at < size = omega (arith, size_is) in
          let page : page_of at < length index = omega (arith, kept.cover) in
          let test = sym (was_made-made_of index (page_of at) page) ∙ unmade in
          let none : get_or index (page_of at) 0 ≡ 0 = grind (arith, nat_tests) in
          get_or-bytes_of size index store at within ∙ blank_byte size index store at kept.stored.zeros none;
    }

-- a list of zeros has a zero at each index, and after its end
pub get_or-zeros : (n i : ℕ) → get_or (replicate n zero) i zero ≡ zero
get_or-zeros zero i = refl
get_or-zeros (suc n) zero = refl
get_or-zeros (suc n) (suc i) = get_or-zeros n i

-- at the start all bytes are zeros
pub bytes_of-unmade : (size count : ℕ) (store : List ℕ) → ((i : ℕ) → i < page_bytes → get_or store i 0 ≡ 0) → bytes_of size (replicate count 0) store ≡ replicate size 0
bytes_of-unmade size count store zeros =
    bytes_of-is size (replicate count 0) store (replicate size 0) (length-replicate size zero) (λ at h.
    blank_byte size (replicate count 0) store at zeros (get_or-zeros count (page_of at)) ∙ sym (get_or-zeros size at))

-- and no page was created
pub made_of-unmade : (count : ℕ) → made_of (replicate count 0) ≡ replicate count false
unfolding made_of
made_of-unmade zero = refl
made_of-unmade (suc count) = ap (λ ms. false ∷ ms) (made_of-unmade count)
