-- The bytes of RAM and of the gates after it.
use Rattle.std.proofs.Common.{◌≡◌, ℕ, zero, suc, ◌+◌, ◌-◌, ◌<◌, ◌≤◌, true, false, cond, List, [], ◌++◌, length, min, take, drop, inl, inr, refl, sym, ap, ◌∙◌, arith}
use Rattle.std.specs.Prelude.{◌||◌, ◌==◌, nat_le, if◌then◌else◌}
use Rattle.std.proofs.lemmas.Bool.{cases_lt}
use Rattle.std.proofs.lemmas.Bool.Decides.{nat_tests}
use Rattle.std.proofs.lemmas.List.{append-nil, drop-append-le, length-drop, take-append-le, take_all, take_min}
use Rattle.std.proofs.Math.ListN.{drop_of_length-le}
use Rattle.std.proofs.Math.Seq.{drop-append-add, take-append-add}
use Rattle.board_mem.specs.Memory.{bytes_at, has}
use Rattle.debug_view.specs.Memory.{gate_code, gate_codes}

-- the bytes of two lists from a place on
drop_two : (xs ys : List ℕ) (n : ℕ) → drop n (xs ++ ys) ≡ drop n xs ++ drop (n - length xs) ys
drop_two xs ys n =
    elim (cases_lt n (length xs)) [
      | inl less ↦
          let none : n - length xs ≡ 0 = omega arith in
          drop-append-le n xs ys (omega arith) ∙ ap (λ k. drop n xs ++ drop k ys) (sym none)
      | inr more ↦
          let whole : n ≡ length xs + (n - length xs) = omega arith in
          ap (λ k. drop k (xs ++ ys)) whole ∙ drop-append-add xs ys (n - length xs)
          ∙ ap (λ zs. zs ++ drop (n - length xs) ys) (sym (drop_of_length-le xs more))
    ]

take_two : (xs ys : List ℕ) (n : ℕ) → take n (xs ++ ys) ≡ take n xs ++ take (n - length xs) ys
take_two xs ys n =
    elim (cases_lt n (length xs)) [
      | inl less ↦
          let none : n - length xs ≡ 0 = omega arith in
          take-append-le n xs ys (omega arith) ∙ sym (append-nil (take n xs)) ∙ ap (λ k. take n xs ++ take k ys) (sym none)
      | inr more ↦
          let whole : n ≡ length xs + (n - length xs) = omega arith in
          ap (λ k. take k (xs ++ ys)) whole ∙ take-append-add xs ys (n - length xs)
          ∙ ap (λ zs. zs ++ take (n - length xs) ys) (sym (take_all n xs more))
    ]

-- bytes of two lists: those of the first, and those of the second
pub in_two : (xs ys : List ℕ) (at count : ℕ)
    → take count (drop at (xs ++ ys)) ≡ take count (drop at xs) ++ take (count - (length xs - at)) (drop (at - length xs) ys)
in_two xs ys at count =
    ap (take count) (drop_two xs ys at) ∙ take_two (drop at xs) (drop (at - length xs) ys) count
    ∙ ap (λ n. take count (drop at xs) ++ take (count - n) (drop (at - length xs) ys)) (length-drop at xs)

-- ---- RAM
take_none : (n : ℕ) → take {A = ℕ} n [] ≡ []
take_none zero = refl
take_none (suc n) = refl

-- no byte is past the end
pub none_read : (ram : List ℕ) (at count : ℕ) → length ram ≤ at → [] ≡ take count (drop at ram)
none_read ram at count past = sym (ap (take count) (drop_of_length-le ram past) ∙ take_none count)

all_there : (ram : List ℕ) (at n : ℕ) → at + n ≤ length ram → has ram at n ≡ true
all_there ram at n within =
    let fits : nat_le (at + n) (length ram) ≡ true = grind (arith, nat_tests) in
    elim (n == 0) as (λ t. (t || nat_le (at + n) (length ram)) ≡ true) [ true ↦ refl | false ↦ fits ]

-- as many bytes as there are, at most this many
pub ram_read : (ram : List ℕ) (at count : ℕ) (new old : List ℕ) → at < length ram → length old ≡ min count (length ram - at)
    → new ≡ (if has ram at (length old) then bytes_at ram at (length old) else old) → new ≡ take count (drop at ram)
ram_read ram at count new old some long is =
    let there : has ram at (length old) ≡ true = all_there ram at (length old) (omega (arith, long)) in
    let most : length old ≡ min count (length (drop at ram)) = long ∙ ap (min count) (sym (length-drop at ram)) in
    is ∙ ap (λ t. cond t (bytes_at ram at (length old)) old) there ∙ ap (λ n. take n (drop at ram)) most ∙ take_min count (drop at ram)

-- ---- gates
pub gates_none : gate_codes 0 ≡ []
unfolding gate_codes
gates_none = refl

pub gates_more : (n : ℕ) → 0 < n → gate_codes n ≡ gate_codes (n - 1) ++ gate_code
unfolding gate_codes
gates_more zero some = absurd (omega arith)
gates_more (suc n) some = let less : suc n - 1 ≡ n = omega arith in rw less refl
