-- Fields before a separator.
use Rattle.std.proofs.Common.{◌≡◌, ℕ, suc, ◌+◌, ◌/◌, ◌%◌, ◌<◌, ◌^◌, Bool, true, false, cond, List, [], ◌∷◌, ◌++◌, length, take, drop, Option, Some, None, refl, sym, ap, ◌∙◌, inl, inr, arith, length-append}
use Rattle.std.specs.Prelude.{not, nat_lt, ◌==◌, ◌&&◌, slice_index}
use Rattle.std.specs.Char.{is_digit}
use Rattle.std.specs.List.{list_all, position_or_len}
use Rattle.std.proofs.Math.Seq.{drop-append-add, take-append_seam}
use Rattle.std.proofs.lemmas.Bool.Decides.{eqb_tells, nat_tests}
use Rattle.hex.specs.Hex.{IsBytes, encode_lower, encode_with, hex_digit_value, lower_digits}
use Rattle.hex.proofs.HexLemmas.{IsDigits-lower_digits}
use Rattle.debug_wire.specs.Numbers.{hex_number, hex_text}
use Rattle.debug_wire.proofs.NumberLemmas.{number_text}
use Rattle.debug_packet.specs.Fields.{place_of}

-- no byte is the separator
abbrev pub lacks : ℕ → List ℕ → Bool
lacks c xs = list_all (λ b. not (b == c)) xs

pub both_true : (x y : Bool) → (x && y) ≡ true → (x ≡ true) × (y ≡ true)
both_true true y e = (refl, e)
both_true false y e = absurd (cc)

-- ---- the place of the separator
first_place : (c : ℕ) (xs ys : List ℕ) → lacks c xs ≡ true → position_or_len (λ b. b == c) (xs ++ c ∷ ys) ≡ length xs
first_place c [] ys h = let same : (c == c) ≡ true = grind (arith, nat_tests) in rw same refl
first_place c (x ∷ xs) ys h =
    let parts = both_true (not (x == c)) (lacks c xs) h in
    let rest = first_place c xs ys parts.1 in
    rw parts.0 (omega (arith, rest))

pub place_is : (c : ℕ) (xs ys : List ℕ) → lacks c xs ≡ true → place_of c (xs ++ c ∷ ys) ≡ Some (length xs)
place_is c xs ys h =
    let at = first_place c xs ys h in
    let long = length-append xs (c ∷ ys) in
    let within : nat_lt (length xs) (length (xs ++ c ∷ ys)) ≡ true = grind (arith, nat_tests, long) in
    rw (at, within) refl

pub take_is : (xs ys : List ℕ) → take (length xs) (xs ++ ys) ≡ xs
take_is xs ys = take-append_seam xs ys

pub drop_is : (c : ℕ) (xs ys : List ℕ) → drop (length xs + 1) (xs ++ c ∷ ys) ≡ ys
drop_is c xs ys = drop-append-add xs (c ∷ ys) 1

-- ---- texts without a separator
other_byte : (x c : ℕ) → (x ≡ c → ⊥) → not (x == c) ≡ true
other_byte x c other = elim (eqb_tells x c) [ inl p ↦ absurd (other p.1) | inr p ↦ ap not p.0 ]

-- hexadecimal digits
no_separator : (x c : ℕ) → is_digit x 16 ≡ true → is_digit c 16 ≡ false → not (x == c) ≡ true
no_separator x c digit none = other_byte x c (λ same. (let both : true ≡ false = sym digit ∙ ap (λ b. is_digit b 16) same ∙ none in cc))

digits_lack : (c : ℕ) (xs : List ℕ) → is_digit c 16 ≡ false → list_all (λ b. is_digit b 16) xs ≡ true → lacks c xs ≡ true
digits_lack c [] none all = refl
digits_lack c (x ∷ xs) none all =
    let parts = both_true (is_digit x 16) (list_all (λ b. is_digit b 16) xs) all in
    let first = no_separator x c parts.0 none in
    let rest = digits_lack c xs none parts.1 in
    rw (first, rest) refl

is_tested : (t : Bool) (o : Option ℕ) (n : ℕ) → cond t o None ≡ Some n → t ≡ true
is_tested true o n e = refl
is_tested false o n e = absurd (cc)

all_digits : (xs : List ℕ) (n : ℕ) → hex_number xs ≡ Some n → list_all (λ b. is_digit b 16) xs ≡ true
unfolding hex_number
all_digits xs n e = (both_true (not (length xs == 0)) (list_all (λ b. is_digit b 16) xs) (is_tested _ _ n e)).1

pub number_lacks : (c n : ℕ) → is_digit c 16 ≡ false → n < 2 ^ 64 → lacks c (hex_text n) ≡ true
number_lacks c n none small = digits_lack c (hex_text n) none (all_digits (hex_text n) n (number_text n small))

-- bytes in hexadecimal digits
digit_lacks : (c d : ℕ) → hex_digit_value c ≡ None → d < 16 → not (slice_index lower_digits d == c) ≡ true
digit_lacks c d none small =
    other_byte _ c (λ same. (let both : Some d ≡ None = sym (IsDigits-lower_digits d small) ∙ ap hex_digit_value same ∙ none in cc))

pub bytes_lack : (c : ℕ) (xs : List ℕ) → hex_digit_value c ≡ None → IsBytes xs → lacks c (encode_lower xs) ≡ true
unfolding encode_with
bytes_lack c [] none are = refl
bytes_lack c (b ∷ bs) none are =
    let fits : b < 256 = are 0 in
    let high = digit_lacks c (b / 16) none (omega arith) in
    let low = digit_lacks c (b % 16) none (omega arith) in
    let rest = bytes_lack c bs none (λ i. are (suc i)) in
    rw (high, low, rest) refl
