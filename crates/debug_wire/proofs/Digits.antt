-- The value of hexadecimal digits.
use Rattle.std.proofs.Common.{◌≡◌, ℕ, ◌+◌, ◌*◌, ◌<◌, ◌≤◌, ◌^◌, List, [], ◌∷◌, suc, ap, sym, ◌∙◌, length, drop, arith}
use Rattle.std.proofs.Math.Seq.{drop-cons}
use Rattle.std.specs.Prelude.{slice_index, None}
use Rattle.std.specs.Char.{digit_value}
use Rattle.std.specs.Str.Parse.{digits_value_after, digits_value}
use Rattle.debug_wire.specs.Numbers.{within_64_bits}

pub digit_most : (b : ℕ) → digit_value b ≤ 36
digit_most b = grind arith

-- more digits never make a value smaller
value_grows : (n : ℕ) (ds : List ℕ) → n ≤ digits_value_after 16 n ds
value_grows n [] = omega arith
value_grows n (d ∷ ds) = let more = value_grows (n * 16 + digit_value d) ds in omega arith

-- a value that exceeds 64 bits still does after more digits
too_great : (n : ℕ) (ds : List ℕ) → 2 ^ 64 ≤ n → within_64_bits (digits_value_after 16 n ds) ≡ None
too_great n ds m = let more = value_grows n ds in grind arith

-- there is no number, if a digit makes the value exceed 64 bits
pub made_great : (n i : ℕ) (ds : List ℕ) → i < length ds → 2 ^ 64 ≤ n * 16 + digit_value (slice_index ds i)
    → digits_value_after 16 n (drop i ds) ≡ digits_value 16 ds → None ≡ within_64_bits (digits_value 16 ds)
made_great n i ds k m e =
    let here : digits_value_after 16 n (drop i ds) ≡ digits_value_after 16 (n * 16 + digit_value (slice_index ds i)) (drop (suc i) ds) = ap (digits_value_after 16 n) (drop-cons ds i 0 k) in
    sym (too_great (n * 16 + digit_value (slice_index ds i)) (drop (suc i) ds) m) ∙ ap within_64_bits (sym here ∙ e)
