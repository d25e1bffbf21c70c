-- The value of digits.
use Rattle.std.proofs.Common.{◌≡◌, ℕ, ◌+◌, ◌*◌, ◌<◌, ◌≤◌, List, [], ◌∷◌, suc, ap, sym, ◌∙◌, length, drop, arith}
use Rattle.std.proofs.Math.Seq.{drop-cons}
use Rattle.std.specs.Prelude.{slice_index, None}
use Rattle.std.proofs.Math.Nat.{le-mul_of_pos_right}
use Rattle.std.specs.Char.{digit_value}
use Rattle.std.specs.Str.Parse.{digits_value_after, digits_value}
use Rattle.source_text.specs.Numbers.{value_within}

pub digit_most : (b : ℕ) → digit_value b ≤ 36
digit_most b = grind arith

-- more digits never make a value smaller
pub value_grows : (radix n : ℕ) (ds : List ℕ) → 1 ≤ radix → n ≤ digits_value_after radix n ds
value_grows radix n [] h = omega arith
value_grows radix n (d ∷ ds) h = let more = value_grows radix (n * radix + digit_value d) ds h in let p : n ≤ n * radix = le-mul_of_pos_right n h in omega arith

-- a value that exceeds 32 bits still does after more digits
pub too_great : (radix n : ℕ) (ds : List ℕ) → 1 ≤ radix → 0xffffffff < n → value_within (digits_value_after radix n ds) ≡ None
too_great radix n ds h m = let more = value_grows radix n ds h in grind arith

-- there is no number, if a digit makes the value exceed 32 bits
pub made_great : (radix n i : ℕ) (ds : List ℕ) → 1 ≤ radix → i < length ds → 0xffffffff < n * radix + digit_value (slice_index ds i)
    → digits_value_after radix n (drop i ds) ≡ digits_value radix ds → None ≡ value_within (digits_value radix ds)
made_great radix n i ds h k m e =
    let here : digits_value_after radix n (drop i ds) ≡ digits_value_after radix (n * radix + digit_value (slice_index ds i)) (drop (suc i) ds) = ap (digits_value_after radix n) (drop-cons ds i 0 k) in
    sym (too_great radix (n * radix + digit_value (slice_index ds i)) (drop (suc i) ds) h m) ∙ ap value_within (sym here ∙ e)
