-- What parsing a numeral gives.
use Rattle.std.proofs.Common.{◌≡◌, ℕ, ◌-◌, ◌<◌, ◌^◌, true, List, [], ◌∷◌, Result, Ok, Err, refl, ap, sym, ◌∙◌, arith, length}
use Rattle.std.specs.Prelude.{◌&&◌}
use Rattle.std.specs.Result.{result_ok}
use Rattle.std.specs.List.{list_all}
use Rattle.std.specs.Char.{is_ascii_digit}
use Rattle.std.specs.Str.{all_ascii_digits, IsUtf8}
use Rattle.std.specs.Str.Parse.{digits_value, ParsesUnsigned}
use Rattle.std.proofs.lemmas.Str.{IsUtf8-from_ascii}
use Rattle.std.proofs.lemmas.Str.Parse.{IsNumeralModel, numerals_by_value, tells_all_ascii_digits, parse_digits}
use Rattle.std.proofs.lemmas.Fmt.{IsAscii-from_digits}
use Rattle.std.proofs.lemmas.Bool.Decides.{nat_tests}
use Rattle.wind_base.specs.Decimal.{is_numeral, number_within}

all_digits : (ds : List ℕ) → list_all is_ascii_digit ds ≡ all_ascii_digits ds
all_digits [] = refl
all_digits (d ∷ ds) = ap (λ b. is_ascii_digit d && b) (all_digits ds)

-- the digits of a numeral
own : IsNumeralModel (λ ds. all_ascii_digits ds ≡ true) (digits_value 10)
own = numerals_by_value _ tells_all_ascii_digits

numeral_digits : (ds : List ℕ) → is_numeral ds ≡ true → all_ascii_digits ds ≡ true
numeral_digits ds h = let passed : list_all is_ascii_digit ds ≡ true = grind (arith, nat_tests) in sym (all_digits ds) ∙ passed

numeral_some : (ds : List ℕ) → is_numeral ds ≡ true → 0 < length ds
numeral_some ds h = grind (arith, nat_tests)

pub numeral_text : (ds : List ℕ) → is_numeral ds ≡ true → IsUtf8 ds
numeral_text ds h = IsUtf8-from_ascii ds (IsAscii-from_digits ds (own.to ds (numeral_digits ds h)))

pub numeral_parsed : {E : Type 0} (ds : List ℕ) (r : Result ℕ E) → is_numeral ds ≡ true → ParsesUnsigned 64 10 ds r → result_ok r ≡ number_within (2 ^ 64 - 1) ds
numeral_parsed {E} ds (Ok n) h p =
    let k : ((0 < length ds) × (digits_value 10 ds < 2 ^ 64)) × (n ≡ digits_value 10 ds) = parse_digits own {E = E} 64 ds (Ok n) p (numeral_digits ds h) in grind (arith, nat_tests)
numeral_parsed {E} ds (Err e) h p =
    let k : (0 < length ds) × (digits_value 10 ds < 2 ^ 64) → ⊥ = parse_digits own {E = E} 64 ds (Err e) p (numeral_digits ds h) in
    let some : 0 < length ds = numeral_some ds h in
    let wide : digits_value 10 ds < 2 ^ 64 → ⊥ = λ w. k (some, w) in
    grind (arith, nat_tests)
