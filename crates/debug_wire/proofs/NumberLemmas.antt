-- The numbers that written digits give back.
use Rattle.std.proofs.Common.{◌≡◌, ℕ, zero, suc, ◌+◌, ◌-◌, ◌*◌, ◌/◌, ◌%◌, ◌^◌, ◌<◌, ◌≤◌, Bool, true, false, List, [], ◌∷◌, ◌++◌, length, Some, refl, ap, ◌∙◌, arith, length-append, lit≤, subst}
use Rattle.std.specs.Prelude.{◌&&◌, ◌==◌, nat_lt}
use Rattle.std.specs.Char.{digit_value, is_digit}
use Rattle.std.specs.Fmt.{digit_glyph}
use Rattle.std.specs.List.{list_all}
use Rattle.std.specs.Str.Parse.{AllDigits, digits_value}
use Rattle.std.proofs.Math.Nat.{pow-suc, pow-le-pow_right}
use Rattle.std.proofs.lemmas.Bool.Decides.{nat_tests}
use Rattle.std.proofs.lemmas.Fmt.{digits_is_IsNumeral}
use Rattle.std.proofs.lemmas.Int.Digits.{digits_value_push}
use Rattle.std.proofs.lemmas.List.Folds.{list_all-append}
use Rattle.std.proofs.lemmas.Nat.{div_below}
use Rattle.std.proofs.lemmas.Str.{digit_value-digit_char}
use Rattle.wind_base.specs.Texts.{hex_places}
use Rattle.debug_wire.specs.Laws.{NumberLaw, PlacesLaw}
use Rattle.debug_wire.specs.Numbers.{hex_number, hex_text}

abbrev is_hex : ℕ → Bool
is_hex b = is_digit b 16

-- digits that write a number of 64 bits
pub number_of : (ds : List ℕ) (n : ℕ) → 0 < length ds → list_all is_hex ds ≡ true → digits_value 16 ds ≡ n → n < 2 ^ 64 → hex_number ds ≡ Some n
unfolding hex_number
number_of ds n some all value small =
    let full : (length ds == 0) ≡ false = grind (arith, nat_tests) in
    let fits : nat_lt n (2 ^ 64) ≡ true = grind (arith, nat_tests) in
    rw (full, all, value, fits) refl

all_digits : (ds : List ℕ) → AllDigits 16 ds → list_all is_hex ds ≡ true
all_digits [] h = refl
all_digits (d ∷ ds) h =
    let rest = all_digits ds h.1 in
    let first : is_hex d ≡ true = grind (arith, nat_tests, h.0) in
    rw (first, rest) refl

-- the text of a number
pub number_text : NumberLaw
number_text n small =
    let wide : n < 16 ^ 64 = omega arith in
    let numeral = digits_is_IsNumeral 16 false (lit≤ tt) (lit≤ tt) n wide in
    number_of (hex_text n) n numeral.0.0 (all_digits (hex_text n) numeral.0.1) numeral.1 small

-- ---- digits with leading zeros
glyph_value : (d : ℕ) → d < 16 → digit_value (digit_glyph false d) ≡ d
glyph_value d small = digit_value-digit_char d (omega arith)

glyph_hex : (d : ℕ) → d < 16 → is_hex (digit_glyph false d) ≡ true
glyph_hex d small =
    let fits : nat_lt d 16 ≡ true = grind (arith, nat_tests) in
    ap (λ v. nat_lt v 16) (glyph_value d small) ∙ fits

-- one place more: the digits of the number without its last digit, and that digit
pub places_more : (k n : ℕ) → 0 < k → hex_places k n ≡ hex_places (k - 1) (n / 16) ++ digit_glyph false (n % 16) ∷ []
places_more zero n some = absurd (omega arith)
places_more (suc k) n some = let less : suc k - 1 ≡ k = omega arith in rw less refl

pub places_length : (k n : ℕ) → length (hex_places k n) ≡ k
places_length zero n = refl
places_length (suc k) n = omega (arith, places_length k (n / 16), length-append (hex_places k (n / 16)) (digit_glyph false (n % 16) ∷ []))

both : (x y : Bool) → x ≡ true → y ≡ true → (x && (y && true)) ≡ true
both x y first second = rw (first, second) refl

places_hex : (k n : ℕ) → list_all is_hex (hex_places k n) ≡ true
places_hex zero n = refl
places_hex (suc k) n =
    let last : n % 16 < 16 = omega arith in
    list_all-append is_hex (hex_places k (n / 16)) (digit_glyph false (n % 16) ∷ []) ∙ both _ _ (places_hex k (n / 16)) (glyph_hex (n % 16) last)

sum_of : (high low n : ℕ) → high ≡ n / 16 → low ≡ n % 16 → high * 16 + low ≡ n
sum_of high low n first second = omega arith

places_value : (k n : ℕ) → n < 16 ^ k → digits_value 16 (hex_places k n) ≡ n
places_value zero n small = omega arith
places_value (suc k) n small =
    let last : n % 16 < 16 = omega arith in
    let below : n / 16 < 16 ^ k = div_below n 16 (16 ^ k) (lit≤ tt) (subst (λ w. n < w) (pow-suc 16 k) small) in
    digits_value_push 16 (hex_places k (n / 16)) (digit_glyph false (n % 16))
    ∙ sum_of _ _ n (places_value k (n / 16) below) (glyph_value (n % 16) last)

pub places_text : PlacesLaw
places_text places n some few small =
    let most : 16 ^ places ≤ 16 ^ 16 = pow-le-pow_right (lit≤ tt) few in
    number_of (hex_places places n) n (omega (arith, places_length places n)) (places_hex places n) (places_value places n small) (omega arith)
