-- The tokens of written words, numbers, and the marks between them.
use Rattle.std.proofs.Common.{◌≡◌, ℕ, zero, suc, ◌+◌, ◌<◌, ◌≤◌, Bool, true, false, not, ◌&&◌, ◌||◌, List, [], ◌∷◌, ◌++◌, length, take, drop, get_or, Option, Some, None, refl, sym, ap, ◌∙◌, arith, eqb-true, eq-eqb}
use Rattle.std.specs.Prelude.{if◌then◌else◌, ◌==◌, nat_le, nat_lt, codes}
use Rattle.std.specs.List.{AllByRecursion, list_all}
use Rattle.std.specs.Char.{digit_value, is_digit, is_ascii_digit}
use Rattle.std.specs.Fmt.{decimal}
use Rattle.std.specs.Str.Parse.{AllDigits, IsNumeral, digits_value}
use Rattle.std.proofs.lemmas.Fmt.{decimal_is_IsNumeral, first_decimal, length-decimal-le}
use Prim.Native.Char.{code}
use Rattle.wind_base.specs.Limits.{greatest_word, longest_name}
use Rattle.ppc_text.specs.declared.token.Token.{Token}
use Rattle.ppc_text.specs.declared.token.Token.TheVariants as tokens
use Rattle.source_text.specs.Words.{is_blank, is_word_byte}
use Rattle.source_text.specs.Numbers.{value_within, number_in, number_of}
use Rattle.ppc_text.specs.Tokens.{number_token, name_token, word_token, word_len, dot_first, name_len, plain_at, word_at, token_at, tokens_from}
use Rattle.ppc_text.proofs.Lexing.{token_taken}

-- ---- bytes
no : false ≡ true → ⊥
no e = cc

-- a byte of a word differs from each byte that can't stand in one
word_not : (b c : ℕ) → is_word_byte b ≡ true → is_word_byte c ≡ false → (b == c) ≡ false
word_not b c h k = go (b == c) refl where
  go : (t : Bool) → (b == c) ≡ t → t ≡ false
  go false e = refl
  go true e = absurd (no (sym k ∙ ap is_word_byte (sym (eqb-true b c e)) ∙ h))

-- a word ends before these bytes, and no dot follows it
abbrev pub stops : List ℕ → Bool
stops [] = true
stops (b ∷ bs) = not (is_word_byte b) && not (b == code ".")

stop_word : (b : ℕ) (bs : List ℕ) → stops (b ∷ bs) ≡ true → (is_word_byte b ≡ false) × ((b == code ".") ≡ false)
stop_word b bs h = go (is_word_byte b) (b == code ".") h where
  go : (x y : Bool) → (not x && not y) ≡ true → (x ≡ false) × (y ≡ false)
  go false false e = (refl, refl)
  go false true e = absurd (no e)
  go true y e = absurd (no e)

abbrev AreWordBytes : List ℕ → Type 0
AreWordBytes ws = AllByRecursion (λ b. is_word_byte b ≡ true) ws

word_len-all : (ws rest : List ℕ) → AreWordBytes ws → stops rest ≡ true → word_len (ws ++ rest) ≡ length ws
word_len-all [] [] h s = refl
word_len-all [] (b ∷ bs) h s = ap (λ t. if t then 1 + word_len bs else 0) (stop_word b bs s).0
word_len-all (w ∷ ws) rest h s = let e = word_len-all ws rest h.1 s in ap (λ t. if t then 1 + word_len (ws ++ rest) else 0) h.0 ∙ omega (arith, e)

dot_none : (rest : List ℕ) → stops rest ≡ true → dot_first rest ≡ 0
dot_none [] s = refl
dot_none (b ∷ bs) s = ap (λ t. if t then 1 else 0) (stop_word b bs s).1

take_all : (ws rest : List ℕ) → take (length ws) (ws ++ rest) ≡ ws
take_all [] rest = refl
take_all (w ∷ ws) rest = ap (λ xs. w ∷ xs) (take_all ws rest)

drop_all : (ws rest : List ℕ) → drop (length ws) (ws ++ rest) ≡ rest
drop_all [] rest = refl
drop_all (w ∷ ws) rest = drop_all ws rest

same_self : (n : ℕ) → (n == n) ≡ true
same_self n = eq-eqb n n refl

-- ---- words
plain_word : (b : ℕ) (ws rest : List ℕ) → AreWordBytes ws → stops rest ≡ true → plain_at b (ws ++ rest) ≡ (word_token b (b ∷ ws), length ws)
plain_word b ws rest h s = ap (λ n. (word_token b (b ∷ take n (ws ++ rest)), n)) (word_len-all ws rest h s) ∙ ap (λ xs. (word_token b (b ∷ xs), length ws)) (take_all ws rest)

no_dot : (ws rest : List ℕ) → AreWordBytes ws → stops rest ≡ true → (name_len (ws ++ rest) == word_len (ws ++ rest)) ≡ true
no_dot ws rest h s =
    let l = word_len-all ws rest h s in
    let d : dot_first (drop (word_len (ws ++ rest)) (ws ++ rest)) ≡ 0 = ap (λ n. dot_first (drop n (ws ++ rest))) l ∙ ap dot_first (drop_all ws rest) ∙ dot_none rest s in
    let e : name_len (ws ++ rest) ≡ word_len (ws ++ rest) = omega (arith, d) in
    ap (λ n. n == word_len (ws ++ rest)) e ∙ same_self (word_len (ws ++ rest))

pick_plain : (c d : Bool) (p q : Token × ℕ) → d ≡ true → (if c then p else (if d then p else q)) ≡ p
pick_plain true d p q h = refl
pick_plain false d p q h = ap (λ t. if t then p else q) h

pick_first : (c : Bool) (p q : Token × ℕ) → c ≡ true → (if c then p else q) ≡ p
pick_first c p q h = ap (λ t. if t then p else q) h

word_here : (b : ℕ) (ws rest : List ℕ) → is_word_byte b ≡ true → AreWordBytes ws → stops rest ≡ true → token_at b (ws ++ rest) ≡ (word_token b (b ∷ ws), length ws)
unfolding token_at
word_here b ws rest w h s =
    pick_first (is_word_byte b) (word_at b (ws ++ rest)) _ w
    ∙ pick_plain (is_ascii_digit b) (name_len (ws ++ rest) == word_len (ws ++ rest)) (plain_at b (ws ++ rest)) _ (no_dot ws rest h s)
    ∙ plain_word b ws rest h s

-- the token of a word, and those after it
pub word_tokens : (b : ℕ) (ws rest : List ℕ) → is_word_byte b ≡ true → AreWordBytes ws → stops rest ≡ true → tokens_from 0 (b ∷ ws ++ rest) ≡ word_token b (b ∷ ws) ∷ tokens_from 0 rest
word_tokens b ws rest w h s =
    let t = word_here b ws rest w h s in
    let space : is_blank b ≡ false = ap (λ t. t || b == code "\t") (word_not b 32 w refl) ∙ word_not b 9 w refl in
    token_taken b (ws ++ rest) (length ws) space (word_not b 35 w refl) (sym (ap (λ (x : Token × ℕ). x.1) t))
    ∙ ap (λ (x : Token × ℕ). x.0 ∷ tokens_from 0 (drop (length ws) (ws ++ rest))) t
    ∙ ap (λ bs. word_token b (b ∷ ws) ∷ tokens_from 0 bs) (drop_all ws rest)

-- ---- numbers
digit_range : (b : ℕ) → digit_value b < 10 → (48 ≤ b) × (b ≤ 57)
digit_range b h = (grind arith, grind arith)

pub yes_le : (a b : ℕ) → a ≤ b → nat_le a b ≡ true
yes_le a b h = grind arith

yes_lt : (a b : ℕ) → a < b → nat_lt a b ≡ true
yes_lt a b h = grind arith

digit_ascii : (b : ℕ) → digit_value b < 10 → is_ascii_digit b ≡ true
digit_ascii b h = let r = digit_range b h in ap (λ t. t && nat_le b 57) (yes_le 48 b r.0) ∙ yes_le b 57 r.1

or_one : (x y z : Bool) → x ≡ true → ((x || y) || z) ≡ true
or_one x y z h = ap (λ t. (t || y) || z) h

digit_word : (b : ℕ) → digit_value b < 10 → is_word_byte b ≡ true
digit_word b h = ap (λ t. t || b == code "_") (or_one (is_ascii_digit b) _ _ (digit_ascii b h))

digits_words : (ds : List ℕ) → AllDigits 10 ds → AreWordBytes ds
digits_words [] h = tt
digits_words (d ∷ ds) h = (digit_word d h.0, digits_words ds h.1)

digits_all : (ds : List ℕ) → AllDigits 10 ds → list_all (λ b. is_digit b 10) ds ≡ true
digits_all [] h = refl
digits_all (d ∷ ds) h = ap (λ t. t && list_all (λ b. is_digit b 10) ds) (yes_lt (digit_value d) 10 h.0) ∙ digits_all ds h.1

pub nonzero : (n : ℕ) → 0 < n → (n == 0) ≡ false
nonzero n h = grind arith

-- the number that decimal digits write
number_plain : (ds : List ℕ) (n : ℕ) → 0 < length ds → AllDigits 10 ds → digits_value 10 ds ≡ n → n ≤ greatest_word → number_in 10 ds ≡ Some n
number_plain [] n l h v w = absurd (omega arith)
number_plain (d ∷ ds) n l h v w =
    ap (λ t. if not t && list_all (λ b. is_digit b 10) (d ∷ ds) then value_within (digits_value 10 (d ∷ ds)) else None) (nonzero (length (d ∷ ds)) l)
    ∙ ap (λ t. if t then value_within (digits_value 10 (d ∷ ds)) else None) (digits_all (d ∷ ds) h)
    ∙ ap (λ k. value_within k) v
    ∙ ap (λ t. if t then Some n else None) (yes_le n greatest_word w)

not_zero_digit : (b : ℕ) → 48 < b → (b == code "0") ≡ false
not_zero_digit b h = grind arith

number_first : (b c : ℕ) (bs : List ℕ) → 48 < b → number_of (b ∷ c ∷ bs) ≡ number_in 10 (b ∷ c ∷ bs)
number_first b c bs h =
    let z = not_zero_digit b h in
    ap (λ t. if t && c == code "x" then number_in 16 bs else (if t then number_in 8 (b ∷ c ∷ bs) else number_in 10 (b ∷ c ∷ bs))) z

number_digits : (ds : List ℕ) → (1 < length ds → 48 < get_or ds 0 0) → number_of ds ≡ number_in 10 ds
number_digits [] h = refl
number_digits (b ∷ []) h = refl
number_digits (b ∷ c ∷ bs) h = number_first b c bs (h (omega arith))

number_decimal : (n : ℕ) → n ≤ greatest_word → number_of (decimal n) ≡ Some n
number_decimal n w =
    let d = decimal_is_IsNumeral n (omega arith) in
    number_digits (decimal n) (λ l. first_decimal n (more n l) (omega arith)) ∙ number_plain (decimal n) n d.0.0 d.0.1 d.1 w
  where
    more : (n : ℕ) → 1 < length (decimal n) → 0 < n
    more zero l = absurd (omega (arith, length-decimal-le 1 0 (omega arith) (omega arith) (omega arith), l))
    more (suc n) l = omega arith

-- the token of a number, and those after it
pub number_tokens : (n : ℕ) (rest : List ℕ) → n ≤ greatest_word → stops rest ≡ true → tokens_from 0 (decimal n ++ rest) ≡ tokens.Number n ∷ tokens_from 0 rest
number_tokens n rest w s = go (decimal n) (decimal_is_IsNumeral n (omega arith)).0 (number_decimal n w) where
  go : (ds : List ℕ) → IsNumeral 10 ds → number_of ds ≡ Some n → tokens_from 0 (ds ++ rest) ≡ tokens.Number n ∷ tokens_from 0 rest
  go [] h e = absurd (let l = h.0 in omega arith)
  go (d ∷ ds) h e =
      word_tokens d ds rest (digit_word d h.1.0) (digits_words ds h.1.1) s
      ∙ ap (λ t. (if t then number_token (number_of (d ∷ ds)) else name_token (d ∷ ds)) ∷ tokens_from 0 rest) (digit_ascii d h.1.0)
      ∙ ap (λ (o : Option ℕ). number_token o ∷ tokens_from 0 rest) e

-- the token of a register, and those after it
pub register_tokens : (n : ℕ) (rest : List ℕ) → n < 32 → stops rest ≡ true → tokens_from 0 ((codes "r" ++ decimal n) ++ rest) ≡ tokens.Name (codes "r" ++ decimal n) ∷ tokens_from 0 rest
register_tokens n rest h s =
    let d = decimal_is_IsNumeral n (omega arith) in
    let l = length-decimal-le 2 n (omega arith) (omega arith) (omega arith) in
    word_tokens (code "r") (decimal n) rest refl (digits_words (decimal n) d.0.1) s
    ∙ ap (λ t. (if t then tokens.Name (codes "r" ++ decimal n) else tokens.Unknown) ∷ tokens_from 0 rest) (yes_le (length (codes "r" ++ decimal n)) longest_name (omega (arith, l)))
