-- No token has more bytes than there are.
use Rattle.std.proofs.Common.{ℕ, suc, ◌≤◌, Bool, true, false, List, [], ◌∷◌, length, Option, Some, None, ◌≡◌, refl, arith}
use Rattle.std.specs.Prelude.{if◌then◌else◌, ◌==◌, ◌&&◌, not}
use Rattle.std.proofs.lemmas.List.Sums.{prefix_len-le-length}
use Prim.Native.Char.{code}
use Rattle.shell_parse.specs.declared.tree.BinOp.{BinOp}
use Rattle.shell_parse.specs.declared.tree.BinOp.TheVariants.{OrElse, AndAlso, Or, Xor, And, Lt, Le, Gt, Ge, Shl, Shr, Plus, Minus, Times, Over, Rest}
use Rattle.shell_parse.specs.declared.token.Token.{Token}
use Rattle.shell_parse.specs.declared.token.Spot.{Spot}
use Rattle.shell_parse.specs.declared.token.Spot.TheVariants.{AtStart, AfterLd, AtFile, Within}
use Rattle.source_text.specs.Words.{is_word_byte}
use Rattle.source_text.specs.Strings.{escaped, string_at}
use Rattle.source_text.proofs.Within.{string_len, string_within}
use Rattle.shell_parse.specs.Ascii.{next_is, is_file_byte}
use Rattle.shell_parse.specs.Literals.{escaped_character, character_at, string_token}
use Rattle.shell_parse.specs.Signs.{or_set, or_twice, shift_at, comparison_at, angle_at, comparing_at, sign_at}
use Rattle.shell_parse.specs.Tokens.{any_at, token_at}

-- a token has at most n bytes after its first
record Fits (n : ℕ) (x : Token × ℕ) : Type 0 where
  few : x.1 ≤ n

either : {n : ℕ} (b : Bool) {x y : Token × ℕ} → Fits n x → Fits n y → Fits n (if b then x else y)
either true p q = p
either false p q = q

by_next : (c : ℕ) (bs : List ℕ) {x y : Token × ℕ} → ((b : ℕ) (cs : List ℕ) → length bs ≡ suc (length cs) → Fits (length bs) x) → Fits (length bs) y → Fits (length bs) (if next_is c bs then x else y)
by_next c [] p q = q
by_next c (b ∷ bs) p q = either (b == c) (p b bs refl) q

one : (n k : ℕ) (t : Token) → n ≡ suc k → Fits n (t, 1)
one n k t h = record { few = omega arith }

alone : (n : ℕ) (t : Token) → Fits n (t, 0)
alone n t = record { few = omega arith }

or_set_fits : (op : BinOp) (bs : List ℕ) → Fits (length bs) (or_set op bs)
or_set_fits op bs = by_next (code "=") bs (λ b cs h. one _ _ _ h) (alone _ _)

or_twice_fits : (b : ℕ) (twice : Option BinOp) (op : BinOp) (bs : List ℕ) → Fits (length bs) (or_twice b twice op bs)
or_twice_fits b twice op bs = by_next b bs (λ c cs h. one _ _ _ h) (or_set_fits op bs)

comparison_fits : (with_equals op : BinOp) (bs : List ℕ) → Fits (length bs) (comparison_at with_equals op bs)
comparison_fits with_equals op bs = by_next (code "=") bs (λ b cs h. one _ _ _ h) (alone _ _)

shift_fits : (op : BinOp) (b : ℕ) (bs : List ℕ) → Fits (suc (length bs)) (shift_at op (b ∷ bs))
shift_fits op b [] = one _ _ _ refl
shift_fits op b (c ∷ bs) = either (c == code "=") (record { few = omega arith }) (one _ _ _ refl)

angle_fits : (b : ℕ) (shift with_equals op : BinOp) (bs : List ℕ) → Fits (length bs) (angle_at b shift with_equals op bs)
angle_fits b shift with_equals op [] = alone _ _
angle_fits b shift with_equals op (c ∷ bs) = either (c == b) (shift_fits shift c bs) (comparison_fits with_equals op (c ∷ bs))

comparing_fits : (b : ℕ) (bs : List ℕ) → Fits (length bs) (comparing_at b bs)
comparing_fits b bs =
    either (b == code "<") (angle_fits b Shl Le Lt bs)
    (either (b == code ">") (angle_fits b Shr Ge Gt bs)
    (either (b == code "=") (by_next b bs (λ c cs h. one _ _ _ h) (alone _ _))
    (either (b == code "!") (by_next (code "=") bs (λ c cs h. one _ _ _ h) (alone _ _))
    (alone _ _))))

sign_fits : (b : ℕ) (bs : List ℕ) → Fits (length bs) (sign_at b bs)
unfolding sign_at
sign_fits b bs =
    either (b == code "+") (or_twice_fits b None Plus bs)
    (either (b == code "-") (or_twice_fits b None Minus bs)
    (either (b == code "&") (or_twice_fits b (Some AndAlso) And bs)
    (either (b == code "|") (or_twice_fits b (Some OrElse) Or bs)
    (either (b == code "^") (or_set_fits Xor bs)
    (either (b == code "*") (or_set_fits Times bs)
    (either (b == code "/") (or_set_fits Over bs)
    (either (b == code "%") (or_set_fits Rest bs)
    (comparing_fits b bs))))))))

escaped_fits : (value : Option ℕ) (bs : List ℕ) → Fits (suc (suc (length bs))) (escaped_character value bs)
escaped_fits None bs = alone _ _
escaped_fits (Some v) [] = alone _ _
escaped_fits (Some v) (b ∷ bs) = either (b == code "'") (record { few = omega arith }) (alone _ _)

character_fits : (bs : List ℕ) → Fits (length bs) (character_at bs)
character_fits [] = alone _ _
character_fits (b ∷ []) = alone _ _
character_fits (b ∷ c ∷ bs) =
    either (b == code "\\") (escaped_fits (escaped c) bs) (either (not (b == code "'") && c == code "'") (record { few = omega arith }) (alone _ _))

string_fits : (n : ℕ) (string : Option (List ℕ × ℕ)) → string_len string ≤ n → Fits n (string_token string)
string_fits n (Some x) h = record { few = h }
string_fits n None h = alone _ _

any_fits : (b : ℕ) (bs : List ℕ) → Fits (length bs) (any_at b bs)
any_fits b bs =
    either (is_word_byte b) (record { few = prefix_len-le-length is_word_byte bs })
    (either (b == code "'") (character_fits bs) (either (b == code "\"") (string_fits (length bs) (string_at bs) (string_within bs)) (sign_fits b bs)))

fits : (spot : Spot) (b : ℕ) (bs : List ℕ) → Fits (length bs) (token_at spot b bs)
unfolding token_at
fits AtStart b bs = any_fits b bs
fits AfterLd b bs = record { few = (any_fits b bs).few }
fits AtFile b bs = either (b == code ";") (alone _ _) (record { few = prefix_len-le-length is_file_byte bs })
fits Within b bs = any_fits b bs

-- the bytes of a token are inside the line
pub token_fits : (spot : Spot) (b : ℕ) (bs : List ℕ) → (token_at spot b bs).1 ≤ length bs
token_fits spot b bs = (fits spot b bs).few
