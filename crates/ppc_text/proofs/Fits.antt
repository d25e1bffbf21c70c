-- A token's bytes lie within the line.
use Rattle.std.proofs.Common.{ℕ, ◌≤◌, Bool, true, false, List, [], ◌∷◌, length, drop, Option, Some, None, arith}
use Rattle.std.specs.Prelude.{if◌then◌else◌, ◌==◌}
use Rattle.std.proofs.lemmas.List.{length-drop}
use Rattle.std.proofs.lemmas.List.Sums.{prefix_len-le-length}
use Rattle.std.specs.Char.{is_ascii_digit}
use Prim.Native.Char.{code}
use Rattle.ppc_text.specs.declared.token.Token.{Token}
use Rattle.source_text.specs.Words.{is_word_byte}
use Rattle.source_text.specs.Strings.{string_at}
use Rattle.source_text.proofs.Within.{string_len, string_within}
use Rattle.ppc_text.specs.Tokens.{word_len, dot_first, name_len, word_at, string_token, token_at}

-- a token has at most n bytes after its first
record Fits (n : ℕ) (x : Token × ℕ) : Type 0 where
  few : x.1 ≤ n

either : {n : ℕ} (b : Bool) {x y : Token × ℕ} → Fits n x → Fits n y → Fits n (if b then x else y)
either true p q = p
either false p q = q

alone : (n : ℕ) (t : Token) → Fits n (t, 0)
alone n t = record { few = omega arith }

string_fits : (n : ℕ) (string : Option (List ℕ × ℕ)) → string_len string ≤ n → Fits n (string_token string)
string_fits n (Some x) h = record { few = h }
string_fits n None h = alone _ _

dot_short : (bs : List ℕ) → dot_first bs ≤ length bs
dot_short [] = omega arith
dot_short (b ∷ bs) = go (b == code ".") where
  go : (t : Bool) → (if t then 1 else 0) ≤ length (b ∷ bs)
  go true = omega arith
  go false = omega arith

name_short : (bs : List ℕ) → name_len bs ≤ length bs
name_short bs = omega (arith, prefix_len-le-length is_word_byte bs, dot_short (drop (word_len bs) bs), length-drop (word_len bs) bs)

word_fits : (b : ℕ) (bs : List ℕ) → Fits (length bs) (word_at b bs)
word_fits b bs =
    either (is_ascii_digit b) (record { few = prefix_len-le-length is_word_byte bs })
    (either (name_len bs == word_len bs) (record { few = prefix_len-le-length is_word_byte bs }) (record { few = name_short bs }))

fits : (b : ℕ) (bs : List ℕ) → Fits (length bs) (token_at b bs)
unfolding token_at
fits b bs =
    either (is_word_byte b) (word_fits b bs)
    (either (b == code ".") (record { few = prefix_len-le-length is_word_byte bs })
    (either (b == code "\"") (string_fits (length bs) (string_at bs) (string_within bs))
    (either (b == code "@") (record { few = prefix_len-le-length is_word_byte bs }) (alone _ _))))

-- the bytes of a token lie within the line
pub token_fits : (b : ℕ) (bs : List ℕ) → (token_at b bs).1 ≤ length bs
token_fits b bs = (fits b bs).few
