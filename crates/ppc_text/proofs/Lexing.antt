-- Laws about the tokens of a line.
use Rattle.std.proofs.Common.{◌≡◌, ℕ, zero, suc, ◌+◌, List, [], ◌∷◌, false, refl, ap, sym, ◌∙◌, drop, take, add-one}
use Rattle.std.specs.Prelude.{if◌then◌else◌, ◌==◌}
use Prim.Native.Char.{code}
use Rattle.ppc_text.specs.declared.token.Token.{Token}
use Rattle.source_text.specs.Words.{is_blank}
use Rattle.ppc_text.specs.Tokens.{word_token, word_len, plain_at, token_at, tokens_from}

-- bytes that belong to the token before are skipped
pub tokens_passed : (k : ℕ) (bs : List ℕ) → tokens_from k bs ≡ tokens_from 0 (drop k bs)
tokens_passed zero bs = refl
tokens_passed (suc k) [] = refl
tokens_passed (suc k) (b ∷ bs) = tokens_passed k bs

-- a token, and the tokens after it
pub token_taken : (b : ℕ) (bs : List ℕ) (len : ℕ) → is_blank b ≡ false → (b == code "#") ≡ false → len ≡ (token_at b bs).1
    → tokens_from 0 (b ∷ bs) ≡ (token_at b bs).0 ∷ tokens_from 0 (drop len bs)
token_taken b bs len t u h =
    ap (λ blank. if blank then tokens_from 0 bs else (if b == code "#" then [] else (token_at b bs).0 ∷ tokens_from (token_at b bs).1 bs)) t
    ∙ ap (λ mark. if mark then [] else (token_at b bs).0 ∷ tokens_from (token_at b bs).1 bs) u
    ∙ ap (λ ts. (token_at b bs).0 ∷ ts) (tokens_passed (token_at b bs).1 bs ∙ ap (λ n. tokens_from 0 (drop n bs)) (sym h))

-- the word that begins the bytes is the longest prefix of bytes that may stand in one
pub word_first : (b : ℕ) (bs bytes : List ℕ) (n : ℕ) → bytes ≡ b ∷ bs → n ≡ word_len bs → ◌≡◌ {A = Token × ℕ} (word_token b (take (n + 1) bytes), n) (plain_at b bs)
word_first b bs bytes n e h =
    ap (λ (xs : List ℕ). (word_token b (take (n + 1) xs), n)) e
    ∙ ap (λ (k : ℕ). (word_token b (take k (b ∷ bs)), n)) (add-one n)
    ∙ ap (λ (k : ℕ). (word_token b (b ∷ take k bs), k)) h
