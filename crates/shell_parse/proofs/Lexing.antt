-- Laws on the tokens of a line.
use Rattle.std.proofs.Common.{◌≡◌, ℕ, zero, suc, ◌+◌, List, [], ◌∷◌, false, refl, ap, sym, ◌∙◌, arith, drop, take, add-zero, add-one}
use Rattle.std.specs.List.{prefix_len}
use Rattle.shell_parse.specs.declared.token.Token.{Token}
use Rattle.std.specs.Prelude.{if◌then◌else◌}
use Rattle.shell_parse.specs.declared.token.Spot.{Spot}
use Rattle.source_text.specs.Words.{is_blank, is_word_byte}
use Rattle.shell_parse.specs.Tokens.{word_token, word_at, token_at, spot_after, tokens_from}

-- bytes that belong to the token before are passed over
pub tokens_passed : (spot : Spot) (column k : ℕ) (bs : List ℕ) → tokens_from spot column k bs ≡ tokens_from spot (column + k) 0 (drop k bs)
tokens_passed spot column zero bs = ap (λ n. tokens_from spot n 0 bs) (sym (add-zero column))
tokens_passed spot column (suc k) [] = refl
tokens_passed spot column (suc k) (b ∷ bs) = tokens_passed spot (column + 1) k bs ∙ ap (λ n. tokens_from spot n 0 (drop k bs)) (omega arith)

-- a token, and the tokens after it
pub token_taken : (spot : Spot) (column b : ℕ) (bs : List ℕ) (len : ℕ) → is_blank b ≡ false → len ≡ (token_at spot b bs).1
    → tokens_from spot column 0 (b ∷ bs)
    ≡ record { token = (token_at spot b bs).0; column = column } ∷ tokens_from (spot_after spot (token_at spot b bs).0) (column + (len + 1)) 0 (drop len bs)
token_taken spot column b bs len t h =
    let token = (token_at spot b bs).0 in
    let after = spot_after spot token in
    let rest = (token_at spot b bs).1 in
    let next : column + 1 + rest ≡ column + (len + 1) = omega (arith, h) in
    ap (λ blank. if blank then tokens_from spot (column + 1) 0 bs else record { token = token; column = column } ∷ tokens_from after (column + 1) rest bs) t
    ∙ ap (λ ts. record { token = token; column = column } ∷ ts)
    (tokens_passed after (column + 1) rest bs
    ∙ ap (λ n. tokens_from after n 0 (drop rest bs)) next
    ∙ ap (λ n. tokens_from after (column + (len + 1)) 0 (drop n bs)) (sym h))

-- a word that comes first is its bytes as far as they may be in a word
pub word_first : (b : ℕ) (bs bytes : List ℕ) (n : ℕ) → bytes ≡ b ∷ bs → n ≡ prefix_len is_word_byte bs → ◌≡◌ {A = Token × ℕ} (word_token b (take (n + 1) bytes), n) (word_at b bs)
word_first b bs bytes n e h =
    ap (λ (xs : List ℕ). (word_token b (take (n + 1) xs), n)) e
    ∙ ap (λ (k : ℕ). (word_token b (take k (b ∷ bs)), n)) (add-one n)
    ∙ ap (λ (k : ℕ). (word_token b (b ∷ take k bs), k)) h
