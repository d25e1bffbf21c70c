use Rattle.std.proofs.Common.{◌≡◌, ℕ, ◌++◌, ◌∷◌, ◌∙◌, ap, sym, arith, append_assoc, false}
use Rattle.std.specs.Prelude.{◌==◌}
use Prim.Native.Char.{code}
use Rattle.ppc_text.specs.declared.token.Token.{Token}
use Rattle.ppc_text.specs.Tokens.{token_at, tokens_from}
use Rattle.ppc_text.proofs.Lexing.{token_taken}
use Rattle.ppc_text.proofs.Fits.{token_fits}
use Rattle.ppc_text.proofs.lexer.tokens.Goals as goal

pub bytes_after-left-requires : goal.bytes_after-left-requires
bytes_after-left-requires c = omega (arith, token_fits c.in-Some.first.now c.in-Some.rest.now, ap (λ (x : Token × ℕ). x.1) c.in_ok-token.ensures)

-- the first token of the bytes left goes to the end of the list
pub loop-first-preserved : goal.loop-first-preserved
loop-first-preserved c =
    let first = c.in-Some.first.now in
    let rest = c.in-Some.rest.now in
    let len = c.in_ok-token.len in
    let token : c.in_ok-token.token ≡ (token_at first rest).0 = ap (λ (x : Token × ℕ). x.0) c.in_ok-token.ensures in
    let no_comment : (first == code "#") ≡ false = grind arith in
    let taken = ap (tokens_from 0) c.in-Some.ensures.cases.0
    ∙ token_taken first rest len (sym c.if-is_blank.ensures) no_comment (ap (λ (x : Token × ℕ). x.1) c.in_ok-token.ensures) in
    let tokens : c.in_ok-token.token ∷ tokens_from 0 c.bytes_after-left.result.now ≡ tokens_from 0 c.loop-first.left.now =
    rw (token, c.bytes_after-left.ensures.value) (sym taken) in
    ap (λ ts. ts ++ tokens_from 0 c.bytes_after-left.result.now) c.in_ok-push.ensures.items
    ∙ append_assoc c.loop-first.tokens.items _ _
    ∙ ap (λ ts. c.loop-first.tokens.items ++ ts) tokens
    ∙ c.loop-first.invariant
