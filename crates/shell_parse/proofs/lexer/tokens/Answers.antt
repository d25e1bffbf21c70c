use Rattle.std.proofs.Common.{◌≡◌, ℕ, ◌+◌, ◌++◌, ◌∷◌, ◌∙◌, ap, sym, arith, append_assoc, length, length-append}
use Rattle.shell_parse.specs.declared.token.Token.{Token}
use Rattle.shell_parse.specs.Tokens.{token_at, spot_after, tokens_from, bare, columns}
use Rattle.shell_parse.proofs.Lexing.{token_taken}
use Rattle.shell_parse.proofs.Fits.{token_fits}
use Rattle.shell_parse.proofs.lexer.tokens.Goals as goal

pub first_token-requires-clause-short : goal.first_token-requires-clause-short
first_token-requires-clause-short c = omega (arith, c.loop-first.invariant.few, c.loop-first.invariant.place, c.requires)

pub bytes_after-left-requires : goal.bytes_after-left-requires
bytes_after-left-requires c = omega (arith, token_fits c.loop-first.spot c.in-Some.first.now c.in-Some.rest.now, ap (λ (x : Token × ℕ). x.1) c.in_ok-token.ensures)

-- the first token and its column are added at the ends of the lists
pub loop-first-preserved : goal.loop-first-preserved
loop-first-preserved c =
    let spot = c.loop-first.spot in
    let column = c.loop-first.column in
    let first = c.in-Some.first.now in
    let rest = c.in-Some.rest.now in
    let len = c.in_ok-token.len in
    let token : c.in_ok-token.token ≡ (token_at spot first rest).0 = ap (λ (x : Token × ℕ). x.0) c.in_ok-token.ensures in
    let next : c.spot_after-spot.result ≡ spot_after spot (token_at spot first rest).0 = c.spot_after-spot.ensures ∙ ap (spot_after spot) token in
    let taken = ap (tokens_from spot column 0) c.in-Some.ensures.cases.0
    ∙ token_taken spot column first rest len (sym c.if-is_blank.ensures) (ap (λ (x : Token × ℕ). x.1) c.in_ok-token.ensures) in
    let tokens : c.in_ok-token.token ∷ bare (tokens_from c.spot_after-spot.result (column + (len + 1)) 0 c.bytes_after-left.result.now) ≡ bare (tokens_from spot column 0 c.loop-first.left.now) =
    rw (token, next, c.bytes_after-left.ensures.value) (sym (ap bare taken)) in
    let place : column ∷ columns (tokens_from c.spot_after-spot.result (column + (len + 1)) 0 c.bytes_after-left.result.now) ≡ columns (tokens_from spot column 0 c.loop-first.left.now) =
    rw (next, c.bytes_after-left.ensures.value) (sym (ap columns taken)) in
    record {
      few = omega (arith, c.loop-first.invariant.few, simp length-append at (ap length c.in_ok-push.ensures.items));
      place = omega (arith, c.in-Some.ensures.cases.1, c.bytes_after-left.ensures.len);
      tokens =
          ap (λ ts. ts ++ bare (tokens_from c.spot_after-spot.result (column + (len + 1)) 0 c.bytes_after-left.result.now)) c.in_ok-push.ensures.items
          ∙ append_assoc c.loop-first.tokens.items _ _
          ∙ ap (λ ts. c.loop-first.tokens.items ++ ts) tokens
          ∙ c.loop-first.invariant.tokens;
      columns =
          ap (λ ts. ts ++ columns (tokens_from c.spot_after-spot.result (column + (len + 1)) 0 c.bytes_after-left.result.now)) c.in_ok-push-2.ensures.items
          ∙ append_assoc c.loop-first.columns.items _ _
          ∙ ap (λ ts. c.loop-first.columns.items ++ ts) place
          ∙ c.loop-first.invariant.columns;
    }
