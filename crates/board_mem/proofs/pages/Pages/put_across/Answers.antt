use Rattle.std.proofs.Common.{◌≡◌, ℕ, ◌+◌, ◌++◌, List, length, sym, ap, ◌∙◌, arith}
use Rattle.std.proofs.lemmas.Bool.Decides.{nat_tests}
use Rattle.std.proofs.lemmas.List.{nil_from_length}
use Rattle.board_mem.specs.Pages.{PagesState, written_at}
use Rattle.board_mem.proofs.Sizes.{length-with_bytes}
use Rattle.board_mem.proofs.Writings.{written_at-append, written_at-none}
use Rattle.board_mem.proofs.pages.Pages.put_across.Goals as goal

pub loop-rest-preserved : goal.loop-rest-preserved
loop-rest-preserved c =
    let s = c.loop-rest.self in
    let at = c.loop-rest.at in
    let piece : List ℕ = c.split_at.result.0.now in
    let after : List ℕ = c.split_at.result.1.now in
    let whole : c.loop-rest.rest.now ≡ piece ++ after = c.split_at.ensures.by_index.0 in
    let kept : length c.put.new.self.bytes ≡ length s.bytes =
    ap (λ (p : PagesState). length p.bytes) c.put.ensures ∙ length-with_bytes s.bytes at piece (omega (arith, c.split_at.ensures.front_len, c.split_at.ensures.back_len, c.loop-rest.invariant.0)) in
    let step : written_at c.put.new.self (at + length piece) after ≡ written_at s at c.loop-rest.rest.now =
    ap (λ (p : PagesState). written_at p (at + length piece) after) c.put.ensures
    ∙ written_at-append s at piece after (omega (arith, c.loop-rest.invariant.0))
    ∙ ap (written_at s at) (sym whole) in
    (omega (arith, kept, c.split_at.ensures.front_len, c.split_at.ensures.back_len, c.loop-rest.invariant.0), kept ∙ c.loop-rest.invariant.1, step ∙ c.loop-rest.invariant.2)

pub returns : goal.returns
returns c =
    let none : length c.loop-rest.rest.now ≡ 0 = grind (arith, nat_tests) in
    let empty = nil_from_length c.loop-rest.rest.now none in
    sym (written_at-none c.loop-rest.self c.loop-rest.at) ∙ ap (written_at c.loop-rest.self c.loop-rest.at) (sym empty) ∙ c.loop-rest.invariant.2
