use Rattle.std.proofs.Common.{◌≡◌, ℕ, ◌+◌, ◌-◌, length, replicate, sym, ap, ap₂, ◌∙◌, arith}
use Rattle.std.proofs.lemmas.List.{length-replicate, replicate-append-replicate}
use Rattle.board_mem.specs.Pages.{PagesState, written_at}
use Rattle.board_mem.proofs.Sizes.{length-with_bytes}
use Rattle.board_mem.proofs.Writings.{written_at-append, written_at-none}
use Rattle.board_mem.proofs.pages.Pages.put_same_across.Goals as goal

pub loop-left-preserved : goal.loop-left-preserved
loop-left-preserved c =
    let s = c.loop-left.self in
    let at = c.loop-left.at in
    let count = c.min-count.result in
    let piece = replicate count c.args.byte in
    let size = length-replicate count c.args.byte in
    let left = c.loop-left.left - count in
    let kept : length c.put_same.new.self.bytes ≡ length s.bytes =
    ap (λ (p : PagesState). length p.bytes) c.put_same.ensures ∙ length-with_bytes s.bytes at piece (omega (arith, size, c.loop-left.invariant.0)) in
    let step : written_at c.put_same.new.self (at + count) (replicate left c.args.byte) ≡ written_at s at (replicate c.loop-left.left c.args.byte) =
    ap₂ (λ (p : PagesState) (k : ℕ). written_at p k (replicate left c.args.byte)) c.put_same.ensures (ap (λ k. at + k) (sym size))
    ∙ written_at-append s at piece (replicate left c.args.byte) (omega (arith, c.loop-left.invariant.0))
    ∙ ap (written_at s at) (replicate-append-replicate count left c.args.byte ∙ ap (λ k. replicate k c.args.byte) (omega arith)) in
    (omega (arith, kept, c.loop-left.invariant.0), kept ∙ c.loop-left.invariant.1, step ∙ c.loop-left.invariant.2)

pub returns : goal.returns
returns c =
    let none : 0 ≡ c.loop-left.left = omega arith in
    sym (written_at-none c.loop-left.self c.loop-left.at) ∙ ap (λ k. written_at c.loop-left.self c.loop-left.at (replicate k c.args.byte)) none ∙ c.loop-left.invariant.2
