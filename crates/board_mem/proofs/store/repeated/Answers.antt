use Rattle.std.proofs.Common.{◌≡◌, ◌+◌, ◌-◌, ◌++◌, replicate, length, refl, ap, ap₂, ◌∙◌, arith}
use Rattle.std.specs.Prelude.{vec_len}
use Rattle.std.proofs.lemmas.List.{take_all, length-replicate, replicate-append-replicate}
use Rattle.board_mem.proofs.store.repeated.Goals as goal

pub loop-value-preserved : goal.loop-value-preserved
loop-value-preserved g c =
    let was = c.loop-value.items in
    let value = c.args.value in
    let most = c.len-len.result + c.min.result in
    let size : length was.items ≡ vec_len was = ap length c.loop-value.invariant.0 ∙ length-replicate (vec_len was) value in
    let whole : vec_len was + (most - vec_len was) ≡ vec_len c.resize.new.self = omega (arith, c.in_ok-resize.ensures.len) in (
      c.in_ok-resize.ensures.items
          ∙ ap₂ (λ xs ys. xs ++ ys) (take_all most was.items (omega (arith, size)) ∙ c.loop-value.invariant.0) refl
          ∙ replicate-append-replicate (vec_len was) (most - vec_len was) value
          ∙ ap (λ k. replicate k value) whole,
      omega (arith, c.in_ok-resize.ensures.len),
    )

pub returns : goal.returns
returns g c =
    let whole : vec_len c.loop-value.items ≡ c.args.n = omega (arith, c.loop-value.invariant.1) in c.loop-value.invariant.0 ∙ ap (λ k. replicate k c.args.value) whole
