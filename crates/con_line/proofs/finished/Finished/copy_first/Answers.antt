use Rattle.std.proofs.Common.{◌≡◌, ◌+◌, ◌-◌, ◌++◌, length, take, drop, ap, ◌∙◌, arith, append-nil}
use Rattle.std.proofs.lemmas.List.{drop_all}
use Rattle.circular_buffer.proofs.Items.{copied_out}
use Rattle.con_line.proofs.finished.Finished.copy_first.Goals as goal

pub returns : goal.returns
returns c =
    let near = c.as_slices.result.0.now in
    let far = c.as_slices.result.1.now in
    let dst = c.args.dst.now in
    let f = c.min-from_near.result in
    let b = length dst - f in
    let all : f + b ≡ length dst = omega (arith, c.min-from_near.ensures) in
    copied_out near far dst c.copy_from_slice.new.self c.copy_from_slice-2.new.self f b (omega (arith, c.min-from_near.ensures)) (λ some. omega (arith, c.min-from_near.ensures, some)) c.copy_from_slice.ensures.after c.copy_from_slice-2.ensures.after
    ∙ ap (λ n. take n (near ++ far) ++ drop n dst) all
    ∙ ap (λ l. take (length dst) (near ++ far) ++ l) (drop_all (length dst) dst (omega arith))
    ∙ append-nil (take (length dst) (near ++ far))
    ∙ ap (take (length dst)) (c.as_slices.ensures ∙ c.self.view_is)
