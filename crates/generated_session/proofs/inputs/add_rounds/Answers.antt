use Rattle.std.proofs.Common.{◌+◌, ◌++◌, ◌∙◌, sym, ap, string_bytes, append_assoc, add-one}
use Rattle.generated_session.specs.Session.{round, rounds}
use Rattle.generated_session.proofs.inputs.add_rounds.Goals as goal

-- the lines of one more round were added
pub loop-made-preserved : goal.loop-made-preserved
loop-made-preserved c =
    let made = c.loop-made.made in
    let before = string_bytes c.args.text.now in
    c.in_ok-add_round.ensures
    ∙ ap (λ bytes. bytes ++ round (made + 1)) c.loop-made.invariant
    ∙ append_assoc before (rounds made) (round (made + 1))
    ∙ ap (λ k. before ++ (rounds made ++ round k)) (add-one made)
    ∙ ap (λ k. before ++ rounds k) (sym (add-one made))
