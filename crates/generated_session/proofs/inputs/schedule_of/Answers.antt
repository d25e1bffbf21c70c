use Rattle.std.proofs.Common.{◌≡◌, ◌∙◌, sym, ap, subst, None, Some}
use Rattle.tick_file.specs.Lines.{first_bad_line, Tells}
use Rattle.generated_session.proofs.Lines.{ticks_are_good}
use Rattle.generated_session.proofs.inputs.schedule_of.Goals as goal

-- its line is of the grammar
pub unreachable-requires : goal.unreachable-requires
unreachable-requires c =
    let good : first_bad_line c.as_bytes.result.now ≡ None = ap first_bad_line (c.as_bytes.ensures.value ∙ c.in_ok-text.ensures) ∙ ticks_are_good c.args.rounds c.requires c.grammar_law.ensures in
    let bad : first_bad_line c.as_bytes.result.now ≡ Some c.in-Err-BadLine.field-0-0 = subst (Tells (first_bad_line c.as_bytes.result.now)) c.in-Err-BadLine.field-0-is c.in-Err-BadLine.ensures.bad in
    let never : None ≡ Some c.in-Err-BadLine.field-0-0 = sym good ∙ bad in
    cc
