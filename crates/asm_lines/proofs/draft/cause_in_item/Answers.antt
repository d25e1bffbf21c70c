use Rattle.std.proofs.Common.{sym, ◌∙◌}
use Rattle.asm_lines.proofs.Judging.{place_cause, word_cause, no_cause, other_cause, good_word}
use Rattle.asm_lines.proofs.draft.cause_in_item.Goals as goal

pub returns-then-not-takes-clause-exact : goal.returns-then-not-takes-clause-exact
returns-then-not-takes-clause-exact c = λ ps a. place_cause ps c.args.item.now c.in-Instruction.field-0 c.in-Instruction.is (sym (c.takes.ensures ps a) ∙ c.if-not-takes.true)

pub returns-then-is_bad_word-clause-exact : goal.returns-then-is_bad_word-clause-exact
returns-then-is_bad_word-clause-exact c =
    λ ps a. word_cause ps c.args.item.now c.in-Instruction.field-0 c.in-Instruction.is (sym (c.takes.ensures ps a) ∙ c.if-not-takes.false) (sym c.is_bad_word.ensures ∙ c.if-is_bad_word.true)

pub returns-else-is_bad_word-clause-exact : goal.returns-else-is_bad_word-clause-exact
returns-else-is_bad_word-clause-exact c =
    λ ps a. no_cause ps c.args.item.now c.in-Instruction.field-0 c.in-Instruction.is (sym (c.takes.ensures ps a) ∙ c.if-not-takes.false) (sym c.is_bad_word.ensures ∙ c.if-is_bad_word.false)

pub returns-in_default-clause-exact : goal.returns-in_default-clause-exact
returns-in_default-clause-exact c = λ ps a. other_cause ps c.args.item.now c.in_default.not-Instruction

pub returns-in_default-clause-word : goal.returns-in_default-clause-word
returns-in_default-clause-word c = λ e. good_word c.args.item.now c.in_default.not-Instruction
