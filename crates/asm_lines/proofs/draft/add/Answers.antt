use Rattle.std.proofs.Common.{[], ◌∷◌, ◌++◌, true, false, sym, ◌∙◌}
use Rattle.asm_lines.specs.Items.{next}
use Rattle.asm_lines.specs.Names.{mentions, globals}
use Rattle.asm_lines.proofs.Judging.{cause_item, cause_twice, cause_size, exceeds_lines, small_draft}
use Rattle.asm_lines.proofs.draft.add.Goals as goal

pub returns-then-is_some-clause-cause : goal.returns-then-is_some-clause-cause
returns-then-is_some-clause-cause c = λ ps a. cause_item ps c.args.line.now c.cause_in_item-cause.result (c.cause_in_item-cause.ensures.exact ps a) (sym c.is_some.ensures ∙ c.if-is_some.true)

pub returns-then-is_defined_twice-clause-cause : goal.returns-then-is_defined_twice-clause-cause
returns-then-is_defined_twice-clause-cause c =
    λ ps a. cause_twice ps c.args.line.now c.cause_in_item-cause.result (c.cause_in_item-cause.ensures.exact ps a) (sym c.is_some.ensures ∙ c.if-is_some.false)
    (sym (c.is_defined_twice.ensures ps (mentions ps) (globals ps) a.names) ∙ c.if-is_defined_twice.true)

pub returns-then-exceeds-clause-cause : goal.returns-then-exceeds-clause-cause
returns-then-exceeds-clause-cause c =
    λ ps a. cause_size ps c.args.line.now c.cause_in_item-cause.result true (c.cause_in_item-cause.ensures.exact ps a) (sym c.is_some.ensures ∙ c.if-is_some.false)
    (sym (c.is_defined_twice.ensures ps (mentions ps) (globals ps) a.names) ∙ c.if-is_defined_twice.false)
    (sym (exceeds_lines c.put.new.draft (ps ++ next ps c.args.line.now ∷ []) (c.in_ok-put.ensures ps a)) ∙ sym c.exceeds.ensures ∙ c.if-exceeds.true)

pub returns-else-exceeds-clause-cause : goal.returns-else-exceeds-clause-cause
returns-else-exceeds-clause-cause c =
    λ ps a. cause_size ps c.args.line.now c.cause_in_item-cause.result false (c.cause_in_item-cause.ensures.exact ps a) (sym c.is_some.ensures ∙ c.if-is_some.false)
    (sym (c.is_defined_twice.ensures ps (mentions ps) (globals ps) a.names) ∙ c.if-is_defined_twice.false)
    (sym (exceeds_lines c.put.new.draft (ps ++ next ps c.args.line.now ∷ []) (c.in_ok-put.ensures ps a)) ∙ sym c.exceeds.ensures ∙ c.if-exceeds.false)

pub returns-else-exceeds-clause-small : goal.returns-else-exceeds-clause-small
returns-else-exceeds-clause-small c = λ e. small_draft c.put.new.draft (sym c.exceeds.ensures ∙ c.if-exceeds.false)
