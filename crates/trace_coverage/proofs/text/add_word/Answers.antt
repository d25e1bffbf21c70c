use Rattle.std.proofs.Common.{◌+◌, ◌++◌, ◌∷◌, None, Some, ap, append_assoc, sym, ◌∙◌}
use Rattle.trace_coverage.specs.Text.{ended_at, range_lines, ranges_from}
use Rattle.trace_coverage.proofs.Texts.{lines_append}
use Rattle.trace_coverage.proofs.text.add_word.Goals as goal

-- the word belongs to a range
pub returns-then-is_executed : goal.returns-then-is_executed
returns-then-is_executed c = λ words.
    let text = c.args.text.now.items in
    let at = c.args.at in
    ap (λ from. text ++ range_lines (ranges_from (Some from) (at + 4) words)) c.begun_at.ensures
    ∙ ap (λ b. text ++ range_lines (ranges_from c.args.begun at (b ∷ words))) (sym c.if-is_executed.true)

-- it ends one, or belongs to none
pub returns : goal.returns
returns c = λ words.
    let text = c.args.text.now.items in
    let at = c.args.at in
    let rest = ranges_from None (at + 4) words in
    ap (λ t. t ++ range_lines rest) c.in_ok-add_ended.ensures
    ∙ append_assoc text (range_lines (ended_at c.args.begun at)) (range_lines rest)
    ∙ ap (λ t. text ++ t) (sym (lines_append (ended_at c.args.begun at) rest))
    ∙ ap (λ b. text ++ range_lines (ranges_from c.args.begun at (b ∷ words))) (sym c.if-is_executed.false)
