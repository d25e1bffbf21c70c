use Rattle.std.proofs.Common.{rules, sym}
use Rattle.std.proofs.lemmas.List.{nil_from_length}
use Rattle.live_session.proofs.Taking.{limit_there, no_limit_digits, no_limit_empty, no_limit_end, no_limit_other}
use Rattle.live_session.proofs.continuing.limit_of.Goals as goal

-- the text is empty
pub returns-in_default-clause-none : goal.returns-in_default-clause-none
returns-in_default-clause-none c = no_limit_empty c.args.text.now (nil_from_length c.args.text.now c.in_default.ensures.cases)

-- it doesn't end its line
pub returns-then-last-ne10-clause-none : goal.returns-then-last-ne10-clause-none
returns-then-last-ne10-clause-none c = no_limit_end c.args.text.now c.in-Some.digits.now c.in-Some.last.now c.in-Some.ensures.cases.0 (search rules)

-- what comes before its last byte isn't a limit
pub returns-in_default-decimal-clause-none : goal.returns-in_default-decimal-clause-none
returns-in_default-decimal-clause-none c = no_limit_digits c.args.text.now c.in-Some.digits.now c.in-Some.last.now c.in-Some.ensures.cases.0 (sym c.in_default-decimal.ensures.value)

-- or has other digits
pub returns-else-is_spelled-clause-none : goal.returns-else-is_spelled-clause-none
returns-else-is_spelled-clause-none c =
    no_limit_other c.args.text.now c.in-Some.digits.now c.in-Some.last.now c.in-Some.ensures.cases.0 c.in-Some-decimal.limit (sym c.in-Some-decimal.ensures.value)
    (λ same. let yes = c.is_spelled.ensures.1 same in cc)

pub returns-then-is_spelled-clause-some : goal.returns-then-is_spelled-clause-some
returns-then-is_spelled-clause-some c = (
  limit_there c.args.text.now c.in-Some.digits.now c.in-Some.last.now c.in-Some.ensures.cases.0 c.in-Some-decimal.limit (search rules) (c.is_spelled.ensures.0 c.if-is_spelled.true),
  c.in-Some-decimal.ensures.within,
)
