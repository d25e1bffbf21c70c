use Rattle.std.proofs.Common.{◌≡◌, ℕ, List, length, sym, ap, ◌∙◌, rules}
use Rattle.ppc_word.specs.declared.rule.Rule.{Rule}
use Rattle.ppc_text.specs.Mnemonics.{named_as}
use Rattle.ppc_text.specs.Limits.{limits_of, are_within, holds}
use Rattle.ppc_text.proofs.Fields.{unfit, fitting}
use Rattle.ppc_text.proofs.making.are_its_fields.Goals as goal

pub returns-else-are_within : goal.returns-else-are_within
returns-else-are_within c =
    let six : length c.args.fields.now ≡ 6 = search rules in
    let l : c.limits-limits.result ≡ limits_of (named_as c.args.row) = c.limits-limits.ensures ∙ ap limits_of c.mnemonic_of-mnemonic.ensures in
    unfit c.args.row c.args.fields.now six (ap (λ (ls : List ℕ). are_within ls c.args.fields.now) (sym l) ∙ sym c.are_within.ensures ∙ c.if-are_within.false)

pub returns-then-are_within : goal.returns-then-are_within
returns-then-are_within c =
    let six : length c.args.fields.now ≡ 6 = search rules in
    let l : c.limits-limits.result ≡ limits_of (named_as c.args.row) = c.limits-limits.ensures ∙ ap limits_of c.mnemonic_of-mnemonic.ensures in
    c.holds.ensures ∙ ap (λ (r : Rule). holds r c.args.fields.now) c.rule_of.ensures
    ∙ fitting c.args.row c.args.fields.now six (ap (λ (ls : List ℕ). are_within ls c.args.fields.now) (sym l) ∙ sym c.are_within.ensures ∙ c.if-are_within.true)
