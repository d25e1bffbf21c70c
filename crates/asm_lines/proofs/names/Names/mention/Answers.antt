use Rattle.std.proofs.Common.{ℕ, List, [], ◌∷◌, ◌++◌, true, false, sym, ap, ◌∙◌, refl}
use Rattle.std.specs.Prelude.{is_some}
use Rattle.asm_lines.specs.Drafts.{number_at}
use Rattle.asm_lines.proofs.Steps.{names_again, names_new}
use Rattle.asm_lines.proofs.names.Names.mention.Goals as goal

pub returns-then-has : goal.returns-then-has
returns-then-has c =
    λ ns ls gs a. names_again c.args.self.now ns ls gs c.args.name.now a
    (ap (λ (w : List ℕ). is_some (number_at c.args.self.now.mentioned w)) (sym c.bytes.ensures) ∙ sym c.has.ensures ∙ c.if-has.true)

pub returns : goal.returns
returns c =
    λ ns ls gs a. names_new c.args.self.now _ ns ls gs c.args.name.now 0 a
    (ap (λ (w : List ℕ). is_some (number_at c.args.self.now.mentioned w)) (sym c.bytes.ensures) ∙ sym c.has.ensures ∙ c.if-has.false)
    (c.in_ok-push.ensures.items ∙ ap (λ (w : List ℕ). c.args.self.now.entries.items ++ w ∷ []) c.again.ensures)
    (rw c.bytes-2.ensures at c.in_ok-set.ensures) refl refl
