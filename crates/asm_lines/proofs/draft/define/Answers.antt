use Rattle.std.proofs.Common.{◌++◌, sym, subst}
use Rattle.asm_lines.specs.Names.{label_names}
use Rattle.asm_lines.specs.Drafts.{AreNames}
use Rattle.asm_lines.proofs.draft.define.Goals as goal

pub returns-in_ok-define-in-Some : goal.returns-in_ok-define-in-Some
returns-in_ok-define-in-Some c = λ ns ls gs a. subst (λ l. AreNames c.define.new.self (ns ++ label_names l) (ls ++ label_names l) gs) (sym c.in-Some.is) (c.in_ok-define-in-Some.ensures ns ls gs a)
