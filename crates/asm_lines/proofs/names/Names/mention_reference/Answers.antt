use Rattle.std.proofs.Common.{◌++◌, sym, subst}
use Rattle.asm_lines.specs.Names.{reference_names}
use Rattle.asm_lines.specs.Drafts.{AreNames}
use Rattle.asm_lines.proofs.names.Names.mention_reference.Goals as goal

pub returns-in_ok-mention-in-Some : goal.returns-in_ok-mention-in-Some
returns-in_ok-mention-in-Some c = λ ns ls gs a. subst (λ r. AreNames c.mention.new.self (ns ++ reference_names r) ls gs) (sym c.in-Some.is) (c.in_ok-mention-in-Some.ensures ns ls gs a)
