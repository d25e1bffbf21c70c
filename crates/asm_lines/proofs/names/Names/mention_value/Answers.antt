use Rattle.std.proofs.Common.{◌++◌, sym, subst}
use Rattle.asm_lines.specs.Names.{value_names}
use Rattle.asm_lines.specs.Drafts.{AreNames}
use Rattle.asm_lines.proofs.names.Names.mention_value.Goals as goal

pub returns-in_ok-mention-in-Address : goal.returns-in_ok-mention-in-Address
returns-in_ok-mention-in-Address c = λ ns ls gs a. subst (λ v. AreNames c.mention.new.self (ns ++ value_names v) ls gs) (sym c.in-Address.is) (c.in_ok-mention-in-Address.ensures ns ls gs a)
