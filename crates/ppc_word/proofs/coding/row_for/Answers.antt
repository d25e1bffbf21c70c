use Rattle.std.proofs.Common.{sym, ap, ◌∙◌}
use Rattle.ppc_word.specs.Opcodes.{is_decided_by}
use Rattle.ppc_word.proofs.Decided.{decided-row}
use Rattle.ppc_word.proofs.coding.row_for.Goals as goal

pub returns-in-Some : goal.returns-in-Some
returns-in-Some c = sym (decided-row c.in-Some.row c.args.word (ap (is_decided_by c.in-Some.row) (sym c.part-opcode.ensures) ∙ c.in-Some.ensures))
