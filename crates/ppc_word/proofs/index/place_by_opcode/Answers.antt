use Rattle.std.proofs.Common.{◌∙◌}
use Rattle.ppc_word.proofs.Leads.{led-opcode}
use Rattle.ppc_word.proofs.index.place_by_opcode.Goals as goal

pub returns-clause-within : goal.returns-clause-within
returns-clause-within c = rw (c.opcode_place-place.ensures, c.requires.is) (led-opcode c.args.word (λ e. c.requires.not_19 (c.requires.is ∙ e)) (λ e. c.requires.not_31 (c.requires.is ∙ e))).0

pub returns-clause-only : goal.returns-clause-only
returns-clause-only c = rw (c.opcode_place-place.ensures, c.requires.is) (led-opcode c.args.word (λ e. c.requires.not_19 (c.requires.is ∙ e)) (λ e. c.requires.not_31 (c.requires.is ∙ e))).1
