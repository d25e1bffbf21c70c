use Rattle.std.proofs.Common.{[], ◌∷◌, ◌++◌, refl}
use Rattle.asm_lines.proofs.Steps.{names_labelled}
use Rattle.asm_lines.proofs.names.Names.define.Goals as goal

pub returns : goal.returns
returns c =
    λ ns ls gs a. names_labelled c.mention.new.self _ (ns ++ c.args.name.now ∷ []) ls gs c.args.name.now 0 (c.in_ok-mention.ensures ns ls gs a) refl refl refl (rw c.bytes.ensures at c.in_ok-set.ensures)
