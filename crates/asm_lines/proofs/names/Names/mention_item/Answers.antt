use Rattle.std.proofs.Common.{◌++◌, sym, subst}
use Rattle.std.specs.List.{flat_map}
use Rattle.std.proofs.lemmas.List.{append-nil}
use Rattle.asm_lines.specs.Names.{value_names, reference_names, item_names, global_names}
use Rattle.asm_lines.specs.Drafts.{AreNames}
use Rattle.asm_lines.proofs.names.Names.mention_item.Goals as goal

pub returns-in_ok-make_global-in-Global : goal.returns-in_ok-make_global-in-Global
unfolding item_names
returns-in_ok-make_global-in-Global c = λ ns ls gs a. subst (λ i. AreNames c.make_global.new.self (ns ++ item_names i) ls (gs ++ global_names i)) (sym c.in-Global.is) (c.in_ok-make_global-in-Global.ensures ns ls gs a)

pub returns-in_ok-mention_values-in-Long : goal.returns-in_ok-mention_values-in-Long
unfolding item_names
returns-in_ok-mention_values-in-Long c =
    λ ns ls gs a. subst (λ i. AreNames c.mention_values.new.self (ns ++ item_names i) ls (gs ++ global_names i)) (sym c.in-Long.is)
    (subst (λ hs. AreNames c.mention_values.new.self (ns ++ flat_map value_names c.in-Long.values) ls hs) (sym (append-nil gs))
    (subst (λ vs. AreNames c.mention_values.new.self (ns ++ flat_map value_names vs) ls gs) c.as_slice.ensures (c.in_ok-mention_values-in-Long.ensures ns ls gs a)))

pub returns-in_ok-mention_reference-in-Instruction : goal.returns-in_ok-mention_reference-in-Instruction
unfolding item_names
returns-in_ok-mention_reference-in-Instruction c =
    λ ns ls gs a. subst (λ i. AreNames c.mention_reference.new.self (ns ++ item_names i) ls (gs ++ global_names i)) (sym c.in-Instruction.is)
    (subst (λ hs. AreNames c.mention_reference.new.self (ns ++ reference_names c.in-Instruction.insn.reference) ls hs) (sym (append-nil gs)) (c.in_ok-mention_reference-in-Instruction.ensures ns ls gs a))
