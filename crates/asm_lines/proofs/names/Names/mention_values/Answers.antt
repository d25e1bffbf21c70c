use Rattle.std.proofs.Common.{◌++◌, take, subst, arith}
use Rattle.std.specs.List.{flat_map}
use Rattle.std.proofs.lemmas.List.{take_all}
use Rattle.asm_lines.specs.Names.{value_names}
use Rattle.asm_lines.specs.Drafts.{AreNames}
use Rattle.asm_lines.proofs.Steps.{flat_more}
use Rattle.asm_lines.proofs.names.Names.mention_values.Goals as goal

pub loop-value-preserved : goal.loop-value-preserved
loop-value-preserved c =
    λ ns ls gs a. subst (λ ms. AreNames c.mention_value.new.self ms ls gs) (flat_more value_names ns c.args.values.now c.loop-value.value-index c.value-item.result c.loop-value-test.true c.value-item.is)
    (c.in_ok-mention_value.ensures (ns ++ flat_map value_names (take c.loop-value.value-index c.args.values.now)) ls gs (c.loop-value.invariant ns ls gs a))

pub returns : goal.returns
returns c =
    λ ns ls gs a. subst (λ vs. AreNames c.loop-value.self (ns ++ flat_map value_names vs) ls gs) (take_all c.loop-value.value-index c.args.values.now (omega arith)) (c.loop-value.invariant ns ls gs a)
