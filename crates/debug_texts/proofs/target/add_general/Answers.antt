use Rattle.std.proofs.Common.{◌++◌, ◌+◌, ◌-◌, ◌<◌, sym, ap, ◌∙◌, arith}
use Rattle.debug_texts.specs.Target.{general_register, general_registers}
use Rattle.debug_texts.proofs.Chains.{more, one_register}
use Rattle.debug_texts.proofs.target.add_general.Goals as goal

pub loop-register-preserved : goal.loop-register-preserved
loop-register-preserved c =
    let r = c.loop-register.register in
    let less : r < 32 = omega (arith, c.loop-register-test.true) in
    let text = c.loop-register.text.items in
    more text c.add_register.new.text.items (general_register r) (general_registers (r + 1) (32 - (r + 1))) c.in_ok-add_register.ensures
    ∙ ap (λ registers. text ++ registers) (sym (one_register r less)) ∙ c.loop-register.invariant
