use Rattle.std.proofs.Common.{◌≡◌, ◌++◌, ◌-◌}
use Rattle.debug_texts.specs.Target.{general_registers}
use Rattle.debug_texts.proofs.target.add_general.Given as goal

abbrev pub invariant-loop-register : goal.invariant-loop-register
invariant-loop-register l =
    l.text.items ++ general_registers l.register (32 - l.register) ≡ l.initial.text.items ++ general_registers 0 32
