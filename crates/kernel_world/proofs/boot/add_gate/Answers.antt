use Rattle.std.proofs.Common.{◌<◌, List, ℕ, length, subst, sym, ◌∙◌}
use Rattle.kernel_world.proofs.Opened.{gate_named}
use Rattle.kernel_world.proofs.boot.add_gate.Goals as goal

pub add-requires-clause-named : goal.add-requires-clause-named
add-requires-clause-named c =
    subst (λ (bytes : List ℕ). 0 < length bytes) (sym (c.in-Ok.ensures.value ∙ c.as_bytes.ensures.value))
    (gate_named c.number.result c.in-Some.name.now (sym c.in-Some.ensures))
