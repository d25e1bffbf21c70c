use Rattle.std.proofs.Common.{refl}
use Rattle.std.proofs.lemmas.Result.{IfOk-equal}
use Rattle.debug_view.proofs.registers.add_values.Goals as goal

pub returns : goal.returns
returns g c =
    IfOk-equal c.add_registers.result _ _ _ c.add_registers.ensures
    (rw (c.steps.ensures, c.time_told.ensures, c.time.ensures, c.ticks.ensures) refl)
