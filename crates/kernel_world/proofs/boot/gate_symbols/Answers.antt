use Rattle.std.proofs.Common.{◌≡◌, length, ap, ◌∙◌, arith}
use Rattle.kernel_world.proofs.Opened.{count_gates}
use Rattle.kernel_world.proofs.boot.gate_symbols.Goals as goal

pub overflow_cast-all : goal.overflow_cast-all
overflow_cast-all c =
    let count : length c.all-all.result.now ≡ 58 = ap length c.all-all.ensures ∙ count_gates in
    omega (arith, count)
