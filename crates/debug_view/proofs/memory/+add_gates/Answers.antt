use Rattle.std.proofs.Common.{◌++◌, sym, ap, ◌∙◌, arith}
use Rattle.std.proofs.lemmas.Grind.{common_steps}
use Rattle.std.proofs.lemmas.List.{append-nil}
use Rattle.debug_view.specs.Memory.{gate_codes}
use Rattle.debug_view.proofs.Bytes.{gates_more, gates_none}
use Rattle.debug_view.proofs.memory.+add_gates.Goals as goal

pub returns : goal.returns
returns t c = grind (arith, common_steps, gates_more c.args.count (omega arith))

pub returns-then-count-eq0 : goal.returns-then-count-eq0
returns-then-count-eq0 t c = sym (ap (λ n. c.args.bytes.now.items ++ gate_codes n) c.if-count-eq0.true ∙ ap (λ gs. c.args.bytes.now.items ++ gs) gates_none ∙ append-nil c.args.bytes.now.items)
