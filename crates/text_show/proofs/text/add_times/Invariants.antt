use Rattle.std.proofs.Common.{◌≡◌, ◌++◌, replicate}
use Rattle.text_show.proofs.text.add_times.Given as goal

abbrev pub invariant-loop : goal.invariant-loop
invariant-loop l = l.text.items ≡ l.initial.text.items ++ replicate l.counter l.byte
