use Rattle.std.proofs.Common.{◌≡◌, ◌-◌, ◌≤◌, replicate}
use Rattle.std.specs.Prelude.{vec_len}
use Rattle.board_mem.proofs.store.repeated.Given as goal

abbrev pub invariant-loop-value : goal.invariant-loop-value
invariant-loop-value g l = (l.items.items ≡ replicate (vec_len l.items) l.value) × (vec_len l.items ≤ l.n)

abbrev pub decreases-loop-value : goal.decreases-loop-value
decreases-loop-value g l = l.n - vec_len l.items
