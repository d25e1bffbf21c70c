use Rattle.std.proofs.Common.{◌≡◌, ◌+◌, ◌≤◌, ℕ}
use Rattle.board_bus.specs.Seen.{bus_by}
use Rattle.board_actors.specs.Instructions.{left_of, reached}
use Rattle.board_actors.proofs.Bursting.{RunsBelow}
use Rattle.board_actors.proofs.instructions.run_words.Given as goal

-- this many instructions were executed
abbrev pub invariant-loop-burst : goal.invariant-loop-burst
invariant-loop-burst g l =
    let seen = bus_by (λ d. (goal.Device-dyn g (d.vtable, d.value)).kind_of d.value) (λ d. (goal.Device-dyn g (d.vtable, d.value)).words_of d.value) in
    (k : ℕ) × (k + left_of l.burst ≡ l.made) × RunsBelow k l.fn.regs (seen l.fn.bus) (reached l.burst l.regs) (seen l.bus) × (l.made ≤ l.most)

abbrev pub decreases-loop-burst : goal.decreases-loop-burst
decreases-loop-burst g l = left_of l.burst
