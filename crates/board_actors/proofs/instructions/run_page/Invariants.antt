use Rattle.std.proofs.Common.{◌≡◌, ℕ, ◌+◌, ◌/◌, ◌%◌}
use Rattle.ppc_core.specs.Stepping.{at_pc}
use Rattle.board_bus.specs.Seen.{bus_by}
use Rattle.board_actors.proofs.Bursting.{RunsBelow}
use Rattle.board_actors.proofs.instructions.run_page.Given as goal

-- this many more instructions were executed, and the next is in the page
abbrev pub invariant-loop-next : goal.invariant-loop-next
invariant-loop-next g l =
    let seen = bus_by (λ d. (goal.Device-dyn g (d.vtable, d.value)).kind_of d.value) (λ d. (goal.Device-dyn g (d.vtable, d.value)).words_of d.value) in
    (k : ℕ) × (k + l.at.left ≡ l.fn.from.left) × RunsBelow k (at_pc l.initial.regs l.fn.from.pc) (seen l.fn.bus) (at_pc l.regs l.at.pc) (seen l.fn.bus) × (l.at.pc / 4096 ≡ l.page) × (l.at.pc % 4 ≡ 0) × (l.made ≡ l.fn.made)

abbrev pub decreases-loop-next : goal.decreases-loop-next
decreases-loop-next g l = l.at.left
