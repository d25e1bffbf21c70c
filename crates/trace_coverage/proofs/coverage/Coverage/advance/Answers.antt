use Rattle.std.proofs.Common.{◌<◌, ◌∙◌, ap, arith}
use Rattle.kernel_world.specs.State.{WorldState}
use Rattle.board_reading.specs.BoardPlayerSeen.{board_by}
use Rattle.trace_coverage.specs.Executed.{instruction_under}
use Rattle.trace_coverage.proofs.Going.{covers_one}
use Rattle.trace_coverage.proofs.coverage.Coverage.advance.Goals as goal

-- its word was listed
pub returns-clause-covers : goal.returns-clause-covers
returns-clause-covers g c =
    let state = board_by (λ d. (goal.Device-dyn g (d.vtable, d.value)).kind_of d.value) (λ d. (goal.Device-dyn g (d.vtable, d.value)).words_of d.value) in
    let some : 0 < c.burst-made.result = omega arith in
    let who = c.args.who.now in
    covers_one c.silent_law.ensures c.args.self.now c.execute.new.self (state c.args.board.now) (state c.burst-made.new.self) who c.instruction_under-at.result c.burst-made.result
    some c.burst-made.ensures.within c.burst-made.ensures.made c.requires.last (c.burst-made.ensures.only some who c.requires.last)
    (c.instruction_under-at.ensures ∙ ap (λ (w : WorldState). instruction_under w who) c.world.ensures) c.execute.ensures
