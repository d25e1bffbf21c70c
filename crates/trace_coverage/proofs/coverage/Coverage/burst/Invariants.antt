use Rattle.std.proofs.Common.{◌≡◌, ◌+◌, ◌-◌, ◌≤◌, Some}
use Rattle.wind_machine.specs.Silent.{SilentSteps, last_actor}
use Rattle.board_reading.specs.BoardPlayerSeen.{board_by}
use Rattle.trace_coverage.specs.Bursts.{CoversOn}
use Rattle.trace_coverage.proofs.coverage.Coverage.burst.Given as goal

-- the instructions so far were made, and their words listed
abbrev pub invariant-loop-made : goal.invariant-loop-made
invariant-loop-made g l =
    let state = board_by (λ d. (goal.Device-dyn g (d.vtable, d.value)).kind_of d.value) (λ d. (goal.Device-dyn g (d.vtable, d.value)).words_of d.value) in
    record {
      steps : SilentSteps l.made (state l.fn.board) (state l.board);
      last : last_actor (state l.board).world ≡ Some l.who;
      covers : CoversOn l.fn.self l.self (state l.fn.board) l.made;
      counted : (state l.board).steps ≡ (state l.fn.board).steps + l.made;
      within : l.made ≤ l.most;
    }

abbrev pub decreases-loop-made : goal.decreases-loop-made
decreases-loop-made g l = l.most - l.made
