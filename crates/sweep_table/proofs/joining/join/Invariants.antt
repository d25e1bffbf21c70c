use Rattle.std.proofs.Common.{◌≡◌, ◌+◌, ◌++◌, take, drop}
use Rattle.sweep_table.specs.Runs.{outcomes_in, members_in, outcomes_of, IsTally}
use Rattle.sweep_table.proofs.joining.join.Given as goal

-- the runs so far were added
abbrev pub invariant-loop-run : goal.invariant-loop-run
invariant-loop-run l = record {
  sound : IsTally l.tally;
  outcomes : outcomes_of l.tally ≡ outcomes_of l.fn.tally ++ outcomes_in l.known (take l.run-index l.runs);
  members : l.tally.members + members_in (drop l.run-index l.runs) ≡ l.fn.tally.members + l.members;
}
