use Rattle.std.proofs.Common.{◌≡◌, ◌++◌, length}
use Rattle.wind_base.specs.Lines.{line_length}
use Rattle.sweep_run.specs.Shown.{shown}
use Rattle.sweep_run.proofs.shown.add_shown.Given as goal

-- the lines so far, and those that are left, are all
abbrev pub invariant-loop-length : goal.invariant-loop-length
invariant-loop-length l = record {
  lines : l.text.items ++ shown l.rest ≡ l.initial.text.items ++ shown l.outcome;
  first : l.length ≡ line_length l.rest;
}

abbrev pub decreases-loop-length : goal.decreases-loop-length
decreases-loop-length l = length l.rest
