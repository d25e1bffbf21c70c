use Rattle.std.proofs.Common.{◌≡◌, length}
use Rattle.sweep_run.specs.Marks.{without_prompts as without_prompts_lem}
use Rattle.sweep_run.proofs.marks.without_prompts.Given as goal

-- the rest has the same text without prompts
abbrev pub invariant-loop-rest : goal.invariant-loop-rest
invariant-loop-rest l = without_prompts_lem l.rest ≡ without_prompts_lem l.line

abbrev pub decreases-loop-rest : goal.decreases-loop-rest
decreases-loop-rest l = length l.rest
