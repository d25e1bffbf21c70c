use Rattle.std.proofs.Common.{◌≡◌, ◌++◌, length, map}
use Rattle.sweep_run.specs.Marks.{marked_text}
use Rattle.sweep_run.proofs.marks.add_marked.Given as goal

-- the marked lines so far, and those that are left, are all
abbrev pub invariant-loop-rest : goal.invariant-loop-rest
invariant-loop-rest l = l.text.items ++ marked_text (map (λ m. m.now) l.marks) l.rest ≡ l.initial.text.items ++ marked_text (map (λ m. m.now) l.marks) l.console

abbrev pub decreases-loop-rest : goal.decreases-loop-rest
decreases-loop-rest l = length l.rest
