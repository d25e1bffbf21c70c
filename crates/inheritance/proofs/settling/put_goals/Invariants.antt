use Rattle.inheritance.proofs.Lending.{HaveCome}
use Rattle.inheritance.proofs.settling.put_goals.Given as goal

abbrev pub invariant-loop-place : goal.invariant-loop-place
invariant-loop-place l = HaveCome l.k.tasks l.mutexes.rows l.steps l.place l.goals
