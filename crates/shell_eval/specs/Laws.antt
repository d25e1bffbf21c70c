-- What follows from the definitions alone.
use Rattle.std.specs.Prelude.{◌≡◌, ℕ, ◌<◌, List}
use Rattle.shell_eval.specs.State.{State}
use Rattle.shell_parse.specs.Trees.{PlainStmt}
use Rattle.shell_eval.specs.Pending.{Pending, Args, weight, counted, counted_all, begun_stmt, filled}
use Rattle.shell_eval.specs.Reduce.{Steps, Calls, reduce}
use Rattle.shell_eval.specs.Evaluate.{Ending, Value, Call as CallEnd, Fault, Waiting, evaluate, goes_on}

-- each reduction makes the tree smaller
abbrev pub SmallerLaw : Type 0
SmallerLaw = (s : State) (p : Pending) (t : State) (q : Pending) → reduce s p ≡ Steps t q → weight q < weight p

-- evaluation makes the due reduction, and goes on from what it leaves
abbrev pub RepeatsLaw : Type 0
RepeatsLaw = (s : State) (p : Pending) → evaluate s p ≡ goes_on (reduce s p) s evaluate

-- how many answers of calls are awaited, in a tree and in arguments
abbrev pub holes : Pending → ℕ
holes = counted 1 (λ x n. n)

abbrev pub holes_all : Args → ℕ
holes_all = counted_all 1 (λ x n. n)

-- a statement awaits no answer at its beginning
abbrev pub BegunLaw : Type 0
BegunLaw = (t : PlainStmt) → holes (begun_stmt t) ≡ 0

-- if no answer is awaited, none is after a reduction
abbrev pub StepLaw : Type 0
StepLaw = (s : State) (p : Pending) (t : State) (q : Pending) → reduce s p ≡ Steps t q → holes p ≡ 0 → holes q ≡ 0

-- if no answer is awaited, one is after a due call
abbrev pub CallLaw : Type 0
CallLaw = (s : State) (p : Pending) (f : ℕ) (vs : List ℕ) (q : Pending) → reduce s p ≡ Calls f vs q → holes p ≡ 0 → holes q ≡ 1

-- an answer that is filled in leaves none awaited
abbrev pub FillLaw : Type 0
FillLaw = (p : Pending) (v : ℕ) → holes (filled v p) ≡ 0

-- evaluation ends at a value, at a fault, or at a call whose answer is the only one awaited
abbrev pub IsEnd : Ending → Type 0
IsEnd (Value n) = Unit {0}
IsEnd (CallEnd f vs q) = holes q ≡ 1
IsEnd (Fault e) = Unit {0}
IsEnd Waiting = ⊥

-- if no answer is awaited, evaluation ends like this
abbrev pub EndsLaw : Type 0
EndsLaw = (s : State) (p : Pending) → holes p ≡ 0 → IsEnd (evaluate s p).ending
