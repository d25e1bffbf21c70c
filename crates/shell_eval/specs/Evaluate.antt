-- Evaluation: reductions up to a value, a call or a fault.
use Rattle.std.specs.Prelude.{ℕ, zero, suc, List}
use Rattle.shell_eval.specs.declared.fault.EvalFault.{EvalFault}
use Rattle.shell_eval.specs.State.{State}
use Rattle.shell_eval.specs.Pending.{Pending, weight}
use Rattle.shell_eval.specs.Reduce.{Outcome, Is, Steps, Calls, Faults, Waits, reduce}

-- where it ends: at a value, at a call with what is left, at a fault, or because a call's answer is awaited
pub data Ending : Type 0 where
  Value : ℕ → Ending
  Call : ℕ → List ℕ → Pending → Ending
  Fault : EvalFault → Ending
  Waiting : Ending

-- the state left, and where it ends
pub record Evaluated : Type 0 where
  pub state : State
  pub ending : Ending

-- an evaluation that ends like this in this state
abbrev pub ended : State → Ending → Evaluated
ended s e = record { state = s; ending = e }

-- it ends, or goes on
abbrev pub goes_on : Outcome ℕ Pending → State → (State → Pending → Evaluated) → Evaluated
goes_on (Is n) s more = ended s (Value n)
goes_on (Steps t p) s more = more t p
goes_on (Calls f vs p) s more = ended s (Call f vs p)
goes_on (Faults e) s more = ended s (Fault e)
goes_on Waits s more = ended s Waiting

-- at most n reductions are made
abbrev pub reduced : ℕ → State → Pending → Evaluated
reduced zero s p = ended s Waiting
reduced (suc n) s p = goes_on (reduce s p) s (reduced n)

-- there are never more reductions than the weight
unfoldable pub evaluate : State → Pending → Evaluated
evaluate s p = reduced (suc (weight p)) s p
