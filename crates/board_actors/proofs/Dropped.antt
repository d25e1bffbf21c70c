-- What the code drops is what the machine drops.
use Rattle.std.proofs.Common.{◌≡◌, ℕ, Bool, true, false, cond, eqb, List, Option, None, Some, is_some, refl, sym, ap, ◌∙◌, subst, eqb-true}
use Rattle.task_block.specs.declared.task.Task.{Task}
use Rattle.id_table.specs.Records.{change}
use Rattle.id_table.proofs.Records.{change_alike}
use Rattle.wind_core.specs.State.{KernState, IsKern, task_id, task_of}
use Rattle.wind_core.specs.Moves.{unreserved, unreserve}
use Rattle.id_table.proofs.Places.{not_there}
use Rattle.live_loading.specs.KernelWorldKept.{ReservedBy}
use Rattle.wind_machine.specs.Reserving.{drop_others, drop_all}
use Rattle.wind_machine.proofs.Reserving.{none_stays, change_identity, last_own, last_other, last_none, all_none, all_last}
use Rattle.board_actors.specs.StepStart.{if_other, without}

-- nothing changes for a task that doesn't live
not_live : (ts : List Task) (who : ℕ) → is_some (task_of ts who) ≡ false → change task_id ts who unreserved ≡ ts
not_live ts who e = not_there task_id ts who unreserved (elim (task_of ts who) as (λ o. is_some o ≡ false → o ≡ None) [ None ↦ λ d. refl | Some t ↦ λ d. absurd (cc) ] e)

pub not_own : (k : KernState) (who : ℕ) → is_some (task_of k.tasks who) ≡ false → unreserve k who ≡ k
not_own k who e = ap (λ ts. record k { tasks = ts }) (not_live k.tasks who e)

-- nothing changes for a task without a reservation
pub not_reserved : (k : KernState) (who : ℕ) (t : Task) → IsKern k → task_of k.tasks who ≡ Some t → is_some t.regs.reserve ≡ false → unreserve k who ≡ k
not_reserved k who t good there none =
    ap (λ ts. record k { tasks = ts }) (change_alike task_id k.tasks who t unreserved (λ u. u) good.rising there (none_stays t (λ some. absurd (cc))) ∙ change_identity k.tasks who)

pub dropped_all : (k : KernState) → ReservedBy k.last k → without k k.last ≡ drop_all k
dropped_all k h = by_last k.last h where
  by_last : (o : Option ℕ) → ReservedBy o k → without k o ≡ drop_all k
  by_last None r = sym (ap (λ ts. record k { tasks = ts }) (all_none k.tasks r))
  by_last (Some last) r = sym (ap (λ ts. record k { tasks = ts }) (all_last k.tasks last r))

pub dropped_others : (k : KernState) (who : ℕ) → ReservedBy k.last k → without k (if_other who k.last) ≡ drop_others k who
dropped_others k who h = by_last k.last h where
  same : (a b : ℕ) → eqb a b ≡ true → a ≡ b
  same a b e = eqb-true a b e

  own : (last : ℕ) → ReservedBy (Some last) k → eqb last who ≡ true → k ≡ drop_others k who
  own last r e = sym (ap (λ ts. record k { tasks = ts }) (last_own k.tasks who (subst (λ n. ReservedBy (Some n) k) (same last who e) r)))

  other : (last : ℕ) → ReservedBy (Some last) k → eqb last who ≡ false → unreserve k last ≡ drop_others k who
  other last r e = sym (ap (λ ts. record k { tasks = ts }) (last_other k.tasks who last e r))

  apart : (last : ℕ) → ReservedBy (Some last) k → (c : Bool) → eqb last who ≡ c → without k (cond c None (Some last)) ≡ drop_others k who
  apart last r true d = own last r d
  apart last r false d = other last r d

  by_last : (o : Option ℕ) → ReservedBy o k → without k (if_other who o) ≡ drop_others k who
  by_last None r = sym (ap (λ ts. record k { tasks = ts }) (last_none k.tasks who r))
  by_last (Some last) r = apart last r (eqb last who) refl
