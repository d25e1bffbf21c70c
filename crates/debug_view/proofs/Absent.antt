-- Numbers of which there is no task.
use Rattle.std.proofs.Common.{◌≡◌, ℕ, ◌<◌, ◌==◌, true, false, None, refl, sym, arith}
use Rattle.std.proofs.lemmas.Bool.Decides.{nat_tests}
use Rattle.id_table.proofs.Halving.{none_of}
use Rattle.wind_base.specs.Limits.{greatest_id}
use Rattle.wind_core.specs.State.{IsKern, KernState, task_id, task_of}
use Rattle.debug_view.specs.Threads.{task_there}

-- no task's id is above the greatest
pub none_there : (k : KernState) (n : ℕ) → IsKern k → greatest_id < n → task_of k.tasks n ≡ None
none_there k n is past =
    none_of task_id k.tasks n (λ i d less same. (let low = is.ids i d less in omega (arith, low, same, is.last_id)))

pub none_past : (k : KernState) (n : ℕ) → IsKern k → greatest_id < n → None ≡ task_there k n
none_past k n is past =
    let other : (n == 0) ≡ false = grind (arith, nat_tests) in
    rw other (sym (none_there k n is past))

-- no thread has number 0
pub none_zero : (k : KernState) (n : ℕ) → n ≡ 0 → None ≡ task_there k n
none_zero k n zero = let same : (n == 0) ≡ true = grind (arith, nat_tests) in rw same refl
