-- Ready tasks, as they come and go.
use Rattle.std.proofs.Common.{◌≡◌, ℕ, Option, None, Some, ap}
use Rattle.std.specs.Option.{option_map}
use Rattle.std.proofs.lemmas.Option.{same_Some}
use Rattle.linked_lists.specs.IdTableSorting.{first}
use Rattle.linked_lists.specs.IdTableArrivals.{after_changes}
use Rattle.linked_lists.proofs.IdTableArrivals.{first_earliest}
use Rattle.ready_queue.specs.Order.{task_id, task_pri}
use Rattle.ready_queue.specs.Laws.{FirstLaw}

named : (o : Option (ℕ × ℕ)) (id : ℕ) → option_map task_id o ≡ Some id → (pri : ℕ) × (o ≡ Some (pri, id))
named None id e = absurd (cc)
named (Some t) id e = (t.0, ap (λ n. Some (t.0, n)) (same_Some t.1 id e))

pub first_came : FirstLaw
first_came changes id e =
    let found = named (first (after_changes task_id task_pri changes)) id e in
    record { pri = found.0; earliest = first_earliest task_id task_pri changes (found.0, id) found.1 }
