-- How deep the mutexes are owned after each row of semaphores and mutexes: at most once more than before.
use Rattle.std.proofs.Common.{◌≡◌, ℕ, ◌+◌, ◌≤◌, Some, arith}
use Rattle.std.proofs.lemmas.List.Elements.{All-weaker}
use Rattle.id_table.specs.Rows.{object_of}
use Rattle.id_table.proofs.Lookups.{found_has}
use Rattle.wind_core.specs.State.{KernState}
use Rattle.kernel_world.specs.InheritanceMutex.{Mutex}
use Rattle.kernel_world.specs.Objects.{DepthsWithin}
use Rattle.kernel_world.specs.declared.objects.Objects.{Objects}
use Rattle.call_rows.proofs.EachMutex.{MayChange}

module _ (k : KernState) (o : Objects) (n : ℕ) (within : DepthsWithin n o) where
  deep : (id : ℕ) (v : Mutex) → object_of o.mutexes.rows id ≡ Some v → v.depth ≤ n
  deep id v found = found_has (λ (u : Mutex). u.depth ≤ n) o.mutexes.rows id v within found

  pub depths_may : MayChange k o (λ who. Unit {0}) (λ v. v.depth ≤ n + 1)
  depths_may = record {
    all = All-weaker (λ (r : ℕ × Mutex). r.1.depth ≤ n) (λ (r : ℕ × Mutex). r.1.depth ≤ n + 1) (λ r h. omega (arith, h)) o.mutexes.rows within;
    fresh = λ options. omega arith;
    taken = λ who v any. omega arith;
    passed = λ id v t first. omega arith;
    freed = λ v. omega arith;
    deeper = λ id v found. omega (arith, deep id v found);
    less = λ id v found. omega (arith, deep id v found);
  }
