-- The invariant of ids from one world to another.
use Rattle.std.proofs.Common.{◌≡◌, ℕ, ◌+◌, ◌≤◌, List, [], ◌∷◌, ◌++◌, map, Some, refl, sym, subst, arith}
use Rattle.std.specs.List.{All}
use Rattle.id_table.specs.Rows as table
use Rattle.module_loader.specs.declared.module.LoadedModule.{LoadedModule}
use Rattle.wind_core.specs.State.{KernState, task_id}
use Rattle.wind_core.proofs.Ids.{ids}
use Rattle.isr_watch.specs.State.{WatchState, watchdog_id}
use Rattle.kernel_world.specs.State.{WorldState}
use Rattle.kernel_world.specs.LiveIds.{task_ids, waited_ids, other_ids, object_ids, AreIds, KeepsIds}
use Rattle.kernel_world.specs.declared.objects.Objects.{Objects}
use Rattle.kernel_world.proofs.LiveIds.{Owns, HasOwner, all_by_id, task_owns, Fewer, Given, fewer_same, fewer_before, given_before, given_after, given_none, given_push, ids_fewer, ids_given, ids_task}

module _ (w : WorldState) (kept : KeepsIds w) where
  -- the same tasks live, and the waited-for objects get at most the next id
  pub ids_objects : (j : KernState) (o : Objects) → ids j.tasks ≡ ids w.kern.tasks → Given w.kern.next_id j.next_id (waited_ids w.objects) (waited_ids o)
      → All (HasOwner w.kern.next_id (object_ids w)) o.mutexes.rows → KeepsIds (record w { kern = j; objects = o })
  ids_objects j o alone given owners =
      ids_given w.kern.next_id (task_ids w) (object_ids w) w.objects.mutexes.rows kept j.next_id (ids j.tasks) (waited_ids o ++ other_ids w) o.mutexes.rows
      (fewer_same (task_ids w) (ids j.tasks) alone) (given_after w.kern.next_id j.next_id (other_ids w) (waited_ids w.objects) (waited_ids o) given) owners

  -- the objects are as they were
  pub ids_kern : (j : KernState) → ids j.tasks ≡ ids w.kern.tasks → w.kern.next_id ≤ j.next_id → KeepsIds (record w { kern = j })
  ids_kern j alone more = ids_objects j w.objects alone (given_none w.kern.next_id j.next_id (waited_ids w.objects) more) kept.owners

  -- the watchdogs get at most the next id
  pub ids_watch : (j : KernState) (s : WatchState) → ids j.tasks ≡ ids w.kern.tasks
      → Given w.kern.next_id j.next_id (map watchdog_id w.watch.watchdogs) (map watchdog_id s.watchdogs) → KeepsIds (record w { kern = j; watch = s })
  ids_watch j s alone given =
      let old : List ℕ = map watchdog_id w.watch.watchdogs in
      let new : List ℕ = map watchdog_id s.watchdogs in
      ids_given w.kern.next_id (task_ids w) (object_ids w) w.objects.mutexes.rows kept j.next_id (ids j.tasks) (waited_ids w.objects ++ (new ++ table.ids w.modules.rows)) w.objects.mutexes.rows
      (fewer_same (task_ids w) (ids j.tasks) alone)
      (given_before w.kern.next_id j.next_id (waited_ids w.objects) (other_ids w) (new ++ table.ids w.modules.rows)
      (given_after w.kern.next_id j.next_id (table.ids w.modules.rows) old new given)) kept.owners

  -- some modules are gone
  pub ids_modules : (ms : List (ℕ × LoadedModule)) → Fewer (table.ids ms) (table.ids w.modules.rows) → KeepsIds (record w { modules = record w.modules { rows = ms } })
  ids_modules ms fewer =
      let watches : List ℕ = map watchdog_id w.watch.watchdogs in
      ids_fewer w.kern.next_id (task_ids w) (object_ids w) w.objects.mutexes.rows kept w.kern.next_id (task_ids w) (waited_ids w.objects ++ (watches ++ table.ids ms)) w.objects.mutexes.rows
      (omega arith) (fewer_same (task_ids w) (task_ids w) refl)
      (fewer_before (waited_ids w.objects) (other_ids w) (watches ++ table.ids ms) (fewer_before watches (table.ids w.modules.rows) (table.ids ms) fewer)) kept.owners

  -- a live task may own a mutex
  pub tasks_own : All (λ t. Owns w.kern.next_id (object_ids w) (Some t.id)) w.kern.tasks
  tasks_own =
      all_by_id task_id (λ n. Owns w.kern.next_id (object_ids w) (Some n)) w.kern.tasks
      (task_owns w.kern.next_id (task_ids w) (object_ids w) w.objects.mutexes.rows kept)

  -- a module is added, with the next id
  pub ids_load : (j : KernState) (m : LoadedModule) → ids j.tasks ≡ ids w.kern.tasks → j.next_id ≡ w.kern.next_id + 1
      → KeepsIds (record w { kern = j; modules = record w.modules { rows = w.modules.rows ++ (w.kern.next_id, m) ∷ [] } })
  ids_load j m alone next =
      let watches : List ℕ = map watchdog_id w.watch.watchdogs in
      let new : List ℕ = table.ids (w.modules.rows ++ (w.kern.next_id, m) ∷ []) in
      ids_given w.kern.next_id (task_ids w) (object_ids w) w.objects.mutexes.rows kept j.next_id (ids j.tasks) (waited_ids w.objects ++ (watches ++ new)) w.objects.mutexes.rows
      (fewer_same (task_ids w) (ids j.tasks) alone)
      (subst (λ after. Given w.kern.next_id after (object_ids w) (waited_ids w.objects ++ (watches ++ new))) (sym next)
      (given_before w.kern.next_id (w.kern.next_id + 1) (waited_ids w.objects) (other_ids w) (watches ++ new)
      (given_before w.kern.next_id (w.kern.next_id + 1) watches (table.ids w.modules.rows) new (given_push w.modules.rows w.kern.next_id m)))) kept.owners

  -- a task is added, with the next id
  pub ids_spawn : (j : KernState) → ids j.tasks ≡ ids w.kern.tasks ++ w.kern.next_id ∷ [] → j.next_id ≡ w.kern.next_id + 1 → KeepsIds (record w { kern = j })
  ids_spawn j tasks next =
      subst (λ ts. AreIds j.next_id ts (object_ids w) w.objects.mutexes.rows) (sym tasks)
      (subst (λ after. AreIds after (ids w.kern.tasks ++ w.kern.next_id ∷ []) (object_ids w) w.objects.mutexes.rows) (sym next)
      (ids_task w.kern.next_id (task_ids w) (object_ids w) w.objects.mutexes.rows kept))

  -- a task is gone
  pub ids_leave : (j : KernState) → Fewer (ids j.tasks) (ids w.kern.tasks) → w.kern.next_id ≤ j.next_id → KeepsIds (record w { kern = j })
  ids_leave j fewer more =
      ids_fewer w.kern.next_id (task_ids w) (object_ids w) w.objects.mutexes.rows kept j.next_id (ids j.tasks) (object_ids w) w.objects.mutexes.rows
      more fewer (fewer_same (object_ids w) (object_ids w) refl) kept.owners
