-- The invariant of the modules when ids are taken, and blocks are allocated and freed.
use Rattle.std.proofs.Common.{◌≡◌, ℕ, true, ◌<◌, ◌≤◌, List, [], ◌∷◌, ◌++◌, Ok, refl, sym, subst, inl, inr, arith}
use Rattle.std.specs.List.{All}
use Rattle.std.proofs.lemmas.Bool.{cases_eq}
use Rattle.std.proofs.lemmas.List.Elements.{All-weaker, All-push}
use Rattle.id_table.specs.Rows.{IdsBelow}
use Rattle.mem_partition.specs.Place.{rounded}
use Rattle.mem_partition.specs.State.{PartState, IsPart, own_block, alloc_of, after_alloc}
use Rattle.mem_partition.specs.declared.block.Class.TheVariants.{Kernel}
use Rattle.mem_partition.proofs.Allocs.{rounded_some, alloc_lies}
use Rattle.mem_partition.proofs.Owners.{fresh_address}
use Rattle.module_loader.specs.declared.module.LoadedModule.{LoadedModule}
use Rattle.module_loader.specs.Holding.{held_by, occurs, is_kernel_block}
use Rattle.module_loader.proofs.Holds.{rows_held, rows_stay}
use Rattle.wind_core.specs.State.{KernState}
use Rattle.kernel_world.specs.Kept.{Stack, routine_stack, KeepsLoaded, task_stacks}
use Rattle.kernel_world.proofs.Stacks.{kernels-alloc}

-- no block of a module begins where the stack does
abbrev pub IsNoModules : List (ℕ × LoadedModule) → Stack → Type 0
IsNoModules ms s = occurs s.addr (held_by ms) ≡ 0

module _ (k : KernState) (p : PartState) (ms : List (ℕ × LoadedModule)) (kept : KeepsLoaded k p ms) where
  later : (next : ℕ) → k.next_id ≤ next → IdsBelow next ms
  later next more = All-weaker (λ r. r.0 < k.next_id) (λ r. r.0 < next) (λ r h. omega (arith, h, more)) ms kept.below

  -- ids may be taken, and the tasks live on the same stacks
  pub loaded_on : (j : KernState) → k.next_id ≤ j.next_id → task_stacks j ≡ task_stacks k → KeepsLoaded j p ms
  loaded_on j more same = record {
    few = kept.few;
    rising = kept.rising;
    below = later j.next_id more;
    held = kept.held;
    apart = subst (λ s. All (IsNoModules ms) (routine_stack ∷ s)) (sym same) kept.apart;
  }

  -- all Kernel blocks stay as they are
  pub loaded_with : (q : PartState) → ((a : ℕ) → is_kernel_block p a ≡ true → own_block q.blocks a Kernel ≡ own_block p.blocks a Kernel) → KeepsLoaded k q ms
  loaded_with q stays = record {
    few = kept.few;
    rising = kept.rising;
    below = kept.below;
    held = record { blocks = rows_stay ms p q (λ a some. stays a (rows_held ms p a kept.held.blocks some)) kept.held.blocks; distinct = kept.held.distinct };
    apart = kept.apart;
  }

  -- a block that is given is that of no module
  none_yet : (n align at : ℕ) → IsPart p → alloc_of p n align ≡ Ok at → IsNoModules ms (record { addr = at; size = rounded n })
  none_yet n align at is e = elim (cases_eq (occurs at (held_by ms)) 0) [
    | inl none ↦ none
    | inr some ↦ absurd (fresh_address p.start p.end p.blocks (rounded n) at at Kernel is.laid (rounded_some n) (alloc_lies p n align at e).apart (rows_held ms p at kept.held.blocks (omega (arith, some))) refl)
  ]

  -- there is one more stack
  pub loaded_more : (j : KernState) (n align at : ℕ) → IsPart p → alloc_of p n align ≡ Ok at → k.next_id ≤ j.next_id → task_stacks j ≡ task_stacks k ++ record { addr = at; size = rounded n } ∷ [] → KeepsLoaded j (after_alloc p n align Kernel) ms
  loaded_more j n align at is e more same =
      let with_block : KeepsLoaded k (after_alloc p n align Kernel) ms = loaded_with (after_alloc p n align Kernel) (λ a there. kernels-alloc p n align Kernel a is there) in
      record {
        few = kept.few;
        rising = kept.rising;
        below = later j.next_id more;
        held = with_block.held;
        apart = subst (λ s. All (IsNoModules ms) (routine_stack ∷ s)) (sym same) (All-push (IsNoModules ms) (routine_stack ∷ task_stacks k) (record { addr = at; size = rounded n }) kept.apart (none_yet n align at is e));
      }
