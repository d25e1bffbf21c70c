-- An unload keeps the invariant of the modules.
use Rattle.std.proofs.Common.{◌≡◌, ℕ, ◌≤◌, List, Option, Some, None, Result, Ok, Err, refl, sym, subst}
use Rattle.std.specs.Prelude.{◌↔◌, length, IsOk, IsSome, OnOk, OnErr}
use Rattle.wind_core.specs.State.{KernState}
use Rattle.symbol_table.specs.State.{TableState}
use Rattle.mem_partition.specs.State.{PartState}
use Rattle.id_table.specs.Rows.{object_of, without, IdsBelow}
use Rattle.module_loader.specs.declared.module.LoadedModule.{LoadedModule}
use Rattle.module_loader.specs.declared.module.NoSuchModule.{NoSuchModule}
use Rattle.module_loader.specs.Holding.{AreHeld, KeepsModules}
use Rattle.module_loader.specs.Steps.{state_of}
use Rattle.module_loader.specs.Modules.{LoadedModules, without_segments}
use Rattle.module_loader.proofs.Holds.{hold_law}

-- of a module that is there
of_live : (o : Option LoadedModule) (kern : KernState) (syms : TableState) (ms : LoadedModules) (part : PartState) (ram : List ℕ) (id : ℕ)
    → object_of ms.rows id ≡ o → IsSome o → KeepsModules (state_of kern syms.list ms part ram)
    → KeepsModules (state_of kern syms.list (record ms { rows = without ms.rows id }) (without_segments part o) ram)
of_live (Some m) kern syms ms part ram id e some keeps =
    let k = hold_law.unload (state_of kern syms.list ms part ram) id m keeps e in
    record { ids = k.ids; below = k.below; pool = k.pool; held = k.held }
of_live None kern syms ms part ram id e some keeps = absurd (cc)

pub kept : (r : Result Unit NoSuchModule) (kern : KernState) (before after : TableState) (ms left : LoadedModules) (part freed : PartState)
    (ram : List ℕ) (id : ℕ)
    → KeepsModules (state_of kern before.list ms part ram) → IsOk r ↔ IsSome (object_of ms.rows id)
    → OnOk r (left ≡ record ms { rows = without ms.rows id }) → OnOk r (freed ≡ without_segments part (object_of ms.rows id))
    → OnErr r ((left ≡ ms) × (after ≡ before) × (freed ≡ part)) → AreHeld left.rows freed
    → KeepsModules (state_of kern after.list left freed ram)
kept (Ok u) kern before after ms left part freed ram id keeps live modules blocks same held =
    let k = of_live (object_of ms.rows id) kern before ms part ram id refl (live.0 (cc)) keeps in
    record {
      ids = keeps.ids;
      below = subst (λ (x : LoadedModules). IdsBelow kern.next_id x.rows) (sym modules) k.below;
      pool = subst (λ (x : PartState). x.end ≤ length ram) (sym blocks) k.pool;
      held = held;
    }
kept (Err e) kern before after ms left part freed ram id keeps live modules blocks same held =
    record {
      ids = keeps.ids;
      below = subst (λ (x : LoadedModules). IdsBelow kern.next_id x.rows) (sym same.0) keeps.below;
      pool = subst (λ (x : PartState). x.end ≤ length ram) (sym same.2) keeps.pool;
      held = held;
    }
