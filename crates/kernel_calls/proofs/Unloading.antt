-- What holds when a module is unloaded.
use Rattle.std.proofs.Common.{◌≡◌, ℕ, zero, suc, ◌+◌, ◌-◌, ◌<◌, ◌≤◌, Bool, true, false, not, cond, eqb, List, [], ◌∷◌, length, get_or, Option, Some, None, IsSome, is_some, refl, sym, ◌∙◌, subst, arith}
use Rattle.std.specs.Prelude.{reverse}
use Rattle.std.specs.List.{All, find}
use Rattle.std.specs.Option.{option_map}
use Rattle.std.proofs.lemmas.Bool.{eq-eqb}
use Rattle.std.proofs.lemmas.List.{length-reverse, get_or-reverse}
use Rattle.std.proofs.lemmas.List.Elements.{All-weaker, All-filter, All-head, All-tail}
use Rattle.std.proofs.lemmas.List.Kept.{AllPairs-filter}
use Rattle.std.proofs.lemmas.Option.{same_Some}
use Rattle.wind_base.specs.declared.board_kind.BoardKind.{BoardKind}
use Rattle.id_table.specs.Rows.{object_of, without}
use Rattle.board_mem.specs.Memory.{string_at}
use Rattle.mem_partition.specs.State.{PartState, after_free}
use Rattle.mem_partition.specs.declared.block.Class.TheVariants.{Kernel}
use Rattle.symbol_table.specs.declared.symbol.Symbol.{Symbol}
use Rattle.symbol_table.specs.State.{without_group}
use Rattle.module_loader.specs.declared.module.LoadedModule.{LoadedModule}
use Rattle.module_loader.specs.declared.module.Segment.{Segment}
use Rattle.module_loader.specs.Modules.{is_named, without_segment, without_all, without_segments}
use Rattle.module_loader.proofs.Holds.{parted, fewer, others_stay, unload_holds}
use Rattle.wind_core.specs.State.{KernState}
use Rattle.call_rows.specs.KernelWorldState.{WorldState}
use Rattle.kernel_calls.specs.ModuleRows.{newest_of, meant_module, unload_meant, unload_row}
use Rattle.kernel_calls.specs.Calls.{of_modules}
use Rattle.call_rows.specs.KernelWorldKept.{Stack, routine_stack, IsStack, KeepsPool, AreStacks, KeepsLoaded, task_stacks, IsWorld, Within, call_sinces}
use Rattle.call_rows.proofs.KernelWorldAdvancing.{Advances, nowhere, of_unload}
use Rattle.call_rows.proofs.KernelWorldLiveIds.{fewer_without}
use Rattle.call_rows.proofs.KernelWorldHolding.{IsNoModules}
use Rattle.call_rows.proofs.KernelWorldStacks.{pool-free}

-- ---- the module that a word means lives
abbrev LivesIn : List (ℕ × LoadedModule) → ℕ × LoadedModule → Type 0
LivesIn ms r = IsSome (object_of ms r.0)

row_lives : (ms : List (ℕ × LoadedModule)) (k : ℕ) (d : ℕ × LoadedModule) → k < length ms → LivesIn ms (get_or ms k d)
row_lives [] k d h = absurd (omega arith)
row_lives (r ∷ rs) zero d h = subst (λ b. IsSome (option_map (λ x. x.1) (cond b (Some r) (find (λ x. eqb x.0 r.0) rs)))) (sym (eq-eqb r.0 r.0 refl)) refl
row_lives (r ∷ rs) (suc k) d h =
    let n : ℕ = (get_or rs k d).0 in
    elim (eqb r.0 n) as (λ b. IsSome (option_map (λ x. x.1) (cond b (Some r) (find (λ x. eqb x.0 n) rs)))) [
      | true ↦ refl
      | false ↦ row_lives rs k d (omega arith)
    ]

rows_live : (ms : List (ℕ × LoadedModule)) → All (LivesIn ms) (reverse ms)
rows_live ms k d h =
    let low : k < length ms = omega (arith, h, length-reverse ms) in
    subst (LivesIn ms) (sym (get_or-reverse ms k d low)) (row_lives ms (length ms - 1 - k) d (omega (arith, low)))

found_lives : (ms : List (ℕ × LoadedModule)) (p : ℕ × LoadedModule → Bool) (rs : List (ℕ × LoadedModule)) (id : ℕ) → All (LivesIn ms) rs → option_map (λ r. r.0) (find p rs) ≡ Some id → IsSome (object_of ms id)
found_lives ms p [] id all e = absurd (cc)
found_lives ms p (r ∷ rs) id all e =
    elim (p r) as (λ b. option_map (λ x. x.0) (cond b (Some r) (find p rs)) ≡ Some id → IsSome (object_of ms id)) [
      | true ↦ λ q. subst (λ n. IsSome (object_of ms n)) (same_Some r.0 id q) (All-head (LivesIn ms) r rs all)
      | false ↦ λ q. found_lives ms p rs id (All-tail (LivesIn ms) r rs all) q
    ] e

newest_lives : (ms : List (ℕ × LoadedModule)) (o : Option (List ℕ)) (id : ℕ) → newest_of ms o ≡ Some id → IsSome (object_of ms id)
newest_lives ms None id e = absurd (cc)
newest_lives ms (Some name) id e = found_lives ms (is_named name) (reverse ms) id (rows_live ms) e

pub meant_lives : (ms : List (ℕ × LoadedModule)) (ram : List ℕ) (x id : ℕ) → meant_module ms ram x ≡ Some id → IsSome (object_of ms id)
meant_lives ms ram x id e =
    elim (is_some (object_of ms x)) as (λ b. is_some (object_of ms x) ≡ b → cond b (Some x) (newest_of ms (string_at ram x)) ≡ Some id → IsSome (object_of ms id)) [
      | true ↦ λ there q. subst (λ n. IsSome (object_of ms n)) (same_Some x id q) there
      | false ↦ λ there q. newest_lives ms (string_at ram x) id q
    ] refl e

-- ---- its blocks are freed
pool_without : {board : BoardKind} (gs : List Segment) (p : PartState) → KeepsPool board p → KeepsPool board (without_all p gs)
pool_without {board} [] p k = k
pool_without {board} (g ∷ gs) p k =
    pool_without gs (without_segment p g)
    (elim (eqb g.size 0) as (λ b. KeepsPool board (cond b p (after_free p g.addr Kernel))) [ true ↦ k | false ↦ pool-free p g.addr Kernel k ])

module _ (k : KernState) (p : PartState) (ms : List (ℕ × LoadedModule)) (kept : KeepsLoaded k p ms) (id : ℕ) (m : LoadedModule) (live : object_of ms id ≡ Some m) where
  -- the freed blocks are no stacks
  kernels_left : (s : Stack) → IsNoModules ms s → IsStack p s → IsStack (without_all p m.segments) s
  kernels_left s none there = let less = parted ms id s.addr m live in others_stay m.segments p s.addr (omega (arith, none)) ∙ there

  stacks_without : AreStacks p (routine_stack ∷ task_stacks k) → AreStacks (without_all p m.segments) (routine_stack ∷ task_stacks k)
  stacks_without s = record {
    kernels = λ i d within. kernels_left (get_or (routine_stack ∷ task_stacks k) i d) (kept.apart i d within) (s.kernels i d within);
    apart = s.apart;
  }

  loaded_without : KeepsLoaded k (without_all p m.segments) (without ms id)
  loaded_without = record {
    few = omega (arith, kept.few, shorter ms);
    rising = AllPairs-filter (λ r t. r.0 < t.0) (λ r. not (eqb r.0 id)) ms kept.rising;
    below = All-filter (λ r. not (eqb r.0 id)) (λ r. r.0 < k.next_id) ms kept.below;
    held = unload_holds ms p id m kept.held live;
    apart = All-weaker (IsNoModules ms) (IsNoModules (without ms id)) (λ s none. (let less = fewer ms id s.addr in omega (arith, none))) (routine_stack ∷ task_stacks k) kept.apart;
  }
    where
      shorter : (rs : List (ℕ × LoadedModule)) → length (without rs id) ≤ length rs
      shorter [] = omega arith
      shorter (r ∷ rs) =
          let rest = shorter rs in
          elim (eqb r.0 id) as (λ b. length (cond (not b) (r ∷ without rs id) (without rs id)) ≤ length (r ∷ rs)) [ true ↦ omega arith | false ↦ omega arith ]

few_symbols : (id : ℕ) (ss : List Symbol) → length (without_group id ss) ≤ length ss
few_symbols id [] = omega arith
few_symbols id (s ∷ ss) =
    let rest = few_symbols id ss in
    elim (eqb s.group id) as (λ b. length (cond (not b) (s ∷ without_group id ss) (without_group id ss)) ≤ length (s ∷ ss)) [ true ↦ omega arith | false ↦ omega arith ]

-- ---- the row
module _ (w : WorldState) (kept : IsWorld w) (n : ℕ) (within : Within n w) where
  by_live : (id : ℕ) (o : Option LoadedModule) → object_of w.modules.rows id ≡ o → IsSome o
      → Advances w (record w { symbols = without_group id w.symbols; modules = record w.modules { rows = without w.modules.rows id }; part = without_segments w.part o }) (n + 1) call_sinces 1
  by_live id None e live = absurd (cc)
  by_live id (Some m) e live =
      of_unload w kept n within (without_group id w.symbols) (without w.modules.rows id) (without_all w.part m.segments) (omega (arith, few_symbols id w.symbols, kept.symbols))
      (pool_without m.segments w.part kept.pool) (stacks_without w.kern w.part w.modules.rows kept.modules id m e kept.stacks) (loaded_without w.kern w.part w.modules.rows kept.modules id m e) (fewer_without w.modules.rows id)

  by_meant : (x : ℕ) (o : Option ℕ) → meant_module w.modules.rows w.ram x ≡ o → Advances w (of_modules w (unload_meant w.symbols w.modules.rows w.part o)).world (n + 1) call_sinces 1
  by_meant x None e = nowhere w kept n within
  by_meant x (Some id) e = by_live id (object_of w.modules.rows id) refl (meant_lives w.modules.rows w.ram x id e)

  pub unload_advances : (x : ℕ) → Advances w (of_modules w (unload_row w.symbols w.modules.rows w.part w.ram x)).world (n + 1) call_sinces 1
  unload_advances x = by_meant x (meant_module w.modules.rows w.ram x) refl
