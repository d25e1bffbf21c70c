-- Nobody waits for an owner: then settling gives each task its normal priority.
use Rattle.std.proofs.Common.{◌≡◌, ℕ, true, false, cond, ltb, List, [], ◌∷◌, get_or, length, Option, None, Some, is_some, refl, sym, ap, ◌∙◌, arith}
use Rattle.std.specs.List.{All, filter, cons_option}
use Rattle.std.specs.Option.{option_map}
use Rattle.std.proofs.lemmas.Bool.{ltb-false}
use Rattle.std.proofs.lemmas.List.{length-map}
use Rattle.std.proofs.lemmas.List.Elements.{All-cons, All-contains, Contains-get_or}
use Rattle.wind_base.specs.declared.profile.Profile.TheVariants.{Two}
use Rattle.id_table.specs.declared.ident.Place.{Place}
use Rattle.id_table.proofs.Records.{found_at, found_id}
use Rattle.task_block.specs.declared.task.Task.{Task}
use Rattle.wind_core.specs.State.{KernState, IsKern, task_id, task_of}
use Rattle.wind_core.specs.Waiting.{waiter_at, waits_of}
use Rattle.wind_core.specs.Notes.{AllNormal, NoneHolds}
use Rattle.wind_core.proofs.Ids.{ids, lives_by}
use Rattle.inheritance.specs.declared.mutex.Mutex.{Mutex}
use Rattle.inheritance.specs.Mutexes.{MutexState}
use Rattle.inheritance.specs.Reach.{boss, live_one, wait_of, owner_at, pri_of, normal_of, lifted, raised_kern}
use Rattle.inheritance.specs.Laws.{NobodyWaits}
use Rattle.inheritance.specs.Goals.{owner_ids}
use Rattle.inheritance.proofs.Lookups.{live_is, each_lives, on_ids}
use Rattle.inheritance.proofs.Raising.{raised_to, boss_lives}
use Rattle.inheritance.proofs.Same.{pri_is, boss_owner, repried_keeps, exact_same}
use Rattle.inheritance.proofs.Exact.{urgency_alone, normal_is}
use Rattle.inheritance.proofs.Normals.{normals_repried}

-- ---- why nobody waits
-- no task owns an inversion-safe mutex
pub nobody_holds : (ts : List Task) → NoneHolds ts → NobodyWaits ts
nobody_holds ts none ms holds y =
    elim (boss ts ms y) as (λ o. boss ts ms y ≡ o → o ≡ None) [
      | None ↦ λ e. refl
      | Some x ↦ λ e.
          let live = boss_lives ts ms y x e in
          let t = live_is (task_of ts x) live.1 in
          let at = found_at task_id ts x t.0 t.1 in
          let w : Option Place = wait_of (task_of ts y) in
          let owner : owner_at ms w ≡ Some t.0.id = boss_owner ts (owner_at ms w) x e ∙ ap Some (sym (found_id task_id ts x t.0 t.1)) in
          let free : t.0.held ≡ 0 = All-contains (λ u. u.held ≡ 0) ts t.0 none at in
          absurd (All-contains (λ u. u.held ≡ 0 → (v : Option Place) → owner_at ms v ≡ Some u.id → ⊥) ts t.0 holds at free w owner)
    ] refl

-- no task owns one, by the count of owners
none_owns : (ts : List Task) → length (filter (λ t. ltb 0 t.held) ts) ≡ 0 → NoneHolds ts
none_owns [] e = λ k d h. absurd (omega arith)
none_owns (t ∷ ts) e =
    elim (ltb 0 t.held) as (λ b. ltb 0 t.held ≡ b → length (cond b (t ∷ filter (λ u. ltb 0 u.held) ts) (filter (λ u. ltb 0 u.held) ts)) ≡ 0 → NoneHolds (t ∷ ts)) [
      | true ↦ λ b q. absurd (omega (arith, q))
      | false ↦ λ b q. All-cons (λ u. u.held ≡ 0) t ts (omega (arith, ltb-false 0 t.held b)) (none_owns ts q)
    ] refl e

pub no_owner : (ts : List Task) → length (owner_ids ts) ≡ 0 → NoneHolds ts
no_owner ts e = none_owns ts (omega (arith, e, length-map (filter (λ t. ltb 0 t.held) ts) task_id))

-- no task waits at all
none_added : {X Y : Type 0} (f : Y → X) (o : Option Y) (rest : List X) → length (cons_option (option_map f o) rest) ≡ 0 → (o ≡ None) × (length rest ≡ 0)
none_added f None rest e = (refl, e)
none_added f (Some p) rest e = absurd (omega (arith, e))

none_waits : (ts : List Task) → length (waits_of ts) ≡ 0 → All (λ t. t.wait ≡ None) ts
none_waits [] e = λ k d h. absurd (omega arith)
none_waits (t ∷ ts) e =
    let here = none_added (waiter_at t) t.wait (waits_of ts) e in
    All-cons (λ u. u.wait ≡ None) t ts here.0 (none_waits ts here.1)

pub nobody_pends : (ts : List Task) → length (waits_of ts) ≡ 0 → NobodyWaits ts
nobody_pends ts e ms holds y = ap (λ w. live_one ts (owner_at ms w)) (found (task_of ts y) refl)
  where
    found : (o : Option Task) → task_of ts y ≡ o → wait_of o ≡ None
    found None q = refl
    found (Some t) q = All-contains (λ u. u.wait ≡ None) ts t (none_waits ts e) (found_at task_id ts y t q)

-- ---- settling then
module _ (k : KernState) (ms : List (ℕ × Mutex)) (is : IsKern k) (alone : (y : ℕ) → boss k.tasks ms y ≡ None) where
  no_boss : (x y : ℕ) → boss k.tasks ms y ≡ Some x → ⊥
  no_boss x y e = let no : ◌≡◌ {A = Option ℕ} None (Some x) = sym (alone y) ∙ e in cc

  own_normal : (x : ℕ) → lifted Two k ms x ≡ normal_of k.tasks x
  own_normal x = urgency_alone (boss k.tasks ms) (normal_of k.tasks) x (no_boss x) 256 (ids k.tasks)

  -- it changes nothing if each task has its normal priority
  pub settled_already : AllNormal k.tasks → raised_kern Two k ms ≡ k
  settled_already normal =
      let s : MutexState = record { kern = k; profile = Two; mutexes = ms } in
      ap (λ (r : MutexState). r.kern) (exact_same s is (λ i d hi.
      let t : Task = get_or k.tasks i d in
      normal i d hi ∙ sym (normal_is k.tasks t is.rising (Contains-get_or k.tasks i d hi)) ∙ sym (own_normal t.id)))

  -- each task has its normal priority afterwards
  pub settled_normal : AllNormal (raised_kern Two k ms).tasks
  settled_normal i d hi =
      let goal = lifted Two k ms in
      let r : KernState = raised_kern Two k ms in
      let to = raised_to Two k ms in
      let t : Task = get_or r.tasks i d in
      let at = Contains-get_or r.tasks i d hi in
      let rising = (repried_keeps goal k.tasks k is).rising in
      let live : is_some (task_of k.tasks t.id) ≡ true = lives_by k.tasks r.tasks t.id (sym to.alike) (each_lives r.tasks i d hi) in
      sym (pri_is r.tasks t rising at)
      ∙ to.pris t.id
      ∙ ap (λ b. cond b (goal t.id) (pri_of k.tasks t.id)) (on_ids k.tasks t.id live)
      ∙ own_normal t.id
      ∙ sym (normals_repried goal k.tasks k t.id)
      ∙ normal_is r.tasks t rising at
