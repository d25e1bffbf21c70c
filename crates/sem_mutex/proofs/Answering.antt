-- Lemmas for the code of the calls on mutexes.
use Rattle.std.proofs.Common.{◌≡◌, ℕ, ◌+◌, ◌-◌, ◌<◌, ◌≤◌, ◌^◌, true, false, cond, not, eqb, List, [], ◌∷◌, length, Option, None, Some, IsSome, IfSome, MatchOption, is_some, refl, sym, ap, ◌∙◌, subst, arith}
use Rattle.id_table.specs.declared.ident.Place.{Place}
use Rattle.std.specs.List.{All}
use Rattle.std.specs.Option.{option_map}
use Rattle.std.proofs.lemmas.Bool.{eq-eqb, false≢true, ne_eqb}
use Rattle.std.proofs.lemmas.Option.{same_Some}
use Rattle.std.proofs.lemmas.List.Sums.{count_by-le-length}
use Rattle.id_table.specs.Rows.{object_of, without}
use Rattle.wind_base.specs.declared.profile.Profile.{Profile}
use Rattle.wind_base.specs.declared.profile.Profile.TheVariants.{One, Two}
use Rattle.task_block.specs.declared.task.Task.{Task}
use Rattle.wind_core.specs.State.{KernState, IsKern, Lives, task_id, task_of}
use Rattle.id_table.proofs.Passing.{front_found}
use Rattle.wind_core.specs.Orders.{first_waiter, waiters, waits_at, waits_before}
use Rattle.wind_core.specs.Moves.{set_held, set_normal, change_pri, renewed, pended, wake_at, end_wait, end_waits, wake_all}
use Rattle.wind_core.proofs.Passes.{waits_before-order}
use Rattle.wind_core.proofs.Waking.{since-end_wait, length-waiters}
use Rattle.wind_core.proofs.Ids.{ids, ids-change, lives_by}
use Rattle.task_safety.specs.Safety.{safe_of, make_safe, lessen}
use Rattle.wind_base.specs.declared.errno.Errno.{Errno}
use Rattle.wind_base.specs.declared.errno.Errno.TheVariants as errors
use Rattle.inheritance.specs.declared.mutex.Mutex.{Mutex}
use Rattle.wind_core.specs.declared.took.Took.{Took}
use Rattle.wind_core.specs.declared.took.Took.TheVariants.{Taken, Pended}
use Rattle.inheritance.specs.Mutexes.{MutexState, LiveMutexes, both, holds, held_count, AreMutexes, mutex_place}
use Rattle.sem_mutex.specs.Calls.{raised_at_once, held_of, holding, guarded, eased, restored, less_held, dropped, letting_go, pass_on, passed_on, hand, deepen, await, handed, deepened, awaited, TakeDeed, declined, taken, retaken, starved, take_from, take_deed, take_error, take_refusal, took_by, took, after_take, take, GiveDeed, denied, lowered, given_up, give_deed, give_error, give_refusal, after_give, give, given_once, given_last, owner_ended, its_owner_ended, delete_refusal, delete, live_mutex, pri_after, followed, priority_alone}
use Rattle.inheritance.specs.Laws.{OwnersUrgentBut}
use Rattle.sem_mutex.specs.Kept.{TaskKept, KeepsMutexes, FewSafe, IsEarly, IsEarlyFor}
use Rattle.inheritance.proofs.Lookups.{live_is}
use Rattle.sem_mutex.proofs.Handing.{found_row, hand_keeps, deepen_keeps, await_urgent}
use Rattle.sem_mutex.proofs.Counting.{object_of-write}
use Rattle.inheritance.proofs.Raising.{since-change_pri}
use Rattle.sem_mutex.proofs.Giving.{kern_hand, ids_hand, next_owner, passed}
use Rattle.inheritance.proofs.Iteration.{ids-change_pri}
use Rattle.sem_mutex.proofs.AtOnce.{at_once_same}
use Rattle.sem_mutex.specs.Inside.{take_plan, give_plan}
use Rattle.sem_mutex.specs.declared.plans.TakePlan.{TakePlan}
use Rattle.sem_mutex.specs.declared.plans.TakePlan.TheVariants as takes
use Rattle.sem_mutex.specs.declared.plans.GivePlan.{GivePlan}
use Rattle.sem_mutex.specs.declared.plans.GivePlan.TheVariants as gives
use Rattle.sem_mutex.proofs.Deeds.{TakeIs, take_is, GiveIs, give_is}
use Rattle.sem_mutex.proofs.Keeping.{kern_guarded, take_keeps, give_same}
use Rattle.sem_mutex.proofs.Ending.{delete_same, priority_urgent}
use Rattle.wind_base.specs.Limits.{error_word}
use Rattle.wind_core.proofs.Becoming.{found_all}
use Rattle.wind_core.proofs.Unwritten.{task_of-change}

-- ---- the list of mutexes
pub found_live : (ms : List (ℕ × Mutex)) (n : ℕ) (found : Option ℕ) → MatchOption found (object_of ms n ≡ None) (λ id. (id ≡ n) × IsSome (object_of ms id)) → found ≡ live_mutex ms n
found_live ms n None none = sym (ap (option_map (λ (m : Mutex). n)) none)
found_live ms n (Some id) own =
    elim (object_of ms n) as (λ o. object_of ms n ≡ o → Some id ≡ option_map (λ _. n) o) [
      | None ↦ λ e. absurd (false≢true (sym (ap is_some e) ∙ subst (λ k. IsSome (object_of ms k)) own.0 own.1))
      | Some m ↦ λ e. ap Some own.0
    ] refl

-- ---- one task owns one more
pub holding_lives : (k : KernState) (who : ℕ) (m : Mutex) → Lives k who → Lives (holding k who m) who
holding_lives k who m lives =
    elim m.inversion_safe as (λ b. Lives (cond b (set_held k who (held_of (task_of k.tasks who) + 1)) k) who) [
      | true ↦ lives_by (set_held k who (held_of (task_of k.tasks who) + 1)).tasks k.tasks who (ids-change k.tasks who (λ t. record t { held = held_of (task_of k.tasks who) + 1 }) (λ t. refl)) lives
      | false ↦ lives
    ]

same_safe : (who n : ℕ) (o : Option Task) → safe_of (option_map (λ t. cond (eqb t.id who) (record t { held = n }) t) o) ≡ safe_of o
same_safe who n None = refl
same_safe who n (Some t) = elim (eqb t.id who) as (λ b. (cond b (record t { held = n }) t).safe ≡ t.safe) [ true ↦ refl | false ↦ refl ]

pub holding_safe : (k : KernState) (who : ℕ) (m : Mutex) → safe_of (task_of (holding k who m).tasks who) ≡ safe_of (task_of k.tasks who)
holding_safe k who m =
    elim m.inversion_safe as (λ b. safe_of (task_of (cond b (set_held k who (held_of (task_of k.tasks who) + 1)) k).tasks who) ≡ safe_of (task_of k.tasks who)) [
      | true ↦
          ap safe_of (task_of-change k.tasks who who (λ t. record t { held = held_of (task_of k.tasks who) + 1 }) (λ t. refl))
          ∙ same_safe who (held_of (task_of k.tasks who) + 1) (task_of k.tasks who)
      | false ↦ refl
    ]

-- ---- counts are far from overflow
pub few_safe : (k : KernState) (who : ℕ) → FewSafe k → safe_of (task_of k.tasks who) < 2 ^ 61
few_safe k who few =
    elim (task_of k.tasks who) as (λ o. task_of k.tasks who ≡ o → safe_of o < 2 ^ 61) [
      | None ↦ λ e. omega arith
      | Some t ↦ λ e. found_all (λ u. u.safe < 2 ^ 61) k.tasks who t few e
    ] refl

pub few_held : (s : MutexState) (who : ℕ) → AreMutexes s.mutexes → KeepsMutexes s → held_of (task_of s.kern.tasks who) ≤ 1024
few_held s who are kept =
    elim (task_of s.kern.tasks who) as (λ o. task_of s.kern.tasks who ≡ o → held_of o ≤ 1024) [
      | None ↦ λ e. omega arith
      | Some t ↦ λ e.
          let one = (found_all (TaskKept s.profile s.mutexes (held_count s.mutexes) s.kern.next_id) s.kern.tasks who t kept.holds.tasks e).held in
          omega (arith, one, count_by-le-length (λ (r : ℕ × Mutex). holds t.id r.1) s.mutexes, are.few)
    ] refl

few_deep : (ms : List (ℕ × Mutex)) (id : ℕ) → All (λ r. r.1.depth < 2 ^ 61) ms → IfSome (object_of ms id) (λ m. m.depth < 2 ^ 61)
few_deep ms id few =
    elim (object_of ms id) as (λ o. object_of ms id ≡ o → IfSome o (λ m. m.depth < 2 ^ 61)) [
      | None ↦ λ e. tt
      | Some m ↦ λ e. found_row (λ (r : ℕ × Mutex). r.1.depth < 2 ^ 61) ms id m few e
    ] refl

-- if all counters are, those of one take are
pub early_for : (s : MutexState) (who id : ℕ) → IsEarly s → IsEarlyFor s who id
early_for s who id early = record { sinces = early.sinces; ticks = early.ticks; safe = few_safe s.kern who early.safes; depth = few_deep s.mutexes id early.depths }

pub deep_for : (s : MutexState) (who id : ℕ) (m : Mutex) → IsEarlyFor s who id → object_of s.mutexes id ≡ Some m → m.depth < 2 ^ 61
deep_for s who id m early e = subst (λ o. IfSome o (λ v. v.depth < 2 ^ 61)) e early.depth

-- ---- the mutex that is found
pub record IsFound (ms : List (ℕ × Mutex)) (n id : ℕ) : Type 0 where
  pub same : id ≡ n
  pub there : IsSome (object_of ms n)

pub found : (ms : List (ℕ × Mutex)) (n id : ℕ) → Some id ≡ live_mutex ms n → IsFound ms n id
found ms n id e =
    let p : (id ≡ n) × IsSome (object_of ms n) =
    elim (object_of ms n) as (λ o. Some id ≡ option_map (λ _. n) o → (id ≡ n) × IsSome o) [ None ↦ λ q. absurd (cc) | Some m ↦ λ q. (same_Some id n q, refl) ] e in
    record { same = p.0; there = p.1 }

pub not_found : (ms : List (ℕ × Mutex)) (n : ℕ) → None ≡ live_mutex ms n → object_of ms n ≡ None
not_found ms n e = elim (object_of ms n) as (λ o. None ≡ option_map (λ _. n) o → o ≡ None) [ None ↦ λ q. refl | Some m ↦ λ q. absurd (cc) ] e

-- ---- take
module _ (s : MutexState) (who id n : ℕ) (is : IsKern s.kern) (are : AreMutexes s.mutexes) (lives : Lives s.kern who) (kept : KeepsMutexes s) where
  -- what the contract says about a take that was made
  pub record Made (t : MutexState) (how : Took) : Type 0 where
    pub fine : take_refusal who n (object_of s.mutexes id) ≡ None
    pub how_is : how ≡ took who (object_of s.mutexes id)
    pub state : t ≡ take s who id n
    pub keeps : KeepsMutexes t

  made : (d : TakeDeed) (t : MutexState) → take_deed who n (object_of s.mutexes id) ≡ d → take_error d ≡ None → took_by d ≡ took who (object_of s.mutexes id) → t ≡ raised_at_once (after_take s who id n d) → Made t (took_by d)
  made d t same fine how state =
      let now : t ≡ take s who id n = state ∙ sym (ap (λ e. raised_at_once (after_take s who id n e)) same) in
      record { fine = ap take_error same ∙ fine; how_is = how; state = now; keeps = subst KeepsMutexes (sym now) (take_keeps s who id n is are.rising lives kept) }

  pub took_free : (at : ℕ) (t : MutexState) → takes.Taken at ≡ take_plan id (take_deed who n (object_of s.mutexes id)) → t ≡ handed s who at (object_of s.mutexes at) → Made t Taken
  took_free at t =
      elim (take_deed who n (object_of s.mutexes id)) as (λ d. take_deed who n (object_of s.mutexes id) ≡ d → TakeIs s.mutexes who id n d → takes.Taken at ≡ take_plan id d → t ≡ handed s who at (object_of s.mutexes at) → Made t Taken) [
        | declined e ↦ λ same said plan state. absurd (cc)
        | taken m ↦ λ same said plan state.
            let own : at ≡ id = cc in
            made (taken m) t same refl (sym (ap (took who) said.0 ∙ ap (λ w. took_by (take_from who 4294967295 m w)) said.1))
            (state ∙ ap (λ j. handed s who j (object_of s.mutexes j)) own ∙ ap (handed s who id) said.0
            ∙ sym (at_once_same (hand s who id m) (kern_hand s.kern who m is) (hand_keeps s who id m is are.rising lives said.0 said.1 kept).urgent))
        | retaken m ↦ λ same said plan state. absurd (cc)
        | starved m ↦ λ same said plan state. absurd (cc)
      ] refl (take_is s.mutexes who id n)

  pub took_again : (at : ℕ) (t : MutexState) → takes.Retaken at ≡ take_plan id (take_deed who n (object_of s.mutexes id)) → t ≡ deepened s who at (object_of s.mutexes at) → Made t Taken
  took_again at t =
      elim (take_deed who n (object_of s.mutexes id)) as (λ d. take_deed who n (object_of s.mutexes id) ≡ d → TakeIs s.mutexes who id n d → takes.Retaken at ≡ take_plan id d → t ≡ deepened s who at (object_of s.mutexes at) → Made t Taken) [
        | declined e ↦ λ same said plan state. absurd (cc)
        | taken m ↦ λ same said plan state. absurd (cc)
        | retaken m ↦ λ same said plan state.
            let own : at ≡ id = cc in
            made (retaken m) t same refl
            (sym (ap (took who) said.0 ∙ ap (λ w. took_by (take_from who 4294967295 m w)) said.1 ∙ ap (λ b. took_by (cond b (retaken m) (starved m))) (eq-eqb who who refl)))
            (state ∙ ap (λ j. deepened s who j (object_of s.mutexes j)) own ∙ ap (deepened s who id) said.0
            ∙ sym (at_once_same (deepen s who id m) (kern_guarded s.kern who m is) (deepen_keeps s who id m are.rising said.0 kept).urgent))
        | starved m ↦ λ same said plan state. absurd (cc)
      ] refl (take_is s.mutexes who id n)

  pub took_nothing : (at : ℕ) (t : MutexState) → takes.Starved at ≡ take_plan id (take_deed who n (object_of s.mutexes id)) → t ≡ raised_at_once (awaited s who at n (object_of s.mutexes at)) → Made t Pended
  took_nothing at t =
      elim (take_deed who n (object_of s.mutexes id)) as (λ d. take_deed who n (object_of s.mutexes id) ≡ d → TakeIs s.mutexes who id n d → takes.Starved at ≡ take_plan id d → t ≡ raised_at_once (awaited s who at n (object_of s.mutexes at)) → Made t Pended) [
        | declined e ↦ λ same said plan state. absurd (cc)
        | taken m ↦ λ same said plan state. absurd (cc)
        | retaken m ↦ λ same said plan state. absurd (cc)
        | starved m ↦ λ same said plan state.
            let own : at ≡ id = cc in
            made (starved m) t same refl
            (sym (ap (took who) said.1 ∙ ap (λ w. took_by (take_from who 4294967295 m w)) said.2 ∙ ap (λ b. took_by (cond b (retaken m) (starved m))) (ne_eqb said.0 who said.3)))
            (state ∙ ap (λ j. raised_at_once (awaited s who j n (object_of s.mutexes j))) own ∙ ap (λ o. raised_at_once (awaited s who id n o)) said.1)
      ] refl (take_is s.mutexes who id n)

-- the mutex that a plan names
abbrev pub place_of : TakePlan → Option ℕ
place_of (takes.Declined e) = None
place_of (takes.Taken at) = Some at
place_of (takes.Retaken at) = Some at
place_of (takes.Starved at) = Some at

-- is live
pub taken_there : (ms : List (ℕ × Mutex)) (who id n at : ℕ) (p : TakePlan) → p ≡ take_plan id (take_deed who n (object_of ms id)) → place_of p ≡ Some at → IsSome (object_of ms at)
taken_there ms who id n at p plan here =
    elim (take_deed who n (object_of ms id)) as (λ d. TakeIs ms who id n d → p ≡ take_plan id d → IsSome (object_of ms at)) [
      | declined e ↦ λ said q. let none : None ≡ Some at = sym (ap place_of q) ∙ here in absurd (cc)
      | taken m ↦ λ said q. there said.0 (same_Some id at (sym (ap place_of q) ∙ here))
      | retaken m ↦ λ said q. there said.0 (same_Some id at (sym (ap place_of q) ∙ here))
      | starved m ↦ λ said q. there said.1 (same_Some id at (sym (ap place_of q) ∙ here))
    ] (take_is ms who id n) plan
  where
    there : {m : Mutex} → object_of ms id ≡ Some m → id ≡ at → IsSome (object_of ms at)
    there e same = subst (λ j. IsSome (object_of ms j)) same (subst (λ o. IsSome o) (sym e) refl)

-- and is the mutex that was named
pub taken_at : (ms : List (ℕ × Mutex)) (who id n at : ℕ) (p : TakePlan) → p ≡ take_plan id (take_deed who n (object_of ms id)) → place_of p ≡ Some at → id ≡ at
taken_at ms who id n at p plan here =
    elim (take_deed who n (object_of ms id)) as (λ d. p ≡ take_plan id d → id ≡ at) [
      | declined e ↦ λ q. let none : None ≡ Some at = sym (ap place_of q) ∙ here in absurd (cc)
      | taken m ↦ λ q. same_Some id at (sym (ap place_of q) ∙ here)
      | retaken m ↦ λ q. same_Some id at (sym (ap place_of q) ∙ here)
      | starved m ↦ λ q. same_Some id at (sym (ap place_of q) ∙ here)
    ] plan

-- a take that waits takes time
pub waits_some : (ms : List (ℕ × Mutex)) (who id n at : ℕ) → takes.Starved at ≡ take_plan id (take_deed who n (object_of ms id)) → 0 < n
waits_some ms who id n at plan =
    elim (take_deed who n (object_of ms id)) as (λ d. TakeIs ms who id n d → takes.Starved at ≡ take_plan id d → 0 < n) [
      | declined e ↦ λ said q. absurd (cc)
      | taken m ↦ λ said q. absurd (cc)
      | retaken m ↦ λ said q. absurd (cc)
      | starved m ↦ λ said q. said.4
    ] (take_is ms who id n) plan

-- ---- owners inherit
-- what the walk from owner to owner requires
pub record MayLend (s t : MutexState) (who : ℕ) : Type 0 where
  pub lives : Lives t.kern who
  pub urgent : t.profile ≡ One → OwnersUrgentBut who t.mutexes t.kern.tasks
  pub sinces : t.kern.next_since ≤ s.kern.next_since + 1

pub awaits : (s t : MutexState) (who id n : ℕ) → Lives s.kern who → KeepsMutexes s → IsSome (object_of s.mutexes id) → t ≡ awaited s who id n (object_of s.mutexes id) → MayLend s t who
awaits s t who id n lives kept there state =
    let m = live_is (object_of s.mutexes id) there in
    let begins : Task → Task = λ u. renewed s.kern.next_since (pended (mutex_place id) (not m.0.by_priority) (wake_at 0 s.kern.tick n) u) in
    subst (λ r. MayLend s r who) (sym (state ∙ ap (awaited s who id n) m.1)) (record {
      lives = lives_by (await s who id n m.0).kern.tasks s.kern.tasks who (ids-change s.kern.tasks who begins (λ u. refl)) lives;
      urgent = λ first. await_urgent s who id n m.0 first kept;
      sinces = omega arith;
    })

followed_alike : (p : Profile) (k : KernState) (who q : ℕ) → (ids (followed p k who q).tasks ≡ ids k.tasks) × ((followed p k who q).next_since ≤ k.next_since + 1)
followed_alike One k who q = (ids-change_pri k who q, since-change_pri k who q)
followed_alike Two k who q = (refl, omega arith)

pub lives_normal : (k : KernState) (who p : ℕ) → Lives k who → Lives (set_normal k who p) who
lives_normal k who p lives = lives_by (set_normal k who p).tasks k.tasks who (ids-change k.tasks who (λ (u : Task). record u { normal = p }) (λ u. refl)) lives

pub reprices : (s t : MutexState) (who p : ℕ) → IsKern s.kern → Lives s.kern who → KeepsMutexes s → t ≡ priority_alone s who p → MayLend s t who
reprices s t who p is lives kept state =
    let k : KernState = set_normal s.kern who p in
    let q : ℕ = pri_after p (task_of s.kern.tasks who) in
    let after = followed_alike s.profile k who q in
    subst (λ r. MayLend s r who) (sym state) (record {
      lives = lives_by (followed s.profile k who q).tasks k.tasks who after.0 (lives_normal s.kern who p lives);
      urgent = λ first. priority_urgent s who p first is kept;
      sinces = omega (arith, after.1);
    })

-- ---- the mutex is passed on
pub record NextIs (k : KernState) (id next : ℕ) (x : Task) : Type 0 where
  pub first : first_waiter k.tasks (mutex_place id) ≡ Some x
  pub same : next ≡ x.id
  pub lives : Lives k next

next_is : (k : KernState) (id next : ℕ) → IsKern k → Some next ≡ option_map task_id (first_waiter k.tasks (mutex_place id)) → (x : Task) × NextIs k id next x
next_is k id next is e =
    elim (first_waiter k.tasks (mutex_place id)) as (λ o. first_waiter k.tasks (mutex_place id) ≡ o → Some next ≡ option_map task_id o → (x : Task) × NextIs k id next x) [
      | None ↦ λ q r. absurd (cc)
      | Some x ↦ λ q r.
          let same = same_Some next x.id r in
          let here = front_found task_id waits_before waits_before-order (waits_at (mutex_place id)) k.tasks x is.rising q in
          (x, record { first = q; same = same; lives = subst (λ n. Lives k n) (sym same) (subst (λ o. IsSome o) (sym here) refl) })
    ] refl e

pub next_lives : (k : KernState) (id next : ℕ) → IsKern k → Some next ≡ option_map task_id (first_waiter k.tasks (mutex_place id)) → Lives k next
next_lives k id next is e = (next_is k id next is e).1.lives

pub handed_lives : (s t : MutexState) (who id : ℕ) (o : Option Mutex) → t ≡ handed s who id o → Lives s.kern who → Lives t.kern who
handed_lives s t who id o e lives = subst (λ r. Lives r.kern who) (sym e) (each o)
  where
    each : (p : Option Mutex) → Lives (handed s who id p).kern who
    each None = lives
    each (Some m) = lives_by (hand s who id m).kern.tasks s.kern.tasks who (ids_hand s.kern who m) lives

pub passed_is : (s t : MutexState) (id next : ℕ) (k : KernState) (o : Option Mutex) → IsKern s.kern → IsSome o → Some next ≡ option_map task_id (first_waiter s.kern.tasks (mutex_place id)) → t ≡ handed s next id o
    → k ≡ end_wait t.kern next 0 None → record t { kern = k } ≡ passed_on s id o
passed_is s t id next k None is there e hands ends = absurd (cc)
passed_is s t id next k (Some m) is there e hands ends =
    let x = next_is s.kern id next is e in
    ap (λ j. record t { kern = j }) ends
    ∙ ap (λ (r : MutexState). record r { kern = end_wait r.kern next 0 None }) hands
    ∙ ap (λ n. record (hand s n id m) { kern = end_wait (hand s n id m).kern n 0 None }) x.1.same
    ∙ sym (ap (pass_on s id m) x.1.first)

-- ---- the giver gives up its ownership
pub record AfterPass (s t : MutexState) (who id : ℕ) (m : Mutex) : Type 0 where
  pub there : IsSome (object_of t.mutexes id)
  pub lends : (v : Mutex) → object_of t.mutexes id ≡ Some v → (v.inversion_safe ≡ m.inversion_safe) × (v.delete_safe ≡ m.delete_safe)
  pub profile : t.profile ≡ s.profile
  pub lives : Lives t.kern who
  pub sinces : t.kern.next_since ≤ s.kern.next_since + 1

next_owner_like : (m : Mutex) (o : Option Task) → ((next_owner m o).inversion_safe ≡ m.inversion_safe) × ((next_owner m o).delete_safe ≡ m.delete_safe)
next_owner_like m None = (refl, refl)
next_owner_like m (Some x) = (refl, refl)

since_hand : (k : KernState) (who : ℕ) (m : Mutex) → (guarded (holding k who m) who m).next_since ≡ k.next_since
since_hand k who m = guards (holding k who m) ∙ elim m.inversion_safe as (λ b. (cond b (set_held k who (held_of (task_of k.tasks who) + 1)) k).next_since ≡ k.next_since) [ true ↦ refl | false ↦ refl ]
  where
    guards : (r : KernState) → (guarded r who m).next_since ≡ r.next_since
    guards r = elim m.delete_safe as (λ b. (cond b (make_safe r who) r).next_since ≡ r.next_since) [ true ↦ refl | false ↦ refl ]

since_pass : (s : MutexState) (id : ℕ) (m : Mutex) (o : Option Task) → (pass_on s id m o).kern.next_since ≤ s.kern.next_since + 1
since_pass s id m None = omega arith
since_pass s id m (Some x) = omega (arith, since-end_wait (hand s x.id id m).kern x.id 0 None, since_hand s.kern x.id m)

pub after_pass : (s t : MutexState) (who id : ℕ) (m : Mutex) → IsKern s.kern → Lives s.kern who → KeepsMutexes s → object_of s.mutexes id ≡ Some m → t ≡ passed_on s id (object_of s.mutexes id) → AfterPass s t who id m
after_pass s t who id m is lives kept e state =
    let o : Option Task = first_waiter s.kern.tasks (mutex_place id) in
    let p = passed s id m is e kept in
    let now : t ≡ pass_on s id m o = state ∙ ap (passed_on s id) e in
    let there : object_of t.mutexes id ≡ Some (next_owner m o) =
    ap (λ r. object_of r.mutexes id) now ∙ ap (λ ms. object_of ms id) p.mutexes ∙ object_of-write s.mutexes id id (next_owner m o)
    ∙ ap (option_map (λ u. cond (eqb id id) (next_owner m o) u)) e ∙ ap (λ b. Some (cond b (next_owner m o) m)) (eq-eqb id id refl) in
    record {
      there = subst (λ q. IsSome q) (sym there) refl;
      lends = λ v q.
          let same : next_owner m o ≡ v = same_Some (next_owner m o) v (sym there ∙ q) in
          (ap (λ u. u.inversion_safe) (sym same) ∙ (next_owner_like m o).0, ap (λ u. u.delete_safe) (sym same) ∙ (next_owner_like m o).1);
      profile = ap (λ (r : MutexState). r.profile) now ∙ p.profile;
      lives = subst (λ r. Lives r.kern who) (sym now) (lives_by (pass_on s id m o).kern.tasks s.kern.tasks who p.alike lives);
      sinces = omega (arith, ap (λ r. r.kern.next_since) now, since_pass s id m o);
    }

pub record AfterLettingGo (k j : KernState) (who : ℕ) : Type 0 where
  pub lives : Lives j who
  pub sinces : j.next_since ≤ k.next_since + 1

ids_restored : (p : Profile) (k : KernState) (who : ℕ) (o : Option Task) → (ids (restored p k who o).tasks ≡ ids k.tasks) × ((restored p k who o).next_since ≤ k.next_since + 1)
ids_restored Two k who o = (refl, omega arith)
ids_restored One k who None = (refl, omega arith)
ids_restored One k who (Some t) =
    elim (eqb t.held 0) as (λ b. (ids (cond b (change_pri k who t.normal) k).tasks ≡ ids k.tasks) × ((cond b (change_pri k who t.normal) k).next_since ≤ k.next_since + 1)) [
      | true ↦ (
        ids-change_pri k who t.normal,
        since-change_pri k who t.normal,
      )
      | false ↦ (refl, omega arith)
    ]

after_letting_go : (p : Profile) (k : KernState) (who : ℕ) (m : Mutex) → Lives k who → AfterLettingGo k (letting_go p k who m) who
after_letting_go p k who m lives =
    elim m.inversion_safe as (λ b. AfterLettingGo k (cond b (dropped p k who) k) who) [
      | true ↦
          let r = ids_restored p (less_held k who) who (task_of (less_held k who).tasks who) in
          record {
            lives = lives_by (dropped p k who).tasks k.tasks who (r.0 ∙ ids-change k.tasks who (λ t. record t { held = held_of (task_of k.tasks who) - 1 }) (λ t. refl)) lives;
            sinces = r.1;
          }
      | false ↦ record { lives = lives; sinces = omega arith }
    ]

pub let_go_after : (p : Profile) (k j : KernState) (who : ℕ) (m : Mutex) → j ≡ letting_go p k who m → Lives k who → AfterLettingGo k j who
let_go_after p k j who m e lives = subst (λ r. AfterLettingGo k r who) (sym e) (after_letting_go p k who m lives)

-- the owner's last give; the profile by which it gives up its ownership is that of the state before
pub given_is : (s t : MutexState) (who id : ℕ) (m v w : Mutex) (j n : KernState) → object_of s.mutexes id ≡ Some m → t ≡ passed_on s id (object_of s.mutexes id) → t.profile ≡ s.profile → v.inversion_safe ≡ m.inversion_safe → w.delete_safe ≡ m.delete_safe
    → j ≡ letting_go t.profile t.kern who v → n ≡ eased j who w 1 → record t { kern = n } ≡ given_last s who id (object_of s.mutexes id)
given_is s t who id m v w j n e state rule lends guards goes eases =
    let o : Option Task = first_waiter s.kern.tasks (mutex_place id) in
    let now : t ≡ pass_on s id m o = state ∙ ap (passed_on s id) e in
    ap (λ r. record t { kern = r }) (eases ∙ ap (λ b. cond b (lessen j who 1) j) guards
    ∙ ap (λ r. eased r who m 1) (goes ∙ ap (λ p. letting_go p t.kern who v) rule ∙ ap (λ b. cond b (dropped s.profile t.kern who) t.kern) lends))
    ∙ ap (λ (r : MutexState). record r { kern = eased (letting_go s.profile r.kern who m) who m 1 }) now
    ∙ sym (ap (given_last s who id) e)

-- ---- give
-- the mutex that a plan names is live
abbrev pub given_at : GivePlan → Option ℕ
given_at (gives.Denied e) = None
given_at (gives.Lowered at) = Some at
given_at (gives.GivenUp at) = Some at

pub given_there : (ms : List (ℕ × Mutex)) (who id at : ℕ) (p : GivePlan) → p ≡ give_plan id (give_deed who (object_of ms id)) → given_at p ≡ Some at → IsSome (object_of ms at)
given_there ms who id at p plan here =
    elim (give_deed who (object_of ms id)) as (λ d. GiveIs ms who id d → p ≡ give_plan id d → IsSome (object_of ms at)) [
      | denied e ↦ λ said q. let none : None ≡ Some at = sym (ap given_at q) ∙ here in absurd (cc)
      | lowered m ↦ λ said q. there said.0 (same_Some id at (sym (ap given_at q) ∙ here))
      | given_up m ↦ λ said q. there said.0 (same_Some id at (sym (ap given_at q) ∙ here))
    ] (give_is ms who id) plan
  where
    there : {m : Mutex} → object_of ms id ≡ Some m → id ≡ at → IsSome (object_of ms at)
    there e same = subst (λ j. IsSome (object_of ms j)) same (subst (λ o. IsSome o) (sym e) refl)

module _ (s : MutexState) (who id : ℕ) (is : IsKern s.kern) (are : AreMutexes s.mutexes) (lives : Lives s.kern who) (kept : KeepsMutexes s) where
  -- what the contract says about a give that was made
  pub record Given (t : MutexState) : Type 0 where
    pub fine : give_refusal who (object_of s.mutexes id) ≡ None
    pub state : t ≡ give s who id
    pub keeps : KeepsMutexes t

  given : (d : GiveDeed) (t : MutexState) → give_deed who (object_of s.mutexes id) ≡ d → give_error d ≡ None → t ≡ after_give s who id d → Given t
  given d t same fine state =
      let all = give_same s who id is are.rising lives kept in
      let now : t ≡ give s who id = state ∙ sym (ap (after_give s who id) same) ∙ sym all.0 in
      record { fine = ap give_error same ∙ fine; state = now; keeps = subst KeepsMutexes (sym now) all.1 }

  pub gave_once : (at : ℕ) (t : MutexState) → gives.Lowered at ≡ give_plan id (give_deed who (object_of s.mutexes id)) → t ≡ given_once s who at (object_of s.mutexes at) → Given t
  gave_once at t =
      elim (give_deed who (object_of s.mutexes id)) as (λ d. give_deed who (object_of s.mutexes id) ≡ d → GiveIs s.mutexes who id d → gives.Lowered at ≡ give_plan id d → t ≡ given_once s who at (object_of s.mutexes at) → Given t) [
        | denied e ↦ λ same said plan state. absurd (cc)
        | lowered m ↦ λ same said plan state.
            let own : at ≡ id = cc in
            given (lowered m) t same refl (state ∙ ap (λ j. given_once s who j (object_of s.mutexes j)) own ∙ ap (given_once s who id) said.0)
        | given_up m ↦ λ same said plan state. absurd (cc)
      ] refl (give_is s.mutexes who id)

  pub gave_up : (at : ℕ) (t : MutexState) → gives.GivenUp at ≡ give_plan id (give_deed who (object_of s.mutexes id)) → t ≡ given_last s who at (object_of s.mutexes at) → Given t
  gave_up at t =
      elim (give_deed who (object_of s.mutexes id)) as (λ d. give_deed who (object_of s.mutexes id) ≡ d → GiveIs s.mutexes who id d → gives.GivenUp at ≡ give_plan id d → t ≡ given_last s who at (object_of s.mutexes at) → Given t) [
        | denied e ↦ λ same said plan state. absurd (cc)
        | lowered m ↦ λ same said plan state. absurd (cc)
        | given_up m ↦ λ same said plan state.
            let own : at ≡ id = cc in
            given (given_up m) t same refl (state ∙ ap (λ j. given_last s who j (object_of s.mutexes j)) own ∙ ap (given_last s who id) said.0)
      ] refl (give_is s.mutexes who id)

-- ---- delete
since_waits : (k : KernState) (ts : List Task) (a : ℕ) (e : Option Errno) → (end_waits k ts a e).next_since ≤ k.next_since + length ts
since_waits k [] a e = omega arith
since_waits k (t ∷ ts) a e = omega (arith, since_waits (end_wait k t.id a e) ts a e, since-end_wait k t.id a e)

pub since_woken : (k j : KernState) (place : Place) (a : ℕ) (e : Option Errno) → IsKern k → j ≡ wake_all k place a e → j.next_since ≤ k.next_since + 256
since_woken k j place a e is same = omega (arith, ap (λ r. r.next_since) same, since_waits k (waiters k.tasks place) a e, length-waiters k.tasks place, is.few)

-- what the contract says about a deletion that was made
pub record Deleted (s t : MutexState) (id : ℕ) : Type 0 where
  pub fine : delete_refusal (object_of s.mutexes id) ≡ None
  pub state : t ≡ delete s id
  pub keeps : KeepsMutexes t

pub deleted : (s : MutexState) (id : ℕ) (k j : KernState) (live : LiveMutexes) → IsKern s.kern → AreMutexes s.mutexes → KeepsMutexes s → IsSome (object_of s.mutexes id)
    → k ≡ wake_all s.kern (mutex_place id) error_word (Some errors.ObjDeleted) → j ≡ its_owner_ended s.profile k (object_of s.mutexes id) → live.profile ≡ s.profile → live.rows ≡ without s.mutexes id → Deleted s (both j live) id
deleted s id k j live is are kept there wakes ends rule less =
    let m = live_is (object_of s.mutexes id) there in
    let all = delete_same s id m.0 is are.rising m.1 kept in
    let state : both j live ≡ delete s id =
    ap (λ p. record { kern = j; profile = p; mutexes = live.rows }) rule
    ∙ ap (λ xs. record s { kern = j; mutexes = xs }) less
    ∙ ap (λ r. record s { kern = r; mutexes = without s.mutexes id }) (ends ∙ ap (its_owner_ended s.profile k) m.1 ∙ ap (λ r. owner_ended s.profile r m.0 m.0.owner) wakes) ∙ sym all.0 in
    record { fine = ap delete_refusal m.1; state = state; keeps = subst KeepsMutexes (sym state) all.1 }
