-- A mutex changes hands.
use Rattle.std.proofs.Common.{◌≡◌, ℕ, suc, ◌+◌, ◌-◌, ◌<◌, ◌≤◌, Bool, true, false, cond, not, ◌&&◌, eqb, List, [], ◌∷◌, length, get_or, None, Some, IsSome, IfSome, refl, sym, ap, ◌∙◌, subst, arith, inl}
use mathlib.Core.Path.{fun_ext}
use Rattle.std.specs.List.{All, Contains}
use Rattle.std.proofs.lemmas.Bool.{eqb-true, ne_eqb}
use Rattle.std.proofs.lemmas.Option.{same_Some}
use Rattle.std.proofs.lemmas.List.{get_or-map, length-map}
use Rattle.std.proofs.lemmas.List.Elements.{All-contains, Contains-get_or}
use Rattle.id_table.proofs.Kept.{object_of-cons}
use Rattle.id_table.specs.Rows.{object_of, with_object, row_id}
use Rattle.wind_base.specs.declared.profile.Profile.{Profile}
use Rattle.wind_base.specs.declared.profile.Profile.TheVariants.{One}
use Rattle.task_block.specs.declared.task.Task.{Task}
use Rattle.id_table.proofs.Records.{found_id}
use Rattle.wind_core.specs.State.{KernState, IsKern, Lives, task_id, task_of}
use Rattle.wind_core.specs.Orders.{is_place}
use Rattle.wind_core.specs.Moves.{renewed, pended, wake_at, set_held}
use Rattle.wind_core.proofs.Stable.{renew_task-stable}
use Rattle.task_safety.specs.Safety.{make_safe, safe_of, lessen}
use Rattle.inheritance.specs.declared.mutex.Mutex.{Mutex}
use Rattle.inheritance.specs.Mutexes.{MutexState, is_id, holds, held_count, mutex_place}
use Rattle.inheritance.specs.Reach.{mutex_at, lent_to, owner_at}
use Rattle.sem_mutex.specs.Calls.{held_of, holding, guarded, eased, owned, hand, deepen, await, shallow}
use Rattle.inheritance.specs.Laws.{OwnersUrgent, OwnersUrgentBut}
use Rattle.sem_mutex.specs.Kept.{MutexKept, TaskKept, Holds, KeepsMutexes}
use Rattle.sem_mutex.proofs.Following.{Follows, holds_follows, urgent_follows, none_above, themselves}
use Rattle.sem_mutex.proofs.Beside.{follows-set_safe, follows-lessen}
use Rattle.sem_mutex.proofs.Counting.{one, mutex_at-write, mutex_at_place, count_write}
use Rattle.sem_mutex.proofs.Owning.{From, Slack, SlackBut, urgent_slack, urgent_slack_but, live_task, holds_more}
use Rattle.id_table.specs.Records.{Rising}
use Rattle.wind_core.proofs.Becoming.{All-change_at, found_all}

-- ---- one mutex is overwritten
abbrev pub IsOwned : Bool → Mutex → Type 0
IsOwned fifo m = IsSome m.owner × (m.inversion_safe ≡ true → fifo ≡ false)

pub mutexes_written : (ms : List (ℕ × Mutex)) (next id : ℕ) (v : Mutex) → All (MutexKept next) ms → MutexKept next (id, v) → All (MutexKept next) (with_object ms id v)
mutexes_written ms next id v all new i d hi =
    let put : ℕ × Mutex → ℕ × Mutex = λ r. cond (eqb r.0 id) (r.0, v) r in
    let within : i < length ms = omega (arith, length-map ms put) in
    let r : ℕ × Mutex = get_or ms i d in
    subst (MutexKept next) (sym (get_or-map put ms i d d within))
    (elim (eqb r.0 id) as (λ b. MutexKept next (cond b (r.0, v) r)) [
      | true ↦ record { id = (all i d within).id; owner = new.owner; depth = new.depth; by_urgency = new.by_urgency }
      | false ↦ all i d within
    ])

-- what is known of a task, with other mutexes
pub with_mutexes : (p : Profile) (ms ns : List (ℕ × Mutex)) (count : ℕ → ℕ) (next : ℕ) (t : Task) → TaskKept p ms count next t → IfSome (mutex_at ns t.wait) (IsOwned t.fifo) → TaskKept p ns count next t
with_mutexes p ms ns count next t kept owned = record { raised = kept.raised; held = kept.held; normal = kept.normal; made = kept.made; owned = owned }

pub switch : (p : Profile) (count : ℕ → ℕ) (ms : List (ℕ × Mutex)) (k : KernState) (id : ℕ) (m v : Mutex) → object_of ms id ≡ Some m → MutexKept k.next_id (id, v)
    → ((t : Task) → Contains k.tasks t → is_place (mutex_place id) t.wait ≡ true → IsOwned t.fifo v) → Holds p count ms k → Holds p count (with_object ms id v) k
switch p count ms k id m v e new ok h = record {
  tasks = λ i d hi.
      let t : Task = get_or k.tasks i d in
      let at = Contains-get_or k.tasks i d hi in
      let kept = h.tasks i d hi in
      with_mutexes p ms (with_object ms id v) count k.next_id t kept
      (subst (λ o. IfSome o (IsOwned t.fifo)) (sym (mutex_at-write ms id m v t.wait e))
      (elim (is_place (mutex_place id) t.wait) as (λ b. is_place (mutex_place id) t.wait ≡ b → IfSome (cond b (Some v) (mutex_at ms t.wait)) (IsOwned t.fifo)) [
        | true ↦ λ b. ok t at b
        | false ↦ λ b. kept.owned
      ] refl));
  mutexes = mutexes_written ms k.next_id id v h.mutexes new;
}

-- what is known of the tasks that wait for the mutex
pub waits_owned : (p : Profile) (count : ℕ → ℕ) (ms : List (ℕ × Mutex)) (k : KernState) (id : ℕ) (m : Mutex) → object_of ms id ≡ Some m → Holds p count ms k → (t : Task) → Contains k.tasks t
    → is_place (mutex_place id) t.wait ≡ true → IsOwned t.fifo m
waits_owned p count ms k id m e h t at b =
    let kept = All-contains (TaskKept p ms count k.next_id) k.tasks t h.tasks at in
    subst (λ o. IfSome o (IsOwned t.fifo)) (mutex_at_place ms id t.wait b ∙ e) kept.owned

pub urgent_switch : (ms : List (ℕ × Mutex)) (k : KernState) (id : ℕ) (m v : Mutex) → object_of ms id ≡ Some m
    → ((y x : Task) → Contains k.tasks y → Contains k.tasks x → is_place (mutex_place id) y.wait ≡ true → lent_to (Some v) ≡ Some x.id → x.pri ≤ y.pri)
    → OwnersUrgent ms k.tasks → OwnersUrgent (with_object ms id v) k.tasks
urgent_switch ms k id m v e ok urgent i c hi j d hj q =
    let y : Task = get_or k.tasks i c in
    let x : Task = get_or k.tasks j d in
    let now : lent_to (cond (is_place (mutex_place id) y.wait) (Some v) (mutex_at ms y.wait)) ≡ Some x.id = sym (ap lent_to (mutex_at-write ms id m v y.wait e)) ∙ q in
    elim (is_place (mutex_place id) y.wait) as (λ b. is_place (mutex_place id) y.wait ≡ b → lent_to (cond b (Some v) (mutex_at ms y.wait)) ≡ Some x.id → x.pri ≤ y.pri) [
      | true ↦ λ b r. ok y x (Contains-get_or k.tasks i c hi) (Contains-get_or k.tasks j d hj) b r
      | false ↦ λ b r. urgent i c hi j d hj r
    ] refl now

-- ---- a task becomes an owner
pub follows_itself : (ms : List (ℕ × Mutex)) (k : KernState) → Follows ms k k
follows_itself ms k = record { next = omega arith; tasks = themselves ms k }

pub follows-guarded : (ms : List (ℕ × Mutex)) (k : KernState) (who : ℕ) (m : Mutex) → Follows ms k (guarded k who m)
follows-guarded ms k who m =
    elim m.delete_safe as (λ b. Follows ms k (cond b (make_safe k who) k)) [ true ↦ follows-set_safe ms k who (safe_of (task_of k.tasks who) + 1) | false ↦ follows_itself ms k ]

pub follows-eased : (ms : List (ℕ × Mutex)) (k : KernState) (who : ℕ) (m : Mutex) (n : ℕ) → Follows ms k (eased k who m n)
follows-eased ms k who m n = elim m.delete_safe as (λ b. Follows ms k (cond b (lessen k who n) k)) [ true ↦ follows-lessen ms k who n | false ↦ follows_itself ms k ]

-- a live task was made
pub lives_below : (k : KernState) (who : ℕ) → IsKern k → Lives k who → who < k.next_id
lives_below k who is lives =
    let x = live_task (task_of k.tasks who) lives in
    let below = found_all (λ t. t.id < k.next_id) k.tasks who x.0 is.ids x.1 in
    omega (arith, below, found_id task_id k.tasks who x.0 x.1)

-- how many mutexes each task owns after mutex v goes to its owner
abbrev pub plus : (ℕ → ℕ) → Mutex → ℕ → ℕ
plus count v i = count i + one (holds i v)

pub plus_above : (count : ℕ → ℕ) (who : ℕ) (v : Mutex) (next : ℕ) → v.owner ≡ Some who → who < next → ((i : ℕ) → next ≤ i → count i ≡ 0) → (i : ℕ) → next ≤ i → plus count v i ≡ 0
plus_above count who v next own below none i le =
    let zero_count = none i le in
    let other : is_id i v.owner ≡ false = ap (is_id i) own ∙ ne_eqb who i (λ e. omega arith) in
    let no = ap {B = ℕ} (λ b. one (v.inversion_safe && b)) other in
    let nothing : one (v.inversion_safe && false) ≡ 0 = elim v.inversion_safe as (λ b. ◌≡◌ {A = ℕ} (one (b && false)) 0) [ true ↦ refl | false ↦ refl ] in
    omega arith

holding_by : (p : Profile) (b : Bool) (count : ℕ → ℕ) (ms : List (ℕ × Mutex)) (k : KernState) (who : ℕ) → Lives k who → Holds p count ms k
    → Holds p (λ i. count i + one (b && eqb who i)) ms (cond b (set_held k who (held_of (task_of k.tasks who) + 1)) k)
holding_by p true count ms k who lives h = holds_more p count ms k who lives h
holding_by p false count ms k who lives h = subst (λ c. Holds p c ms k) (fun_ext (λ i. let z : count i ≡ count i + 0 = omega arith in z)) h

pub holds_hand : (p : Profile) (count : ℕ → ℕ) (ms : List (ℕ × Mutex)) (k : KernState) (who : ℕ) (m : Mutex) → IsKern k → Lives k who → ((i : ℕ) → k.next_id ≤ i → count i ≡ 0) → Holds p count ms k
    → Holds p (plus count (owned who m)) ms (guarded (holding k who m) who m)
holds_hand p count ms k who m is lives none h =
    let k1 : KernState = holding k who m in
    let held : Holds p (plus count (owned who m)) ms k1 = holding_by p m.inversion_safe count ms k who lives h in
    let same : k1.next_id ≡ k.next_id = elim m.inversion_safe as (λ b. (cond b (set_held k who (held_of (task_of k.tasks who) + 1)) k).next_id ≡ k.next_id) [ true ↦ refl | false ↦ refl ] in
    holds_follows ms k1 (guarded k1 who m) (follows-guarded ms k1 who m) p (plus count (owned who m))
    (λ i le. plus_above count who (owned who m) k.next_id refl (lives_below k who is lives) none i (omega arith)) held

-- ---- owners stay as urgent as their waiters if no priority and no wait changes
slack_itself : (ms : List (ℕ × Mutex)) (k : KernState) (who n : ℕ) → All (From (Slack ms) k.tasks) (set_held k who n).tasks
slack_itself ms k who n =
    All-change_at (λ t. t.id ≡ t.id) (From (Slack ms) k.tasks) k.tasks who (λ t. record t { held = n })
    (λ t at same p. (t, at, record { id = refl; wait = refl; pri = inl refl }))
    (λ t at other p. (t, at, record { id = refl; wait = refl; pri = inl refl }))
    (λ i d hi. refl)

pub urgent_holding : (ms : List (ℕ × Mutex)) (k : KernState) (who : ℕ) (m : Mutex) → OwnersUrgent ms k.tasks → OwnersUrgent ms (holding k who m).tasks
urgent_holding ms k who m urgent =
    elim m.inversion_safe as (λ b. OwnersUrgent ms (cond b (set_held k who (held_of (task_of k.tasks who) + 1)) k).tasks) [
      | true ↦ urgent_slack ms k.tasks (set_held k who (held_of (task_of k.tasks who) + 1)).tasks (slack_itself ms k who (held_of (task_of k.tasks who) + 1)) urgent
      | false ↦ urgent
    ]

pub urgent_hand : (ms : List (ℕ × Mutex)) (k : KernState) (who : ℕ) (m : Mutex) → All (MutexKept k.next_id) ms → OwnersUrgent ms k.tasks → OwnersUrgent ms (guarded (holding k who m) who m).tasks
urgent_hand ms k who m made urgent =
    let same : (holding k who m).next_id ≡ k.next_id = elim m.inversion_safe as (λ b. (cond b (set_held k who (held_of (task_of k.tasks who) + 1)) k).next_id ≡ k.next_id) [ true ↦ refl | false ↦ refl ] in
    urgent_follows ms (holding k who m) (guarded (holding k who m) who m) (follows-guarded ms (holding k who m) who m) (subst (λ n. All (MutexKept n) ms) (sym same) made) (urgent_holding ms k who m urgent)

-- ---- a free mutex is taken
none_held : (m : Mutex) → m.owner ≡ None → (i : ℕ) → ◌≡◌ {A = ℕ} (one (holds i m)) 0
none_held m free i = ap {B = ℕ} (λ o. one (m.inversion_safe && is_id i o)) free ∙ elim m.inversion_safe as (λ b. ◌≡◌ {A = ℕ} (one (b && false)) 0) [ true ↦ refl | false ↦ refl ]

pub new_owner : (ms : List (ℕ × Mutex)) (next id who : ℕ) (m : Mutex) → who < next → MutexKept next (id, m) → MutexKept next (id, owned who m)
new_owner ms next id who m below kept = record { id = kept.id; owner = below; depth = λ _. omega arith; by_urgency = kept.by_urgency }

pub found_row : (P : ℕ × Mutex → Type 0) (ms : List (ℕ × Mutex)) (id : ℕ) (m : Mutex) → All P ms → object_of ms id ≡ Some m → P (id, m)
found_row P [] id m all e = absurd (cc)
found_row P (r ∷ rs) id m all e =
    elim (eqb r.0 id) as (λ b. eqb r.0 id ≡ b → cond b (Some r.1) (object_of rs id) ≡ Some m → P (id, m)) [
      | true ↦ λ b q. subst (λ v. P (id, v)) (same_Some r.1 m q) (subst (λ n. P (n, r.1)) (eqb-true r.0 id b) (all 0 r (omega arith)))
      | false ↦ λ b q. found_row P rs id m (λ i d hi. all (suc i) d (omega arith)) q
    ] refl (sym (object_of-cons r.0 r.1 rs id) ∙ e)

pub hand_keeps : (s : MutexState) (who id : ℕ) (m : Mutex) → IsKern s.kern → Rising row_id s.mutexes → Lives s.kern who → object_of s.mutexes id ≡ Some m → m.owner ≡ None → KeepsMutexes s → KeepsMutexes (hand s who id m)
hand_keeps s who id m is up lives e free kept =
    let ms = s.mutexes in
    let k = s.kern in
    let v : Mutex = owned who m in
    let ns : List (ℕ × Mutex) = with_object ms id v in
    let row = found_row (MutexKept k.next_id) ms id m kept.holds.mutexes e in
    let nobody : (t : Task) → Contains k.tasks t → is_place (mutex_place id) t.wait ≡ true → ⊥ =
    λ t at b. let own = (waits_owned s.profile (held_count ms) ms k id m e kept.holds t at b).0 in subst (λ o. IsSome o → ⊥) (sym free) (λ q. absurd (cc)) own in
    let switched : Holds s.profile (held_count ms) ns k = switch s.profile (held_count ms) ms k id m v e (new_owner ms k.next_id id who m (lives_below k who is lives) row) (λ t at b. absurd (nobody t at b)) kept.holds in
    let count : (i : ℕ) → plus (held_count ms) v i ≡ held_count ns i = λ i.
    let w = count_write ms id m v up e i in
    let z = none_held m free i in
    omega arith in
    record {
      holds = subst (λ c. Holds s.profile c ns (hand s who id m).kern) (fun_ext count)
          (holds_hand s.profile (held_count ms) ns k who m is lives (λ i le. none_above ms k.next_id i kept.holds.mutexes le) switched);
      urgent = λ first. urgent_hand ns k who m switched.mutexes (urgent_switch ms k id m v e (λ y x at_y at_x b q. absurd (nobody y at_y b)) (kept.urgent first));
    }

-- ---- the owner takes it once more, or gives it once
same_owner : (ms : List (ℕ × Mutex)) (id : ℕ) (m v : Mutex) → Rising row_id ms → object_of ms id ≡ Some m → v.owner ≡ m.owner → v.inversion_safe ≡ m.inversion_safe → (i : ℕ) → held_count ms i ≡ held_count (with_object ms id v) i
same_owner ms id m v up e own lends i =
    let w = count_write ms id m v up e i in
    let same = ap {B = ℕ} (λ o. one (v.inversion_safe && is_id i o)) own in
    let also = ap {B = ℕ} (λ b. one (b && is_id i m.owner)) lends in
    omega arith

-- another count of takes, and a change that doesn't concern mutexes
pub depth_keeps : (s : MutexState) (n : KernState) (id depth : ℕ) (m : Mutex) → Rising row_id s.mutexes → object_of s.mutexes id ≡ Some m → (IsSome m.owner → 0 < depth) → KeepsMutexes s
    → ((ns : List (ℕ × Mutex)) → Follows ns s.kern n) → KeepsMutexes (record s { kern = n; mutexes = with_object s.mutexes id (record m { depth = depth }) })
depth_keeps s n id depth m up e deep kept follows =
    let ms = s.mutexes in
    let k = s.kern in
    let v : Mutex = record m { depth = depth } in
    let ns : List (ℕ × Mutex) = with_object ms id v in
    let row = found_row (MutexKept k.next_id) ms id m kept.holds.mutexes e in
    let switched : Holds s.profile (held_count ms) ns k = switch s.profile (held_count ms) ms k id m v e (record { id = row.id; owner = row.owner; depth = deep; by_urgency = row.by_urgency }) (λ t at b. waits_owned s.profile (held_count ms) ms k id m e kept.holds t at b) kept.holds in
    let urgent : s.profile ≡ One → OwnersUrgent ns k.tasks = λ first. urgent_switch ms k id m v e (λ y x at_y at_x b q.
    All-contains (λ u. owner_at ms y.wait ≡ Some u.id → u.pri ≤ y.pri) k.tasks x
    (All-contains (λ w. All (λ u. owner_at ms w.wait ≡ Some u.id → u.pri ≤ w.pri) k.tasks) k.tasks y (kept.urgent first) at_y) at_x
    (ap lent_to (mutex_at_place ms id y.wait b ∙ e) ∙ q)) (kept.urgent first) in
    let count = fun_ext (same_owner ms id m v up e refl refl) in
    record {
      holds = subst (λ c. Holds s.profile c ns n) count (holds_follows ns k n (follows ns) s.profile (held_count ms) (λ i le. none_above ms k.next_id i kept.holds.mutexes le) switched);
      urgent = λ first. urgent_follows ns k n (follows ns) switched.mutexes (urgent first);
    }

pub deepen_keeps : (s : MutexState) (who id : ℕ) (m : Mutex) → Rising row_id s.mutexes → object_of s.mutexes id ≡ Some m → KeepsMutexes s → KeepsMutexes (deepen s who id m)
deepen_keeps s who id m up e kept = depth_keeps s (guarded s.kern who m) id (m.depth + 1) m up e (λ _. omega arith) kept (λ ns. follows-guarded ns s.kern who m)

pub shallow_keeps : (s : MutexState) (who id : ℕ) (m : Mutex) → Rising row_id s.mutexes → object_of s.mutexes id ≡ Some m → 1 < m.depth → KeepsMutexes s → KeepsMutexes (shallow s who id m)
shallow_keeps s who id m up e deep kept = depth_keeps s (eased s.kern who m 1) id (m.depth - 1) m up e (λ _. omega arith) kept (λ ns. follows-eased ns s.kern who m 1)

-- ---- the task begins to wait
pub await_holds : (s : MutexState) (who id n : ℕ) (m : Mutex) → object_of s.mutexes id ≡ Some m → IsSome m.owner → KeepsMutexes s → Holds s.profile (held_count s.mutexes) s.mutexes (await s who id n m).kern
await_holds s who id n m e own kept =
    let ms = s.mutexes in
    let k = s.kern in
    let row = found_row (MutexKept k.next_id) ms id m kept.holds.mutexes e in
    record {
      tasks = renew_task-stable (TaskKept s.profile ms (held_count ms) k.next_id) (λ since t h. record { raised = h.raised; held = h.held; normal = h.normal; made = h.made; owned = h.owned }) k who
          (pended (mutex_place id) (not m.by_priority) (wake_at 0 k.tick n))
          (λ t h. record {
            raised = h.raised;
            held = h.held;
            normal = h.normal;
            made = row.id;
            owned = subst (λ o. IfSome o (IsOwned (not m.by_priority && true))) (sym e) (own, λ lends. ap (λ b. not b && true) (row.by_urgency lends));
          }) kept.holds.tasks;
      mutexes = kept.holds.mutexes;
    }

-- after a task begins to wait, only that waiter can be more urgent than its owner
pub await_urgent : (s : MutexState) (who id n : ℕ) (m : Mutex) → s.profile ≡ One → KeepsMutexes s → OwnersUrgentBut who s.mutexes (await s who id n m).kern.tasks
await_urgent s who id n m first kept =
    let ms = s.mutexes in
    let k = s.kern in
    urgent_slack_but who ms k.tasks (await s who id n m).kern.tasks
    (All-change_at (λ t. t.id ≡ t.id) (From (SlackBut who ms) k.tasks) k.tasks who (λ t. renewed k.next_since (pended (mutex_place id) (not m.by_priority) (wake_at 0 k.tick n) t))
    (λ t at same h. (t, at, record { id = refl; waiter = λ other. absurd (other same); owner = inl (omega arith) }))
    (λ t at other h. (t, at, record { id = refl; waiter = λ _. (refl, omega arith); owner = inl (omega arith) }))
    (λ i d hi. refl)) (kept.urgent first)
