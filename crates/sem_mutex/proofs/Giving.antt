-- The last give of a mutex.
use Rattle.std.proofs.Common.{◌≡◌, ℕ, ◌+◌, ◌-◌, ◌<◌, ◌≤◌, Bool, true, false, cond, ◌&&◌, eqb, List, [], ◌∷◌, Option, None, Some, IsSome, refl, sym, ap, ◌∙◌, subst, arith, ⊎_elim}
use mathlib.Core.Path.{fun_ext}
use Rattle.std.specs.List.{All, Contains, filter}
use Rattle.std.specs.Ordering.{is_lt, nat_cmp, ordering_then}
use Rattle.std.specs.declared.cmp.Ordering.TheVariants.{Less, Equal, Greater}
use Rattle.std.specs.Cmp.Lexicographic.{slice_cmp}
use Rattle.std.proofs.lemmas.Bool.{cases_lt, lt-ltb}
use Rattle.std.proofs.lemmas.Option.{same_Some}
use Rattle.std.proofs.lemmas.List.Elements.{All-contains}
use Rattle.id_table.specs.Rows.{object_of, with_object, row_id}
use Rattle.wind_base.specs.declared.profile.Profile.{Profile}
use Rattle.wind_base.specs.declared.profile.Profile.TheVariants.{One}
use Rattle.task_block.specs.declared.task.Task.{Task}
use Rattle.id_table.proofs.Records.{found_at, found_in}
use Rattle.id_table.proofs.Passing.{contains_filter, front_passes, front_found, none_passes}
use Rattle.id_table.proofs.Orders.{first_least}
use Rattle.wind_core.specs.State.{KernState, IsKern, Lives, task_id, task_of}
use Rattle.wind_core.specs.Orders.{is_less, is_place, waits_at, waits_before, wait_pri, first_waiter}
use Rattle.wind_core.specs.Moves.{answered, end_wait, set_held}
use Rattle.wind_core.specs.Move.{EndWait, Set}
use Rattle.wind_core.specs.declared.settings.Setting.TheVariants as settings
use Rattle.wind_core.proofs.Passes.{waits_before-order}
use Rattle.wind_core.proofs.Moving.{move_keeps}
use Rattle.wind_core.proofs.Ids.{ids, ids-change, ids-move, lives_by}
use Rattle.task_safety.specs.Safety.{make_safe, safe_of}
use Rattle.inheritance.specs.declared.mutex.Mutex.{Mutex}
use Rattle.inheritance.specs.Mutexes.{MutexState, is_id, holds, held_count, mutex_place}
use Rattle.inheritance.specs.Reach.{lent_to}
use Rattle.sem_mutex.specs.Calls.{held_of, holding, guarded, eased, dropped, letting_go, owned, hand, freed, pass_on, give_up}
use Rattle.inheritance.specs.Laws.{OwnersUrgent}
use Rattle.sem_mutex.specs.Kept.{MutexKept, Holds, KeepsMutexes}
use Rattle.sem_mutex.proofs.Following.{holds_follows, urgent_follows, none_above}
use Rattle.sem_mutex.proofs.Beside.{follows-end_wait}
use Rattle.sem_mutex.proofs.Counting.{one, count_write, no_lender}
use Rattle.sem_mutex.proofs.Owning.{holds_less, urgent_dropped}
use Rattle.sem_mutex.proofs.Handing.{IsOwned, switch, waits_owned, urgent_switch, follows-eased, lives_below, plus, plus_above, holds_hand, urgent_hand, new_owner, found_row}
use Rattle.id_table.specs.Records.{Rising}

-- ---- the first waiter is as urgent as the others
-- a list of numbers that isn't before another doesn't begin with a lesser number
first_low : (a b : ℕ) (us vs : List ℕ) → is_less (a ∷ us) (b ∷ vs) ≡ false → b ≤ a
first_low a b us vs e =
    ⊎_elim
    (λ (l : a < b).
    let yes : is_less (a ∷ us) (b ∷ vs) ≡ true = ap (λ t. is_lt (ordering_then (cond t Less (cond (eqb a b) Equal Greater)) (slice_cmp nat_cmp us vs))) (lt-ltb a b l) in
    absurd (cc))
    (λ (g : b ≤ a). g)
    (cases_lt a b)

pub first_urgent : (k : KernState) (id : ℕ) (x y : Task) → first_waiter k.tasks (mutex_place id) ≡ Some x → Contains k.tasks y → is_place (mutex_place id) y.wait ≡ true → x.fifo ≡ false → y.fifo ≡ false → x.pri ≤ y.pri
first_urgent k id x y e at waits fx fy =
    let inside = All-contains (λ t. waits_at (mutex_place id) t ≡ true → Contains (filter (waits_at (mutex_place id)) k.tasks) t) k.tasks y (contains_filter (waits_at (mutex_place id)) k.tasks) at waits in
    let not_before = (first_least waits_before waits_before-order (filter (waits_at (mutex_place id)) k.tasks) x e).1 y inside in
    let low : wait_pri x ≤ wait_pri y = first_low (wait_pri y) (wait_pri x) (y.since ∷ y.id ∷ []) (x.since ∷ x.id ∷ []) not_before in
    let px = ap {B = ℕ} (λ b. cond b 0 x.pri) fx in
    let py = ap {B = ℕ} (λ b. cond b 0 y.pri) fy in
    omega arith

-- ---- the kernel's invariant
pub kern_hand : (k : KernState) (who : ℕ) (m : Mutex) → IsKern k → IsKern (guarded (holding k who m) who m)
kern_hand k who m is = guards (holding k who m) (elim m.inversion_safe as (λ b. IsKern (cond b (set_held k who (held_of (task_of k.tasks who) + 1)) k)) [ true ↦ move_keeps k (Set who (settings.Held (held_of (task_of k.tasks who) + 1))) is tt | false ↦ is ])
  where
    guards : (r : KernState) → IsKern r → IsKern (guarded r who m)
    guards r q = elim m.delete_safe as (λ b. IsKern (cond b (make_safe r who) r)) [ true ↦ move_keeps r (Set who (settings.Safe (safe_of (task_of r.tasks who) + 1))) q tt | false ↦ q ]

pub ids_hand : (k : KernState) (who : ℕ) (m : Mutex) → ids (guarded (holding k who m) who m).tasks ≡ ids k.tasks
ids_hand k who m = guards (holding k who m) ∙ elim m.inversion_safe as (λ b. ids (cond b (set_held k who (held_of (task_of k.tasks who) + 1)) k).tasks ≡ ids k.tasks) [ true ↦ ids-change k.tasks who (λ t. record t { held = held_of (task_of k.tasks who) + 1 }) (λ t. refl) | false ↦ refl ]
  where
    guards : (r : KernState) → ids (guarded r who m).tasks ≡ ids r.tasks
    guards r = elim m.delete_safe as (λ b. ids (cond b (make_safe r who) r).tasks ≡ ids r.tasks) [ true ↦ ids-change r.tasks who (λ t. record t { safe = safe_of (task_of r.tasks who) + 1 }) (λ t. refl) | false ↦ refl ]

pub next_hand : (k : KernState) (who : ℕ) (m : Mutex) → (guarded (holding k who m) who m).next_id ≡ k.next_id
next_hand k who m = guards (holding k who m) ∙ elim m.inversion_safe as (λ b. (cond b (set_held k who (held_of (task_of k.tasks who) + 1)) k).next_id ≡ k.next_id) [ true ↦ refl | false ↦ refl ]
  where
    guards : (r : KernState) → (guarded r who m).next_id ≡ r.next_id
    guards r = elim m.delete_safe as (λ b. (cond b (make_safe r who) r).next_id ≡ r.next_id) [ true ↦ refl | false ↦ refl ]

-- ---- the mutex is passed on, and is still counted for the giver
pub record IsPassed (s t : MutexState) (id : ℕ) (v : Mutex) : Type 0 where
  pub mutexes : t.mutexes ≡ with_object s.mutexes id v
  pub profile : t.profile ≡ s.profile
  pub kern : IsKern t.kern
  pub alike : ids t.kern.tasks ≡ ids s.kern.tasks
  pub next : s.kern.next_id ≤ t.kern.next_id
  pub holds : Holds s.profile (plus (held_count s.mutexes) v) (with_object s.mutexes id v) t.kern
  pub urgent : s.profile ≡ One → OwnersUrgent (with_object s.mutexes id v) t.kern.tasks

abbrev pub next_owner : Mutex → Option Task → Mutex
next_owner m None = freed m
next_owner m (Some w) = owned w.id m

passed_free : (s : MutexState) (id : ℕ) (m : Mutex) → IsKern s.kern → object_of s.mutexes id ≡ Some m → first_waiter s.kern.tasks (mutex_place id) ≡ None → KeepsMutexes s
    → IsPassed s (pass_on s id m None) id (freed m)
passed_free s id m is e none kept =
    let ms = s.mutexes in
    let k = s.kern in
    let v : Mutex = freed m in
    let row = found_row (MutexKept k.next_id) ms id m kept.holds.mutexes e in
    let nobody : (t : Task) → Contains k.tasks t → is_place (mutex_place id) t.wait ≡ true → ⊥ =
    λ t at b. let no : is_place (mutex_place id) t.wait ≡ false = All-contains (λ u. waits_at (mutex_place id) u ≡ false) k.tasks t (none_passes task_id waits_before waits_before-order (waits_at (mutex_place id)) k.tasks none) at in cc in
    let switched : Holds s.profile (held_count ms) (with_object ms id v) k =
    switch s.profile (held_count ms) ms k id m v e (record { id = row.id; owner = tt; depth = λ q. absurd (cc); by_urgency = row.by_urgency }) (λ t at b. absurd (nobody t at b)) kept.holds in
    let none_more : (i : ℕ) → held_count ms i ≡ plus (held_count ms) v i = λ i.
    let z : one (m.inversion_safe && false) ≡ 0 = elim m.inversion_safe as (λ b. ◌≡◌ {A = ℕ} (one (b && false)) 0) [ true ↦ refl | false ↦ refl ] in
    omega arith in
    record {
      mutexes = refl;
      profile = refl;
      kern = is;
      alike = refl;
      next = omega arith;
      holds = subst (λ c. Holds s.profile c (with_object ms id v) k) (fun_ext none_more) switched;
      urgent = λ first. urgent_switch ms k id m v e (λ y x at_y at_x b q. absurd (nobody y at_y b)) (kept.urgent first);
    }

passed_to : (s : MutexState) (id : ℕ) (m : Mutex) (x : Task) → IsKern s.kern → object_of s.mutexes id ≡ Some m → first_waiter s.kern.tasks (mutex_place id) ≡ Some x → KeepsMutexes s
    → IsPassed s (pass_on s id m (Some x)) id (owned x.id m)
passed_to s id m x is e first kept =
    let ms = s.mutexes in
    let k = s.kern in
    let v : Mutex = owned x.id m in
    let ns : List (ℕ × Mutex) = with_object ms id v in
    let row = found_row (MutexKept k.next_id) ms id m kept.holds.mutexes e in
    let here : task_of k.tasks x.id ≡ Some x = front_found task_id waits_before waits_before-order (waits_at (mutex_place id)) k.tasks x is.rising first in
    let at_x = found_at task_id k.tasks x.id x here in
    let waits : is_place (mutex_place id) x.wait ≡ true = front_passes task_id waits_before waits_before-order (waits_at (mutex_place id)) k.tasks x first in
    let lives : Lives k x.id = subst (λ o. IsSome o) (sym here) refl in
    let own : (t : Task) → Contains k.tasks t → is_place (mutex_place id) t.wait ≡ true → IsOwned t.fifo m = waits_owned s.profile (held_count ms) ms k id m e kept.holds in
    let switched : Holds s.profile (held_count ms) ns k = switch s.profile (held_count ms) ms k id m v e (new_owner ms k.next_id id x.id m (lives_below k x.id is lives) row) (λ t at b. (refl, (own t at b).1)) kept.holds in
    let urgent : s.profile ≡ One → OwnersUrgent ns k.tasks = λ one. urgent_switch ms k id m v e (λ y z at_y at_z b q. lent y z at_y at_z b at_x waits here own q) (kept.urgent one) in
    let none = λ (i : ℕ) (le : k.next_id ≤ i). none_above ms k.next_id i kept.holds.mutexes le in
    let handed : Holds s.profile (plus (held_count ms) v) ns (hand s x.id id m).kern = holds_hand s.profile (held_count ms) ns k x.id m is lives none switched in
    let handed_urgent : s.profile ≡ One → OwnersUrgent ns (hand s x.id id m).kern.tasks = λ first. urgent_hand ns k x.id m switched.mutexes (urgent first) in
    let j : KernState = (hand s x.id id m).kern in
    let goes = follows-end_wait ns j x.id 0 None in
    let below = lives_below k x.id is lives in
    record {
      mutexes = refl;
      profile = refl;
      kern = move_keeps j (EndWait x.id 0 None) (kern_hand k x.id m is) tt;
      alike = ids-move j x.id (answered 0 None) (λ t. refl) ∙ ids_hand k x.id m;
      next = omega (arith, goes.next, next_hand k x.id m);
      holds = holds_follows ns j (end_wait j x.id 0 None) goes s.profile (plus (held_count ms) v) (λ i le. plus_above (held_count ms) x.id v k.next_id refl below none i (omega (arith, next_hand k x.id m))) handed;
      urgent = λ first. urgent_follows ns j (end_wait j x.id 0 None) goes (subst (λ n. All (MutexKept n) ns) (sym (next_hand k x.id m)) switched.mutexes) (handed_urgent first);
    }
  where
    lent : (y z : Task) → Contains s.kern.tasks y → Contains s.kern.tasks z → is_place (mutex_place id) y.wait ≡ true → Contains s.kern.tasks x → is_place (mutex_place id) x.wait ≡ true → task_of s.kern.tasks x.id ≡ Some x
        → ((t : Task) → Contains s.kern.tasks t → is_place (mutex_place id) t.wait ≡ true → IsOwned t.fifo m) → lent_to (Some (owned x.id m)) ≡ Some z.id → z.pri ≤ y.pri
    lent y z at_y at_z b at_x waits here own q =
        elim m.inversion_safe as (λ t. m.inversion_safe ≡ t → cond t (Some x.id) None ≡ Some z.id → z.pri ≤ y.pri) [
          | true ↦ λ lends r.
              let same : x.id ≡ z.id = same_Some x.id z.id r in
              let one_task : x ≡ z = same_Some x z (sym here ∙ ap (task_of s.kern.tasks) same ∙ found_in task_id s.kern.tasks z is.rising at_z) in
              let law = first_urgent s.kern id x y first at_y b ((own x at_x waits).1 lends) ((own y at_y b).1 lends) in
              let p = ap (λ (t : Task). t.pri) one_task in
              omega arith
          | false ↦ λ lends r. absurd (cc)
        ] refl q

pub passed : (s : MutexState) (id : ℕ) (m : Mutex) → IsKern s.kern → object_of s.mutexes id ≡ Some m → KeepsMutexes s
    → IsPassed s (pass_on s id m (first_waiter s.kern.tasks (mutex_place id))) id (next_owner m (first_waiter s.kern.tasks (mutex_place id)))
passed s id m is e kept =
    elim (first_waiter s.kern.tasks (mutex_place id)) as (λ o. first_waiter s.kern.tasks (mutex_place id) ≡ o → IsPassed s (pass_on s id m o) id (next_owner m o)) [
      | None ↦ λ q. passed_free s id m is e q kept
      | Some x ↦ λ q. passed_to s id m x is e q kept
    ] refl

-- ---- the giver gives up its ownership
letting_by : (p : Profile) (b : Bool) (count : ℕ → ℕ) (ms : List (ℕ × Mutex)) (k : KernState) (who : ℕ) → IsKern k → Lives k who → Holds p count ms k
    → Holds p (λ i. count i - one (b && eqb who i)) ms (cond b (dropped p k who) k)
letting_by p true count ms k who is lives h = holds_less p count ms k who is lives h
letting_by p false count ms k who is lives h = subst (λ c. Holds p c ms k) (fun_ext (λ i. let z : count i ≡ count i - 0 = omega arith in z)) h

urgent_by : (p : Profile) → p ≡ One → (b : Bool) (count : ℕ → ℕ) (ms : List (ℕ × Mutex)) (k : KernState) (who : ℕ) → IsKern k → Lives k who → Holds p count ms k
    → ((i : ℕ) → count i - one (b && eqb who i) ≡ held_count ms i) → OwnersUrgent ms k.tasks → OwnersUrgent ms (cond b (dropped p k who) k).tasks
urgent_by p first true count ms k who is lives h counted urgent = urgent_dropped p first count ms ms k who is lives h (λ z w e. no_lender ms who (sym (counted who) ∙ z) w e) urgent
urgent_by p first false count ms k who is lives h counted urgent = urgent

-- t is s, but the giver is still counted as an owner of the mutex
pub let_go_keeps : (p : Profile) (count : ℕ → ℕ) (ns : List (ℕ × Mutex)) (k : KernState) (who n : ℕ) (m : Mutex) → m.owner ≡ Some who → IsKern k → Lives k who → Holds p count ns k → (p ≡ One → OwnersUrgent ns k.tasks)
    → ((i : ℕ) → count i - one (holds i m) ≡ held_count ns i) → KeepsMutexes (record { kern = eased (letting_go p k who m) who m n; profile = p; mutexes = ns })
let_go_keeps p count ns k who n m own is lives h urgent counted =
    let j : KernState = letting_go p k who m in
    let by : (i : ℕ) → count i - one (m.inversion_safe && eqb who i) ≡ held_count ns i = λ i. sym (ap {B = ℕ} (λ o. count i - one (m.inversion_safe && is_id i o)) own) ∙ counted i in
    let less_holds : Holds p (held_count ns) ns j = subst (λ c. Holds p c ns j) (fun_ext by) (letting_by p m.inversion_safe count ns k who is lives h) in
    let less_urgent : p ≡ One → OwnersUrgent ns j.tasks = λ first. urgent_by p first m.inversion_safe count ns k who is lives h by (urgent first) in
    let goes = follows-eased ns j who m n in
    record {
      holds = holds_follows ns j (eased j who m n) goes p (held_count ns) (λ i le. none_above ns j.next_id i less_holds.mutexes le) less_holds;
      urgent = λ first. urgent_follows ns j (eased j who m n) goes less_holds.mutexes (less_urgent first);
    }

pub give_up_keeps : (s : MutexState) (who id : ℕ) (m : Mutex) → IsKern s.kern → Rising row_id s.mutexes → Lives s.kern who → object_of s.mutexes id ≡ Some m → m.owner ≡ Some who → KeepsMutexes s → KeepsMutexes (give_up s who id m)
give_up_keeps s who id m is up lives e own kept =
    let o : Option Task = first_waiter s.kern.tasks (mutex_place id) in
    let v : Mutex = next_owner m o in
    let t : MutexState = pass_on s id m o in
    let p = passed s id m is e kept in
    let counted : (i : ℕ) → plus (held_count s.mutexes) v i - one (holds i m) ≡ held_count (with_object s.mutexes id v) i = λ i. let w = count_write s.mutexes id m v up e i in omega arith in
    let all = let_go_keeps s.profile (plus (held_count s.mutexes) v) (with_object s.mutexes id v) t.kern who 1 m own p.kern (lives_by t.kern.tasks s.kern.tasks who p.alike lives) p.holds p.urgent counted in
    let j : KernState = eased (letting_go s.profile t.kern who m) who m 1 in
    subst (λ q. KeepsMutexes (record { kern = j; profile = q; mutexes = t.mutexes })) (sym p.profile)
    (subst (λ ns. KeepsMutexes (record { kern = j; profile = s.profile; mutexes = ns })) (sym p.mutexes) all)
