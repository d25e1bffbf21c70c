-- A mutex is deleted, or a normal priority is set.
use Rattle.std.proofs.Common.{◌≡◌, ℕ, ◌+◌, ◌<◌, ◌≤◌, min, true, false, cond, not, ◌&&◌, eqb, List, get_or, Option, None, Some, IsSome, IfSome, refl, sym, ap, ◌∙◌, subst, arith, ◌⊎◌, inl, inr, ⊎_elim}
use Rattle.std.specs.List.{All, Contains}
use Rattle.std.proofs.lemmas.Bool.{eq-eqb, ne_eqb, eqb-true, cases_eq}
use Rattle.std.proofs.lemmas.List.Elements.{All-contains, All-weaker, All-filter, Contains-get_or}
use Rattle.wind_base.specs.declared.errno.Errno.TheVariants as errors
use Rattle.id_table.specs.Rows.{object_of, without, row_id}
use Rattle.id_table.specs.declared.ident.Place.{Place}
use Rattle.wind_base.specs.declared.profile.Profile.{Profile}
use Rattle.wind_base.specs.declared.profile.Profile.TheVariants.{One, Two}
use Rattle.task_block.specs.declared.task.Task.{Task}
use Rattle.id_table.proofs.Records.{found_in}
use Rattle.wind_core.specs.State.{KernState, IsKern, task_id, task_of}
use Rattle.wind_core.specs.Orders.{is_place}
use Rattle.wind_core.specs.Moves.{set_normal, wake_all}
use Rattle.wind_core.specs.Move.{WakeAll, ChangePri, Set}
use Rattle.wind_core.specs.declared.settings.Setting.TheVariants as settings
use Rattle.wind_core.proofs.Moving.{move_keeps}
use Rattle.inheritance.specs.declared.mutex.Mutex.{Mutex}
use Rattle.inheritance.specs.Mutexes.{MutexState, is_id, holds, held_count, mutex_place}
use Rattle.inheritance.specs.Reach.{mutex_at, owner_at, lent_to}
use Rattle.sem_mutex.specs.Calls.{raised_at_once, letting_go, ended, owner_ended, delete_alone, delete, pri_after, followed, priority_alone, priority_set}
use Rattle.inheritance.specs.Laws.{OwnersUrgent, OwnersUrgentBut}
use Rattle.sem_mutex.specs.Kept.{MutexKept, TaskKept, Holds, KeepsMutexes}
use Rattle.sem_mutex.proofs.Following.{follows_keeps}
use Rattle.sem_mutex.proofs.Beside.{follows-wake_all}
use Rattle.sem_mutex.proofs.Counting.{one, mutex_at-without, count_without, no_lender}
use Rattle.sem_mutex.proofs.Owning.{From, SlackBut, urgent_slack_but}
use Rattle.sem_mutex.proofs.Handing.{IsOwned, with_mutexes}
use Rattle.sem_mutex.proofs.Giving.{let_go_keeps}
use Rattle.sem_mutex.proofs.Keeping.{kern_letting_go, kern_eased}
use Rattle.sem_mutex.proofs.Lifting.{next-change_pri}
use Rattle.sem_mutex.proofs.AtOnce.{not_one, at_once_keeps, at_once_same}
use Rattle.id_table.specs.Records.{Rising}
use Rattle.wind_core.proofs.Becoming.{All-change_at, All-change_pri}

-- ---- a mutex is removed
gone : (p : Profile) (count : ℕ → ℕ) (ms : List (ℕ × Mutex)) (k : KernState) (id : ℕ) → Holds p count ms k → Holds p count (without ms id) k
gone p count ms k id h = record {
  tasks = λ i d hi.
      let t : Task = get_or k.tasks i d in
      let kept = h.tasks i d hi in
      with_mutexes p ms (without ms id) count k.next_id t kept
      (subst (λ o. IfSome o (IsOwned t.fifo)) (sym (mutex_at-without ms id t.wait))
      (elim (is_place (mutex_place id) t.wait) as (λ b. IfSome (cond b None (mutex_at ms t.wait)) (IsOwned t.fifo)) [ true ↦ tt | false ↦ kept.owned ]));
  mutexes = All-filter (λ r. not (eqb r.0 id)) (MutexKept k.next_id) ms h.mutexes;
}

urgent_gone : (ms : List (ℕ × Mutex)) (k : KernState) (id : ℕ) → OwnersUrgent ms k.tasks → OwnersUrgent (without ms id) k.tasks
urgent_gone ms k id urgent i c hi j d hj e =
    let y : Task = get_or k.tasks i c in
    let x : Task = get_or k.tasks j d in
    elim (is_place (mutex_place id) y.wait) as (λ b. lent_to (cond b None (mutex_at ms y.wait)) ≡ Some x.id → x.pri ≤ y.pri) [
      | true ↦ λ q. absurd (cc)
      | false ↦ λ q. urgent i c hi j d hj q
    ] (sym (ap lent_to (mutex_at-without ms id y.wait)) ∙ e)

-- another count of owned mutexes will do, if it agrees on the live tasks
recount : (p : Profile) (count other : ℕ → ℕ) (ms : List (ℕ × Mutex)) (k : KernState) → ((t : Task) → Contains k.tasks t → count t.id ≡ other t.id) → Holds p count ms k → Holds p other ms k
recount p count other ms k same h = record {
  tasks = λ i d hi.
      let kept = h.tasks i d hi in
      record { raised = kept.raised; held = kept.held ∙ same (get_or k.tasks i d) (Contains-get_or k.tasks i d hi); normal = kept.normal; made = kept.made; owned = kept.owned };
  mutexes = h.mutexes;
}

pub delete_alone_keeps : (s : MutexState) (id : ℕ) (m : Mutex) → IsKern s.kern → Rising row_id s.mutexes → object_of s.mutexes id ≡ Some m → KeepsMutexes s → IsKern (delete_alone s id (Some m)).kern × KeepsMutexes (delete_alone s id (Some m))
delete_alone_keeps s id m is up e kept =
    let ms = s.mutexes in
    let k1 : KernState = wake_all s.kern (mutex_place id) 4294967295 (Some errors.ObjDeleted) in
    let is1 : IsKern k1 = move_keeps s.kern (WakeAll (mutex_place id) 4294967295 (Some errors.ObjDeleted)) is tt in
    let kept1 = follows_keeps s k1 (follows-wake_all ms s.kern (mutex_place id) 4294967295 (Some errors.ObjDeleted)) kept in
    let left : Holds s.profile (held_count ms) (without ms id) k1 = gone s.profile (held_count ms) ms k1 id kept1.holds in
    let urgent : s.profile ≡ One → OwnersUrgent (without ms id) k1.tasks = λ first. urgent_gone ms k1 id (kept1.urgent first) in
    let counted : (i : ℕ) → held_count (without ms id) i + one (holds i m) ≡ held_count ms i = count_without ms id m up e in
    elim m.owner as (λ o. m.owner ≡ o → IsKern (owner_ended s.profile k1 m o) × KeepsMutexes (record s { kern = owner_ended s.profile k1 m o; mutexes = without ms id })) [
      | None ↦ λ own. (is1, record { holds = recount s.profile (held_count ms) (held_count (without ms id)) (without ms id) k1 (λ t at. let c = counted t.id in let z = no_owner own t.id in omega arith) left; urgent = urgent })
      | Some o ↦ λ own.
          elim (task_of k1.tasks o) as (λ q. task_of k1.tasks o ≡ q → IsKern (ended s.profile k1 o m q) × KeepsMutexes (record s { kern = ended s.profile k1 o m q; mutexes = without ms id })) [
            | None ↦ λ q. (
              is1,
              record {
                holds = recount s.profile (held_count ms) (held_count (without ms id)) (without ms id) k1 (λ t at.
                    let c = counted t.id in
                    let z = other_owner own t.id (λ same. let no : None ≡ Some t = sym q ∙ ap (task_of k1.tasks) same ∙ found_in task_id k1.tasks t is1.rising at in cc) in
                    omega arith) left;
                urgent = urgent;
              },
            )
            | Some t ↦ λ q. (
              kern_eased (letting_go s.profile k1 o m) o m m.depth (kern_letting_go s.profile k1 o m is1),
              let_go_keeps s.profile (held_count ms) (without ms id) k1 o m.depth m own is1 (subst (λ r. IsSome r) (sym q) refl) left urgent (λ i. let c = counted i in omega arith),
            )
          ] refl
    ] refl
  where
    no_owner : m.owner ≡ None → (i : ℕ) → ◌≡◌ {A = ℕ} (one (holds i m)) 0
    no_owner own i = ap {B = ℕ} (λ o. one (m.inversion_safe && is_id i o)) own ∙ elim m.inversion_safe as (λ b. ◌≡◌ {A = ℕ} (one (b && false)) 0) [ true ↦ refl | false ↦ refl ]

    other_owner : {o : ℕ} → m.owner ≡ Some o → (i : ℕ) → (o ≡ i → ⊥) → ◌≡◌ {A = ℕ} (one (holds i m)) 0
    other_owner {o} own i other =
        ap {B = ℕ} (λ p. one (m.inversion_safe && is_id i p)) own ∙ ap {B = ℕ} (λ b. one (m.inversion_safe && b)) (ne_eqb o i other)
        ∙ elim m.inversion_safe as (λ b. ◌≡◌ {A = ℕ} (one (b && false)) 0) [ true ↦ refl | false ↦ refl ]

pub delete_same : (s : MutexState) (id : ℕ) (m : Mutex) → IsKern s.kern → Rising row_id s.mutexes → object_of s.mutexes id ≡ Some m → KeepsMutexes s → (delete s id ≡ delete_alone s id (Some m)) × KeepsMutexes (delete s id)
delete_same s id m is up e kept =
    let row = delete_alone_keeps s id m is up e kept in
    let same : delete s id ≡ delete_alone s id (Some m) = ap (λ o. raised_at_once (delete_alone s id o)) e ∙ at_once_same (delete_alone s id (Some m)) row.0 row.1.urgent in
    (same, subst KeepsMutexes (sym same) row.1)

-- ---- a normal priority is set
-- u is t, with another normal priority if it is `who`
record Renormed (who p : ℕ) (t u : Task) : Type 0 where
  id : u.id ≡ t.id
  pri : u.pri ≡ t.pri
  held : u.held ≡ t.held
  wait : u.wait ≡ t.wait
  fifo : u.fifo ≡ t.fifo
  own : u.id ≡ who → u.normal ≡ p
  other : (u.id ≡ who → ⊥) → u.normal ≡ t.normal

-- and under profile 1 it is scheduled by that
record Repriced (profile : Profile) (who p q : ℕ) (t u : Task) : Type 0 where
  id : u.id ≡ t.id
  held : u.held ≡ t.held
  wait : u.wait ≡ t.wait
  fifo : u.fifo ≡ t.fifo
  pri : ((u.id ≡ who) × (u.normal ≡ p) × (profile ≡ One → u.pri ≡ q)) ⊎ ((u.id ≡ who → ⊥) × (u.normal ≡ t.normal) × (u.pri ≡ t.pri))

after_le : (p : ℕ) (o : Option Task) → pri_after p o ≤ p
after_le p None = omega arith
after_le p (Some t) = elim (eqb t.held 0) as (λ b. cond b p (min t.pri p) ≤ p) [ true ↦ omega arith | false ↦ omega arith ]

renormed : (k : KernState) (who p : ℕ) → All (From (Renormed who p) k.tasks) (set_normal k who p).tasks
renormed k who p =
    All-change_at (λ t. t.id ≡ t.id) (From (Renormed who p) k.tasks) k.tasks who (λ t. record t { normal = p })
    (λ t at same h. (t, at, record { id = refl; pri = refl; held = refl; wait = refl; fifo = refl; own = λ _. refl; other = λ not. absurd (not same) }))
    (λ t at other h. (t, at, record { id = refl; pri = refl; held = refl; wait = refl; fifo = refl; own = λ same. absurd (other same); other = λ _. refl }))
    (λ i d hi. refl)

-- under profile 2 its priority stays
renormed_only : (who p q : ℕ) (t u : Task) → Renormed who p t u → Repriced Two who p q t u
renormed_only who p q t u d = record {
  id = d.id;
  held = d.held;
  wait = d.wait;
  fifo = d.fifo;
  pri = ⊎_elim
      (λ (same : u.id ≡ who). inl (same, d.own same, λ first. absurd (not_one first)))
      (λ (other : u.id ≡ who → ⊥). inr (other, d.other other, d.pri))
      (cases_eq u.id who);
}

-- what the call does to each task, before owners inherit
repriced : (profile : Profile) (k : KernState) (who p q : ℕ) → IsKern k → All (From (Repriced profile who p q) k.tasks) (followed profile (set_normal k who p) who q).tasks
repriced One k who p q is =
    All-change_pri (From (Renormed who p) k.tasks) (From (Repriced One who p q) k.tasks) (set_normal k who p) who q (move_keeps k (Set who (settings.Normal p)) is tt).rising
    (λ t at same f. (f.0, f.1, record { id = f.2.id; held = f.2.held; wait = f.2.wait; fifo = f.2.fifo; pri = inl (same, f.2.own same, λ first. refl) }))
    (λ t at other f. (f.0, f.1, record { id = f.2.id; held = f.2.held; wait = f.2.wait; fifo = f.2.fifo; pri = inr (other, f.2.other other, f.2.pri) }))
    (λ since t f. (f.0, f.1, record { id = f.2.id; held = f.2.held; wait = f.2.wait; fifo = f.2.fifo; pri = f.2.pri }))
    (renormed k who p)
repriced Two k who p q is =
    All-weaker (From (Renormed who p) k.tasks) (From (Repriced Two who p q) k.tasks) (λ u f. (f.0, f.1, renormed_only who p q f.0 u f.2)) (set_normal k who p).tasks (renormed k who p)

-- under profile 1, after a task's normal priority is set, only that waiter can be more urgent than its owner
pub priority_urgent : (s : MutexState) (who p : ℕ) → s.profile ≡ One → IsKern s.kern → KeepsMutexes s → OwnersUrgentBut who s.mutexes (priority_alone s who p).kern.tasks
priority_urgent s who p first is kept =
    let k = s.kern in
    let ms = s.mutexes in
    let q : ℕ = pri_after p (task_of k.tasks who) in
    urgent_slack_but who ms k.tasks (priority_alone s who p).kern.tasks (All-weaker (From (Repriced s.profile who p q) k.tasks) (From (SlackBut who ms) k.tasks) (λ u f.
    let t = f.0 in
    let d = f.2 in (
      t,
      f.1,
      record {
        id = d.id;
        waiter = λ other. (
          d.wait,
          ⊎_elim
              (λ (x : (u.id ≡ who) × (u.normal ≡ p) × (s.profile ≡ One → u.pri ≡ q)). absurd (other x.0))
              (λ (x : (u.id ≡ who → ⊥) × (u.normal ≡ t.normal) × (u.pri ≡ t.pri)). omega (arith, x.2))
              d.pri,
        );
        owner = ⊎_elim
            (λ (x : (u.id ≡ who) × (u.normal ≡ p) × (s.profile ≡ One → u.pri ≡ q)).
            let here : task_of k.tasks who ≡ Some t = ap (task_of k.tasks) (sym x.0 ∙ d.id) ∙ found_in task_id k.tasks t is.rising f.1 in
            let held = (All-contains (TaskKept s.profile ms (held_count ms) k.next_id) k.tasks t kept.holds.tasks f.1).held in
            let now : u.pri ≡ cond (eqb t.held 0) p (min t.pri p) = x.2 first ∙ ap (pri_after p) here in
            elim (eqb t.held 0) as (λ b. eqb t.held 0 ≡ b → u.pri ≡ cond b p (min t.pri p) → (u.pri ≤ t.pri) ⊎ ((w : Option Place) → owner_at ms w ≡ Some t.id → ⊥)) [
              | true ↦ λ b e. inr (no_lender ms t.id (sym held ∙ eqb-true t.held 0 b))
              | false ↦ λ b e. inl (omega (arith, e))
            ] refl now)
            (λ (x : (u.id ≡ who → ⊥) × (u.normal ≡ t.normal) × (u.pri ≡ t.pri)). inl (omega (arith, x.2)))
            d.pri;
      },
    )) (priority_alone s who p).kern.tasks (repriced s.profile k who p q is)) (kept.urgent first)

kern_followed : (p : Profile) (k : KernState) (who q : ℕ) → IsKern k → IsKern (followed p k who q)
kern_followed One k who q is = move_keeps k (ChangePri who q) is tt
kern_followed Two k who q is = is

next-followed : (p : Profile) (k : KernState) (who q : ℕ) → (followed p k who q).next_id ≡ k.next_id
next-followed One k who q = next-change_pri k who q
next-followed Two k who q = refl

pub priority_keeps : (s : MutexState) (who p : ℕ) → IsKern s.kern → KeepsMutexes s → KeepsMutexes (priority_set s who p)
priority_keeps s who p is kept =
    let k = s.kern in
    let ms = s.mutexes in
    let count = held_count ms in
    let q : ℕ = pri_after p (task_of k.tasks who) in
    let k1 : KernState = set_normal k who p in
    let k2 : KernState = followed s.profile k1 who q in
    let is1 : IsKern k1 = move_keeps k (Set who (settings.Normal p)) is tt in
    let same = next-followed s.profile k1 who q in
    at_once_keeps s.profile k2 ms (kern_followed s.profile k1 who q is1) (record {
      tasks = subst (λ n. All (TaskKept s.profile ms count n) k2.tasks) (sym same)
          (All-weaker (From (Repriced s.profile who p q) k.tasks) (TaskKept s.profile ms count k.next_id) (λ u f.
          let t = f.0 in
          let d = f.2 in
          let h = All-contains (TaskKept s.profile ms count k.next_id) k.tasks t kept.holds.tasks f.1 in
          record {
            raised = λ first.
                let was = h.raised first in
                ⊎_elim
                (λ (x : (u.id ≡ who) × (u.normal ≡ p) × (s.profile ≡ One → u.pri ≡ q)). let le = after_le p (task_of k.tasks who) in let now = x.2 first in omega (arith, x.1, now))
                (λ (x : (u.id ≡ who → ⊥) × (u.normal ≡ t.normal) × (u.pri ≡ t.pri)). omega (arith, x.1, x.2, was))
                d.pri;
            held = d.held ∙ h.held ∙ ap count (sym d.id);
            normal = λ first z. ⊎_elim
                (λ (x : (u.id ≡ who) × (u.normal ≡ p) × (s.profile ≡ One → u.pri ≡ q)).
                let here : task_of k.tasks who ≡ Some t = ap (task_of k.tasks) (sym x.0 ∙ d.id) ∙ found_in task_id k.tasks t is.rising f.1 in
                let none : eqb t.held 0 ≡ true = eq-eqb t.held 0 (sym d.held ∙ z) in
                x.2 first ∙ ap (pri_after p) here ∙ ap (λ b. cond b p (min t.pri p)) none ∙ sym x.1)
                (λ (x : (u.id ≡ who → ⊥) × (u.normal ≡ t.normal) × (u.pri ≡ t.pri)). x.2 ∙ h.normal first (sym d.held ∙ z) ∙ sym x.1)
                d.pri;
            made = subst (λ w. IfSome w (λ v. v.id < k.next_id)) (sym d.wait) h.made;
            owned = subst (λ w. IfSome (mutex_at ms w) (IsOwned u.fifo)) (sym d.wait) (subst (λ b. IfSome (mutex_at ms t.wait) (IsOwned b)) (sym d.fifo) h.owned);
          }) k2.tasks (repriced s.profile k who p q is));
      mutexes = subst (λ n. All (MutexKept n) ms) (sym same) kept.holds.mutexes;
    })
