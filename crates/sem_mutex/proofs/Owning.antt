-- What the calls on mutexes do to one task and to the invariant.
use Rattle.std.proofs.Common.{◌≡◌, ℕ, suc, ◌+◌, ◌-◌, ◌<◌, ◌≤◌, true, false, cond, not, eqb, List, get_or, Option, None, Some, IsSome, IfSome, refl, sym, ap, ◌∙◌, subst, arith, ◌⊎◌, inl, inr, ⊎_elim}
use Rattle.std.specs.List.{All, Contains}
use Rattle.std.proofs.lemmas.Bool.{eqb-true, eqb-false, eq-eqb, ne_eqb, cases_eq}
use Rattle.std.proofs.lemmas.Option.{same_Some}
use Rattle.std.proofs.lemmas.List.Elements.{All-contains, All-weaker, Contains-get_or}
use Rattle.id_table.specs.declared.ident.Place.{Place}
use Rattle.wind_base.specs.declared.profile.Profile.{Profile}
use Rattle.wind_base.specs.declared.profile.Profile.TheVariants.{One, Two}
use Rattle.task_block.specs.declared.task.Task.{Task}
use Rattle.id_table.proofs.Records.{found_id, found_in}
use Rattle.wind_core.specs.State.{KernState, IsKern, Lives, task_id, task_of}
use Rattle.wind_core.specs.Moves.{move_found, with_pri, has_pri, change_pri, set_held}
use Rattle.wind_core.specs.Move.{Set}
use Rattle.wind_core.specs.declared.settings.Setting.TheVariants as settings
use Rattle.wind_core.proofs.Moving.{move_keeps}
use Rattle.inheritance.specs.declared.mutex.Mutex.{Mutex}
use Rattle.inheritance.specs.Reach.{mutex_at, owner_at}
use Rattle.sem_mutex.specs.Calls.{held_of, restored, less_held, dropped}
use Rattle.inheritance.specs.Laws.{OwnersUrgent, OwnersUrgentBut}
use Rattle.sem_mutex.specs.Kept.{MutexKept, TaskKept, Holds}
use Rattle.sem_mutex.proofs.Counting.{one}
use Rattle.wind_core.proofs.Becoming.{found_all, All-change_at, All-change_pri}

pub live_task : (o : Option Task) → IsSome o → (t : Task) × (o ≡ Some t)
live_task None h = absurd (cc)
live_task (Some t) h = (t, refl)

-- ---- one more inversion-safe mutex
abbrev pub more : ℕ → (ℕ → ℕ) → ℕ → ℕ
more who count i = count i + one (eqb who i)

abbrev pub less : ℕ → (ℕ → ℕ) → ℕ → ℕ
less who count i = count i - one (eqb who i)

pub holds_more : (p : Profile) (count : ℕ → ℕ) (ms : List (ℕ × Mutex)) (k : KernState) (who : ℕ) → Lives k who → Holds p count ms k → Holds p (more who count) ms (set_held k who (held_of (task_of k.tasks who) + 1))
holds_more p count ms k who lives h =
    let x = live_task (task_of k.tasks who) lives in
    let n : ℕ = held_of (task_of k.tasks who) + 1 in
    let was : held_of (task_of k.tasks who) ≡ count who = ap held_of x.1 ∙ (found_all (TaskKept p ms count k.next_id) k.tasks who x.0 h.tasks x.1).held ∙ ap count (found_id task_id k.tasks who x.0 x.1) in
    record {
      tasks = All-change_at (TaskKept p ms count k.next_id) (TaskKept p ms (more who count) k.next_id) k.tasks who (λ t. record t { held = n })
          (λ t at same kept. record {
            raised = kept.raised;
            held = let own = ap count same in let b = ap {B = ℕ} one (eq-eqb who t.id (sym same)) in omega (arith, was, own, b);
            normal = λ one z. absurd (omega arith);
            made = kept.made;
            owned = kept.owned;
          })
          (λ t at other kept. record {
            raised = kept.raised;
            held = let b = ap {B = ℕ} one (ne_eqb who t.id (λ e. other (sym e))) in omega (arith, kept.held, b);
            normal = kept.normal;
            made = kept.made;
            owned = kept.owned;
          })
          h.tasks;
      mutexes = h.mutexes;
    }

-- ---- one inversion-safe mutex less, and after the last one the normal priority
-- u is t, except for its count of owned mutexes
record Lowered (count : ℕ → ℕ) (t u : Task) : Type 0 where
  id : u.id ≡ t.id
  pri : u.pri ≡ t.pri
  normal : u.normal ≡ t.normal
  wait : u.wait ≡ t.wait
  fifo : u.fifo ≡ t.fifo
  held : u.held ≡ count u.id

lowers : (count : ℕ → ℕ) (t : Task) (n : ℕ) → n ≡ count t.id → Lowered count t (record t { held = n })
lowers count t n h = record { id = refl; pri = refl; normal = refl; wait = refl; fifo = refl; held = h }

two_not_one : Two ≡ One → ⊥
two_not_one e = absurd (cc)

-- u is t after `who` has given up a mutex
pub record Dropped (p : Profile) (count : ℕ → ℕ) (who : ℕ) (t u : Task) : Type 0 where
  pub id : u.id ≡ t.id
  pub normal : u.normal ≡ t.normal
  pub wait : u.wait ≡ t.wait
  pub fifo : u.fifo ≡ t.fifo
  pub held : u.held ≡ count u.id
  pub pri : ((u.pri ≡ t.pri) × (p ≡ One → u.id ≡ who → count who ≡ 0 → ⊥)) ⊎ ((u.id ≡ who) × (count who ≡ 0) × (u.pri ≡ u.normal))

abbrev pub From : (Task → Task → Type 0) → List Task → Task → Type 0
From R ts u = (t : Task) × Contains ts t × R t u

module _ (p : Profile) (count : ℕ → ℕ) (ms : List (ℕ × Mutex)) (k : KernState) (who : ℕ) (is : IsKern k) (lives : Lives k who) (h : Holds p count ms k) where
  abbrev k1 : KernState
  k1 = less_held k who

  lowered : All (From (Lowered (less who count)) k.tasks) k1.tasks
  lowered =
      let x = live_task (task_of k.tasks who) lives in
      let was : held_of (task_of k.tasks who) ≡ count who = ap held_of x.1 ∙ (found_all (TaskKept p ms count k.next_id) k.tasks who x.0 h.tasks x.1).held ∙ ap count (found_id task_id k.tasks who x.0 x.1) in
      All-change_at (TaskKept p ms count k.next_id) (From (Lowered (less who count)) k.tasks) k.tasks who (λ t. record t { held = held_of (task_of k.tasks who) - 1 })
      (λ t at same kept. (t, at, lowers (less who count) t (held_of (task_of k.tasks who) - 1) (let own = ap count same in let b = ap {B = ℕ} one (eq-eqb who t.id (sym same)) in omega (arith, was, own, b))))
      (λ t at other kept. (t, at, lowers (less who count) t t.held (let b = ap {B = ℕ} one (ne_eqb who t.id (λ e. other (sym e))) in omega (arith, kept.held, b))))
      h.tasks

  kept1 : IsKern k1
  kept1 = move_keeps k (Set who (settings.Held (held_of (task_of k.tasks who) - 1))) is tt

  stays : (q : Profile) (u : Task) → (q ≡ One → u.id ≡ who → less who count who ≡ 0 → ⊥) → From (Lowered (less who count)) k.tasks u → From (Dropped q (less who count) who) k.tasks u
  stays q u not f = (f.0, f.1, record { id = f.2.id; normal = f.2.normal; wait = f.2.wait; fifo = f.2.fifo; held = f.2.held; pri = inl (f.2.pri, not) })

  dropped_one : All (From (Dropped One (less who count) who) k.tasks) (dropped One k who).tasks
  dropped_one =
      elim (task_of k1.tasks who) as (λ o. task_of k1.tasks who ≡ o → All (From (Dropped One (less who count) who) k.tasks) (restored One k1 who o).tasks) [
        | None ↦ λ e i d hi.
            let u : Task = get_or k1.tasks i d in
            let at = Contains-get_or k1.tasks i d hi in
            stays One u (λ one same z. let no : None ≡ Some u = sym e ∙ ap (task_of k1.tasks) (sym same) ∙ found_in task_id k1.tasks u kept1.rising at in cc) (lowered i d hi)
        | Some x ↦ λ e.
            let own = found_all (From (Lowered (less who count)) k.tasks) k1.tasks who x lowered e in
            let id = found_id task_id k1.tasks who x e in
            let count_x : x.held ≡ less who count who = own.2.held ∙ ap (less who count) id in
            elim (eqb x.held 0) as (λ b. eqb x.held 0 ≡ b → All (From (Dropped One (less who count) who) k.tasks) (cond b (change_pri k1 who x.normal) k1).tasks) [
              | true ↦ λ b.
                  All-change_pri (From (Lowered (less who count)) k.tasks) (From (Dropped One (less who count) who) k.tasks) k1 who x.normal kept1.rising
                  (λ t at same f.
                  let own_t : x ≡ t = same_Some x t (sym e ∙ ap (task_of k1.tasks) (sym same) ∙ found_in task_id k1.tasks t kept1.rising at) in (
                    f.0,
                    f.1,
                    record {
                      id = f.2.id;
                      normal = f.2.normal;
                      wait = f.2.wait;
                      fifo = f.2.fifo;
                      held = f.2.held;
                      pri = inr (same, sym count_x ∙ eqb-true x.held 0 b, ap (λ v. v.normal) own_t);
                    },
                  ))
                  (λ t at other f. stays One t (λ one same z. other same) f)
                  (λ since t f. (f.0, f.1, record { id = f.2.id; normal = f.2.normal; wait = f.2.wait; fifo = f.2.fifo; held = f.2.held; pri = f.2.pri }))
                  lowered
              | false ↦ λ b i d hi. stays One (get_or k1.tasks i d) (λ one same z. eqb-false x.held 0 b (count_x ∙ z)) (lowered i d hi)
            ] refl
      ] refl

  pub all_dropped : (q : Profile) → All (From (Dropped q (less who count) who) k.tasks) (dropped q k who).tasks
  all_dropped One = dropped_one
  all_dropped Two = λ i d hi. stays Two (get_or k1.tasks i d) (λ one same z. absurd (two_not_one one)) (lowered i d hi)

  next-dropped : (q : Profile) → (dropped q k who).next_id ≡ k.next_id
  next-dropped One =
      elim (task_of k1.tasks who) as (λ o. (restored One k1 who o).next_id ≡ k.next_id) [
        | None ↦ refl
        | Some x ↦
            elim (eqb x.held 0) as (λ b. (cond b (change_pri k1 who x.normal) k1).next_id ≡ k.next_id) [
              | true ↦
                  elim (has_pri x.normal (task_of k1.tasks who)) as (λ b. (cond b k1 (move_found k1 who (with_pri x.normal) (task_of k1.tasks who))).next_id ≡ k.next_id) [
                    | true ↦ refl
                    | false ↦ elim (task_of k1.tasks who) as (λ o. (move_found k1 who (with_pri x.normal) o).next_id ≡ k.next_id) [ None ↦ refl | Some t ↦ refl ]
                  ]
              | false ↦ refl
            ]
      ]
  next-dropped Two = refl

  kept_after : (u : Task) → From (Dropped p (less who count) who) k.tasks u → TaskKept p ms (less who count) k.next_id u
  kept_after u f =
      let t = f.0 in
      let d = f.2 in
      let kept = All-contains (TaskKept p ms count k.next_id) k.tasks t h.tasks f.1 in
      record {
        raised = λ first. let was = kept.raised first in ⊎_elim
            (λ (q : (u.pri ≡ t.pri) × (p ≡ One → u.id ≡ who → less who count who ≡ 0 → ⊥)). omega (arith, q.0, d.normal, was))
            (λ (q : (u.id ≡ who) × (less who count who ≡ 0) × (u.pri ≡ u.normal)). omega (arith, q.2))
            d.pri;
        held = d.held;
        normal = λ first z. ⊎_elim
            (λ (q : (u.pri ≡ t.pri) × (p ≡ One → u.id ≡ who → less who count who ≡ 0 → ⊥)).
            ⊎_elim
            (λ (same : u.id ≡ who). absurd (q.1 first same (sym (ap (less who count) same) ∙ sym d.held ∙ z)))
            (λ (other : u.id ≡ who → ⊥).
            let b = ap {B = ℕ} one (ne_eqb who u.id (λ e. other (sym e))) in
            let own = ap count d.id in
            let free : t.held ≡ 0 = omega (arith, kept.held, d.held, z, b, own) in
            q.0 ∙ kept.normal first free ∙ sym d.normal)
            (cases_eq u.id who))
            (λ (q : (u.id ≡ who) × (less who count who ≡ 0) × (u.pri ≡ u.normal)). q.2)
            d.pri;
        made = subst (λ w. IfSome w (λ v. v.id < k.next_id)) (sym d.wait) kept.made;
        owned = subst (λ w. IfSome (mutex_at ms w) (λ m. IsSome m.owner × (m.inversion_safe ≡ true → u.fifo ≡ false))) (sym d.wait)
            (subst (λ f. IfSome (mutex_at ms t.wait) (λ m. IsSome m.owner × (m.inversion_safe ≡ true → f ≡ false))) (sym d.fifo) kept.owned);
      }

  pub holds_less : Holds p (less who count) ms (dropped p k who)
  holds_less = record {
    tasks = subst (λ n. All (TaskKept p ms (less who count) n) (dropped p k who).tasks) (sym (next-dropped p))
        (All-weaker (From (Dropped p (less who count) who) k.tasks) (TaskKept p ms (less who count) k.next_id) kept_after (dropped p k who).tasks (all_dropped p));
    mutexes = subst (λ n. All (MutexKept n) ms) (sym (next-dropped p)) h.mutexes;
  }

-- ---- owners stay as urgent as their waiters if priorities fall only where no task depends on them
-- except for w, u waits as t does and is at most as urgent; and if a task can wait for it, it is at least as urgent
pub record SlackBut (w : ℕ) (ms : List (ℕ × Mutex)) (t u : Task) : Type 0 where
  pub id : u.id ≡ t.id
  pub waiter : (u.id ≡ w → ⊥) → (u.wait ≡ t.wait) × (t.pri ≤ u.pri)
  pub owner : (u.pri ≤ t.pri) ⊎ ((p : Option Place) → owner_at ms p ≡ Some t.id → ⊥)

pub urgent_slack_but : (w : ℕ) (ms : List (ℕ × Mutex)) (ts us : List Task) → All (From (SlackBut w ms) ts) us → OwnersUrgent ms ts → OwnersUrgentBut w ms us
urgent_slack_but w ms ts us all urgent =
    All-weaker (From (SlackBut w ms) ts) (λ y. (y.id ≡ w → ⊥) → All (λ x. owner_at ms y.wait ≡ Some x.id → x.pri ≤ y.pri) us) (λ y fy other.
    let stays = fy.2.waiter other in
    All-weaker (From (SlackBut w ms) ts) (λ x. owner_at ms y.wait ≡ Some x.id → x.pri ≤ y.pri) (λ x fx e.
    let before : owner_at ms fy.0.wait ≡ Some fx.0.id = sym (ap (owner_at ms) stays.0) ∙ e ∙ ap Some fx.2.id in
    let law = All-contains (λ v. owner_at ms fy.0.wait ≡ Some v.id → v.pri ≤ fy.0.pri) ts fx.0
    (All-contains (λ u. All (λ v. owner_at ms u.wait ≡ Some v.id → v.pri ≤ u.pri) ts) ts fy.0 urgent fy.1) fx.1 before in
    let up : fy.0.pri ≤ y.pri = stays.1 in
    let down : x.pri ≤ fx.0.pri = ⊎_elim (λ (q : x.pri ≤ fx.0.pri). q) (λ (q : (p : Option Place) → owner_at ms p ≡ Some fx.0.id → ⊥). absurd (q fy.0.wait before)) fx.2.owner in
    omega (arith, law, up, down)) us all) us all

pub record Slack (ms : List (ℕ × Mutex)) (t u : Task) : Type 0 where
  pub id : u.id ≡ t.id
  pub wait : u.wait ≡ t.wait
  pub pri : (u.pri ≡ t.pri) ⊎ ((t.pri ≤ u.pri) × ((w : Option Place) → owner_at ms w ≡ Some t.id → ⊥))

slack_but : (w : ℕ) (ms : List (ℕ × Mutex)) (ts : List Task) (u : Task) → From (Slack ms) ts u → From (SlackBut w ms) ts u
slack_but w ms ts u f = (
  f.0,
  f.1,
  record {
    id = f.2.id;
    waiter = λ other. (
      f.2.wait,
      ⊎_elim (λ (q : u.pri ≡ f.0.pri). omega (arith, q)) (λ (q : (f.0.pri ≤ u.pri) × ((p : Option Place) → owner_at ms p ≡ Some f.0.id → ⊥)). q.0) f.2.pri,
    );
    owner = ⊎_elim (λ (q : u.pri ≡ f.0.pri). inl (omega (arith, q))) (λ (q : (f.0.pri ≤ u.pri) × ((p : Option Place) → owner_at ms p ≡ Some f.0.id → ⊥)). inr q.1) f.2.pri;
  },
)

pub urgent_slack : (ms : List (ℕ × Mutex)) (ts us : List Task) → All (From (Slack ms) ts) us → OwnersUrgent ms ts → OwnersUrgent ms us
urgent_slack ms ts us all urgent = λ i d hi.
    let no_other : ℕ = suc (get_or us i d).id in
    urgent_slack_but no_other ms ts us (All-weaker (From (Slack ms) ts) (From (SlackBut no_other ms) ts) (slack_but no_other ms ts) us all) urgent i d hi (λ q. omega (arith, q))

-- no task waits, with inheritance, for a task that gives up its last inversion-safe mutex
pub urgent_dropped : (p : Profile) → p ≡ One → (count : ℕ → ℕ) (ms ns : List (ℕ × Mutex)) (k : KernState) (who : ℕ) → IsKern k → Lives k who → Holds p count ms k → (less who count who ≡ 0 → (w : Option Place) → owner_at ns w ≡ Some who → ⊥)
    → OwnersUrgent ns k.tasks → OwnersUrgent ns (dropped p k who).tasks
urgent_dropped p first count ms ns k who is lives h free urgent =
    urgent_slack ns k.tasks (dropped p k who).tasks
    (All-weaker (From (Dropped p (less who count) who) k.tasks) (From (Slack ns) k.tasks) (λ u f.
    let t = f.0 in
    let d = f.2 in
    let kept = All-contains (TaskKept p ms count k.next_id) k.tasks t h.tasks f.1 in
    let was = kept.raised first in (
      t,
      f.1,
      record {
        id = d.id;
        wait = d.wait;
        pri = ⊎_elim
            (λ (q : (u.pri ≡ t.pri) × (p ≡ One → u.id ≡ who → less who count who ≡ 0 → ⊥)). inl q.0)
            (λ (q : (u.id ≡ who) × (less who count who ≡ 0) × (u.pri ≡ u.normal)).
            inr (omega (arith, q.2, d.normal, was), λ w e. free q.1 w (e ∙ ap Some (sym d.id ∙ q.0))))
            d.pri;
      },
    )) (dropped p k who).tasks (all_dropped p count ms k who is lives h p)) urgent
