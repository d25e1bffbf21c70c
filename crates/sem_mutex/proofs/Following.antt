-- Kernel moves that don't concern mutexes keep their invariant.
use Rattle.std.proofs.Common.{◌≡◌, ℕ, ◌<◌, ◌≤◌, true, false, cond, ◌&&◌, eqb, List, [], ◌∷◌, Option, None, Some, IsSome, IfSome, refl, sym, ap, ◌∙◌, subst, arith, ◌⊎◌, inl, inr, ⊎_elim}
use Rattle.std.specs.List.{All, Contains}
use Rattle.std.proofs.lemmas.Option.{same_Some}
use Rattle.std.proofs.lemmas.List.Elements.{All-contains, All-contains_itself, All-weaker, All-head, All-tail}
use Rattle.std.proofs.lemmas.List.Sums.{sum_by-cons}
use Rattle.id_table.proofs.Kept.{object_of-cons}
use Rattle.id_table.specs.Rows.{object_of}
use Rattle.id_table.specs.declared.ident.Place.{Place}
use Rattle.wind_base.specs.declared.profile.Profile.{Profile}
use Rattle.task_block.specs.declared.task.Task.{Task}
use Rattle.wind_core.specs.State.{KernState}
use Rattle.wind_core.specs.Moves.{renewed, change_task, renew_task, move_task}
use Rattle.wind_core.proofs.Stable.{All-change, renew_task-stable, move_task-stable}
use Rattle.wind_core.proofs.NextId.{next-move}
use Rattle.inheritance.specs.declared.mutex.Mutex.{Mutex}
use Rattle.inheritance.specs.Mutexes.{MutexState, is_id, holds, held_count}
use Rattle.inheritance.specs.Reach.{mutex_at, lent_to, owner_at}
use Rattle.inheritance.specs.Laws.{OwnersUrgent}
use Rattle.sem_mutex.specs.Kept.{MutexKept, TaskKept, Holds, KeepsMutexes}

-- ---- what can follow a task
-- a wait for an object that was made and isn't a mutex
pub record Elsewhere (ms : List (ℕ × Mutex)) (next : ℕ) (w : Option Place) : Type 0 where
  pub other : mutex_at ms w ≡ None
  pub made : IfSome w (λ p. p.id < next)

-- u is t, except for what mutexes don't read; it can have stopped waiting for a mutex
pub record Same (ms : List (ℕ × Mutex)) (next : ℕ) (t u : Task) : Type 0 where
  pub id : u.id ≡ t.id
  pub pri : u.pri ≡ t.pri
  pub normal : u.normal ≡ t.normal
  pub held : u.held ≡ t.held
  pub wait : ((u.wait ≡ t.wait) × (u.fifo ≡ t.fifo)) ⊎ Elsewhere ms next u.wait

-- a new task
pub record Fresh (ms : List (ℕ × Mutex)) (next : ℕ) (u : Task) : Type 0 where
  pub held : u.held ≡ 0
  pub pri : u.pri ≡ u.normal
  pub id : next ≤ u.id
  pub wait : Elsewhere ms next u.wait

abbrev pub Comes : List (ℕ × Mutex) → KernState → Task → Type 0
Comes ms k u = ((t : Task) × Contains k.tasks t × Same ms k.next_id t u) ⊎ Fresh ms k.next_id u

-- from k to n, all that concerns mutexes is that waits end, and that tasks are made and removed
pub record Follows (ms : List (ℕ × Mutex)) (k n : KernState) : Type 0 where
  pub next : k.next_id ≤ n.next_id
  pub tasks : All (Comes ms k) n.tasks

-- ---- properties of the list of mutexes
module _ (Q : Mutex → Type 0) where
  pub found_mutex : (ms : List (ℕ × Mutex)) (id : ℕ) (m : Mutex) → All (λ r. Q r.1) ms → object_of ms id ≡ Some m → Q m
  found_mutex [] id m all e = absurd (cc)
  found_mutex (r ∷ rs) id m all e =
      elim (eqb r.0 id) as (λ b. cond b (Some r.1) (object_of rs id) ≡ Some m → Q m) [
        | true ↦ λ q. subst Q (same_Some r.1 m q) (All-head (λ v. Q v.1) r rs all)
        | false ↦ λ q. found_mutex rs id m (All-tail (λ v. Q v.1) r rs all) q
      ] (sym (object_of-cons r.0 r.1 rs id) ∙ e)

  pub mutex_at_has : (ms : List (ℕ × Mutex)) (w : Option Place) (m : Mutex) → All (λ r. Q r.1) ms → mutex_at ms w ≡ Some m → Q m
  mutex_at_has ms None m all e = absurd (cc)
  mutex_at_has ms (Some p) m all e =
      elim (eqb p.side 0) as (λ b. cond b (object_of ms p.id) None ≡ Some m → Q m) [ true ↦ λ q. found_mutex ms p.id m all q | false ↦ λ q. absurd (cc) ] e

-- the mutex whose owner inherits
pub lender_is : (o : Option Mutex) (x : ℕ) → lent_to o ≡ Some x → (m : Mutex) × (o ≡ Some m) × (m.inversion_safe ≡ true) × (m.owner ≡ Some x)
lender_is None x e = absurd (cc)
lender_is (Some m) x e =
    elim m.inversion_safe as (λ b. m.inversion_safe ≡ b → cond b m.owner None ≡ Some x → (v : Mutex) × (Some m ≡ Some v) × (v.inversion_safe ≡ true) × (v.owner ≡ Some x)) [
      | true ↦ λ b q. (m, refl, b, q)
      | false ↦ λ b q. absurd (cc)
    ] refl e

-- an owner was made as a task
pub owner_made : (ms : List (ℕ × Mutex)) (next : ℕ) (w : Option Place) (x : ℕ) → All (MutexKept next) ms → owner_at ms w ≡ Some x → x < next
owner_made ms next w x all e =
    let m = lender_is (mutex_at ms w) x e in
    let below = mutex_at_has (λ v. IfSome v.owner (λ o. o < next)) ms w m.0 (All-weaker (MutexKept next) (λ r. IfSome r.1.owner (λ o. o < next)) (λ r kept. kept.owner) ms all) m.1 in
    subst (λ o. IfSome o (λ i. i < next)) m.3 below

not_own : (o : Option ℕ) (next i : ℕ) → IfSome o (λ v. v < next) → next ≤ i → is_id i o ≡ false
not_own None next i h le = refl
not_own (Some v) next i h le = grind (arith, h)

-- a task that isn't made yet owns none
pub none_above : (ms : List (ℕ × Mutex)) (next i : ℕ) → All (MutexKept next) ms → next ≤ i → held_count ms i ≡ 0
none_above [] next i all le = refl
none_above (r ∷ rs) next i all le =
    let ih = none_above rs next i (All-tail (MutexKept next) r rs all) le in
    let no : is_id i r.1.owner ≡ false = not_own r.1.owner next i (All-head (MutexKept next) r rs all).owner le in
    let none : holds i r.1 ≡ false = ap (λ b. r.1.inversion_safe && b) no ∙ elim r.1.inversion_safe as (λ b. (b && false) ≡ false) [ true ↦ refl | false ↦ refl ] in
    let sum = sum_by-cons (λ v. cond (holds i v.1) 1 0) r rs in
    let zero_more = ap {B = ℕ} (λ b. cond b 1 0) none in
    omega (arith, ih, sum, zero_more)

-- ---- the invariant follows
module _ (ms : List (ℕ × Mutex)) (k n : KernState) (follows : Follows ms k n) where
  made_on : (w : Option Place) → IfSome w (λ p. p.id < k.next_id) → IfSome w (λ p. p.id < n.next_id)
  made_on None h = tt
  made_on (Some p) h = omega (arith, follows.next, h)

  made_by : (t u : Task) → Same ms k.next_id t u → IfSome t.wait (λ p. p.id < k.next_id) → IfSome u.wait (λ p. p.id < n.next_id)
  made_by t u same h =
      made_on u.wait (⊎_elim (λ (s : (u.wait ≡ t.wait) × (u.fifo ≡ t.fifo)). subst (λ w. IfSome w (λ p. p.id < k.next_id)) (sym s.0) h) (λ (e : Elsewhere ms k.next_id u.wait). e.made) same.wait)

  owned_by : (t u : Task) → Same ms k.next_id t u → IfSome (mutex_at ms t.wait) (λ m. IsSome m.owner × (m.inversion_safe ≡ true → t.fifo ≡ false))
      → IfSome (mutex_at ms u.wait) (λ m. IsSome m.owner × (m.inversion_safe ≡ true → u.fifo ≡ false))
  owned_by t u same h =
      ⊎_elim
      (λ (s : (u.wait ≡ t.wait) × (u.fifo ≡ t.fifo)).
      subst (λ w. IfSome (mutex_at ms w) (λ m. IsSome m.owner × (m.inversion_safe ≡ true → u.fifo ≡ false))) (sym s.0)
      (subst (λ f. IfSome (mutex_at ms t.wait) (λ m. IsSome m.owner × (m.inversion_safe ≡ true → f ≡ false))) (sym s.1) h))
      (λ (e : Elsewhere ms k.next_id u.wait). subst (λ o. IfSome o (λ m. IsSome m.owner × (m.inversion_safe ≡ true → u.fifo ≡ false))) (sym e.other) tt)
      same.wait

  pub holds_follows : (p : Profile) (count : ℕ → ℕ) → ((i : ℕ) → k.next_id ≤ i → count i ≡ 0) → Holds p count ms k → Holds p count ms n
  holds_follows p count none h = record {
    tasks = All-weaker (Comes ms k) (TaskKept p ms count n.next_id) (λ u comes.
        ⊎_elim
        (λ (old : (t : Task) × Contains k.tasks t × Same ms k.next_id t u).
        let t = old.0 in
        let s = old.2 in
        let kept = All-contains (TaskKept p ms count k.next_id) k.tasks t h.tasks old.1 in
        record {
          raised = λ one. let was = kept.raised one in omega (arith, s.pri, s.normal, was);
          held = s.held ∙ kept.held ∙ ap count (sym s.id);
          normal = λ one z. s.pri ∙ kept.normal one (sym s.held ∙ z) ∙ sym s.normal;
          made = made_by t u s kept.made;
          owned = owned_by t u s kept.owned;
        })
        (λ (f : Fresh ms k.next_id u). record {
          raised = λ one. omega (arith, f.pri);
          held = f.held ∙ sym (none u.id f.id);
          normal = λ one z. f.pri;
          made = made_on u.wait f.wait.made;
          owned = subst (λ o. IfSome o (λ m. IsSome m.owner × (m.inversion_safe ≡ true → u.fifo ≡ false))) (sym f.wait.other) tt;
        })
        comes) n.tasks follows.tasks;
    mutexes = All-weaker (MutexKept k.next_id) (MutexKept n.next_id) (λ r kept. record {
      id = omega (arith, kept.id, follows.next);
      owner = below r.1.owner kept.owner;
      depth = kept.depth;
      by_urgency = kept.by_urgency;
    }) ms h.mutexes;
  }
    where
      below : (o : Option ℕ) → IfSome o (λ v. v < k.next_id) → IfSome o (λ v. v < n.next_id)
      below None q = tt
      below (Some v) q = omega (arith, q, follows.next)

  pub urgent_follows : All (MutexKept k.next_id) ms → OwnersUrgent ms k.tasks → OwnersUrgent ms n.tasks
  urgent_follows made urgent =
      All-weaker (Comes ms k) (λ y. All (λ x. owner_at ms y.wait ≡ Some x.id → x.pri ≤ y.pri) n.tasks) (λ y comes_y.
      All-weaker (Comes ms k) (λ x. owner_at ms y.wait ≡ Some x.id → x.pri ≤ y.pri) (λ x comes_x e.
      pair y x e comes_y comes_x) n.tasks follows.tasks) n.tasks follows.tasks
    where
      nobody : (u x : Task) → Elsewhere ms k.next_id u.wait → owner_at ms u.wait ≡ Some x.id → ⊥
      nobody u x other e = let no : None ≡ Some x.id = sym (ap lent_to other.other) ∙ e in cc

      pair : (y x : Task) → owner_at ms y.wait ≡ Some x.id → Comes ms k y → Comes ms k x → x.pri ≤ y.pri
      pair y x e comes_y comes_x =
          ⊎_elim
          (λ (old_y : (t : Task) × Contains k.tasks t × Same ms k.next_id t y).
          ⊎_elim
          (λ (w : (y.wait ≡ old_y.0.wait) × (y.fifo ≡ old_y.0.fifo)).
          let before : owner_at ms old_y.0.wait ≡ Some x.id = sym (ap (owner_at ms) w.0) ∙ e in
          ⊎_elim
          (λ (old_x : (t : Task) × Contains k.tasks t × Same ms k.next_id t x).
          let law = All-contains (λ v. owner_at ms old_y.0.wait ≡ Some v.id → v.pri ≤ old_y.0.pri) k.tasks old_x.0
          (All-contains (λ u. All (λ v. owner_at ms u.wait ≡ Some v.id → v.pri ≤ u.pri) k.tasks) k.tasks old_y.0 urgent old_y.1)
          old_x.1 (before ∙ ap Some old_x.2.id) in
          omega (arith, law, old_x.2.pri, old_y.2.pri))
          (λ (f : Fresh ms k.next_id x). absurd (omega (arith, f.id, owner_made ms k.next_id old_y.0.wait x.id made before)))
          comes_x)
          (λ (other : Elsewhere ms k.next_id y.wait). absurd (nobody y x other e))
          old_y.2.wait)
          (λ (f : Fresh ms k.next_id y). absurd (nobody y x f.wait e))
          comes_y

-- the mutexes' invariant stays if the kernel makes such moves
pub follows_keeps : (s : MutexState) (n : KernState) → Follows s.mutexes s.kern n → KeepsMutexes s → KeepsMutexes (record s { kern = n })
follows_keeps s n follows kept = record {
  holds = holds_follows s.mutexes s.kern n follows s.profile (held_count s.mutexes) (λ i le. none_above s.mutexes s.kern.next_id i kept.holds.mutexes le) kept.holds;
  urgent = λ one. urgent_follows s.mutexes s.kern n follows kept.holds.mutexes (kept.urgent one);
}

-- ---- such moves
module _ (ms : List (ℕ × Mutex)) (k : KernState) where
  pub alike : (t u : Task) → u.id ≡ t.id → u.pri ≡ t.pri → u.normal ≡ t.normal → u.held ≡ t.held → u.wait ≡ t.wait → u.fifo ≡ t.fifo → Same ms k.next_id t u
  alike t u id pri normal held wait fifo = record { id = id; pri = pri; normal = normal; held = held; wait = inl (wait, fifo) }

  pub goes_on : (t u : Task) → u.id ≡ t.id → u.pri ≡ t.pri → u.normal ≡ t.normal → u.held ≡ t.held → u.wait ≡ None → Same ms k.next_id t u
  goes_on t u id pri normal held wait = record { id = id; pri = pri; normal = normal; held = held; wait = inr (record { other = ap (mutex_at ms) wait; made = subst (λ w. IfSome w (λ p. p.id < k.next_id)) (sym wait) tt }) }

  wait_on : (t u v : Task) → Same ms k.next_id t u → Same ms k.next_id u v → ((v.wait ≡ t.wait) × (v.fifo ≡ t.fifo)) ⊎ Elsewhere ms k.next_id v.wait
  wait_on t u v a b =
      ⊎_elim
      (λ (q : (v.wait ≡ u.wait) × (v.fifo ≡ u.fifo)). ⊎_elim
      (λ (p : (u.wait ≡ t.wait) × (u.fifo ≡ t.fifo)). inl (q.0 ∙ p.0, q.1 ∙ p.1))
      (λ (e : Elsewhere ms k.next_id u.wait). inr (subst (Elsewhere ms k.next_id) (sym q.0) e))
      a.wait)
      (λ (e : Elsewhere ms k.next_id v.wait). inr e)
      b.wait

  pub comes_on : (u v : Task) → Comes ms k u → Same ms k.next_id u v → Comes ms k v
  comes_on u v comes b =
      ⊎_elim
      (λ (old : (t : Task) × Contains k.tasks t × Same ms k.next_id t u).
      let a = old.2 in
      inl (old.0, old.1, record { id = b.id ∙ a.id; pri = b.pri ∙ a.pri; normal = b.normal ∙ a.normal; held = b.held ∙ a.held; wait = wait_on old.0 u v a b }))
      (λ (f : Fresh ms k.next_id u).
      inr (record {
        held = b.held ∙ f.held;
        pri = b.pri ∙ f.pri ∙ sym b.normal;
        id = omega (arith, b.id, f.id);
        wait = ⊎_elim (λ (q : (v.wait ≡ u.wait) × (v.fifo ≡ u.fifo)). subst (Elsewhere ms k.next_id) (sym q.0) f.wait) (λ (e : Elsewhere ms k.next_id v.wait). e) b.wait;
      }))
      comes

  pub themselves : All (Comes ms k) k.tasks
  themselves = All-weaker (Contains k.tasks) (Comes ms k) (λ t at. inl (t, at, alike t t refl refl refl refl refl refl)) k.tasks (All-contains_itself k.tasks)

  pub renews : (since : ℕ) (t : Task) → Comes ms k t → Comes ms k (renewed since t)
  renews since t comes = comes_on t (renewed since t) comes (alike t (renewed since t) refl refl refl refl refl refl)

  -- the three ways in which one task is changed
  pub by_change : (who : ℕ) (f : Task → Task) → ((t : Task) → Same ms k.next_id t (f t)) → Follows ms k (change_task k who f)
  by_change who f mild = record { next = omega arith; tasks = All-change (Comes ms k) k.tasks who f (λ t comes. comes_on t (f t) comes (mild t)) themselves }

  pub by_renewal : (who : ℕ) (f : Task → Task) → ((t : Task) → Same ms k.next_id t (f t)) → Follows ms k (renew_task k who f)
  by_renewal who f mild = record { next = omega arith; tasks = renew_task-stable (Comes ms k) renews k who f (λ t comes. comes_on t (f t) comes (mild t)) themselves }

  pub by_move : (who : ℕ) (f : Task → Task) → ((t : Task) → Same ms k.next_id t (f t)) → Follows ms k (move_task k who f)
  by_move who f mild = record { next = omega (arith, next-move k who f); tasks = move_task-stable (Comes ms k) renews k who f (λ t comes. comes_on t (f t) comes (mild t)) themselves }
