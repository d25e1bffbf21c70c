-- A new mutex.
use Rattle.std.proofs.Common.{◌≡◌, ℕ, ◌+◌, ◌<◌, true, false, cond, ◌&&◌, eqb, List, [], ◌∷◌, ◌++◌, length, get_or, Option, None, Some, IsSome, IfSome, Result, Ok, Err, IfOk, IfErr, refl, sym, ap, ◌∙◌, subst, arith}
use mathlib.Core.Path.{fun_ext}
use Rattle.std.proofs.lemmas.Bool.{ne_eqb}
use Rattle.std.proofs.lemmas.List.Elements.{All-weaker, All-push}
use Rattle.std.proofs.lemmas.List.Sums.{sum_by_push}
use Rattle.id_table.proofs.Kept.{object_of-cons}
use Rattle.id_table.specs.Rows.{Rows, add_refusal, added, object_of, IdsBelow}
use Rattle.id_table.specs.declared.ident.Place.{Place}
use Rattle.task_block.specs.declared.task.Task.{Task}
use Rattle.wind_core.specs.State.{KernState}
use Rattle.inheritance.specs.declared.mutex.Mutex.{Mutex}
use Rattle.inheritance.specs.Mutexes.{MutexState, LiveMutexes, both, holds, held_count}
use Rattle.inheritance.specs.Reach.{mutex_at, lent_to}
use Rattle.sem_mutex.specs.Making.{new_mutex, create_refusal, create}
use Rattle.sem_mutex.specs.Kept.{MutexKept, Holds, KeepsMutexes}
use Rattle.sem_mutex.proofs.Following.{follows_keeps}
use Rattle.sem_mutex.proofs.Beside.{follows-ids}
use Rattle.wind_base.specs.Limits.{most_mutexes}
use Rattle.wind_base.specs.declared.errno.Errno.{Errno}
use Rattle.wind_base.specs.declared.profile.Profile.{Profile}
use Rattle.wind_base.specs.declared.semaphore.SemOptions.{SemOptions}
use Rattle.wind_base.specs.SemBits.{is_priority, is_inversion_safe}

object_of-push : (rs : List (ℕ × Mutex)) (n y : ℕ) (v : Mutex) → (y ≡ n → ⊥) → object_of (rs ++ (n, v) ∷ []) y ≡ object_of rs y
object_of-push [] n y v other = object_of-cons n v [] y ∙ ap (λ b. cond b (Some v) None) (ne_eqb n y (λ e. other (sym e)))
object_of-push (r ∷ rs) n y v other =
    object_of-cons r.0 r.1 (rs ++ (n, v) ∷ []) y ∙ ap (cond (eqb r.0 y) (Some r.1)) (object_of-push rs n y v other) ∙ sym (object_of-cons r.0 r.1 rs y)

pub mutex_at-push : (ms : List (ℕ × Mutex)) (n : ℕ) (v : Mutex) (w : Option Place) → IfSome w (λ p. p.id < n) → mutex_at (ms ++ (n, v) ∷ []) w ≡ mutex_at ms w
mutex_at-push ms n v None made = refl
mutex_at-push ms n v (Some p) made = ap (λ o. cond (eqb p.side 0) o None) (object_of-push ms n p.id v (λ e. omega (arith, made)))

-- a mutex without an owner changes nothing
pub create_keeps : (s : MutexState) (options : SemOptions) → (is_inversion_safe options ≡ true → is_priority options ≡ true) → KeepsMutexes s → KeepsMutexes (create s (new_mutex options))
create_keeps s options urgency kept =
    let n : ℕ = s.kern.next_id in
    let k : KernState = record s.kern { next_id = n + 1 } in
    let v : Mutex = new_mutex options in
    let ms = s.mutexes in
    let more = follows_keeps s k (follows-ids ms s.kern (n + 1) (omega arith)) kept in
    let count : (i : ℕ) → held_count ms i ≡ held_count (ms ++ (n, v) ∷ []) i = λ i.
    let sum = sum_by_push (λ (r : ℕ × Mutex). cond (holds i r.1) 1 0) ms (n, v) in
    let none : ◌≡◌ {A = ℕ} (cond (is_inversion_safe options && false) 1 0) 0 = elim (is_inversion_safe options) as (λ b. ◌≡◌ {A = ℕ} (cond (b && false) 1 0) 0) [ true ↦ refl | false ↦ refl ] in
    omega arith in
    record {
      holds = subst (λ c. Holds s.profile c (ms ++ (n, v) ∷ []) k) (fun_ext count) (record {
        tasks = λ i d hi.
            let t : Task = get_or s.kern.tasks i d in
            let was = kept.holds.tasks i d hi in
            let h = more.holds.tasks i d hi in
            record {
              raised = h.raised;
              held = h.held;
              normal = h.normal;
              made = h.made;
              owned = subst (λ o. IfSome o (λ m. IsSome m.owner × (m.inversion_safe ≡ true → t.fifo ≡ false))) (sym (mutex_at-push ms n v t.wait was.made)) h.owned;
            };
        mutexes = All-push (MutexKept (n + 1)) ms (n, v) more.holds.mutexes (record { id = omega arith; owner = tt; depth = λ q. absurd (cc); by_urgency = urgency });
      });
      urgent = λ one i c hi j d hj e. kept.urgent one i c hi j d hj (sym (ap lent_to (mutex_at-push ms n v (get_or s.kern.tasks i c).wait (kept.holds.tasks i c hi).made)) ∙ e);
    }

pub below_next : (s : MutexState) → KeepsMutexes s → IdsBelow s.kern.next_id s.mutexes
below_next s kept = All-weaker (MutexKept s.kern.next_id) (λ r. r.0 < s.kern.next_id) (λ r h. h.id) s.mutexes kept.holds.mutexes

-- ---- the call that makes a mutex
module _ (k l : KernState) (t u : Rows Mutex) (live : LiveMutexes) (p : Profile) (options : SemOptions) (v : Mutex) (new : v ≡ new_mutex options) (room : t.room ≡ most_mutexes)
    (urgency : is_inversion_safe options ≡ true → is_priority options ≡ true) (kept : KeepsMutexes (both k live)) (seen : ◌≡◌ {A = LiveMutexes} (record { profile = p; rows = t.rows }) live) where
  -- what the contract says of its result
  pub record IsMade (r : Result ℕ Errno) : Type 0 where
    pub ok : IfOk r (λ id. (create_refusal (both k live) ≡ None) × (id ≡ k.next_id) × (both l (record { profile = p; rows = u.rows }) ≡ create (both k live) (new_mutex options)))
    pub err : IfErr r (λ e. (create_refusal (both k live) ≡ Some e) × (both l (record { profile = p; rows = u.rows }) ≡ both k live))
    pub keeps : KeepsMutexes (both l (record { profile = p; rows = u.rows }))

  same_refusal : create_refusal (both k live) ≡ add_refusal t.room (length t.rows) k.next_id
  same_refusal = sym (λ i. add_refusal (room i) (length (seen i).rows) k.next_id)

  pub is_made : (r : Result ℕ Errno)
      → IfOk r (λ id. (add_refusal t.room (length t.rows) k.next_id ≡ None) × (id ≡ k.next_id) × (l ≡ record k { next_id = k.next_id + 1 }) × (u ≡ added t k.next_id v))
      → IfErr r (λ e. (add_refusal t.room (length t.rows) k.next_id ≡ Some e) × (l ≡ k) × (u ≡ t)) → IsMade r
  is_made (Ok id) ok err =
      let state : both l (record { profile = p; rows = u.rows }) ≡ create (both k live) (new_mutex options) =
      (λ i. both (ok.2 i) (record { profile = p; rows = (ok.3 i).rows })) ∙ (λ i. create (both k (seen i)) (new i)) in
      record { ok = (same_refusal ∙ ok.0, ok.1, state); err = tt; keeps = subst KeepsMutexes (sym state) (create_keeps (both k live) options urgency kept) }
  is_made (Err e) ok err =
      let same : both l (record { profile = p; rows = u.rows }) ≡ both k live = (λ i. both (err.1 i) (record { profile = p; rows = (err.2 i).rows })) ∙ (λ i. both k (seen i)) in
      record { ok = tt; err = (same_refusal ∙ err.0, same); keeps = subst KeepsMutexes (sym same) kept }
