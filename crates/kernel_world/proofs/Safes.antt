-- Safe counts, and waits for a deletion, when tasks keep both.
use Rattle.std.proofs.Common.{◌≡◌, ℕ, ◌-◌, ◌<◌, true, false, cond, ◌&&◌, eqb, ltb, leb, List, [], ◌∷◌, map, Option, None, Some, IfSome, refl, sym, ap, ◌∙◌, subst, arith}
use Rattle.std.specs.Option.{option_map}
use Rattle.std.specs.Prelude.{unwrap_or}
use Rattle.std.proofs.lemmas.Bool.{eq-eqb}
use Rattle.std.proofs.lemmas.List.Elements.{All-weaker, All-map}
use Rattle.id_table.specs.Sides.{deletion_side}
use Rattle.task_block.specs.declared.task.Task.{Task}
use Rattle.id_table.proofs.Records.{found_id}
use Rattle.wind_core.specs.State.{KernState, task_id, task_of}
use Rattle.wind_core.specs.Orders.{waiters}
use Rattle.wind_core.specs.Moves.{set_safe}
use Rattle.wind_core.specs.Releases.{release_all}
use Rattle.wind_core.proofs.Unwritten.{with_id, found_by, map-releases, task_of-change}
use Rattle.sem_mutex.specs.TaskSafetySafety.{deletion, safe_of, lessen}
use Rattle.sem_mutex.specs.TaskSafetyKept.{Deletes, IsSafe, KeepsDeleters}

-- what is read of a task for the safe count of an id
abbrev pub counted : Task → ℕ × ℕ
counted t = with_id (λ u. u.safe) t

-- the same ids have the same safe counts
pub safe-same : (ts us : List Task) (id : ℕ) → map counted ts ≡ map counted us → safe_of (task_of ts id) ≡ safe_of (task_of us id)
safe-same ts us id e = is (task_of ts id) ∙ ap (λ o. unwrap_or o 0) (found_by (λ u. u.safe) ts us id e) ∙ sym (is (task_of us id))
  where
    is : (o : Option Task) → safe_of o ≡ unwrap_or (option_map (λ t. t.safe) o) 0
    is None = refl
    is (Some t) = refl

counted-map : (f : Task → Task) → ((t : Task) → counted (f t) ≡ counted t) → (ts : List Task) → map counted (map f ts) ≡ map counted ts
counted-map f same [] = refl
counted-map f same (t ∷ ts) = ap (λ c. c ∷ map counted (map f ts)) (same t) ∙ ap (λ cs. counted t ∷ cs) (counted-map f same ts)

deletes-weaker : (P Q : ℕ → Type 0) (t : Task) → ((id : ℕ) → P id → Q id) → Deletes P t → Deletes Q t
deletes-weaker P Q t more h =
    elim t.wait as (λ w. IfSome w (λ p. p.side ≡ deletion_side → P p.id × (t.again ≡ true)) → IfSome w (λ p. p.side ≡ deletion_side → Q p.id × (t.again ≡ true))) [
      | None ↦ λ q. tt
      | Some p ↦ λ q side. (more p.id (q side).0, (q side).1)
    ] h

-- each task is changed, except for what is read of it for a deletion
pub deleters-map : (k : KernState) (f : Task → Task) → ((t : Task) → counted (f t) ≡ counted t) → ((P : ℕ → Type 0) (t : Task) → Deletes P t → Deletes P (f t)) → KeepsDeleters k → KeepsDeleters (record k { tasks = map f k.tasks })
deleters-map k f same keeps all =
    let j : KernState = record k { tasks = map f k.tasks } in
    let safe : (id : ℕ) → IsSafe k id → IsSafe j id = λ id h. subst (λ n. 0 < n) (sym (safe-same j.tasks k.tasks id (counted-map f same k.tasks))) h in
    All-map (Deletes (IsSafe j)) f k.tasks
    (All-weaker (Deletes (IsSafe k)) (λ t. Deletes (IsSafe j) (f t)) (λ t h. keeps (IsSafe j) t (deletes-weaker (IsSafe k) (IsSafe j) t safe h)) k.tasks all)

-- after as many fewer safe sections as there are, none is left
pub none_left : (k : KernState) (who : ℕ) → safe_of (task_of (lessen k who (safe_of (task_of k.tasks who))).tasks who) ≡ 0
none_left k who =
    let count : ℕ = safe_of (task_of k.tasks who) in
    let less : KernState = set_safe k who (count - count) in
    let now : safe_of (task_of less.tasks who) ≡ 0 =
    ap safe_of (task_of-change k.tasks who who (λ t. record t { safe = count - count }) (λ t. refl))
    ∙ elim (task_of k.tasks who) as (λ o. task_of k.tasks who ≡ o → safe_of (option_map (λ t. cond (eqb t.id who) (record t { safe = count - count }) t) o) ≡ 0) [
      | None ↦ λ e. refl
      | Some t ↦ λ e. ap (λ b. (cond b (record t { safe = count - count }) t).safe) (eq-eqb t.id who (found_id task_id k.tasks who t e)) ∙ omega arith
    ] refl in
    elim (ltb 0 count && leb count count) as (λ b. safe_of (task_of (cond b (release_all less (deletion who)) less).tasks who) ≡ 0) [
      | true ↦ safe-same (release_all less (deletion who)).tasks less.tasks who (map-releases counted (λ n t. refl) (λ t. refl) less (waiters less.tasks (deletion who))) ∙ now
      | false ↦ now
    ]
