-- Tasks that wait, as they come and go.
use Rattle.std.proofs.Common.{◌≡◌, ℕ, ◌<◌, ◌≤◌, true, false, cond, leb, List, [], ◌∷◌, None, Some, refl, sym, ap, subst, arith}
use Rattle.std.specs.List.{All}
use Rattle.std.proofs.lemmas.Bool.{leb-true, leb-false}
use Rattle.std.proofs.lemmas.List.Elements.{All-cons, All-append, All-weaker}
use Rattle.std.proofs.lemmas.Option.{same_Some}
use Rattle.linked_lists.specs.IdTableSorting.{first}
use Rattle.linked_lists.specs.IdTableArrivals.{after_changes, arrivals}
use Rattle.linked_lists.proofs.IdTableArrivals.{first_earliest, none_after}
use Rattle.delay_queue.specs.Wakes.{task_id, task_wake, due_at}
use Rattle.delay_queue.specs.Laws.{DueLaw, NobodyLaw}

first_due : (ts : List (ℕ × ℕ)) (tick id : ℕ) → due_at ts tick ≡ Some id → (wake : ℕ) × (first ts ≡ Some (id, wake)) × (wake ≤ tick)
first_due [] tick id e = absurd (cc)
first_due (t ∷ ts) tick id e =
    elim (leb t.1 tick) as (λ b. leb t.1 tick ≡ b → cond b (Some t.0) None ≡ Some id → (wake : ℕ) × (first (t ∷ ts) ≡ Some (id, wake)) × (wake ≤ tick)) [
      | true ↦ λ b q. (t.1, ap (λ n. Some (n, t.1)) (same_Some t.0 id q), leb-true t.1 tick b)
      | false ↦ λ b q. absurd (cc)
    ] refl e

pub due_came : DueLaw
due_came changes tick id e =
    let found = first_due (after_changes task_id task_wake changes) tick id e in
    record { wake = found.0; reached = found.2; earliest = first_earliest task_id task_wake changes (id, found.0) found.1 }

-- if no task is due, the queue is empty, or its first task is due later
first_later : (ts : List (ℕ × ℕ)) (tick : ℕ) → due_at ts tick ≡ None → (t : ℕ × ℕ) → first ts ≡ Some t → tick < t.1
first_later [] tick e t q = absurd (cc)
first_later (u ∷ us) tick e t q =
    elim (leb u.1 tick) as (λ b. leb u.1 tick ≡ b → cond b (Some u.0) None ≡ None → tick < t.1) [
      | true ↦ λ b r. absurd (cc)
      | false ↦ λ b r. subst (λ x. tick < x.1) (same_Some u t q) (leb-false u.1 tick b)
    ] refl e

pub nobody_due : NobodyLaw
nobody_due changes tick e =
    let ts = after_changes task_id task_wake changes in
    elim (first ts) as (λ o. first ts ≡ o → All (λ t. tick < t.1) (arrivals task_id task_wake changes)) [
      | None ↦ λ q. subst (All (λ (t : ℕ × ℕ). tick < t.1)) (sym (none_after task_id task_wake changes q)) (λ k d h. absurd (omega (arith, h)))
      | Some t ↦ λ q.
          let later = first_later ts tick e t q in
          let stands = first_earliest task_id task_wake changes t q in
          subst (All (λ (u : ℕ × ℕ). tick < u.1)) (sym stands.among)
          (All-append (λ (u : ℕ × ℕ). tick < u.1) stands.earlier (t ∷ stands.later)
          (All-weaker (λ (u : ℕ × ℕ). t.1 < u.1) (λ u. tick < u.1) (λ u h. omega (arith, h, later)) stands.earlier stands.above)
          (All-cons (λ (u : ℕ × ℕ). tick < u.1) t stands.later later (All-weaker (λ (u : ℕ × ℕ). t.1 ≤ u.1) (λ u. tick < u.1) (λ u h. omega (arith, h, later)) stands.later stands.least)))
    ] refl
