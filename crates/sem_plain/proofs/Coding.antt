-- Lemmas that the answers of the code cite.
use Rattle.std.proofs.Common.{◌≡◌, ℕ, false, List, None, Some, sym, ap, ◌∙◌}
use Rattle.std.specs.Option.{option_map}
use Rattle.std.proofs.lemmas.Option.{same_Some}
use Rattle.id_table.specs.Rows.{IdsBelow}
use Rattle.id_table.specs.declared.ident.Place.{Place}
use Rattle.wind_core.specs.State.{KernState, IsKern, Lives, task_id}
use Rattle.wind_core.specs.Orders.{first_waiter}
use Rattle.wind_core.proofs.Waking.{woken_first}
use Rattle.sem_plain.specs.declared.semaphore.Semaphore.{Semaphore}
use Rattle.sem_plain.specs.declared.plans.TakePlan.TheVariants.{Starved}
use Rattle.sem_plain.specs.declared.plans.GivePlan.TheVariants.{PassedOn, Counted}
use Rattle.sem_plain.specs.State.{SemState, both, sem_place}
use Rattle.sem_plain.specs.Calls.{live, declined, taken, starved, take_deed, awaited, after_take, take, denied, passed_on, counted, give_deed, next_of}
use Rattle.sem_plain.specs.Inside.{take_plan, give_plan}
use Rattle.sem_plain.proofs.Deeds.{TakeIs, take_is, GiveIs, give_is}

-- the first waiting task is live
pub next_lives : (k : KernState) (place : Place) (who : ℕ) → IsKern k → Some who ≡ option_map task_id (first_waiter k.tasks place) → Lives k who
next_lives k place who is e = (woken_first k place 0 None who is.rising e).lives

-- a take that waits, by its plan
pub starved_take : (s : SemState) (who id at n : ℕ) (k : KernState) → Starved at ≡ take_plan id (take_deed n (live s id))
    → ((v : Semaphore) → live s at ≡ Some v → both k s.semaphores ≡ awaited s who at n v) → both k s.semaphores ≡ take s who id n
starved_take s who id at n k =
    elim (take_deed n (live s id)) as (λ d. TakeIs s id n d → Starved at ≡ take_plan id d → ((v : Semaphore) → live s at ≡ Some v → both k s.semaphores ≡ awaited s who at n v)
    → both k s.semaphores ≡ after_take s who id n d) [
      | declined e ↦ λ said plan waits. absurd (cc)
      | taken v ↦ λ said plan waits. absurd (cc)
      | starved v ↦ λ said plan waits. let same : at ≡ id = cc in waits v (ap (live s) same ∙ said.0) ∙ ap (λ i. awaited s who i n v) same
    ] (take_is s id n)

-- the task that a give passes it on to is live
pub passed_lives : (s : SemState) (id who : ℕ) → IsKern s.kern → PassedOn who ≡ give_plan id (give_deed (next_of s id) (live s id)) → Lives s.kern who
passed_lives s id who is =
    elim (give_deed (next_of s id) (live s id)) as (λ d. GiveIs s id d → PassedOn who ≡ give_plan id d → Lives s.kern who) [
      | denied e ↦ λ said plan. absurd (cc)
      | passed_on t ↦ λ said plan. let same : who ≡ t.id = cc in next_lives s.kern (sem_place id) who is (ap Some same ∙ sym (ap (option_map task_id) said))
      | counted v ↦ λ said plan. absurd (cc)
    ] (give_is s id)

-- a count that rises isn't the greatest one
pub counted_rises : (s : SemState) (id at : ℕ) (u : Semaphore) → Counted at ≡ give_plan id (give_deed (next_of s id) (live s id)) → live s at ≡ Some u → u.count ≡ 4294967295 → ⊥
counted_rises s id at u =
    elim (give_deed (next_of s id) (live s id)) as (λ d. GiveIs s id d → Counted at ≡ give_plan id d → live s at ≡ Some u → u.count ≡ 4294967295 → ⊥) [
      | denied e ↦ λ said plan there full. absurd (cc)
      | passed_on t ↦ λ said plan there full. absurd (cc)
      | counted v ↦ λ said plan there full.
          let same : at ≡ id = cc in
          said.2 (ap (λ (x : Semaphore). x.count) (same_Some v u (sym said.0 ∙ ap (live s) (sym same) ∙ there)) ∙ full)
    ] (give_is s id)

-- after a semaphore is made, the ids are put back, and all are below the next
pub record IsFit (k : KernState) (ss : List (ℕ × Semaphore)) : Type 0 where
  pub ids : k.lent ≡ false
  pub below : IdsBelow k.next_id ss
