-- A look-up by a number.
use Rattle.std.proofs.Common.{◌≡◌, ℕ, ◌<◌, ◌≤◌, true, false, cond, eqb, None, Some, refl, arith}
use Rattle.std.specs.Option.{option_map}
use Rattle.std.proofs.lemmas.Bool.{eqb-false}
use Rattle.std.proofs.lemmas.List.Elements.{All-contains}
use Rattle.id_table.proofs.Records.{found_id, found_at}
use Rattle.wind_core.specs.State.{KernState, IsKern, task_id, task_of}
use Rattle.wind_core.specs.Moves.{live_id}

-- no task has a number that isn't an id
pub no_id : (s : KernState) → IsKern s → (n : ℕ) → ((0 < n) × (n ≤ 1048576) → ⊥) → None ≡ live_id s.tasks n
no_id s is n outside =
    elim (eqb n 0) as (λ b. eqb n 0 ≡ b → None ≡ cond b None (option_map task_id (task_of s.tasks n))) [
      | true ↦ λ e. refl
      | false ↦ λ e.
          elim (task_of s.tasks n) as (λ o. task_of s.tasks n ≡ o → None ≡ option_map task_id o) [
            | None ↦ λ q. refl
            | Some x ↦ λ q.
                let below : x.id < s.next_id = All-contains (λ t. t.id < s.next_id) s.tasks x is.ids (found_at task_id s.tasks n x q) in
                let same : x.id ≡ n = found_id task_id s.tasks n x q in
                let some : n ≡ 0 → ⊥ = eqb-false n 0 e in
                let top : s.next_id ≤ 1048577 = is.last_id in
                absurd (outside (omega arith, omega arith))
          ] refl
    ] refl
