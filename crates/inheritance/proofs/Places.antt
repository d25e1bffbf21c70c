-- The search for a task's place halves a range of places.
use Rattle.std.proofs.Common.{◌≡◌, ℕ, ◌+◌, ◌<◌, ◌≤◌, List, length, get_or, ap, ◌∙◌, arith, ⊎_elim, IsSome}
use Rattle.std.proofs.lemmas.Bool.{cases_eq, cases_lt}
use Rattle.std.proofs.lemmas.List.{get_or_default}
use Rattle.task_block.specs.declared.task.Task.{Task}
use Rattle.id_table.specs.Records.{Rising, StandsAt}
use Rattle.id_table.proofs.Records.{found_id, found_at}
use Rattle.id_table.proofs.Halving.{rising_ids}
use Rattle.wind_core.specs.State.{task_id, task_of}
use Rattle.inheritance.proofs.Lookups.{live_is}

-- the ids before this place are below this one
abbrev pub Below : List Task → ℕ → ℕ → Type 0
Below ts who n = (i : ℕ) (d : Task) → i < n → i < length ts → (get_or ts i d).id < who

-- the ids from this place on aren't
abbrev pub Above : List Task → ℕ → ℕ → Type 0
Above ts who n = (i : ℕ) (d : Task) → n ≤ i → i < length ts → who ≤ (get_or ts i d).id

pub below_more : (ts : List Task) (who middle : ℕ) (t : Task) → Rising task_id ts → middle < length ts → t ≡ get_or ts middle t → t.id < who → Below ts who (middle + 1)
below_more ts who middle t up h e less i d hi hl =
    let le = rising_ids task_id ts up i middle d (omega arith) h in
    let same = ap task_id (get_or_default ts middle t d h) in
    omega (arith, le, same, ap task_id e, less)

pub above_more : (ts : List Task) (who middle : ℕ) (t : Task) → Rising task_id ts → middle < length ts → t ≡ get_or ts middle t → who ≤ t.id → Above ts who middle
above_more ts who middle t up h e least i d hi hl =
    let le = rising_ids task_id ts up middle i d hi hl in
    let same = ap task_id (get_or_default ts middle t d h) in
    omega (arith, le, same, ap task_id e, least)

pub found_place_of : (ts : List Task) (who low : ℕ) → Rising task_id ts → IsSome (task_of ts who) → Below ts who low → Above ts who low → StandsAt task_id ts who low
found_place_of ts who low up lives below above =
    let t = live_is (task_of ts who) lives in
    let at = found_at task_id ts who t.0 t.1 in
    let own = found_id task_id ts who t.0 t.1 in
    let here : (get_or ts at.0 t.0).id ≡ who = ap task_id at.2 ∙ own in
    let same : low ≡ at.0 =
    ⊎_elim
    (λ (before : at.0 < low). let less = below at.0 t.0 before at.1 in absurd (omega (arith, less, here)))
    (λ (later : low ≤ at.0). ⊎_elim
    (λ (e : low ≡ at.0). e)
    (λ (ne : low ≡ at.0 → ⊥).
    let less : low < at.0 = omega (arith, later, ne) in
    let rise = up low at.0 t.0 less at.1 in
    let least = above low t.0 (omega arith) (omega (arith, less, at.1)) in
    absurd (omega (arith, rise, least, here)))
    (cases_eq low at.0))
    (cases_lt at.0 low) in
    record {
      within = omega (arith, same, at.1);
      same = λ d. ap (λ i. (get_or ts i d).id) same ∙ ap task_id (get_or_default ts at.0 d t.0 at.1) ∙ here;
    }
