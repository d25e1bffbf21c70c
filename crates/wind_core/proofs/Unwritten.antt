-- A field of every task that a move doesn't write, or several such fields, stay.
use Rattle.std.proofs.Common.{◌≡◌, ℕ, ◌+◌, true, false, cond, not, eqb, leb, List, [], ◌∷◌, map, Option, None, Some, is_some, refl, sym, ap, ◌∙◌}
use Rattle.std.specs.List.{fold}
use Rattle.std.specs.Option.{option_map}
use Rattle.std.proofs.lemmas.Bool.{eqb-true, ne_eqb}
use Rattle.wind_base.specs.declared.errno.Errno.{Errno}
use Rattle.task_block.specs.declared.task.Task.{Task}
use Rattle.task_block.specs.Standing.{is_ready}
use Rattle.id_table.specs.Records.{change, without}
use Rattle.wind_core.specs.State.{KernState, task_id, task_of}
use Rattle.wind_core.specs.Orders.{running, due}
use Rattle.wind_core.specs.Moves.{renewed, settled, renew_task, move_found, move_task, answered, released}
use Rattle.wind_core.specs.Releases.{releases}
use Rattle.wind_core.specs.Tick.{slice_counted, count_found_slice, count_slice_of, count_slice, late_answer, late_errno, time_out, tick_counted, tick}

module _ {A : Type 0} (field : Task → A) where
  pub map-change : (ts : List Task) (who : ℕ) (f : Task → Task) → ((t : Task) → field (f t) ≡ field t) → map field (change task_id ts who f) ≡ map field ts
  map-change [] who f keeps = refl
  map-change (t ∷ ts) who f keeps =
      elim (eqb t.id who) as (λ b. field (cond b (f t) t) ∷ map field (change task_id ts who f) ≡ field t ∷ map field (change task_id ts who f)) [
        | true ↦ ap (λ n. n ∷ map field (change task_id ts who f)) (keeps t)
        | false ↦ refl
      ]
      ∙ ap (λ ns. field t ∷ ns) (map-change ts who f keeps)

  -- whatever order number a task is given
  module _ (renews : (n : ℕ) (t : Task) → field (renewed n t) ≡ field t) where
    settles : (n : ℕ) (t : Task) → field (settled n t) ≡ field t
    settles n t = elim (is_ready t) as (λ b. field (cond b (renewed n t) t) ≡ field t) [ true ↦ renews n t | false ↦ refl ]

    pub map-renew : (s : KernState) (who : ℕ) (f : Task → Task) → ((t : Task) → field (f t) ≡ field t) → map field (renew_task s who f).tasks ≡ map field s.tasks
    map-renew s who f keeps = map-change s.tasks who (λ t. renewed s.next_since (f t)) (λ t. renews s.next_since (f t) ∙ keeps t)

    pub map-move : (s : KernState) (who : ℕ) (f : Task → Task) → ((t : Task) → field (f t) ≡ field t) → map field (move_task s who f).tasks ≡ map field s.tasks
    map-move s who f keeps =
        elim (task_of s.tasks who) as (λ o. map field (move_found s who f o).tasks ≡ map field s.tasks) [
          | None ↦ refl
          | Some t ↦ map-change s.tasks who (λ u. settled s.next_since (f u)) (λ u. settles s.next_since (f u) ∙ keeps u)
        ]

    -- waits that end without a result
    pub map-releases : ((t : Task) → field (released t) ≡ field t) → (s : KernState) (ts : List Task) → map field (releases s ts).tasks ≡ map field s.tasks
    map-releases ends s [] = refl
    map-releases ends s (t ∷ ts) = map-releases ends (move_task s t.id released) ts ∙ map-move s t.id released ends

    -- a tick: whatever the result of a wait, and however many ticks of a slice are used
    module _ (answers : (answer : ℕ) (errno : Option Errno) (t : Task) → field (answered answer errno t) ≡ field t) (turns : (n : ℕ) (t : Task) → field (record t { turns = n }) ≡ field t) where
      slice_counted-same : (slice since : ℕ) (t : Task) → field (slice_counted slice since t) ≡ field t
      slice_counted-same slice since t =
          elim (leb slice (t.turns + 1)) as (λ b. field (cond b (renewed since (record t { turns = 0 })) (record t { turns = t.turns + 1 })) ≡ field t) [
            | true ↦ renews since (record t { turns = 0 }) ∙ turns 0 t
            | false ↦ turns (t.turns + 1) t
          ]

      map-count_slice_of : (s : KernState) (o : Option Task) → map field (count_slice_of s o).tasks ≡ map field s.tasks
      map-count_slice_of s None = refl
      map-count_slice_of s (Some t) =
          elim (eqb t.locks 0) as (λ b. map field (cond b (count_found_slice s t) s).tasks ≡ map field s.tasks) [
            | true ↦ map-change s.tasks t.id (slice_counted s.slice s.next_since) (slice_counted-same s.slice s.next_since)
            | false ↦ refl
          ]

      pub map-count_slice : (s : KernState) → map field (count_slice s).tasks ≡ map field s.tasks
      map-count_slice s = elim (eqb s.slice 0) as (λ b. map field (cond b s (count_slice_of s (running s))).tasks ≡ map field s.tasks) [ true ↦ refl | false ↦ map-count_slice_of s (running s) ]

      map-time_outs : (s : KernState) (ts : List Task) → map field (fold time_out s ts).tasks ≡ map field s.tasks
      map-time_outs s [] = refl
      map-time_outs s (t ∷ ts) =
          let answer : ℕ = late_answer (is_some t.wait) in
          let errno : Option Errno = late_errno (is_some t.wait) in
          map-time_outs (time_out s t) ts ∙ map-move s t.id (answered answer errno) (answers answer errno)

      pub map-tick : (s : KernState) → map field (tick s).tasks ≡ map field s.tasks
      map-tick s = map-time_outs (count_slice (tick_counted s)) (due (count_slice (tick_counted s)).tasks (s.tick + 1)) ∙ map-count_slice (tick_counted s)

-- a field of the task with an id, if two lists have the same ids with the same field
module _ {A : Type 0} (field : Task → A) where
  abbrev pub with_id : Task → ℕ × A
  with_id t = (t.id, field t)

  same_head : (p q : ℕ × A) (ps qs : List (ℕ × A)) → p ∷ ps ≡ q ∷ qs → (p.0 ≡ q.0) × (p.1 ≡ q.1) × (ps ≡ qs)
  same_head p q ps qs e = (cc, cc, cc)

  pub found_by : (ts us : List Task) (who : ℕ) → map with_id ts ≡ map with_id us → option_map field (task_of ts who) ≡ option_map field (task_of us who)
  found_by [] [] who e = refl
  found_by [] (u ∷ us) who e = absurd (cc)
  found_by (t ∷ ts) [] who e = absurd (cc)
  found_by (t ∷ ts) (u ∷ us) who e =
      let same = same_head (with_id t) (with_id u) (map with_id ts) (map with_id us) e in
      ap (λ n. option_map field (cond (eqb n who) (Some t) (task_of ts who))) same.0
      ∙ elim (eqb u.id who) as (λ b. option_map field (cond b (Some t) (task_of ts who)) ≡ option_map field (cond b (Some u) (task_of us who))) [
        | true ↦ ap Some same.1
        | false ↦ found_by ts us who same.2
      ]

-- ---- which task a look-up finds
-- after one task is changed
pub task_of-change : (ts : List Task) (who y : ℕ) (f : Task → Task) → ((t : Task) → (f t).id ≡ t.id) → task_of (change task_id ts who f) y ≡ option_map (λ t. cond (eqb t.id who) (f t) t) (task_of ts y)
task_of-change [] who y f keeps = refl
task_of-change (t ∷ ts) who y f keeps =
    let same : (cond (eqb t.id who) (f t) t).id ≡ t.id = elim (eqb t.id who) as (λ b. (cond b (f t) t).id ≡ t.id) [ true ↦ keeps t | false ↦ refl ] in
    ap (λ m. cond (eqb m y) (Some (cond (eqb t.id who) (f t) t)) (task_of (change task_id ts who f) y)) same
    ∙ ap (cond (eqb t.id y) (Some (cond (eqb t.id who) (f t) t))) (task_of-change ts who y f keeps)
    ∙ elim (eqb t.id y) as (λ b. cond b (Some (cond (eqb t.id who) (f t) t)) (option_map (λ u. cond (eqb u.id who) (f u) u) (task_of ts y)) ≡ option_map (λ u. cond (eqb u.id who) (f u) u) (cond b (Some t) (task_of ts y))) [ true ↦ refl | false ↦ refl ]

-- after another is removed
pub task_of-without : (ts : List Task) (who y : ℕ) → (y ≡ who → ⊥) → task_of (without task_id ts who) y ≡ task_of ts y
task_of-without [] who y other = refl
task_of-without (t ∷ ts) who y other =
    elim (eqb t.id who) as (λ b. eqb t.id who ≡ b → task_of (cond (not b) (t ∷ without task_id ts who) (without task_id ts who)) y ≡ cond (eqb t.id y) (Some t) (task_of ts y)) [
      | true ↦ λ b.
          let apart : eqb t.id y ≡ false = ne_eqb t.id y (λ e. other (sym e ∙ eqb-true t.id who b)) in
          task_of-without ts who y other ∙ sym (ap (λ c. cond c (Some t) (task_of ts y)) apart)
      | false ↦ λ b. ap (cond (eqb t.id y) (Some t)) (task_of-without ts who y other)
    ] refl
