-- The invariant of waits for a deletion.
use Rattle.std.proofs.Common.{◌≡◌, ℕ, ◌+◌, ◌-◌, ◌<◌, Bool, true, false, cond, not, ◌&&◌, eqb, ltb, leb, List, [], ◌∷◌, ◌++◌, map, get_or, Option, None, Some, IfSome, refl, sym, ap, ◌∙◌, subst, arith, ⊎_elim}
use Rattle.std.specs.List.{All, Contains}
use Rattle.std.specs.Option.{option_map}
use Rattle.std.specs.Prelude.{unwrap_or}
use Rattle.std.proofs.lemmas.Bool.{eq-eqb, ne_eqb, leb-false, lt-ltb, cases_eq}
use Rattle.std.proofs.lemmas.List.Elements.{All-weaker, All-filter, All-push}
use Rattle.wind_base.specs.Limits.{wait_forever}
use Rattle.wind_base.specs.declared.errno.Errno.{Errno}
use Rattle.id_table.specs.Sides.{deletion_side}
use Rattle.id_table.specs.declared.ident.Place.{Place}
use Rattle.task_block.specs.declared.task.Task.{Task}
use Rattle.task_block.specs.declared.task.NewTask.{NewTask}
use Rattle.id_table.specs.Sorting.{first}
use Rattle.id_table.proofs.Records.{found_id, found_in}
use Rattle.id_table.proofs.Passing.{none_passes}
use Rattle.wind_core.specs.State.{KernState, IsKern, task_id, task_of}
use Rattle.wind_core.specs.Orders.{waits_before, is_place, waits_at, waiters}
use Rattle.wind_core.specs.Moves.{renewed, change_task, renew_task, move_task, new_task, spawn, remove, wake_at, pended, delayed, released, release, answered, end_waits, suspended, resumed, is_suspended, resume, unmarked, reset, with_pri, has_pri, change_pri, set_safe, set_again, with_setting}
use Rattle.wind_core.specs.Releases.{releases, release_all}
use Rattle.wind_core.specs.Tick.{tick}
use Rattle.wind_core.specs.Move.{Spawn, Remove, Pend, Delay, Release, ReleaseAll, EndWait, WakeAll, Tick, Suspend, Resume, ChangePri, Reset, Set, SetRegs, SetLast, SetSlice, DrawIds, Lend}
use Rattle.wind_core.specs.declared.settings.Setting.TheVariants.{Safe, Again}
use Rattle.wind_core.proofs.Passes.{waits_before-order}
use Rattle.wind_core.proofs.Moving.{move_keeps}
use Rattle.wind_core.proofs.Stable.{All-change, renew_task-stable, move_task-stable, tick-stable}
use Rattle.wind_core.proofs.Becoming.{All-change_at}
use Rattle.wind_core.proofs.Unwritten.{with_id, map-change, map-move, map-releases, map-tick, found_by, task_of-change, task_of-without}
use Rattle.wind_core.proofs.Releasing.{releases-clear}
use Rattle.task_safety.specs.declared.deleting.Deed.{Deed}
use Rattle.task_safety.specs.declared.deleting.Deed.TheVariants.{Refuses, EndsItself, Removes, Awaits}
use Rattle.task_safety.specs.Safety.{deletion, safe_of, lessen}
use Rattle.task_safety.specs.Deletion.{deed_of, asked, unguarded, awaiting, after}
use Rattle.task_safety.specs.Kept.{Deletes, IsSafe, KeepsDeleters, WaitsForNothing}
use Rattle.task_safety.specs.Laws.{KeptLaw, CallsLaw}
use Rattle.task_safety.proofs.Targets.{Says, deed_says}

-- ---- counts of safe sections
-- what is read of a task for the count of safe sections of an id
abbrev seen : Task → ℕ × ℕ
seen t = with_id (λ u. u.safe) t

safe_is : (o : Option Task) → safe_of o ≡ unwrap_or (option_map (λ t. t.safe) o) 0
safe_is None = refl
safe_is (Some t) = refl

same_safe : (ts us : List Task) (id : ℕ) → map seen ts ≡ map seen us → safe_of (task_of ts id) ≡ safe_of (task_of us id)
same_safe ts us id e = safe_is (task_of ts id) ∙ ap (λ o. unwrap_or o 0) (found_by (λ u. u.safe) ts us id e) ∙ sym (safe_is (task_of us id))

-- the count of safe sections of one task is written
abbrev written : ℕ → Task → Task
written m t = record t { safe = m }

safe_other : (s : KernState) (who m id : ℕ) → (id ≡ who → ⊥) → safe_of (task_of (set_safe s who m).tasks id) ≡ safe_of (task_of s.tasks id)
safe_other s who m id other =
    ap safe_of (task_of-change s.tasks who id (written m) (λ t. refl))
    ∙ elim (task_of s.tasks id) as (λ o. task_of s.tasks id ≡ o → safe_of (option_map (λ t. cond (eqb t.id who) (written m t) t) o) ≡ safe_of o) [
      | None ↦ λ e. refl
      | Some t ↦ λ e. ap (λ b. (cond b (written m t) t).safe) (ne_eqb t.id who (λ q. other (sym (found_id task_id s.tasks id t e) ∙ q)))
    ] refl

safe_here : (s : KernState) (who m : ℕ) → (safe_of (task_of s.tasks who) ≡ 0 → m ≡ 0) → safe_of (task_of (set_safe s who m).tasks who) ≡ m
safe_here s who m none =
    ap safe_of (task_of-change s.tasks who who (written m) (λ t. refl))
    ∙ elim (task_of s.tasks who) as (λ o. task_of s.tasks who ≡ o → (safe_of o ≡ 0 → m ≡ 0) → safe_of (option_map (λ t. cond (eqb t.id who) (written m t) t) o) ≡ m) [
      | None ↦ λ e z. sym (z refl)
      | Some t ↦ λ e z. ap (λ b. (cond b (written m t) t).safe) (eq-eqb t.id who (found_id task_id s.tasks who t e))
    ] refl none

safe_push : (ts : List Task) (u : Task) (id : ℕ) → 0 < safe_of (task_of ts id) → 0 < safe_of (task_of (ts ++ u ∷ []) id)
safe_push [] u id h = absurd (omega arith)
safe_push (t ∷ ts) u id h =
    elim (eqb t.id id) as (λ b. 0 < safe_of (cond b (Some t) (task_of ts id)) → 0 < safe_of (cond b (Some t) (task_of (ts ++ u ∷ []) id))) [
      | true ↦ λ q. q
      | false ↦ λ q. safe_push ts u id q
    ] h

-- ---- one task's wait
deletes_weaker : (P Q : ℕ → Type 0) (t : Task) → ((id : ℕ) → P id → Q id) → Deletes P t → Deletes Q t
deletes_weaker P Q t more h =
    elim t.wait as (λ w. IfSome w (λ p. p.side ≡ deletion_side → P p.id × (t.again ≡ true)) → IfSome w (λ p. p.side ≡ deletion_side → Q p.id × (t.again ≡ true))) [
      | None ↦ λ q. tt
      | Some p ↦ λ q side. (more p.id (q side).0, (q side).1)
    ] h

-- the end of a wait
releases-stable : (P : Task → Type 0) → ((since : ℕ) (t : Task) → P t → P (renewed since t)) → ((t : Task) → P t → P (released t)) → (s : KernState) (ts : List Task) → All P s.tasks → All P (releases s ts).tasks
releases-stable P renews ends s [] all = all
releases-stable P renews ends s (t ∷ ts) all = releases-stable P renews ends (release s t.id) ts (move_task-stable P renews s t.id released ends all)

-- ---- every call
module _ (s : KernState) (kept : KeepsDeleters s) where
  abbrev Fine : Task → Type 0
  Fine t = Deletes (IsSafe s) t

  recovered : (n : KernState) → ((id : ℕ) → IsSafe s id → IsSafe n id) → All Fine n.tasks → KeepsDeleters n
  recovered n more all = All-weaker Fine (Deletes (IsSafe n)) (λ t. deletes_weaker (IsSafe s) (IsSafe n) t more) n.tasks all

  -- the counts of safe sections stay
  as_safe : (n : KernState) → map seen n.tasks ≡ map seen s.tasks → All Fine n.tasks → KeepsDeleters n
  as_safe n e all = recovered n (λ id h. subst (λ m. 0 < m) (sym (same_safe n.tasks s.tasks id e)) h) all

  changes : (who : ℕ) (f : Task → Task) → ((t : Task) → seen (f t) ≡ seen t) → ((t : Task) → Fine t → Fine (f t)) → KeepsDeleters (change_task s who f)
  changes who f same fine = as_safe (change_task s who f) (map-change seen s.tasks who f same) (All-change Fine s.tasks who f fine kept)

  renews : (who : ℕ) (f : Task → Task) → ((t : Task) → seen (f t) ≡ seen t) → ((t : Task) → Fine t → Fine (f t)) → KeepsDeleters (renew_task s who f)
  renews who f same fine =
      as_safe (renew_task s who f) (map-change seen s.tasks who (λ t. renewed s.next_since (f t)) same) (renew_task-stable Fine (λ since t h. h) s who f fine kept)

  moves : (who : ℕ) (f : Task → Task) → ((t : Task) → seen (f t) ≡ seen t) → ((t : Task) → Fine t → Fine (f t)) → KeepsDeleters (move_task s who f)
  moves who f same fine = as_safe (move_task s who f) (map-move seen (λ n t. refl) s who f same) (move_task-stable Fine (λ since t h. h) s who f fine kept)

  -- ---- safe sections
  written_fine : (who m : ℕ) → All Fine (set_safe s who m).tasks
  written_fine who m = All-change Fine s.tasks who (written m) (λ t h. h) kept

  -- a count that stays above 0
  writes : (who m : ℕ) → (IsSafe s who → 0 < m) → KeepsDeleters (set_safe s who m)
  writes who m some =
      recovered (set_safe s who m)
      (λ id h.
      ⊎_elim
      (λ (same : id ≡ who).
      let here : 0 < safe_of (task_of s.tasks who) = subst (λ i. 0 < safe_of (task_of s.tasks i)) same h in
      subst (λ i. 0 < safe_of (task_of (set_safe s who m).tasks i)) (sym same) (subst (λ n. 0 < n) (sym (safe_here s who m (λ z. absurd (omega arith)))) (some here)))
      (λ (other : id ≡ who → ⊥). subst (λ n. 0 < n) (sym (safe_other s who m id other)) h)
      (cases_eq id who))
      (written_fine who m)

  -- a count that falls to 0: the waits for the deletion end
  frees : IsKern s → (who m : ℕ) → KeepsDeleters (release_all (set_safe s who m) (deletion who))
  frees is who m =
      let less : KernState = set_safe s who m in
      let place : Place = deletion who in
      let after : KernState = release_all less place in
      let fine : All Fine after.tasks = releases-stable Fine (λ since t h. h) (λ t h. tt) less (waiters less.tasks place) (written_fine who m) in
      let nobody = none_passes task_id waits_before waits_before-order (waits_at place) after.tasks (ap first (releases-clear less place (waiters less.tasks place) (move_keeps s (Set who (Safe m)) is tt) refl)) in
      let same : map seen after.tasks ≡ map seen less.tasks = map-releases seen (λ n t. refl) (λ t. refl) less (waiters less.tasks place) in
      λ k d h. freed after (get_or after.tasks k d) (λ id other safe. subst (λ n. 0 < n) (sym (same_safe after.tasks less.tasks id same ∙ safe_other s who m id other)) safe) (nobody k d h) (fine k d h)
    where
      freed : (n : KernState) (t : Task) → ((id : ℕ) → (id ≡ who → ⊥) → IsSafe s id → IsSafe n id) → waits_at (deletion who) t ≡ false → Fine t → Deletes (IsSafe n) t
      freed n t more apart h =
          elim t.wait as (λ w. is_place (deletion who) w ≡ false → IfSome w (λ p. p.side ≡ deletion_side → IsSafe s p.id × (t.again ≡ true)) → IfSome w (λ p. p.side ≡ deletion_side → IsSafe n p.id × (t.again ≡ true))) [
            | None ↦ λ a q. tt
            | Some p ↦ λ a q side. (
              more p.id (λ own. let there : (eqb p.side 2 && eqb p.id who) ≡ true = ap (λ b. b && eqb p.id who) (eq-eqb p.side 2 side) ∙ eq-eqb p.id who own in absurd (cc)) (q side).0,
              (q side).1,
            )
          ] apart h

  eases : IsKern s → (who n : ℕ) → KeepsDeleters (lessen s who n)
  eases is who n =
      let count : ℕ = safe_of (task_of s.tasks who) in
      let less : KernState = set_safe s who (count - n) in
      elim (ltb 0 count && leb count n) as (λ b. (ltb 0 count && leb count n) ≡ b → KeepsDeleters (cond b (release_all less (deletion who)) less)) [
        | true ↦ λ b. frees is who (count - n)
        | false ↦ λ b. writes who (count - n) (λ some. let more : n < count = leb-false count n (sym (ap (λ c. c && leb count n) (lt-ltb 0 count some)) ∙ b) in omega arith)
      ] refl

  -- ---- the mark of a repeated call, for a task that waits for nothing
  module _ (is : IsKern s) (who : ℕ) (idle : WaitsForNothing s who) where
    idle_fine : (f : Task → Task) → ((t : Task) → (f t).wait ≡ t.wait) → (t : Task) → Contains s.tasks t → t.id ≡ who → Fine (f t)
    idle_fine f keeps t at same =
        let found : task_of s.tasks who ≡ Some t = ap (task_of s.tasks) (sym same) ∙ found_in task_id s.tasks t is.rising at in
        let none : t.wait ≡ None = subst (λ o. IfSome o (λ u. u.wait ≡ None)) found idle in
        subst (λ w. IfSome w (λ p. p.side ≡ deletion_side → IsSafe s p.id × ((f t).again ≡ true))) (sym (keeps t ∙ none)) tt

    marks : (on : Bool) → KeepsDeleters (set_again s who on)
    marks on =
        as_safe (set_again s who on) (map-change seen s.tasks who (λ t. record t { again = on }) (λ t. refl))
        (All-change_at Fine Fine s.tasks who (λ t. record t { again = on }) (λ t at same h. idle_fine (λ u. record u { again = on }) (λ u. refl) t at same) (λ t at other h. h) kept)

    resets : KeepsDeleters (reset s who)
    resets =
        as_safe (reset s who) (map-change seen s.tasks who (λ t. renewed s.next_since (unmarked t)) (λ t. refl))
        (All-change_at Fine Fine s.tasks who (λ t. renewed s.next_since (unmarked t)) (λ t at same h. idle_fine (λ u. renewed s.next_since (unmarked u)) (λ u. refl) t at same) (λ t at other h. h) kept)

  -- ---- a task is removed
  removes : (who : ℕ) → safe_of (task_of s.tasks who) ≡ 0 → KeepsDeleters (remove s who)
  removes who none =
      recovered (remove s who)
      (λ id h. subst (λ o. 0 < safe_of o) (sym (task_of-without s.tasks who id (λ same. let own = ap (λ i. safe_of (task_of s.tasks i)) same in absurd (omega arith)))) h)
      (All-filter (λ t. not (eqb t.id who)) Fine s.tasks kept)

  -- and this task will repeat its call
  abbrev Ready : ℕ → Task → Type 0
  Ready caller t = Fine t × (t.id ≡ caller → t.again ≡ true)

  deletes_again : (t : Task) → Fine t → Fine (record t { again = true })
  deletes_again t h =
      elim t.wait as (λ w. IfSome w (λ p. p.side ≡ deletion_side → IsSafe s p.id × (t.again ≡ true)) → IfSome w (λ p. p.side ≡ deletion_side → IsSafe s p.id × (true ≡ true))) [
        | None ↦ λ q. tt
        | Some p ↦ λ q side. ((q side).0, refl)
      ] h

  -- a task begins to wait for the deletion of one in a safe section
  awaits : (caller who : ℕ) → IsSafe s who → KeepsDeleters (awaiting s caller who)
  awaits caller who safe =
      let again : Task → Task = λ t. record t { again = true } in
      let marked : KernState = set_again s caller true in
      let begin : Task → Task = λ t. renewed marked.next_since (pended (deletion who) false (wake_at deletion_side marked.tick wait_forever) t) in
      as_safe (awaiting s caller who) (map-change seen marked.tasks caller begin (λ t. refl) ∙ map-change seen s.tasks caller again (λ t. refl))
      (All-change_at (Ready caller) Fine marked.tasks caller begin (λ t at same h side. (safe, h.1 same)) (λ t at other h. h.0)
      (All-change_at Fine (Ready caller) s.tasks caller again (λ t at same h. (deletes_again t h, λ own. refl)) (λ t at other h. (h, λ own. absurd (other own))) kept))

-- ---- waits end one after the other
ends : (s : KernState) (ts : List Task) (a : ℕ) (e : Option Errno) → KeepsDeleters s → KeepsDeleters (end_waits s ts a e)
ends s [] a e kept = kept
ends s (t ∷ ts) a e kept = ends (move_task s t.id (answered a e)) ts a e (moves s kept t.id (answered a e) (λ u. refl) (λ u h. tt))

releases_keep : (s : KernState) (ts : List Task) → KeepsDeleters s → KeepsDeleters (releases s ts)
releases_keep s [] kept = kept
releases_keep s (t ∷ ts) kept = releases_keep (release s t.id) ts (moves s kept t.id released (λ u. refl) (λ u h. tt))

-- ---- a deletion
-- after as many safe sections as there are have ended, none is left
none_left : (s : KernState) (who n : ℕ) → n ≡ safe_of (task_of s.tasks who) → safe_of (task_of (lessen s who n).tasks who) ≡ 0
none_left s who n e =
    let count : ℕ = safe_of (task_of s.tasks who) in
    let less : KernState = set_safe s who (count - n) in
    let now : safe_of (task_of less.tasks who) ≡ 0 = safe_here s who (count - n) (λ z. omega arith) ∙ omega arith in
    elim (ltb 0 count && leb count n) as (λ b. safe_of (task_of (cond b (release_all less (deletion who)) less).tasks who) ≡ 0) [
      | true ↦ same_safe (release_all less (deletion who)).tasks less.tasks who (map-releases seen (λ n t. refl) (λ t. refl) less (waiters less.tasks (deletion who))) ∙ now
      | false ↦ now
    ]

deed_keeps : (s : KernState) (caller n : ℕ) (d : Deed) → IsKern s → KeepsDeleters s → WaitsForNothing s caller → Says s.tasks caller n d → KeepsDeleters (after s caller d)
deed_keeps s caller n (Refuses e) is kept idle said = marks s kept is caller idle false
deed_keeps s caller n (EndsItself count) is kept idle said =
    let first : KernState = asked s caller in
    let fine = marks s kept is caller idle false in
    let same : count ≡ safe_of (task_of first.tasks caller) = said.1 ∙ sym (same_safe first.tasks s.tasks caller (map-change seen s.tasks caller (λ t. record t { again = false }) (λ t. refl))) in
    removes (unguarded s caller count) (eases first fine (move_keeps s (Set caller (Again false)) is tt) caller count) caller (none_left first caller count same)
deed_keeps s caller n (Removes who) is kept idle said =
    removes (asked s caller) (marks s kept is caller idle false) who
    (same_safe (asked s caller).tasks s.tasks who (map-change seen s.tasks caller (λ t. record t { again = false }) (λ t. refl)) ∙ said.2)
deed_keeps s caller n (Awaits who) is kept idle said = awaits s kept caller who said.2

-- ---- the law
delayed_seen : (now n : ℕ) (t : Task) → seen (delayed now n t) ≡ seen t
delayed_seen now n t = elim (eqb n 0) as (λ b. seen (cond b t (record t { wake = Some (now + n); turns = 0 })) ≡ seen t) [ true ↦ refl | false ↦ refl ]

delayed_fine : (Target : ℕ → Type 0) (now n : ℕ) (t : Task) → Deletes Target t → Deletes Target (delayed now n t)
delayed_fine Target now n t h = elim (eqb n 0) as (λ b. Deletes Target (cond b t (record t { wake = Some (now + n); turns = 0 }))) [ true ↦ h | false ↦ h ]

resumes : (s : KernState) (who : ℕ) → KeepsDeleters s → KeepsDeleters (resume s who)
resumes s who kept =
    elim (is_suspended (task_of s.tasks who)) as (λ b. KeepsDeleters (cond b (move_task s who resumed) s)) [ true ↦ moves s kept who resumed (λ t. refl) (λ t h. h) | false ↦ kept ]

priorities : (s : KernState) (who pri : ℕ) → KeepsDeleters s → KeepsDeleters (change_pri s who pri)
priorities s who pri kept =
    elim (has_pri pri (task_of s.tasks who)) as (λ b. KeepsDeleters (cond b s (move_task s who (with_pri pri)))) [ true ↦ kept | false ↦ moves s kept who (with_pri pri) (λ t. refl) (λ t h. h) ]

spawns : (s : KernState) (n : NewTask) → KeepsDeleters s → KeepsDeleters (spawn s n)
spawns s n kept =
    let new : Task = new_task s.next_id s.next_since n in
    recovered s kept (spawn s n) (λ id h. safe_push s.tasks new id h) (All-push (Deletes (IsSafe s)) s.tasks new kept tt)

pub moves_keep : KeptLaw
moves_keep k (Spawn n) is kept spares = spawns k n kept
moves_keep k (Remove who) is kept spares = removes k kept who spares
moves_keep k (Pend who place fifo n) is kept spares = renews k kept who (pended place fifo (wake_at place.side k.tick n)) (λ t. refl) (λ t h side. absurd (spares side))
moves_keep k (Delay who n) is kept spares = renews k kept who (delayed k.tick n) (delayed_seen k.tick n) (delayed_fine (IsSafe k) k.tick n)
moves_keep k (Release who) is kept spares = moves k kept who released (λ t. refl) (λ t h. tt)
moves_keep k (ReleaseAll place) is kept spares = releases_keep k (waiters k.tasks place) kept
moves_keep k (EndWait who value errno) is kept spares = moves k kept who (answered value errno) (λ t. refl) (λ t h. tt)
moves_keep k (WakeAll place value errno) is kept spares = ends k (waiters k.tasks place) value errno kept
moves_keep k Tick is kept spares = as_safe k kept (tick k) (map-tick seen (λ n t. refl) (λ a e t. refl) (λ n t. refl) k) (tick-stable (Deletes (IsSafe k)) (λ since t h. h) (λ a e t h. tt) (λ n t h. h) k kept)
moves_keep k (Resume who) is kept spares = resumes k who kept
moves_keep k (ChangePri who pri) is kept spares = priorities k who pri kept
moves_keep k (Reset who) is kept spares = resets k kept is who spares
moves_keep k (Set who (Safe n)) is kept spares = writes k kept who n spares
moves_keep k (Set who (Again on)) is kept spares = marks k kept is who spares on
moves_keep k (Suspend who) is kept spares = changes k kept who suspended (λ t. refl) (λ t h. h)
moves_keep k (SetRegs who regs) is kept spares = changes k kept who (λ t. record t { regs = regs }) (λ t. refl) (λ t h. h)
moves_keep k (Set who change) is kept spares = changes k kept who (with_setting change) (λ t. refl) (λ t h. h)
moves_keep k (SetLast last) is kept spares = kept
moves_keep k (SetSlice n) is kept spares = kept
moves_keep k (DrawIds next) is kept spares = kept
moves_keep k (Lend on) is kept spares = kept

pub calls_keep : CallsLaw
calls_keep s is kept = record {
  guarding = λ who. writes s kept who (safe_of (task_of s.tasks who) + 1) (λ some. omega arith);
  easing = λ who n. eases s kept is who n;
  deleting = λ caller target idle. deed_keeps s caller target (deed_of s.tasks caller target) is kept idle (deed_says s.tasks caller target);
}
