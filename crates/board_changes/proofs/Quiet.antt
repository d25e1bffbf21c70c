-- Tasks whose changes need no line.
use Rattle.std.proofs.Common.{◌≡◌, ℕ, ◌<◌, Bool, true, false, cond, eqb, ltb, List, [], ◌∷◌, ◌++◌, Option, None, Some, refl, sym, ap, ap₂, subst, ◌∙◌, append_assoc, arith}
use Rattle.std.specs.Prelude.{◌&&◌, ◌||◌, not}
use Rattle.std.proofs.lemmas.Bool.{and_parts, eqb-true, ltb-true}
use Rattle.board_changes.specs.Looks.{same_flag}
use Rattle.board_changes.specs.Tasks.{all_quiet, changes_of, deletion, deletions, is_quiet, is_ready, kept_changes, live_changes, normal_changes, other_wait, priority_changes, same_tick, same_wait, sleep_changes, suspension_changes, task_changes, wait_cases, yield_changes}
use Rattle.board_changes.specs.Views.{task_id}
use Rattle.board_changes.specs.declared.awaited.Awaited.{Awaited}
use Rattle.board_changes.specs.declared.change.Change.{Change}
use Rattle.board_changes.specs.declared.change.Change.TheVariants as changes
use Rattle.board_changes.specs.declared.view.TaskView.{TaskView}
use Rattle.board_changes.proofs.Above.{AreUpTo, first_above, one_above}

no_sleep : (who : ℕ) (v w : Option ℕ) → same_tick v w ≡ true → sleep_changes who v w ≡ []
no_sleep who None None same = refl
no_sleep who None (Some w) same = absurd (cc)
no_sleep who (Some v) None same = absurd (cc)
no_sleep who (Some v) (Some w) same = ap (λ b. cond b [] (changes.Sleeps who w ∷ [])) same

no_suspension : (who : ℕ) (v w : Bool) → same_flag v w ≡ true → suspension_changes who v w ≡ []
no_suspension who true true same = refl
no_suspension who false false same = refl
no_suspension who true false same = absurd (cc)
no_suspension who false true same = absurd (cc)

module _ (results : Bool) where
  no_wait : (b t : TaskView) (v w : Option Awaited) → same_wait v w ≡ true → same_tick b.wake t.wake ≡ true → wait_cases results b t v w ≡ []
  no_wait b t None None same wake = no_sleep t.id b.wake t.wake wake
  no_wait b t None (Some w) same wake = absurd (cc)
  no_wait b t (Some v) None same wake = absurd (cc)
  no_wait b t (Some v) (Some w) same wake =
      ap (λ x. cond (x && same_tick b.wake t.wake) [] (other_wait results t v w)) same ∙ ap (λ x. cond x [] (other_wait results t v w)) wake

  -- what a first pair shows
  record FirstQuiet (low : ℕ) (b t : TaskView) (bs ts : List TaskView) : Type 0 where
    up : low < b.id
    same : b.id ≡ t.id
    none : kept_changes results b t ≡ []
    rest : all_quiet b.id bs ts ≡ true

  first_quiet : (low : ℕ) (b t : TaskView) (bs ts : List TaskView) → all_quiet low (b ∷ bs) (t ∷ ts) ≡ true → FirstQuiet low b t bs ts
  first_quiet low b t bs ts quiet =
      let both = and_parts (ltb low b.id) (is_quiet b t && all_quiet b.id bs ts) quiet in
      let later = and_parts (is_quiet b t) (all_quiet b.id bs ts) both.1 in
      let waits = same_wait b.wait t.wait && (same_tick b.wake t.wake && eqb b.since t.since) in
      let suspended = same_flag b.suspended t.suspended in
      let id = and_parts (eqb b.id t.id) (eqb b.pri t.pri && (eqb b.normal t.normal && (suspended && waits))) later.0 in
      let pri = and_parts (eqb b.pri t.pri) (eqb b.normal t.normal && (suspended && waits)) id.1 in
      let normal = and_parts (eqb b.normal t.normal) (suspended && waits) pri.1 in
      let other = and_parts suspended waits normal.1 in
      let wait = and_parts (same_wait b.wait t.wait) (same_tick b.wake t.wake && eqb b.since t.since) other.1 in
      let order = and_parts (same_tick b.wake t.wake) (eqb b.since t.since) wait.1 in
      let set : List Change = changes.Normal t.id t.normal ∷ [] in
      record {
        up = ltb-true low b.id both.0;
        same = eqb-true b.id t.id id.0;
        none =
            ap₂ (λ xs ys. xs ++ (ys ++ (priority_changes b t ++ (normal_changes b t ++ yield_changes b t)))) (no_wait b t b.wait t.wait wait.0 order.0) (no_suspension t.id b.suspended t.suspended other.0)
            ∙ ap (λ x. cond x [] (changes.Priority t.id b.pri t.pri (eqb b.normal t.normal) ∷ []) ++ (normal_changes b t ++ yield_changes b t)) pri.0
            ∙ ap (λ x. cond (x || (not (eqb b.pri t.pri) && eqb t.pri t.normal)) [] set ++ yield_changes b t) normal.0
            ∙ ap (λ x. cond (x || not (eqb b.pri t.pri && (is_ready b && is_ready t))) [] (changes.Yields t.id ∷ [])) order.1;
        rest = later.1;
      }

  none_live : (low : ℕ) (before bs ts : List TaskView) → AreUpTo task_id low before → all_quiet low bs ts ≡ true → live_changes results (before ++ bs) ts ≡ []
  none_live low before [] [] all quiet = refl
  none_live low before [] (t ∷ ts) all quiet = absurd (cc)
  none_live low before (b ∷ bs) [] all quiet = refl
  none_live low before (b ∷ bs) (t ∷ ts) all quiet =
      let first = first_quiet low b t bs ts quiet in
      let up : low < b.id = first.up in
      let same : b.id ≡ t.id = first.same in
      ap (λ v. changes_of results v t ++ live_changes results (before ++ b ∷ bs) ts) (first_above task_id before bs b low t.id all (omega arith) same)
      ∙ ap (λ xs. xs ++ live_changes results (before ++ b ∷ bs) ts) first.none
      ∙ ap (λ vs. live_changes results vs ts) (sym (append_assoc before (b ∷ []) bs))
      ∙ none_live b.id (before ++ b ∷ []) bs ts (one_above task_id before b low all up) first.rest

  none_gone : (low : ℕ) (before ts bs : List TaskView) → AreUpTo task_id low before → all_quiet low bs ts ≡ true → deletions (before ++ ts) bs ≡ []
  none_gone low before [] [] all quiet = refl
  none_gone low before (t ∷ ts) [] all quiet = refl
  none_gone low before [] (b ∷ bs) all quiet = absurd (cc)
  none_gone low before (t ∷ ts) (b ∷ bs) all quiet =
      let first = first_quiet low b t bs ts quiet in
      let up : low < b.id = first.up in
      let same : b.id ≡ t.id = first.same in
      let next : AreUpTo task_id t.id (before ++ t ∷ []) = one_above task_id before t low all (omega arith) in
      ap (λ v. deletion b.id v ++ deletions (before ++ t ∷ ts) bs) (first_above task_id before ts t low b.id all up (sym same))
      ∙ ap (λ vs. deletions vs bs) (sym (append_assoc before (t ∷ []) ts))
      ∙ none_gone b.id (before ++ t ∷ []) ts bs (subst (λ n. AreUpTo task_id n (before ++ t ∷ [])) (sym same) next) first.rest

  pub no_changes : (bs ts : List TaskView) → all_quiet 0 bs ts ≡ true → task_changes results bs ts ≡ []
  no_changes bs ts quiet = ap₂ (λ xs ys. xs ++ ys) (none_live 0 [] bs ts tt quiet) (none_gone 0 [] ts bs tt quiet)
