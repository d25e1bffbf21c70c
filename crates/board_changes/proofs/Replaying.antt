-- The lines of a step give a task's life after it.
use Rattle.std.proofs.Common.{◌≡◌, ℕ, Bool, true, false, cond, eqb, leb, List, [], ◌∷◌, ◌++◌, Option, None, Some, refl, sym, ap, ap₂, subst, ◌∙◌, append_assoc}
use Rattle.std.specs.Prelude.{◌&&◌, ◌||◌, not}
use Rattle.std.specs.Option.{option_map}
use Rattle.std.proofs.lemmas.Bool.{and_parts, eqb-true, eqb-false, eq-eqb, ne_eqb}
use Rattle.std.proofs.lemmas.List.{append-nil}
use Rattle.id_table.proofs.Records.{found_id}
use Rattle.wind_base.specs.Limits.{error_word}
use Rattle.board_changes.specs.declared.awaited.Awaited.{Awaited}
use Rattle.board_changes.specs.declared.awaited.Awaited.TheVariants as awaited
use Rattle.board_changes.specs.declared.change.Change.{Change}
use Rattle.board_changes.specs.declared.change.Change.TheVariants as changes
use Rattle.board_changes.specs.declared.view.TaskView.{TaskView}
use Rattle.board_changes.specs.Looks.{is_runner}
use Rattle.board_changes.specs.Replay.{Life, ReplayLaw, life_of, lives_on, replayed, task_of, changes_naming}
use Rattle.board_changes.specs.Spans.{view_of}
use Rattle.board_changes.specs.Tasks.{begins, changes_of, deletion, deletions, ends, found, has_result, is_ready, kept_changes, live_changes, newborn, normal_changes, other_wait, priority_changes, same_awaited, same_tick, sleep_changes, suspension_changes, wait_cases, yield_changes}
use Rattle.board_changes.specs.Tiling.{AreDistinct}
use Rattle.board_changes.specs.Views.{task_id}
use Rattle.board_changes.specs.Watchdogs.{found as found_watchdog, gone_change, gone_changes, live_changes as live_watchdogs, stopped, timer_changes, timer_in, watchdog_changes}
use Rattle.board_changes.specs.Modules.{is_in, loads, module_changes, unloads}
use Rattle.board_changes.specs.declared.view.WatchdogView.{WatchdogView}
use Rattle.isr_watch.specs.declared.watchdog.Timer.{Timer}

-- ---- changes that name one task
abbrev AreOf : ℕ → List Change → Type 0
AreOf who [] = Unit {0}
AreOf who (c ∷ cs) = (task_of c ≡ Some who) × AreOf who cs

are_both : (who : ℕ) (xs ys : List Change) → AreOf who xs → AreOf who ys → AreOf who (xs ++ ys)
are_both who [] ys a b = b
are_both who (x ∷ xs) ys a b = (a.0, are_both who xs ys a.1 b)

are_of_cond : (who : ℕ) (t : Bool) (xs : List Change) → AreOf who xs → AreOf who (cond t [] xs)
are_of_cond who true xs a = tt
are_of_cond who false xs a = a

pub told_append : (who : ℕ) (xs ys : List Change) → changes_naming who (xs ++ ys) ≡ changes_naming who xs ++ changes_naming who ys
told_append who [] ys = refl
told_append who (x ∷ xs) ys =
    ap (λ cs. cond (is_runner (task_of x) who) (x ∷ cs) cs) (told_append who xs ys)
    ∙ elim (is_runner (task_of x) who) as (λ b. cond b (x ∷ (changes_naming who xs ++ changes_naming who ys)) (changes_naming who xs ++ changes_naming who ys) ≡ cond b (x ∷ changes_naming who xs) (changes_naming who xs) ++ changes_naming who ys) [ true ↦ refl | false ↦ refl ]

told_own : (n who : ℕ) (cs : List Change) → AreOf n cs → n ≡ who → changes_naming who cs ≡ cs
told_own n who [] are same = refl
told_own n who (c ∷ cs) are same =
    ap (λ o. cond (is_runner o who) (c ∷ changes_naming who cs) (changes_naming who cs)) are.0
    ∙ ap (λ b. cond b (c ∷ changes_naming who cs) (changes_naming who cs)) (eq-eqb n who same)
    ∙ ap (λ xs. c ∷ xs) (told_own n who cs are.1 same)

told_other : (n who : ℕ) (cs : List Change) → AreOf n cs → (n ≡ who → ⊥) → changes_naming who cs ≡ []
told_other n who [] are differs = refl
told_other n who (c ∷ cs) are differs =
    ap (λ o. cond (is_runner o who) (c ∷ changes_naming who cs) (changes_naming who cs)) are.0
    ∙ ap (λ b. cond b (c ∷ changes_naming who cs) (changes_naming who cs)) (ne_eqb n who differs)
    ∙ told_other n who cs are.1 differs

of_sleep : (who : ℕ) (v w : Option ℕ) → AreOf who (sleep_changes who v w)
of_sleep who None None = tt
of_sleep who None (Some w) = (refl, tt)
of_sleep who (Some v) None = (refl, tt)
of_sleep who (Some v) (Some w) = are_of_cond who (eqb v w) (changes.Sleeps who w ∷ []) (refl, tt)

of_suspension : (who : ℕ) (v w : Bool) → AreOf who (suspension_changes who v w)
of_suspension who true true = tt
of_suspension who false false = tt
of_suspension who true false = (refl, tt)
of_suspension who false true = (refl, tt)

module _ (results : Bool) where
  of_end : (t : TaskView) (object : Awaited) → task_of (ends results t object) ≡ Some t.id
  of_end t object =
      elim (results && has_result object) as (λ b. task_of (cond b (cond (eqb t.answer error_word) (changes.Failed t.id object t.errno) (changes.Served t.id object t.answer)) (changes.GoesOn t.id object)) ≡ Some t.id) [
        | true ↦ (elim (eqb t.answer error_word) as (λ b. task_of (cond b (changes.Failed t.id object t.errno) (changes.Served t.id object t.answer)) ≡ Some t.id) [ true ↦ refl | false ↦ refl ])
        | false ↦ refl
      ]

  of_wait : (b t : TaskView) (v w : Option Awaited) → AreOf t.id (wait_cases results b t v w)
  of_wait b t None None = of_sleep t.id b.wake t.wake
  of_wait b t None (Some w) = (refl, tt)
  of_wait b t (Some v) None = (of_end t v, of_sleep t.id None t.wake)
  of_wait b t (Some v) (Some w) =
      are_of_cond t.id (same_awaited v w && same_tick b.wake t.wake) (other_wait results t v w) (of_end t v, (refl, tt))

  of_kept : (b t : TaskView) → AreOf t.id (kept_changes results b t)
  of_kept b t =
      let pri = are_of_cond t.id (eqb b.pri t.pri) (changes.Priority t.id b.pri t.pri (eqb b.normal t.normal) ∷ []) (refl, tt) in
      let normal = are_of_cond t.id (eqb b.normal t.normal || (not (eqb b.pri t.pri) && eqb t.pri t.normal)) (changes.Normal t.id t.normal ∷ []) (refl, tt) in
      let yields = are_of_cond t.id (eqb b.since t.since || not (eqb b.pri t.pri && (is_ready b && is_ready t))) (changes.Yields t.id ∷ []) (refl, tt) in
      are_both t.id (wait_cases results b t b.wait t.wait) (suspension_changes t.id b.suspended t.suspended ++ (priority_changes b t ++ (normal_changes b t ++ yield_changes b t))) (of_wait b t b.wait t.wait)
      (are_both t.id (suspension_changes t.id b.suspended t.suspended) (priority_changes b t ++ (normal_changes b t ++ yield_changes b t)) (of_suspension t.id b.suspended t.suspended)
      (are_both t.id (priority_changes b t) (normal_changes b t ++ yield_changes b t) pri
      (are_both t.id (normal_changes b t) (yield_changes b t) normal yields)))

  of_view : (b : Option TaskView) (t : TaskView) → AreOf t.id (changes_of results b t)
  of_view None t = (refl, of_kept (newborn t) t)
  of_view (Some b) t = of_kept b t

-- ---- a task's own changes
replay_append : (xs ys : List Change) (life : Option Life) → replayed (xs ++ ys) life ≡ replayed ys (replayed xs life)
replay_append [] ys life = refl
replay_append (x ∷ xs) ys life = replay_append xs ys (lives_on x life)

own_sleep : (who : ℕ) (v w : Option ℕ) (l : Life) → replayed (sleep_changes who v w) (Some (record l { wake = v })) ≡ Some (record l { wake = w })
own_sleep who None None l = refl
own_sleep who None (Some w) l = refl
own_sleep who (Some v) None l = refl
own_sleep who (Some v) (Some w) l =
    elim (eqb v w) as (λ b. eqb v w ≡ b → replayed (cond b [] (changes.Sleeps who w ∷ [])) (Some (record l { wake = Some v })) ≡ Some (record l { wake = Some w })) [
      | true ↦ λ e. ap (λ n. Some (record l { wake = Some n })) (eqb-true v w e)
      | false ↦ λ e. refl
    ] refl

own_suspension : (who : ℕ) (v w : Bool) (l : Life) → replayed (suspension_changes who v w) (Some (record l { suspended = v })) ≡ Some (record l { suspended = w })
own_suspension who true true l = refl
own_suspension who false false l = refl
own_suspension who true false l = refl
own_suspension who false true l = refl

alike : (v w : Awaited) → same_awaited v w ≡ true → v ≡ w
alike (awaited.Semaphore a) (awaited.Semaphore b) e = ap (λ n. awaited.Semaphore n) (eqb-true a b e)
alike (awaited.Mutex a) (awaited.Mutex b) e = ap (λ n. awaited.Mutex n) (eqb-true a b e)
alike (awaited.Receiving a) (awaited.Receiving b) e = ap (λ n. awaited.Receiving n) (eqb-true a b e)
alike (awaited.Sending a) (awaited.Sending b) e = ap (λ n. awaited.Sending n) (eqb-true a b e)
alike (awaited.Deletion a) (awaited.Deletion b) e = ap (λ n. awaited.Deletion n) (eqb-true a b e)
alike awaited.Console awaited.Console e = refl
alike v w e = absurd (cc)

alike_ticks : (v w : Option ℕ) → same_tick v w ≡ true → v ≡ w
alike_ticks None None e = refl
alike_ticks (Some a) (Some b) e = ap Some (eqb-true a b e)
alike_ticks None (Some b) e = absurd (cc)
alike_ticks (Some a) None e = absurd (cc)

module _ (results : Bool) (b t : TaskView) where
  own_end : (object : Awaited) (l : Life) → lives_on (ends results t object) (Some l) ≡ Some (record l { wait = None; wake = None })
  own_end object l =
      elim (results && has_result object) as (λ x. lives_on (cond x (cond (eqb t.answer error_word) (changes.Failed t.id object t.errno) (changes.Served t.id object t.answer)) (changes.GoesOn t.id object)) (Some l) ≡ Some (record l { wait = None; wake = None })) [
        | true ↦ (elim (eqb t.answer error_word) as (λ x. lives_on (cond x (changes.Failed t.id object t.errno) (changes.Served t.id object t.answer)) (Some l) ≡ Some (record l { wait = None; wake = None })) [ true ↦ refl | false ↦ refl ])
        | false ↦ refl
      ]

  own_wait : (v w : Option Awaited) (l : Life) → replayed (wait_cases results b t v w) (Some (record l { wait = v; wake = b.wake })) ≡ Some (record l { wait = w; wake = t.wake })
  own_wait None None l = own_sleep t.id b.wake t.wake (record l { wait = None })
  own_wait None (Some w) l = refl
  own_wait (Some v) None l =
      ap (replayed (sleep_changes t.id None t.wake)) (own_end v (record l { wait = Some v; wake = b.wake })) ∙ own_sleep t.id None t.wake (record l { wait = None })
  own_wait (Some v) (Some w) l =
      let before : Life = record l { wait = Some v; wake = b.wake } in
      let after : Life = record l { wait = Some w; wake = t.wake } in
      elim (same_awaited v w && same_tick b.wake t.wake) as (λ x. (same_awaited v w && same_tick b.wake t.wake) ≡ x → replayed (cond x [] (other_wait results t v w)) (Some before) ≡ Some after) [
        | true ↦ λ e. (let both = and_parts (same_awaited v w) (same_tick b.wake t.wake) e in ap₂ (λ o k. Some (record l { wait = Some o; wake = k })) (alike v w both.0) (alike_ticks b.wake t.wake both.1))
        | false ↦ λ e. ap (λ x. replayed (begins t w ∷ []) x) (own_end v before)
      ] refl

  own_priority : (l : Life) → replayed (priority_changes b t ++ normal_changes b t) (Some (record l { pri = b.pri; normal = b.normal })) ≡ Some (record l { pri = t.pri; normal = t.normal })
  own_priority l =
      let set : List Change = changes.Normal t.id t.normal ∷ [] in
      let after : Option Life = Some (record l { pri = t.pri; normal = t.normal }) in
      elim (eqb b.pri t.pri) as (λ p. eqb b.pri t.pri ≡ p → replayed (cond p [] (changes.Priority t.id b.pri t.pri (eqb b.normal t.normal) ∷ []) ++ cond (eqb b.normal t.normal || (not p && eqb t.pri t.normal)) [] set) (Some (record l { pri = b.pri; normal = b.normal })) ≡ after) [
        | true ↦ λ e. (elim (eqb b.normal t.normal) as (λ n. eqb b.normal t.normal ≡ n → replayed (cond (n || (false && eqb t.pri t.normal)) [] set) (Some (record l { pri = b.pri; normal = b.normal })) ≡ after) [
          | true ↦ λ f. ap₂ (λ x y. Some (record l { pri = x; normal = y })) (eqb-true b.pri t.pri e) (eqb-true b.normal t.normal f)
          | false ↦ λ f. ap (λ x. Some (record l { pri = x; normal = t.normal })) (eqb-true b.pri t.pri e)
        ] refl)
        | false ↦ λ e. (elim (eqb b.normal t.normal) as (λ n. eqb b.normal t.normal ≡ n → replayed (changes.Priority t.id b.pri t.pri n ∷ cond (n || (true && eqb t.pri t.normal)) [] set) (Some (record l { pri = b.pri; normal = b.normal })) ≡ after) [
          | true ↦ λ f. ap (λ y. Some (record l { pri = t.pri; normal = y })) (eqb-true b.normal t.normal f)
          | false ↦ λ f. (elim (eqb t.pri t.normal) as (λ q. eqb t.pri t.normal ≡ q → replayed (changes.Priority t.id b.pri t.pri false ∷ cond (false || (true && q)) [] set) (Some (record l { pri = b.pri; normal = b.normal })) ≡ after) [
            | true ↦ λ g. ap (λ y. Some (record l { pri = t.pri; normal = y })) (eqb-true t.pri t.normal g)
            | false ↦ λ g. refl
          ] refl)
        ] refl)
      ] refl

  -- going after others changes nothing of a life
  own_yield : (l : Life) → replayed (yield_changes b t) (Some l) ≡ Some l
  own_yield l =
      elim (eqb b.since t.since || not (eqb b.pri t.pri && (is_ready b && is_ready t))) as (λ x. replayed (cond x [] (changes.Yields t.id ∷ [])) (Some l) ≡ Some l) [ true ↦ refl | false ↦ refl ]

  own_kept : replayed (kept_changes results b t) (Some (life_of b)) ≡ Some (life_of t)
  own_kept =
      let waits = wait_cases results b t b.wait t.wait in
      let suspension = suspension_changes t.id b.suspended t.suspended in
      let priority = priority_changes b t in
      let normal = normal_changes b t in
      let yields = yield_changes b t in
      let rest = priority ++ (normal ++ yields) in
      let waited : Life = record { wait = t.wait; wake = t.wake; suspended = b.suspended; pri = b.pri; normal = b.normal } in
      let resumed : Life = record { wait = t.wait; wake = t.wake; suspended = t.suspended; pri = b.pri; normal = b.normal } in
      replay_append waits (suspension ++ rest) (Some (life_of b))
      ∙ ap (replayed (suspension ++ rest)) (own_wait b.wait t.wait (life_of b))
      ∙ replay_append suspension rest (Some waited)
      ∙ ap (replayed rest) (own_suspension t.id b.suspended t.suspended waited)
      ∙ ap (λ cs. replayed cs (Some resumed)) (sym (append_assoc priority normal yields))
      ∙ replay_append (priority ++ normal) yields (Some resumed)
      ∙ ap (replayed yields) (own_priority resumed)
      ∙ own_yield (life_of t)

-- ---- all tasks
module _ (results : Bool) (who : ℕ) where
  -- the changes that name the task of a view, if there is one
  abbrev of_live : List TaskView → Option TaskView → List Change
  of_live before None = []
  of_live before (Some t) = changes_of results (found before t.id) t

  told_live : (before ts : List TaskView) → AreDistinct ts → changes_naming who (live_changes results before ts) ≡ of_live before (view_of ts who)
  told_live before [] all = refl
  told_live before (t ∷ ts) all =
      let one = changes_of results (found before t.id) t in
      let are = of_view results (found before t.id) t in
      let rest = told_live before ts all.1 in
      told_append who one (live_changes results before ts)
      ∙ elim (eqb t.id who) as (λ b. eqb t.id who ≡ b → changes_naming who one ++ changes_naming who (live_changes results before ts) ≡ of_live before (cond b (Some t) (view_of ts who))) [
        | true ↦ λ e. (
            let same : t.id ≡ who = eqb-true t.id who e in
            let none : view_of ts who ≡ None = subst (λ n. view_of ts n ≡ None) same all.0 in
            ap₂ (λ xs ys. xs ++ ys) (told_own t.id who one are same) (rest ∙ ap (of_live before) none) ∙ append-nil one)
        | false ↦ λ e. ap₂ (λ xs ys. xs ++ ys) (told_other t.id who one are (eqb-false t.id who e)) rest
      ] refl

  of_deletion : (n : ℕ) (view : Option TaskView) → AreOf n (deletion n view)
  of_deletion n None = (refl, tt)
  of_deletion n (Some v) = tt

  abbrev of_gone : List TaskView → Option TaskView → List Change
  of_gone after None = []
  of_gone after (Some b) = deletion b.id (found after b.id)

  told_gone : (after bs : List TaskView) → AreDistinct bs → changes_naming who (deletions after bs) ≡ of_gone after (view_of bs who)
  told_gone after [] all = refl
  told_gone after (b ∷ bs) all =
      let one = deletion b.id (found after b.id) in
      let are = of_deletion b.id (found after b.id) in
      let rest = told_gone after bs all.1 in
      told_append who one (deletions after bs)
      ∙ elim (eqb b.id who) as (λ x. eqb b.id who ≡ x → changes_naming who one ++ changes_naming who (deletions after bs) ≡ of_gone after (cond x (Some b) (view_of bs who))) [
        | true ↦ λ e. (
            let same : b.id ≡ who = eqb-true b.id who e in
            let none : view_of bs who ≡ None = subst (λ n. view_of bs n ≡ None) same all.0 in
            ap₂ (λ xs ys. xs ++ ys) (told_own b.id who one are same) (rest ∙ ap (of_gone after) none) ∙ append-nil one)
        | false ↦ λ e. ap₂ (λ xs ys. xs ++ ys) (told_other b.id who one are (eqb-false b.id who e)) rest
      ] refl

  -- the changes of one task, from its views
  one_task : (before after : List TaskView) (v w : Option TaskView)
      → ((b : TaskView) → v ≡ Some b → found after b.id ≡ w) → ((t : TaskView) → w ≡ Some t → found before t.id ≡ v)
      → replayed (of_live before w ++ of_gone after v) (option_map life_of v) ≡ option_map life_of w
  one_task before after None None gone live = refl
  one_task before after None (Some t) gone live =
      ap (λ o. replayed (changes_of results o t ++ []) None) (live t refl) ∙ ap (λ cs. replayed cs None) (append-nil (changes_of results None t)) ∙ own_kept results (newborn t) t
  one_task before after (Some b) None gone live = ap (λ o. replayed (deletion b.id o) (Some (life_of b))) (gone b refl)
  one_task before after (Some b) (Some t) gone live =
      ap₂ (λ o p. replayed (changes_of results o t ++ deletion b.id p) (Some (life_of b))) (live t refl) (gone b refl)
      ∙ ap (λ cs. replayed cs (Some (life_of b))) (append-nil (kept_changes results b t)) ∙ own_kept results b t

pub replays : ReplayLaw
replays results before after who one other =
    let v = view_of before who in
    let w = view_of after who in
    let life = option_map life_of v in
    ap (λ cs. replayed cs life) (told_append who (live_changes results before after) (deletions after before)
    ∙ ap₂ (λ xs ys. xs ++ ys) (told_live results who before after other) (told_gone results who after before one))
    ∙ one_task results who before after v w
    (λ b e. ap (found after) (found_id task_id before who b e))
    (λ t e. ap (found before) (found_id task_id after who t e))

-- ---- changes of watchdogs and modules
abbrev AreOfNone : List Change → Type 0
AreOfNone [] = Unit {0}
AreOfNone (c ∷ cs) = (task_of c ≡ None) × AreOfNone cs

untold : (who : ℕ) (cs : List Change) → AreOfNone cs → changes_naming who cs ≡ []
untold who [] none = refl
untold who (c ∷ cs) none =
    ap (λ o. cond (is_runner o who) (c ∷ changes_naming who cs) (changes_naming who cs)) none.0 ∙ untold who cs none.1

none_both : (xs ys : List Change) → AreOfNone xs → AreOfNone ys → AreOfNone (xs ++ ys)
none_both [] ys a b = b
none_both (x ∷ xs) ys a b = (a.0, none_both xs ys a.1 b)

none_cond : (t : Bool) (xs : List Change) → AreOfNone xs → AreOfNone (cond t [] xs)
none_cond true xs a = tt
none_cond false xs a = a

none_stop : (tick id : ℕ) (timer : Timer) → task_of (stopped tick id timer) ≡ None
none_stop tick id timer = elim (leb timer.due tick) as (λ b. task_of (cond b (changes.Fired id) (changes.Cancelled id)) ≡ None) [ true ↦ refl | false ↦ refl ]

none_timer : (tick id : ℕ) (v w : Option Timer) → AreOfNone (timer_changes tick id v w)
none_timer tick id None None = tt
none_timer tick id None (Some w) = (refl, tt)
none_timer tick id (Some v) None = (none_stop tick id v, tt)
none_timer tick id (Some v) (Some w) = none_cond (eqb v.start w.start) (changes.Started id w.due ∷ []) (refl, tt)

none_live : (tick : ℕ) (before ws : List WatchdogView) → AreOfNone (live_watchdogs tick before ws)
none_live tick before [] = tt
none_live tick before (w ∷ ws) =
    none_both (timer_changes tick w.id (timer_in before w.id) w.timer) (live_watchdogs tick before ws) (none_timer tick w.id (timer_in before w.id) w.timer) (none_live tick before ws)

none_gone_one : (tick : ℕ) (w : WatchdogView) (view : Option WatchdogView) → AreOfNone (gone_change tick w view)
none_gone_one tick w None = none_timer tick w.id w.timer None
none_gone_one tick w (Some v) = tt

none_gone : (tick : ℕ) (after ws : List WatchdogView) → AreOfNone (gone_changes tick after ws)
none_gone tick after [] = tt
none_gone tick after (w ∷ ws) =
    none_both (gone_change tick w (found_watchdog after w.id)) (gone_changes tick after ws) (none_gone_one tick w (found_watchdog after w.id)) (none_gone tick after ws)

pub watchdogs_untold : (who tick : ℕ) (before after : List WatchdogView) → changes_naming who (watchdog_changes tick before after) ≡ []
watchdogs_untold who tick before after =
    untold who (watchdog_changes tick before after)
    (none_both (live_watchdogs tick before after) (gone_changes tick after before) (none_live tick before after) (none_gone tick after before))

none_loads : (before ids : List ℕ) → AreOfNone (loads before ids)
none_loads before [] = tt
none_loads before (id ∷ ids) =
    none_both (cond (is_in before id) [] (changes.Loaded id ∷ [])) (loads before ids) (none_cond (is_in before id) (changes.Loaded id ∷ []) (refl, tt)) (none_loads before ids)

none_unloads : (after ids : List ℕ) → AreOfNone (unloads after ids)
none_unloads after [] = tt
none_unloads after (id ∷ ids) =
    none_both (cond (is_in after id) [] (changes.Unloaded id ∷ [])) (unloads after ids) (none_cond (is_in after id) (changes.Unloaded id ∷ []) (refl, tt)) (none_unloads after ids)

pub modules_untold : (who : ℕ) (before after : List ℕ) → changes_naming who (module_changes before after) ≡ []
modules_untold who before after =
    untold who (module_changes before after) (none_both (loads before after) (unloads after before) (none_loads before after) (none_unloads after before))
