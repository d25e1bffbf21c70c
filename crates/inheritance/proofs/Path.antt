-- The walk from owner to owner has the same result as raising.
use Rattle.std.proofs.Common.{◌≡◌, ℕ, zero, suc, ◌-◌, ◌+◌, ◌<◌, ◌≤◌, Bool, true, false, cond, ◌&&◌, ◌||◌, eqb, ltb, List, [], ◌∷◌, length, get_or, Option, None, Some, is_some, refl, sym, ap, ◌∙◌, subst, arith, ◌⊎◌, inl, inr, ⊎_elim}
use Rattle.std.proofs.lemmas.Bool.{cases_eq, cases_lt, eq-eqb, ne_eqb, lt-ltb, le-ltb}
use Rattle.std.proofs.lemmas.Option.{same_Some}
use Rattle.id_table.specs.declared.ident.Place.{Place}
use Rattle.wind_base.specs.declared.profile.Profile.TheVariants.{One}
use Rattle.task_block.specs.declared.task.Task.{Task}
use Rattle.task_block.specs.Standing.{is_ready}
use Rattle.wind_core.specs.State.{KernState, IsKern, task_of}
use Rattle.wind_core.specs.Moves.{change_pri}
use Rattle.wind_core.proofs.Ids.{ids}
use Rattle.inheritance.specs.declared.mutex.Mutex.{Mutex}
use Rattle.inheritance.specs.Reach.{boss, live_one, wait_of, owner_at, pri_of, pri_in, is_on, path, lifted, repried, raised_kern, heir, heir_of}
use Rattle.inheritance.specs.Laws.{GoodBut, OwnersUrgentBut}
use Rattle.inheritance.proofs.Lookups.{live_is, on_ids, place_on, each_lives}
use Rattle.inheritance.proofs.Walk.{path_cases, on_here, on_later, prefix, prefix_cases, prefix_step, from_prefix, walk_law}
use Rattle.inheritance.proofs.Raising.{boss-alike, boss_lives}
use Rattle.inheritance.proofs.Same.{urgent_but}
use Rattle.inheritance.proofs.Inheriting.{inherited, waits_on, pri_on, none_on, alike_on, again, untouched, one_more}

-- ---- the walk
-- each heir in turn, at most n of them, gets priority p
abbrev pub walked : List (ℕ × Mutex) → ℕ → ℕ → KernState → ℕ → KernState
walked ms p zero r at = r
walked ms p (suc n) r at = elim (heir r.tasks ms p at) [ None ↦ r | Some x ↦ walked ms p n (change_pri r x p) x ]

left : (n i : ℕ) → i < n → n - i ≡ suc (n - (i + 1))
left n i h = omega arith

pub walk_ends : (ms : List (ℕ × Mutex)) (p n i : ℕ) (r : KernState) (at : ℕ) → i < n → heir r.tasks ms p at ≡ None → walked ms p (n - i) r at ≡ r
walk_ends ms p n i r at h e = ap (λ m. walked ms p m r at) (left n i h) ∙ ap (λ o. elim o [ None ↦ r | Some x ↦ walked ms p (n - (i + 1)) (change_pri r x p) x ]) e

pub walk_goes_on : (ms : List (ℕ × Mutex)) (p n i : ℕ) (r : KernState) (at x : ℕ) → i < n → heir r.tasks ms p at ≡ Some x → walked ms p (n - i) r at ≡ walked ms p (n - (i + 1)) (change_pri r x p) x
walk_goes_on ms p n i r at x h e = ap (λ m. walked ms p m r at) (left n i h) ∙ ap (λ o. elim o [ None ↦ r | Some y ↦ walked ms p (n - (i + 1)) (change_pri r y p) y ]) e

-- ---- the end of a path
abbrev end_of : (ℕ → Option ℕ) → ℕ → ℕ → ℕ
end_of up zero y = y
end_of up (suc n) y = elim (up y) [ None ↦ y | Some x ↦ end_of up n x ]

-- only the end of a path waits for no task
only_end : (up : ℕ → Option ℕ) (n y x : ℕ) → is_on (path up n y) x ≡ true → up x ≡ None → x ≡ end_of up n y
only_end up zero y x h e = absurd (cc)
only_end up (suc n) y x h e =
    let s = path_cases up n y x h in
    ⊎_elim (λ (q : s.0 ≡ x). sym q ∙ ended n s.0 (ap up q ∙ e)) (λ (r : is_on (path up n s.0) x ≡ true). only_end up n s.0 x r e) s.2
    ∙ sym (ap (λ o. elim o [ None ↦ y | Some v ↦ end_of up n v ]) s.1)
  where
    ended : (m v : ℕ) → up v ≡ None → v ≡ end_of up m v
    ended zero v q = refl
    ended (suc m) v q = sym (ap (λ o. elim o [ None ↦ v | Some u ↦ end_of up m u ]) q)

-- a ready task waits for no task
ready_free : (ts : List Task) (ms : List (ℕ × Mutex)) (x : ℕ) (t : Task) → task_of ts x ≡ Some t → is_ready t ≡ true → boss ts ms x ≡ None
ready_free ts ms x t e ready = ap (λ o. live_one ts (owner_at ms (wait_of o))) e ∙ ap (λ w. live_one ts (owner_at ms w)) (free t.wait ready)
  where
    free : (w : Option Place) → is_ready (record t { wait = w }) ≡ true → w ≡ None
    free None h = refl
    free (Some v) h = absurd (cc)

-- ---- of tests
or_none : (b : Bool) → (b || false) ≡ b
or_none true = refl
or_none false = refl

or_all : (b : Bool) → (b || true) ≡ true
or_all true = refl
or_all false = refl

and_none : (b : Bool) → (b && false) ≡ false
and_none true = refl
and_none false = refl

and_true : (b : Bool) → (b && true) ≡ b
and_true true = refl
and_true false = refl

or_within : (b c : Bool) → (c ≡ true → b ≡ true) → (b || c) ≡ b
or_within true c h = refl
or_within false true h = sym (h refl)
or_within false false h = refl

or_true : (b c : Bool) → (b ≡ true) ⊎ (c ≡ true) → (b || c) ≡ true
or_true true c h = refl
or_true false c h = ⊎_elim (λ (e : false ≡ true). absurd (cc)) (λ (e : c ≡ true). e) h

or_right : (b c : Bool) → b ≡ false → (b || c) ≡ true → c ≡ true
or_right b c e h = sym (ap (λ d. d || c) e) ∙ h

or_moved : (b c d : Bool) → ((b || c) || d) ≡ (c || (b || d))
or_moved true c d = sym (or_all c)
or_moved false c d = refl

eqb_sym : (x y : ℕ) → eqb x y ≡ eqb y x
eqb_sym x y = ⊎_elim (λ (e : x ≡ y). eq-eqb x y e ∙ sym (eq-eqb y x (sym e))) (λ (ne : x ≡ y → ⊥). ne_eqb x y ne ∙ sym (ne_eqb y x (λ e. ne (sym e)))) (cases_eq x y)

-- ---- each owner is as urgent as its waiters, except w
module _ (k : KernState) (ms : List (ℕ × Mutex)) (w : ℕ) (is : IsKern k) (lives : is_some (task_of k.tasks w) ≡ true) (urgent : OwnersUrgentBut w ms k.tasks) where
  abbrev up : ℕ → Option ℕ
  up = boss k.tasks ms

  abbrev pri : ℕ → ℕ
  pri = pri_of k.tasks

  good : GoodBut up pri w
  good = urgent_but w k.tasks ms urgent

  abbrev prefixes : ℕ → ℕ → List ℕ
  prefixes n y = prefix up pri w good n y

  -- the tasks that pass the test have the priority of w
  abbrev with_heirs : (ℕ → Bool) → KernState
  with_heirs on = inherited k (pri w) (end_of up 256 w) on

  goes : (on : ℕ → Bool) (x : ℕ) (t : Task) → task_of k.tasks x ≡ Some t → is_on (prefixes 256 w) x ≡ true → on x ≡ false → change_pri (with_heirs on) x (pri w) ≡ with_heirs (λ y. eqb y x || on y)
  goes on x t e f off =
      let s = from_prefix up pri w good 256 w x f in
      one_more k (pri w) (end_of up 256 w) is on x t e off (λ ready. only_end up 256 w x s.0 (ready_free k.tasks ms x t e ready)) (λ q. let own : pri x ≡ t.pri = ap pri_in e in let less = s.1 in omega arith)

  bosses_on : (on : ℕ → Bool) (y : ℕ) → boss (with_heirs on).tasks ms y ≡ up y
  bosses_on on y = boss-alike k.tasks (with_heirs on).tasks ms (waits_on k (pri w) (end_of up 256 w) on) y

  heir_on : (on : ℕ → Bool) (y : ℕ) → heir (with_heirs on).tasks ms (pri w) y ≡ heir_of (with_heirs on).tasks (pri w) (up y)
  heir_on on y = ap (heir_of (with_heirs on).tasks (pri w)) (bosses_on on y)

  -- the tasks that have it wait only for tasks that have it, except the last of them
  abbrev IsClosed : (ℕ → Bool) → ℕ → Type 0
  IsClosed on at = (y x : ℕ) → on y ≡ true → (y ≡ at → ⊥) → up y ≡ Some x → on x ≡ true

  -- so all tasks that they reach have it, once the last one's owner has it
  closed_path : (on : ℕ → Bool) → ((y x : ℕ) → on y ≡ true → up y ≡ Some x → on x ≡ true) → (n y x : ℕ) → on y ≡ true → is_on (path up n y) x ≡ true → on x ≡ true
  closed_path on closed zero y x h r = absurd (cc)
  closed_path on closed (suc n) y x h r =
      let s = path_cases up n y x r in
      let next = closed y s.0 h s.1 in
      ⊎_elim (λ (e : s.0 ≡ x). subst (λ v. on v ≡ true) e next) (λ (q : is_on (path up n s.0) x ≡ true). closed_path on closed n s.0 x next q) s.2

  -- from `at` on, the owners before the first that is at least as urgent get it too
  abbrev IsWalk : ℕ → Type 0
  IsWalk n = (at : ℕ) (on : ℕ → Bool) → IsClosed on at → ((x : ℕ) → is_on (prefixes n at) x ≡ true → is_on (prefixes 256 w) x ≡ true)
      → walked ms (pri w) n (with_heirs on) at ≡ with_heirs (λ x. on x || is_on (prefixes n at) x)

  -- one step, if the rest of the walk does so
  module _ (n at : ℕ) (on : ℕ → Bool) (closed : IsClosed on at) (within : (x : ℕ) → is_on (prefixes (suc n) at) x ≡ true → is_on (prefixes 256 w) x ≡ true) (rest : IsWalk n) where
    abbrev goes_to : Option ℕ → KernState
    goes_to o = elim o [ None ↦ with_heirs on | Some x ↦ walked ms (pri w) n (change_pri (with_heirs on) x (pri w)) x ]

    abbrev wanted : KernState
    wanted = with_heirs (λ y. on y || is_on (prefixes (suc n) at) y)

    stays : ((y : ℕ) → is_on (prefixes (suc n) at) y ≡ true → on y ≡ true) → with_heirs on ≡ wanted
    stays h = alike_on k (pri w) (end_of up 256 w) on (λ y. on y || is_on (prefixes (suc n) at) y) (λ y l. sym (or_within (on y) (is_on (prefixes (suc n) at) y) (h y)))

    module _ (x : ℕ) (e : up at ≡ Some x) where
      further : pri w < pri x → on x ≡ false → goes_to (Some x) ≡ wanted
      further less off =
          let t = live_is (task_of k.tasks x) (boss_lives k.tasks ms at x e).1 in
          let here : is_on (prefixes 256 w) x ≡ true = within x (prefix_step up pri w good n at x x e less ∙ on_here x (prefixes n x)) in
          ap (λ r. walked ms (pri w) n r x) (goes on x t.0 t.1 here off)
          ∙ rest x (λ y. eqb y x || on y)
          (λ y v h other q. or_true (eqb v x) (on v) (⊎_elim
          (λ (same : y ≡ at). inl (eq-eqb v x (same_Some v x (sym q ∙ ap up same ∙ e))))
          (λ (not : y ≡ at → ⊥). inr (closed y v (or_right (eqb y x) (on y) (ne_eqb y x other) h) not q))
          (cases_eq y at)))
          (λ v h. within v (prefix_step up pri w good n at x v e less ∙ on_later x v (prefixes n x) h))
          ∙ alike_on k (pri w) (end_of up 256 w) (λ y. (eqb y x || on y) || is_on (prefixes n x) y) (λ y. on y || is_on (prefixes (suc n) at) y)
          (λ y l. or_moved (eqb y x) (on y) (is_on (prefixes n x) y) ∙ ap (λ b. on y || (b || is_on (prefixes n x) y)) (eqb_sym y x) ∙ sym (ap (λ b. on y || b) (prefix_step up pri w good n at x y e less)))

      -- a cycle
      met_again : on x ≡ true → with_heirs on ≡ wanted
      met_again q =
          let all : (u v : ℕ) → on u ≡ true → up u ≡ Some v → on v ≡ true = λ u v r f. ⊎_elim
          (λ (here : u ≡ at). subst (λ i. on i ≡ true) (same_Some x v (sym e ∙ ap up (sym here) ∙ f)) q)
          (λ (not : u ≡ at → ⊥). closed u v r not f)
          (cases_eq u at) in
          stays (λ y h.
          let s = prefix_cases up pri w good n at y h in
          let same : s.0 ≡ x = same_Some s.0 x (sym s.1 ∙ e) in
          ⊎_elim
          (λ (f : s.0 ≡ y). subst (λ v. on v ≡ true) (sym same ∙ f) q)
          (λ (f : is_on (prefixes n s.0) y ≡ true). closed_path on all n s.0 y (subst (λ v. on v ≡ true) (sym same) q) (from_prefix up pri w good n s.0 y f).0)
          s.3)

      as_urgent : pri x ≤ pri w → with_heirs on ≡ wanted
      as_urgent enough = stays (λ y h.
          let s = prefix_cases up pri w good n at y h in
          let same : pri s.0 ≡ pri x = ap pri (same_Some s.0 x (sym s.1 ∙ e)) in
          let less = s.2 in
          absurd (omega (arith, same, less, enough)))

      some_boss : goes_to (heir_of (with_heirs on).tasks (pri w) (Some x)) ≡ wanted
      some_boss =
          let t = live_is (task_of k.tasks x) (boss_lives k.tasks ms at x e).1 in
          let own : pri x ≡ t.0.pri = ap pri_in t.1 in
          ap (λ q. goes_to (cond (ltb (pri w) q) (Some x) None)) (pri_on k (pri w) (end_of up 256 w) on x t.0 t.1)
          ∙ elim (on x) as (λ b. on x ≡ b → goes_to (cond (ltb (pri w) (cond b (pri w) t.0.pri)) (Some x) None) ≡ wanted) [
            | true ↦ λ q. ap (λ b. goes_to (cond b (Some x) None)) (le-ltb (pri w) (pri w) (omega arith)) ∙ met_again q
            | false ↦ λ q. ⊎_elim
                (λ (less : pri w < t.0.pri). ap (λ b. goes_to (cond b (Some x) None)) (lt-ltb (pri w) t.0.pri less) ∙ further (omega (arith, own, less)) q)
                (λ (enough : t.0.pri ≤ pri w). ap (λ b. goes_to (cond b (Some x) None)) (le-ltb (pri w) t.0.pri enough) ∙ as_urgent (omega (arith, own, enough)))
                (cases_lt (pri w) t.0.pri)
          ] refl

    step : (o : Option ℕ) → up at ≡ o → goes_to (heir_of (with_heirs on).tasks (pri w) o) ≡ wanted
    step None e = stays (λ y h. let s = prefix_cases up pri w good n at y h in let no : None ≡ Some s.0 = sym e ∙ s.1 in absurd (cc))
    step (Some x) e = some_boss x e

  walk_is : (n : ℕ) → IsWalk n
  walk_is zero = λ at on closed within. alike_on k (pri w) (end_of up 256 w) on (λ x. on x || false) (λ x l. sym (or_none (on x)))
  walk_is (suc n) = λ at on closed within.
      ap (goes_to n at on closed within (walk_is n)) (heir_on on at) ∙ step n at on closed within (walk_is n) (up at) refl

  -- ---- the same by a scan of all tasks
  goal_is : (x : ℕ) → lifted One k ms x ≡ cond (is_on (prefixes 256 w) x) (pri w) (pri x)
  goal_is x = walk_law up pri w 256 (ids k.tasks) good (place_on (ids k.tasks) w (on_ids k.tasks w lives)) x

  pass_is : (us : List Task) (on : ℕ → Bool) → ((i : ℕ) (d : Task) → i < length us → is_some (task_of k.tasks (get_or us i d).id) ≡ true) → ((x : ℕ) → on x ≡ true → is_on (prefixes 256 w) x ≡ true)
      → repried (with_heirs on) (lifted One k ms) us ≡ with_heirs (λ x. on x || (is_on (prefixes 256 w) x && is_on (ids us) x))
  pass_is [] on live within = alike_on k (pri w) (end_of up 256 w) on (λ x. on x || (is_on (prefixes 256 w) x && false)) (λ x l. sym (ap (λ b. on x || b) (and_none (is_on (prefixes 256 w) x)) ∙ or_none (on x)))
  pass_is (u ∷ us) on live within =
      let t = live_is (task_of k.tasks u.id) (live 0 u (omega arith)) in
      let later : (i : ℕ) (d : Task) → i < length us → is_some (task_of k.tasks (get_or us i d).id) ≡ true = λ i d hi. live (suc i) d (omega arith) in
      ap (λ g. repried (change_pri (with_heirs on) u.id g) (lifted One k ms) us) (goal_is u.id)
      ∙ elim (is_on (prefixes 256 w) u.id) as (λ b. is_on (prefixes 256 w) u.id ≡ b → repried (change_pri (with_heirs on) u.id (cond b (pri w) (pri u.id))) (lifted One k ms) us ≡ with_heirs (λ x. on x || (is_on (prefixes 256 w) x && is_on (ids (u ∷ us)) x))) [
        | true ↦ λ f. elim (on u.id) as (λ b. on u.id ≡ b → repried (change_pri (with_heirs on) u.id (pri w)) (lifted One k ms) us ≡ with_heirs (λ x. on x || (is_on (prefixes 256 w) x && is_on (ids (u ∷ us)) x))) [
          | true ↦ λ q.
              ap (λ r. repried r (lifted One k ms) us) (again k (pri w) (end_of up 256 w) on u.id t.0 t.1 q)
              ∙ pass_is us on later within
              ∙ alike_on k (pri w) (end_of up 256 w) (λ x. on x || (is_on (prefixes 256 w) x && is_on (ids us) x)) (λ x. on x || (is_on (prefixes 256 w) x && is_on (ids (u ∷ us)) x))
              (λ x l. ⊎_elim
              (λ (same : u.id ≡ x). let yes : on x ≡ true = ap on (sym same) ∙ q in ap (λ b. b || (is_on (prefixes 256 w) x && is_on (ids us) x)) yes ∙ sym (ap (λ b. b || (is_on (prefixes 256 w) x && is_on (ids (u ∷ us)) x)) yes))
              (λ (other : u.id ≡ x → ⊥). sym (ap (λ b. on x || (is_on (prefixes 256 w) x && (b || is_on (ids us) x))) (ne_eqb u.id x other)))
              (cases_eq u.id x))
          | false ↦ λ q.
              let next : ℕ → Bool = λ y. eqb y u.id || on y in
              ap (λ r. repried r (lifted One k ms) us) (goes on u.id t.0 t.1 f q)
              ∙ pass_is us next later (λ x h. ⊎_elim
              (λ (same : x ≡ u.id). ap (is_on (prefixes 256 w)) same ∙ f)
              (λ (other : x ≡ u.id → ⊥). within x (or_right (eqb x u.id) (on x) (ne_eqb x u.id other) h))
              (cases_eq x u.id))
              ∙ alike_on k (pri w) (end_of up 256 w) (λ x. (eqb x u.id || on x) || (is_on (prefixes 256 w) x && is_on (ids us) x)) (λ x. on x || (is_on (prefixes 256 w) x && is_on (ids (u ∷ us)) x))
              (λ x l. ⊎_elim
              (λ (same : u.id ≡ x).
              let yes : is_on (prefixes 256 w) x ≡ true = ap (is_on (prefixes 256 w)) (sym same) ∙ f in
              ap (λ b. (b || on x) || (is_on (prefixes 256 w) x && is_on (ids us) x)) (eq-eqb x u.id (sym same))
              ∙ sym (ap (λ b. on x || (b && is_on (ids (u ∷ us)) x)) yes ∙ ap (λ b. on x || (b || is_on (ids us) x)) (eq-eqb u.id x same) ∙ or_all (on x)))
              (λ (other : u.id ≡ x → ⊥).
              ap (λ b. (b || on x) || (is_on (prefixes 256 w) x && is_on (ids us) x)) (ne_eqb x u.id (λ e. other (sym e)))
              ∙ sym (ap (λ b. on x || (is_on (prefixes 256 w) x && (b || is_on (ids us) x))) (ne_eqb u.id x other)))
              (cases_eq u.id x))
        ] refl
        | false ↦ λ f.
            let off : on u.id ≡ false = not_on (on u.id) (λ h. let no : true ≡ false = sym (within u.id h) ∙ f in absurd (cc)) in
            ap (λ r. repried r (lifted One k ms) us) (untouched k (pri w) (end_of up 256 w) on u.id t.0 t.1 off)
            ∙ pass_is us on later within
            ∙ alike_on k (pri w) (end_of up 256 w) (λ x. on x || (is_on (prefixes 256 w) x && is_on (ids us) x)) (λ x. on x || (is_on (prefixes 256 w) x && is_on (ids (u ∷ us)) x))
            (λ x l. ⊎_elim
            (λ (same : u.id ≡ x). let no : is_on (prefixes 256 w) x ≡ false = ap (is_on (prefixes 256 w)) (sym same) ∙ f in ap (λ b. on x || (b && is_on (ids us) x)) no ∙ sym (ap (λ b. on x || (b && is_on (ids (u ∷ us)) x)) no))
            (λ (other : u.id ≡ x → ⊥). sym (ap (λ b. on x || (is_on (prefixes 256 w) x && (b || is_on (ids us) x))) (ne_eqb u.id x other)))
            (cases_eq u.id x))
      ] refl
    where
      not_on : (b : Bool) → (b ≡ true → ⊥) → b ≡ false
      not_on true h = absurd (h refl)
      not_on false h = refl

  pub walk_raises : walked ms (pri w) 256 k w ≡ raised_kern One k ms
  walk_raises =
      ap (λ r. walked ms (pri w) 256 r w) (sym (none_on k (pri w) (end_of up 256 w)))
      ∙ walk_is 256 w (λ _. false) (λ y x h other q. absurd (cc)) (λ x h. h)
      ∙ sym (ap (λ r. repried r (lifted One k ms) k.tasks) (sym (none_on k (pri w) (end_of up 256 w)))
      ∙ pass_is k.tasks (λ _. false) (each_lives k.tasks) (λ x h. absurd (cc))
      ∙ alike_on k (pri w) (end_of up 256 w) (λ x. false || (is_on (prefixes 256 w) x && is_on (ids k.tasks) x)) (λ x. false || is_on (prefixes 256 w) x)
      (λ x l. ap (λ b. is_on (prefixes 256 w) x && b) (on_ids k.tasks x l) ∙ and_true (is_on (prefixes 256 w) x)))
