-- The result of raising: which task waits for which, and each task's priority.
use Rattle.std.proofs.Common.{◌≡◌, ℕ, suc, ◌+◌, ◌<◌, ◌≤◌, Bool, true, false, cond, ◌||◌, eqb, List, [], ◌∷◌, length, get_or, Option, None, Some, is_some, refl, sym, ap, ◌∙◌, subst, arith, ⊎_elim}
use mathlib.Core.Path.{fun_ext}
use Rattle.std.specs.Option.{option_map}
use Rattle.std.proofs.lemmas.Bool.{cases_eq, ne_eqb, eq-eqb, eqb-true}
use Rattle.std.proofs.lemmas.Option.{same_Some}
use Rattle.std.proofs.lemmas.List.{length-map}
use Rattle.wind_base.specs.declared.profile.Profile.{Profile}
use Rattle.task_block.specs.declared.task.Task.{Task}
use Rattle.task_block.specs.Standing.{is_ready}
use Rattle.id_table.proofs.Records.{found_id}
use Rattle.wind_core.specs.State.{KernState, task_id, task_of}
use Rattle.wind_core.specs.Moves.{change_pri, move_found, has_pri, settled, renewed, with_pri}
use Rattle.wind_core.proofs.Ids.{ids, ids-change}
use Rattle.inheritance.specs.declared.mutex.Mutex.{Mutex}
use Rattle.inheritance.specs.Reach.{boss, live_one, wait_of, owner_at, pri_of, pri_in, lent_pri, is_on, lifted, repried, raised_kern}
use Rattle.inheritance.specs.Laws.{StaysIn}
use Rattle.inheritance.proofs.Lookups.{live_is, on_ids, place_on, each_lives}
use Rattle.inheritance.proofs.Long.{owner_law}
use Rattle.wind_core.proofs.Unwritten.{task_of-change}

-- ---- a change of a priority changes no wait and no other priority
pub repri-id : (n pri : ℕ) (t : Task) → (settled n (with_pri pri t)).id ≡ t.id
repri-id n pri t = elim (is_ready (with_pri pri t)) as (λ b. (cond b (renewed n (with_pri pri t)) (with_pri pri t)).id ≡ t.id) [ true ↦ refl | false ↦ refl ]

pub repri-wait : (n pri : ℕ) (t : Task) → (settled n (with_pri pri t)).wait ≡ t.wait
repri-wait n pri t = elim (is_ready (with_pri pri t)) as (λ b. (cond b (renewed n (with_pri pri t)) (with_pri pri t)).wait ≡ t.wait) [ true ↦ refl | false ↦ refl ]

pub repri-pri : (n pri : ℕ) (t : Task) → (settled n (with_pri pri t)).pri ≡ pri
repri-pri n pri t = elim (is_ready (with_pri pri t)) as (λ b. (cond b (renewed n (with_pri pri t)) (with_pri pri t)).pri ≡ pri) [ true ↦ refl | false ↦ refl ]

-- the tasks after one change of a priority
pub record Repried (r n : KernState) (id pri : ℕ) : Type 0 where
  pub alike : ids n.tasks ≡ ids r.tasks
  pub waits : (y : ℕ) → option_map (λ t. t.wait) (task_of n.tasks y) ≡ option_map (λ t. t.wait) (task_of r.tasks y)
  pub pris : (y : ℕ) → pri_of n.tasks y ≡ cond (eqb y id) pri (pri_of r.tasks y)

kept_pri : (r : KernState) (id pri : ℕ) (t : Task) → task_of r.tasks id ≡ Some t → eqb t.pri pri ≡ true → Repried r r id pri
kept_pri r id pri t e same = record {
  alike = refl;
  waits = λ y. refl;
  pris = λ y. elim (eqb y id) as (λ b. eqb y id ≡ b → pri_of r.tasks y ≡ cond b pri (pri_of r.tasks y)) [
    | true ↦ λ q. ap (pri_of r.tasks) (eqb-true y id q) ∙ ap pri_in e ∙ eqb-true t.pri pri same
    | false ↦ λ q. refl
  ] refl;
}

moved_pri : (r : KernState) (id pri : ℕ) (t : Task) → task_of r.tasks id ≡ Some t → Repried r (move_found r id (with_pri pri) (Some t)) id pri
moved_pri r id pri t e =
    let g : Task → Task = λ u. cond (eqb u.id id) (settled r.next_since (with_pri pri u)) u in
    record {
      alike = ids-change r.tasks id (λ u. settled r.next_since (with_pri pri u)) (repri-id r.next_since pri);
      waits = λ y. ap (option_map (λ u. u.wait)) (task_of-change r.tasks id y (λ u. settled r.next_since (with_pri pri u)) (repri-id r.next_since pri))
          ∙ elim (task_of r.tasks y) as (λ o. option_map (λ u. u.wait) (option_map g o) ≡ option_map (λ u. u.wait) o) [
            | None ↦ refl
            | Some u ↦ elim (eqb u.id id) as (λ b. Some ((cond b (settled r.next_since (with_pri pri u)) u).wait) ≡ Some u.wait) [ true ↦ ap (λ w. Some w) (repri-wait r.next_since pri u) | false ↦ refl ]
          ];
      pris = λ y. ap pri_in (task_of-change r.tasks id y (λ u. settled r.next_since (with_pri pri u)) (repri-id r.next_since pri))
          ∙ elim (task_of r.tasks y) as (λ o. task_of r.tasks y ≡ o → pri_in (option_map g o) ≡ cond (eqb y id) pri (pri_in o)) [
            | None ↦ λ q. elim (eqb y id) as (λ b. eqb y id ≡ b → 256 ≡ cond b pri 256) [ true ↦ λ b. let same : task_of r.tasks id ≡ None = ap (task_of r.tasks) (sym (eqb-true y id b)) ∙ q in absurd (cc) | false ↦ λ b. refl ] refl
            | Some u ↦ λ q.
                ap (λ n. (cond (eqb n id) (settled r.next_since (with_pri pri u)) u).pri) (found_id task_id r.tasks y u q)
                ∙ elim (eqb y id) as (λ b. (cond b (settled r.next_since (with_pri pri u)) u).pri ≡ cond b pri u.pri) [ true ↦ repri-pri r.next_since pri u | false ↦ refl ]
          ] refl;
    }

pub repries : (r : KernState) (id pri : ℕ) (t : Task) → task_of r.tasks id ≡ Some t → Repried r (change_pri r id pri) id pri
repries r id pri t e =
    subst (λ o. Repried r (cond (has_pri pri o) r (move_found r id (with_pri pri) o)) id pri) (sym e) (
    elim (eqb t.pri pri) as (λ b. eqb t.pri pri ≡ b → Repried r (cond b r (move_found r id (with_pri pri) (Some t))) id pri) [
      | true ↦ λ b. kept_pri r id pri t e b
      | false ↦ λ b. moved_pri r id pri t e
    ] refl)

-- at most one order number is given
pub since-change_pri : (r : KernState) (who pri : ℕ) → (change_pri r who pri).next_since ≤ r.next_since + 1
since-change_pri r who pri =
    elim (has_pri pri (task_of r.tasks who)) as (λ b. (cond b r (move_found r who (with_pri pri) (task_of r.tasks who))).next_since ≤ r.next_since + 1) [
      | true ↦ omega arith
      | false ↦
          elim (task_of r.tasks who) as (λ o. (move_found r who (with_pri pri) o).next_since ≤ r.next_since + 1) [
            | None ↦ omega arith
            | Some t ↦ elim (is_ready (with_pri pri t)) as (λ b. r.next_since + cond b 1 0 ≤ r.next_since + 1) [ true ↦ omega arith | false ↦ omega arith ]
          ]
    ]

-- ---- all are changed in turn
pub record RaisedTo (r n : KernState) (goal : ℕ → ℕ) (some : List ℕ) : Type 0 where
  pub alike : ids n.tasks ≡ ids r.tasks
  pub waits : (y : ℕ) → option_map (λ t. t.wait) (task_of n.tasks y) ≡ option_map (λ t. t.wait) (task_of r.tasks y)
  pub pris : (y : ℕ) → pri_of n.tasks y ≡ cond (is_on some y) (goal y) (pri_of r.tasks y)

lives : (r n : KernState) → ((y : ℕ) → option_map (λ t. t.wait) (task_of n.tasks y) ≡ option_map (λ t. t.wait) (task_of r.tasks y)) → (y : ℕ) → is_some (task_of r.tasks y) ≡ true → is_some (task_of n.tasks y) ≡ true
lives r n h y live = alike (task_of r.tasks y) (task_of n.tasks y) (h y) live
  where
    alike : (o p : Option Task) → option_map (λ t. t.wait) p ≡ option_map (λ t. t.wait) o → is_some o ≡ true → is_some p ≡ true
    alike None p e l = absurd (cc)
    alike (Some t) None e l = absurd (cc)
    alike (Some t) (Some u) e l = refl

pub raise_all : (goal : ℕ → ℕ) (us : List Task) (r : KernState) → ((k : ℕ) (d : Task) → k < length us → is_some (task_of r.tasks (get_or us k d).id) ≡ true)
    → RaisedTo r (repried r goal us) goal (ids us)
raise_all goal [] r live = record { alike = refl; waits = λ y. refl; pris = λ y. refl }
raise_all goal (u ∷ us) r live =
    let t = live_is (task_of r.tasks u.id) (live 0 u (omega arith)) in
    let one = repries r u.id (goal u.id) t.0 t.1 in
    let n : KernState = change_pri r u.id (goal u.id) in
    let rest = raise_all goal us n (λ k d hk. lives r n one.waits (get_or us k d).id (live (suc k) d (omega arith))) in
    record {
      alike = rest.alike ∙ one.alike;
      waits = λ y. rest.waits y ∙ one.waits y;
      pris = λ y. rest.pris y ∙ ap (cond (is_on (ids us) y) (goal y)) (one.pris y) ∙ joined y (is_on (ids us) y);
    }
  where
    joined : (y : ℕ) (b : Bool) → cond b (goal y) (cond (eqb y u.id) (goal u.id) (pri_of r.tasks y)) ≡ cond (eqb u.id y || b) (goal y) (pri_of r.tasks y)
    joined y b = ⊎_elim
        (λ (e : y ≡ u.id).
        ap (λ c. cond b (goal y) (cond c (goal u.id) (pri_of r.tasks y))) (eq-eqb y u.id e)
        ∙ elim b as (λ d. cond d (goal y) (goal u.id) ≡ goal y) [ true ↦ refl | false ↦ ap goal (sym e) ]
        ∙ ap (λ c. cond (c || b) (goal y) (pri_of r.tasks y)) (sym (eq-eqb u.id y (sym e))))
        (λ (ne : y ≡ u.id → ⊥).
        ap (λ c. cond b (goal y) (cond c (goal u.id) (pri_of r.tasks y))) (ne_eqb y u.id ne)
        ∙ ap (λ c. cond (c || b) (goal y) (pri_of r.tasks y)) (sym (ne_eqb u.id y (λ e. ne (sym e)))))
        (cases_eq y u.id)

-- each live task has its most urgent priority, and waits as before
pub raised_to : (p : Profile) (k : KernState) (ms : List (ℕ × Mutex)) → RaisedTo k (raised_kern p k ms) (lifted p k ms) (ids k.tasks)
raised_to p k ms = raise_all (lifted p k ms) k.tasks k (each_lives k.tasks)

-- ---- which task waits for which stays
pub boss-alike : (ts us : List Task) (ms : List (ℕ × Mutex)) → ((y : ℕ) → option_map (λ t. t.wait) (task_of us y) ≡ option_map (λ t. t.wait) (task_of ts y)) → (y : ℕ) → boss us ms y ≡ boss ts ms y
boss-alike ts us ms h y = one_alike (owner_at ms (wait_of (task_of us y))) ∙ ap (λ w. live_one ts (owner_at ms w)) (wait_alike (task_of ts y) (task_of us y) (h y))
  where
    some_alike : (o p : Option Task) → option_map (λ t. t.wait) p ≡ option_map (λ t. t.wait) o → is_some p ≡ is_some o
    some_alike None None e = refl
    some_alike None (Some u) e = absurd (cc)
    some_alike (Some t) None e = absurd (cc)
    some_alike (Some t) (Some u) e = refl

    wait_alike : (o p : Option Task) → option_map (λ t. t.wait) p ≡ option_map (λ t. t.wait) o → wait_of p ≡ wait_of o
    wait_alike None None e = refl
    wait_alike None (Some u) e = absurd (cc)
    wait_alike (Some t) None e = absurd (cc)
    wait_alike (Some t) (Some u) e = same_Some u.wait t.wait e

    one_alike : (o : Option ℕ) → live_one us o ≡ live_one ts o
    one_alike None = refl
    one_alike (Some id) = ap (λ b. cond b (Some id) None) (some_alike (task_of ts id) (task_of us id) (h id))

pub bosses : (r n : KernState) (goal : ℕ → ℕ) (some : List ℕ) (ms : List (ℕ × Mutex)) → RaisedTo r n goal some → boss n.tasks ms ≡ boss r.tasks ms
bosses r n goal some ms to = fun_ext (boss-alike r.tasks n.tasks ms to.waits)

-- ---- a boss and its waiter are live
pub boss_lives : (ts : List Task) (ms : List (ℕ × Mutex)) (y x : ℕ) → boss ts ms y ≡ Some x → (is_some (task_of ts y) ≡ true) × (is_some (task_of ts x) ≡ true)
boss_lives ts ms y x e = (waits (task_of ts y) e, of_owner (owner_at ms (wait_of (task_of ts y))) e)
  where
    of_owner : (o : Option ℕ) → live_one ts o ≡ Some x → is_some (task_of ts x) ≡ true
    of_owner None q = absurd (cc)
    of_owner (Some id) q =
        elim (is_some (task_of ts id)) as (λ b. is_some (task_of ts id) ≡ b → cond b (Some id) None ≡ Some x → is_some (task_of ts x) ≡ true) [
          | true ↦ λ l r. subst (λ i. is_some (task_of ts i) ≡ true) (same_Some id x r) l
          | false ↦ λ l r. absurd (cc)
        ] refl q

    waits : (o : Option Task) → live_one ts (owner_at ms (wait_of o)) ≡ Some x → is_some o ≡ true
    waits None q = absurd (cc)
    waits (Some t) q = refl

pub stays : (ts : List Task) (ms : List (ℕ × Mutex)) → StaysIn (boss ts ms) (ids ts)
stays ts ms y x e = on_ids ts x (boss_lives ts ms y x e).1

pub boss_urgent : (p : Profile) (k : KernState) (ms : List (ℕ × Mutex)) → length k.tasks ≤ 256 → (y x : ℕ) → boss (raised_kern p k ms).tasks ms y ≡ Some x
    → pri_of (raised_kern p k ms).tasks x ≤ pri_of (raised_kern p k ms).tasks y
boss_urgent p k ms few y x e =
    let to = raised_to p k ms in
    let before : boss k.tasks ms y ≡ Some x = sym (ap (λ up. up y) (bosses k (raised_kern p k ms) (lifted p k ms) (ids k.tasks) ms to)) ∙ e in
    let live = boss_lives k.tasks ms y x before in
    let law = owner_law (boss k.tasks ms) (lent_pri p k.tasks) 256 (ids k.tasks) (stays k.tasks ms) (omega (arith, length-map k.tasks task_id)) y x before (place_on (ids k.tasks) y (on_ids k.tasks y live.0)) in
    let px : pri_of (raised_kern p k ms).tasks x ≡ lifted p k ms x = to.pris x ∙ ap (λ b. cond b (lifted p k ms x) (pri_of k.tasks x)) (on_ids k.tasks x live.1) in
    let py : pri_of (raised_kern p k ms).tasks y ≡ lifted p k ms y = to.pris y ∙ ap (λ b. cond b (lifted p k ms y) (pri_of k.tasks y)) (on_ids k.tasks y live.0) in
    omega (arith, px, py, law)
