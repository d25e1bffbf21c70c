-- A kernel in which some tasks were given one priority; their order doesn't matter if at most one of them is ready.
use Rattle.std.proofs.Common.{◌≡◌, ℕ, ◌+◌, Bool, true, false, cond, ◌&&◌, ◌||◌, eqb, List, [], ◌∷◌, map, get_or, Option, None, Some, is_some, refl, sym, ap, ◌∙◌, arith, ⊎_elim}
use Rattle.std.specs.Option.{option_map}
use Rattle.std.specs.List.{All, Contains}
use Rattle.std.proofs.lemmas.Bool.{cases_eq, ne_eqb, eq-eqb, eqb-true}
use Rattle.std.proofs.lemmas.Option.{same_Some}
use Rattle.std.proofs.lemmas.List.{map-id}
use Rattle.std.proofs.lemmas.List.Elements.{All-head, All-tail, Contains-get_or}
use Rattle.task_block.specs.declared.task.Task.{Task}
use Rattle.task_block.specs.Standing.{is_ready}
use Rattle.id_table.proofs.Records.{found_id, found_in}
use Rattle.wind_core.specs.State.{KernState, IsKern, task_id, task_of}
use Rattle.wind_core.specs.Moves.{change_pri, move_found, has_pri, settled, with_pri}
use Rattle.inheritance.specs.Reach.{pri_of, pri_in}
use Rattle.inheritance.proofs.Lookups.{each_lives}
use Rattle.inheritance.proofs.Raising.{repri-id, repri-wait, repri-pri}

-- ---- lists
map_twice : (f g h : Task → Task) (ts : List Task) → All (λ t. f (g t) ≡ h t) ts → map f (map g ts) ≡ map h ts
map_twice f g h [] same = refl
map_twice f g h (t ∷ ts) same =
    ap (λ u. u ∷ map f (map g ts)) (All-head (λ v. f (g v) ≡ h v) t ts same) ∙ ap (λ us. h t ∷ us) (map_twice f g h ts (All-tail (λ v. f (g v) ≡ h v) t ts same))

-- a look-up after g is applied to each task
task_of-map : (g : Task → Task) → ((t : Task) → (g t).id ≡ t.id) → (ts : List Task) (y : ℕ) → task_of (map g ts) y ≡ option_map g (task_of ts y)
task_of-map g keeps [] y = refl
task_of-map g keeps (t ∷ ts) y =
    ap (λ n. cond (eqb n y) (Some (g t)) (task_of (map g ts) y)) (keeps t)
    ∙ elim (eqb t.id y) as (λ b. cond b (Some (g t)) (task_of (map g ts) y) ≡ option_map g (cond b (Some t) (task_of ts y))) [ true ↦ refl | false ↦ task_of-map g keeps ts y ]

-- the tasks that pass the test get priority p
abbrev pub given : ℕ → ℕ → (ℕ → Bool) → Task → Task
given since p on t = cond (on t.id) (settled since (with_pri p t)) t

-- one order number, if the task was given the priority and is ready
abbrev pub numbers : Bool → Option Task → ℕ
numbers b None = 0
numbers b (Some t) = cond (b && is_ready t) 1 0

-- the tasks that pass the test have priority p, and only z of them can be ready
abbrev pub inherited : KernState → ℕ → ℕ → (ℕ → Bool) → KernState
inherited k p z on = record k {
  tasks = map (given k.next_since p on) k.tasks;
  next_since = k.next_since + numbers (on z) (task_of k.tasks z);
}

given-id : (since p : ℕ) (on : ℕ → Bool) (t : Task) → (given since p on t).id ≡ t.id
given-id since p on t = elim (on t.id) as (λ b. (cond b (settled since (with_pri p t)) t).id ≡ t.id) [ true ↦ repri-id since p t | false ↦ refl ]

given-wait : (since p : ℕ) (on : ℕ → Bool) (t : Task) → (given since p on t).wait ≡ t.wait
given-wait since p on t = elim (on t.id) as (λ b. (cond b (settled since (with_pri p t)) t).wait ≡ t.wait) [ true ↦ repri-wait since p t | false ↦ refl ]

given-pri : (since p : ℕ) (on : ℕ → Bool) (t : Task) → (given since p on t).pri ≡ cond (on t.id) p t.pri
given-pri since p on t = elim (on t.id) as (λ b. (cond b (settled since (with_pri p t)) t).pri ≡ cond b p t.pri) [ true ↦ repri-pri since p t | false ↦ refl ]

module _ (k : KernState) (p z : ℕ) where
  found : (on : ℕ → Bool) (y : ℕ) → task_of (inherited k p z on).tasks y ≡ option_map (given k.next_since p on) (task_of k.tasks y)
  found on y = task_of-map (given k.next_since p on) (given-id k.next_since p on) k.tasks y

  pub waits_on : (on : ℕ → Bool) (y : ℕ) → option_map (λ t. t.wait) (task_of (inherited k p z on).tasks y) ≡ option_map (λ t. t.wait) (task_of k.tasks y)
  waits_on on y =
      ap (option_map (λ t. t.wait)) (found on y)
      ∙ elim (task_of k.tasks y) as (λ o. option_map (λ t. t.wait) (option_map (given k.next_since p on) o) ≡ option_map (λ t. t.wait) o) [ None ↦ refl | Some t ↦ ap (λ w. Some w) (given-wait k.next_since p on t) ]

  pub pri_on : (on : ℕ → Bool) (y : ℕ) (t : Task) → task_of k.tasks y ≡ Some t → pri_of (inherited k p z on).tasks y ≡ cond (on y) p t.pri
  pri_on on y t e =
      ap pri_in (found on y ∙ ap (option_map (given k.next_since p on)) e) ∙ given-pri k.next_since p on t ∙ ap (λ n. cond (on n) p t.pri) (found_id task_id k.tasks y t e)

  -- no task is given it
  pub none_on : inherited k p z (λ _. false) ≡ k
  none_on =
      ap (λ ts. record k { tasks = ts; next_since = k.next_since + numbers false (task_of k.tasks z) }) (map-id k.tasks)
      ∙ ap (λ n. record k { next_since = n }) (elim (task_of k.tasks z) as (λ o. k.next_since + numbers false o ≡ k.next_since) [ None ↦ omega arith | Some t ↦ omega arith ])

  -- two tests that agree on each live task
  pub alike_on : (on other : ℕ → Bool) → ((x : ℕ) → is_some (task_of k.tasks x) ≡ true → on x ≡ other x) → inherited k p z on ≡ inherited k p z other
  alike_on on other same =
      ap (λ ts. record k { tasks = ts; next_since = k.next_since + numbers (on z) (task_of k.tasks z) }) tasks
      ∙ ap (λ n. record k { tasks = map (given k.next_since p other) k.tasks; next_since = k.next_since + n }) (number (task_of k.tasks z) (same z))
    where
      tasks : map (given k.next_since p on) k.tasks ≡ map (given k.next_since p other) k.tasks
      tasks =
          sym (ap (map (given k.next_since p on)) (map-id k.tasks))
          ∙ map_twice (given k.next_since p on) (λ t. t) (given k.next_since p other) k.tasks (λ i d hi.
          ap (λ b. cond b (settled k.next_since (with_pri p (get_or k.tasks i d))) (get_or k.tasks i d)) (same (get_or k.tasks i d).id (each_lives k.tasks i d hi)))

      number : (o : Option Task) → (is_some o ≡ true → on z ≡ other z) → numbers (on z) o ≡ numbers (other z) o
      number None h = refl
      number (Some t) h = ap (λ b. numbers b (Some t)) (h refl)

  -- a task that has been given it stays as it is
  pub again : (on : ℕ → Bool) (x : ℕ) (t : Task) → task_of k.tasks x ≡ Some t → on x ≡ true → change_pri (inherited k p z on) x p ≡ inherited k p z on
  again on x t e already =
      let r : KernState = inherited k p z on in
      let u : Task = given k.next_since p on t in
      let here : task_of r.tasks x ≡ Some u = found on x ∙ ap (option_map (given k.next_since p on)) e in
      let has : u.pri ≡ p = given-pri k.next_since p on t ∙ ap (λ n. cond (on n) p t.pri) (found_id task_id k.tasks x t e) ∙ ap (λ b. cond b p t.pri) already in
      ap (λ o. cond (has_pri p o) r (move_found r x (with_pri p) o)) here ∙ ap (λ b. cond b r (move_found r x (with_pri p) (Some u))) (eq-eqb u.pri p has)

  -- and a task that hasn't, with its own priority
  pub untouched : (on : ℕ → Bool) (x : ℕ) (t : Task) → task_of k.tasks x ≡ Some t → on x ≡ false → change_pri (inherited k p z on) x (pri_of k.tasks x) ≡ inherited k p z on
  untouched on x t e off =
      let r : KernState = inherited k p z on in
      let u : Task = given k.next_since p on t in
      let q : ℕ = pri_of k.tasks x in
      let here : task_of r.tasks x ≡ Some u = found on x ∙ ap (option_map (given k.next_since p on)) e in
      let has : u.pri ≡ q = given-pri k.next_since p on t ∙ ap (λ n. cond (on n) p t.pri) (found_id task_id k.tasks x t e) ∙ ap (λ b. cond b p t.pri) off ∙ sym (ap pri_in e) in
      ap (λ o. cond (has_pri q o) r (move_found r x (with_pri q) o)) here ∙ ap (λ b. cond b r (move_found r x (with_pri q) (Some u))) (eq-eqb u.pri q has)

  -- one more
  module _ (is : IsKern k) (on : ℕ → Bool) (x : ℕ) (t : Task) (e : task_of k.tasks x ≡ Some t) (off : on x ≡ false) (alone : is_ready t ≡ true → x ≡ z) where
    number_now : is_ready t ≡ true → (inherited k p z on).next_since ≡ k.next_since
    number_now ready =
        let none : on z ≡ false = ap on (sym (alone ready)) ∙ off in
        ap (λ b. k.next_since + numbers b (task_of k.tasks z)) none
        ∙ elim (task_of k.tasks z) as (λ o. k.next_since + numbers false o ≡ k.next_since) [ None ↦ omega arith | Some v ↦ omega arith ]

    new_number : (inherited k p z on).next_since + cond (is_ready t) 1 0 ≡ k.next_since + numbers (eqb z x || on z) (task_of k.tasks z)
    new_number =
        ⊎_elim
        (λ (same : z ≡ x).
        let none : on z ≡ false = ap on same ∙ off in
        let there : task_of k.tasks z ≡ Some t = ap (task_of k.tasks) same ∙ e in
        ap (λ b. k.next_since + numbers b (task_of k.tasks z) + cond (is_ready t) 1 0) none
        ∙ ap (λ o. k.next_since + numbers false o + cond (is_ready t) 1 0) there
        ∙ elim (is_ready t) as (λ b. k.next_since + 0 + cond b 1 0 ≡ k.next_since + cond b 1 0) [ true ↦ omega arith | false ↦ omega arith ]
        ∙ sym (ap (λ b. k.next_since + numbers (b || on z) (task_of k.tasks z)) (eq-eqb z x same) ∙ ap (λ o. k.next_since + numbers true o) there))
        (λ (other : z ≡ x → ⊥).
        let idle : is_ready t ≡ false = not_ready (is_ready t) (λ ready. other (sym (alone ready))) in
        ap (λ b. k.next_since + numbers (on z) (task_of k.tasks z) + cond b 1 0) idle
        ∙ omega arith
        ∙ sym (ap (λ b. k.next_since + numbers (b || on z) (task_of k.tasks z)) (ne_eqb z x other)))
        (cases_eq z x)
      where
        not_ready : (b : Bool) → (b ≡ true → ⊥) → b ≡ false
        not_ready true h = absurd (h refl)
        not_ready false h = refl

    one_task : (u : Task) → Contains k.tasks u
        → cond (eqb (given k.next_since p on u).id x) (settled (inherited k p z on).next_since (with_pri p (given k.next_since p on u))) (given k.next_since p on u) ≡ given k.next_since p (λ y. eqb y x || on y) u
    one_task u at =
        let n : ℕ = (inherited k p z on).next_since in
        let f : Task → Task = λ v. cond (eqb v.id x) (settled n (with_pri p v)) v in
        elim (on u.id) as (λ b. on u.id ≡ b → f (cond b (settled k.next_since (with_pri p u)) u) ≡ cond (eqb u.id x || b) (settled k.next_since (with_pri p u)) u) [
          | true ↦ λ q.
              let other : u.id ≡ x → ⊥ = λ same. let no : true ≡ false = sym q ∙ ap on same ∙ off in absurd (cc) in
              let v : Task = settled k.next_since (with_pri p u) in
              ap (λ b. cond b (settled n (with_pri p v)) v) (ap (λ i. eqb i x) (repri-id k.next_since p u) ∙ ne_eqb u.id x other)
              ∙ sym (ap (λ b. cond (b || true) v u) (ne_eqb u.id x other))
          | false ↦ λ q. elim (eqb u.id x) as (λ b. eqb u.id x ≡ b → cond b (settled n (with_pri p u)) u ≡ cond (b || false) (settled k.next_since (with_pri p u)) u) [
            | true ↦ λ b.
                let own : u ≡ t = same_Some u t (sym (found_in task_id k.tasks u is.rising at) ∙ ap (task_of k.tasks) (eqb-true u.id x b) ∙ e) in
                settles u (λ ready. number_now (ap is_ready (sym own) ∙ ready))
            | false ↦ λ b. refl
          ] refl
        ] refl
      where
        settles : (u : Task) → (is_ready u ≡ true → (inherited k p z on).next_since ≡ k.next_since) → settled (inherited k p z on).next_since (with_pri p u) ≡ settled k.next_since (with_pri p u)
        settles u h =
            elim (is_ready u) as (λ b. is_ready u ≡ b → cond b (record (with_pri p u) { since = (inherited k p z on).next_since }) (with_pri p u) ≡ cond b (record (with_pri p u) { since = k.next_since }) (with_pri p u)) [
              | true ↦ λ q. ap (λ n. record (with_pri p u) { since = n }) (h q)
              | false ↦ λ q. refl
            ] refl

    pub one_more : (t.pri ≡ p → ⊥) → change_pri (inherited k p z on) x p ≡ inherited k p z (λ y. eqb y x || on y)
    one_more less =
        let r : KernState = inherited k p z on in
        let same : given k.next_since p on t ≡ t = ap (λ n. cond (on n) (settled k.next_since (with_pri p t)) t) (found_id task_id k.tasks x t e) ∙ ap (λ b. cond b (settled k.next_since (with_pri p t)) t) off in
        let here : task_of r.tasks x ≡ Some t = found on x ∙ ap (option_map (given k.next_since p on)) e ∙ ap Some same in
        ap (λ o. cond (has_pri p o) r (move_found r x (with_pri p) o)) here
        ∙ ap (λ b. cond b r (move_found r x (with_pri p) (Some t))) (ne_eqb t.pri p less)
        ∙ ap (λ ts. record k { tasks = ts; next_since = r.next_since + cond (is_ready t) 1 0 })
        (map_twice (λ v. cond (eqb v.id x) (settled r.next_since (with_pri p v)) v) (given k.next_since p on) (given k.next_since p (λ y. eqb y x || on y)) k.tasks
        (λ i d hi. one_task (get_or k.tasks i d) (Contains-get_or k.tasks i d hi)))
        ∙ ap (λ n. record k { tasks = map (given k.next_since p (λ y. eqb y x || on y)) k.tasks; next_since = n }) new_number
