-- Each task's priority is passed on along its path, and the goals are the priorities that tasks inherit.
use Rattle.std.proofs.Common.{◌≡◌, ℕ, zero, suc, ◌+◌, ◌-◌, ◌<◌, ◌≤◌, Bool, true, false, cond, ◌||◌, eqb, min, List, [], ◌∷◌, ◌++◌, map, take, length, get_or, Option, None, Some, refl, sym, ap, ◌∙◌, subst, arith, ⊎_elim}
use Rattle.std.specs.Prelude.{slice_set, nat_lt}
use Rattle.std.specs.List.{filter, Contains}
use mathlib.Core.Path.{fun_ext}
use Rattle.std.proofs.lemmas.Bool.{cases_eq, cases_lt, eq-eqb, ne_eqb, lt-ltb}
use Rattle.std.proofs.lemmas.List.{length-map, get_or-map, map-append, append-nil, take_all, get_or-set_same, get_or-set_other, get_or_default}
use Rattle.std.proofs.lemmas.List.Elements.{filter_more, All-contains}
use Rattle.wind_base.specs.declared.profile.Profile.TheVariants.{Two}
use Rattle.id_table.specs.declared.ident.Place.{Place}
use Rattle.task_block.specs.declared.task.Task.{Task}
use Rattle.id_table.specs.Records.{Rising, StandsAt}
use Rattle.id_table.proofs.Records.{found_place, found_id, found_at}
use Rattle.wind_core.specs.State.{KernState, IsKern, task_id, task_of}
use Rattle.wind_core.proofs.Ids.{ids}
use Rattle.inheritance.specs.declared.mutex.Mutex.{Mutex}
use Rattle.inheritance.specs.Reach.{boss, wait_of, owner_at, is_on, path, reaches, most, normal_of, normal_in, lifted}
use Rattle.inheritance.specs.Laws.{OwnersHold, StaysIn}
use Rattle.inheritance.specs.Goals.{AreGoals, AreLent, owner_ids}
use Rattle.inheritance.proofs.Lookups.{live_is}
use Rattle.inheritance.proofs.Long.{long_path}
use Rattle.inheritance.proofs.Raising.{boss_lives, stays}
use Rattle.inheritance.proofs.Same.{boss_owner}

-- ---- one walk
left : (n i : ℕ) → i < n → n - i ≡ suc (n - (i + 1))
left n i h = omega arith

pub path_ends : (up : ℕ → Option ℕ) (n i y : ℕ) → i < n → up y ≡ None → path up (n - i) y ≡ []
path_ends up n i y h e = ap (λ m. path up m y) (left n i h) ∙ ap (λ o. elim o [ None ↦ [] | Some x ↦ x ∷ path up (n - (i + 1)) x ]) e

pub path_goes_on : (up : ℕ → Option ℕ) (n i y x : ℕ) → i < n → up y ≡ Some x → path up (n - i) y ≡ x ∷ path up (n - (i + 1)) x
path_goes_on up n i y x h e = ap (λ m. path up m y) (left n i h) ∙ ap (λ o. elim o [ None ↦ [] | Some z ↦ z ∷ path up (n - (i + 1)) z ]) e

-- a goal after a priority is passed on to these tasks
abbrev pub lent : List ℕ → ℕ → ℕ → ℕ → ℕ
lent xs p id goal = cond (is_on xs id) (min p goal) goal

lent_again : (b : Bool) (p g : ℕ) → cond b (min p (min p g)) (min p g) ≡ min p g
lent_again true p g = omega arith
lent_again false p g = refl

-- two places have different ids
other_id : (ts : List Task) (i j : ℕ) (d : Task) → Rising task_id ts → i < length ts → j < length ts → (i ≡ j → ⊥) → (get_or ts i d).id ≡ (get_or ts j d).id → ⊥
other_id ts i j d up hi hj ne e =
    ⊎_elim
    (λ (less : i < j). let rise = up i j d less hj in omega (arith, rise, e))
    (λ (le : j ≤ i). let rise = up j i d (omega (arith, le, ne)) hi in omega (arith, rise, e))
    (cases_lt i j)

-- the walk's next owner has it
pub lend_on : (ts : List Task) (xs goals : List ℕ) (p owner place v : ℕ) → Rising task_id ts → StandsAt task_id ts owner place → length ts ≤ length goals → v ≡ min p (get_or goals place v)
    → (i : ℕ) (d : Task) (e : ℕ) → i < length ts → lent xs p (get_or ts i d).id (get_or (slice_set goals place v) i e) ≡ lent (owner ∷ xs) p (get_or ts i d).id (get_or goals i e)
lend_on ts xs goals p owner place v up stands room value i d e h =
    ⊎_elim
    (λ (same : i ≡ place).
    let id : owner ≡ (get_or ts i d).id = sym (ap (λ k. (get_or ts k d).id) same ∙ stands.same d) in
    let now : get_or (slice_set goals place v) i e ≡ v = ap (λ k. get_or (slice_set goals place v) k e) same ∙ get_or-set_same goals place v e (omega (arith, stands.within, room)) in
    let new : v ≡ min p (get_or goals i e) =
    value ∙ ap (min p) (get_or_default goals place v e (omega (arith, stands.within, room)) ∙ ap (λ k. get_or goals k e) (sym same)) in
    ap (lent xs p (get_or ts i d).id) (now ∙ new)
    ∙ lent_again (is_on xs (get_or ts i d).id) p (get_or goals i e)
    ∙ sym (ap (λ b. cond (b || is_on xs (get_or ts i d).id) (min p (get_or goals i e)) (get_or goals i e)) (eq-eqb owner (get_or ts i d).id id)))
    (λ (other : i ≡ place → ⊥).
    let differs : owner ≡ (get_or ts i d).id → ⊥ = λ q. other_id ts place i d up stands.within h (λ k. other (sym k)) (stands.same d ∙ q) in
    ap (lent xs p (get_or ts i d).id) (get_or-set_other goals place i v e other)
    ∙ sym (ap (λ b. cond (b || is_on xs (get_or ts i d).id) (min p (get_or goals i e)) (get_or goals i e)) (ne_eqb owner (get_or ts i d).id differs)))
    (cases_eq i place)

-- ---- as many steps as there are owners suffice
member_here : (u : Task) (us : List Task) → nat_lt 0 u.held ≡ true → is_on (owner_ids (u ∷ us)) u.id ≡ true
member_here u us held =
    ap (λ b. is_on (map task_id (cond b (u ∷ filter (λ v. nat_lt 0 v.held) us) (filter (λ v. nat_lt 0 v.held) us))) u.id) held
    ∙ ap (λ b. b || is_on (owner_ids us) u.id) (eq-eqb u.id u.id refl)

member_later : (u : Task) (us : List Task) (id : ℕ) → is_on (owner_ids us) id ≡ true → is_on (owner_ids (u ∷ us)) id ≡ true
member_later u us id r = elim (nat_lt 0 u.held) as (λ b. is_on (map task_id (cond b (u ∷ filter (λ v. nat_lt 0 v.held) us) (filter (λ v. nat_lt 0 v.held) us))) id ≡ true) [
  | true ↦ elim (eqb u.id id) as (λ b. (b || is_on (owner_ids us) id) ≡ true) [ true ↦ refl | false ↦ r ]
  | false ↦ r
]

member : (ts : List Task) (t : Task) (i : ℕ) → i < length ts → get_or ts i t ≡ t → nat_lt 0 t.held ≡ true → is_on (owner_ids ts) t.id ≡ true
member [] t i hi e h = absurd (omega arith)
member (u ∷ us) t zero hi e h = subst (λ v. nat_lt 0 v.held ≡ true → is_on (owner_ids (u ∷ us)) v.id ≡ true) e (member_here u us) h
member (u ∷ us) t (suc i) hi e h = member_later u us t.id (member us t i (omega arith) e h)

pub owners_stay : (ts : List Task) (ms : List (ℕ × Mutex)) → OwnersHold ms ts → StaysIn (boss ts ms) (owner_ids ts)
owners_stay ts ms holds y x e =
    let u = live_is (task_of ts x) (boss_lives ts ms y x e).1 in
    let own : u.0.id ≡ x = found_id task_id ts x u.0 u.1 in
    let at : Contains ts u.0 = found_in_list x u.0 u.1 in
    let owner : owner_at ms (wait_of (task_of ts y)) ≡ Some u.0.id = boss_owner ts (owner_at ms (wait_of (task_of ts y))) x e ∙ ap Some (sym own) in
    let some : nat_lt 0 u.0.held ≡ true =
    ⊎_elim
    (λ (z : u.0.held ≡ 0). absurd (none u.0 at z (wait_of (task_of ts y)) owner))
    (λ (ne : u.0.held ≡ 0 → ⊥). lt-ltb 0 u.0.held (omega (arith, ne)))
    (cases_eq u.0.held 0) in
    subst (λ i. is_on (owner_ids ts) i ≡ true) own (member ts u.0 at.0 at.1 at.2 some)
  where
    found_in_list : (n : ℕ) (t : Task) → task_of ts n ≡ Some t → Contains ts t
    found_in_list n t q = found_at task_id ts n t q

    none : (t : Task) → Contains ts t → t.held ≡ 0 → (w : Option Place) → owner_at ms w ≡ Some t.id → ⊥
    none t at = All-contains (λ v. v.held ≡ 0 → (w : Option Place) → owner_at ms w ≡ Some v.id → ⊥) ts t holds at

reach_both : (up : ℕ → Option ℕ) (all owners : List ℕ) (n : ℕ) → StaysIn up all → StaysIn up owners → length all ≤ 256 → length owners ≤ n → (y x : ℕ) → reaches up n y x ≡ reaches up 256 y x
reach_both up all owners n in_all in_owners few fits y x =
    both_ways (reaches up n y x) (reaches up 256 y x) (λ h. long_path up all in_all 256 n y x few h) (λ h. long_path up owners in_owners n 256 y x fits h)
  where
    both_ways : (b c : Bool) → (b ≡ true → c ≡ true) → (c ≡ true → b ≡ true) → b ≡ c
    both_ways true c f g = sym (f refl)
    both_ways false true f g = let no : false ≡ true = g refl in absurd (cc)
    both_ways false false f g = refl

-- ---- the most urgent of those that reach a task, as far as the pass has come
most_push : (p q : ℕ) (qs : List ℕ) → most p (qs ++ q ∷ []) ≡ min q (most p qs)
most_push p q [] = refl
most_push p q (v ∷ vs) = let ih = most_push p q vs in omega arith

-- the normal priority of the task at a place
pub normal_at : (ts : List Task) (i : ℕ) (d : Task) → Rising task_id ts → i < length ts → normal_of ts (get_or ts i d).id ≡ (get_or ts i d).normal
normal_at ts i d up h = ap normal_in (found_place task_id ts i d up h)

-- what a task inherits from the first i tasks, through at most n owners
abbrev pub so_far : List Task → List (ℕ × Mutex) → ℕ → ℕ → ℕ → ℕ
so_far ts ms n i x = most (normal_of ts x) (map (normal_of ts) (filter (λ y. reaches (boss ts ms) n y x) (take i (ids ts))))

pub so_far_more : (ts : List Task) (ms : List (ℕ × Mutex)) (n i x : ℕ) (t : Task) → Rising task_id ts → i < length ts → t ≡ get_or ts i t
    → so_far ts ms n (i + 1) x ≡ lent (path (boss ts ms) n t.id) t.normal x (so_far ts ms n i x)
so_far_more ts ms n i x t up h e =
    let r : ℕ → Bool = λ y. reaches (boss ts ms) n y x in
    let xs : List ℕ = filter r (take i (ids ts)) in
    let pri : normal_of ts t.id ≡ t.normal = ap (λ (u : Task). normal_of ts u.id) e ∙ normal_at ts i t up h ∙ ap (λ (u : Task). u.normal) (sym e) in
    let id : get_or (ids ts) i 0 ≡ t.id = get_or-map task_id ts i t 0 h ∙ ap task_id (sym e) in
    let more : filter r (take (i + 1) (ids ts)) ≡ xs ++ cond (r t.id) (t.id ∷ []) [] =
    filter_more r (ids ts) i 0 (omega (arith, length-map ts task_id)) ∙ ap (λ n. xs ++ cond (r n) (n ∷ []) []) id in
    ap (λ ys. most (normal_of ts x) (map (normal_of ts) ys)) more ∙ added xs (r t.id) pri
  where
    added : (xs : List ℕ) (b : Bool) → normal_of ts t.id ≡ t.normal
        → most (normal_of ts x) (map (normal_of ts) (xs ++ cond b (t.id ∷ []) [])) ≡ cond b (min t.normal (most (normal_of ts x) (map (normal_of ts) xs))) (most (normal_of ts x) (map (normal_of ts) xs))
    added xs true pri =
        ap (most (normal_of ts x)) (map-append (normal_of ts) xs (t.id ∷ []))
        ∙ most_push (normal_of ts x) (normal_of ts t.id) (map (normal_of ts) xs)
        ∙ ap (λ q. min q (most (normal_of ts x) (map (normal_of ts) xs))) pri
    added xs false pri = ap (λ ys. most (normal_of ts x) (map (normal_of ts) ys)) (append-nil xs)

-- the goals have come as far as this
abbrev pub HaveCome : List Task → List (ℕ × Mutex) → ℕ → ℕ → List ℕ → Type 0
HaveCome ts ms n m goals = (i : ℕ) (d : Task) (e : ℕ) → i < length ts → get_or goals i e ≡ so_far ts ms n m (get_or ts i d).id

pub come_none : (ts : List Task) (ms : List (ℕ × Mutex)) (n : ℕ) (goals : List ℕ) → Rising task_id ts → ((i : ℕ) (d : Task) (e : ℕ) → i < length ts → get_or goals i e ≡ (get_or ts i d).normal) → HaveCome ts ms n 0 goals
come_none ts ms n goals up normals i d e h = normals i d e h ∙ sym (normal_at ts i d up h)

pub come_more : (ts : List Task) (ms : List (ℕ × Mutex)) (n m : ℕ) (t : Task) (goals next : List ℕ) → Rising task_id ts → m < length ts → t ≡ get_or ts m t → HaveCome ts ms n m goals
    → AreLent ts (path (boss ts ms) n t.id) t.normal goals next → HaveCome ts ms n (m + 1) next
come_more ts ms n m t goals next up h e come lends i d v hi =
    let id : ℕ = (get_or ts i d).id in
    lends i d v hi ∙ ap (lent (path (boss ts ms) n t.id) t.normal id) (come i d v hi) ∙ sym (so_far_more ts ms n m id t up h e)

pub come_all : (k : KernState) (ms : List (ℕ × Mutex)) (n m : ℕ) (goals : List ℕ) → IsKern k → OwnersHold ms k.tasks → n ≡ length (owner_ids k.tasks) → length k.tasks ≤ m → HaveCome k.tasks ms n m goals
    → AreGoals k.tasks goals (lifted Two k ms)
come_all k ms n m goals is holds count long come i d e h =
    let ts = k.tasks in
    let up : ℕ → Option ℕ = boss ts ms in
    let x : ℕ = (get_or ts i d).id in
    let reach : (y : ℕ) → reaches up n y x ≡ reaches up 256 y x = λ y. reach_both up (ids ts) (owner_ids ts) n (stays ts ms) (owners_stay ts ms holds) (omega (arith, is.few, length-map ts task_id)) (omega (arith, count)) y x in
    come i d e h
    ∙ ap (λ xs. most (normal_of ts x) (map (normal_of ts) (filter (λ y. reaches up n y x) xs))) (take_all m (ids ts) (omega (arith, length-map ts task_id, long)))
    ∙ ap (λ (r : ℕ → Bool). most (normal_of ts x) (map (normal_of ts) (filter r (ids ts)))) (fun_ext reach)
