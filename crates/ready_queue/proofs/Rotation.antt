-- Ready tasks in a list for each priority: what a contract sees of them, as one is added and one removed.
use Rattle.std.proofs.Common.{◌≡◌, ℕ, zero, suc, ◌+◌, ◌/◌, ◌<◌, ◌≤◌, true, false, cond, not, eqb, List, [], ◌∷◌, ◌++◌, map, set, length, replicate, Option, None, Some, is_some, refl, sym, ap, ◌∙◌, subst, arith, ⊎_elim, append_assoc}
use Rattle.std.specs.Prelude.{IsSome}
use Rattle.std.specs.Option.{option_map}
use Rattle.std.proofs.lemmas.Bool.{cases_eq, le-leb, lt-leb}
use Rattle.std.proofs.lemmas.List.{get_or-map, get_or-set_same, get_or-set_other, length-map, length-set, length-append, get_or-replicate, length-replicate}
use Rattle.std.proofs.lemmas.List.Elements.{filter-append}
use Rattle.linked_lists.specs.IdTableRecords.{of_id, without}
use Rattle.linked_lists.proofs.IdTablePlaces.{none_without, fewer_without, gone}
use Rattle.linked_lists.specs.Chains.{cell_key, all_cells, chain_at, first_key, put_before, value_in, value_of, IsOnlyIn}
use Rattle.linked_lists.proofs.Naming.{cells_without}
use Rattle.ready_queue.proofs.Bits.{word_empty}
use Rattle.ready_queue.specs.Map.{priorities, marked, IsMarked}
use Rattle.ready_queue.specs.Order.{Order, task_id, task_pri, pri_of, put_in, taken_out, first_id}
use Rattle.ready_queue.specs.Inside.{task_in, tasks_from, filled, IsMapped}

abbrev Cell : Type 0
Cell = ℕ × Unit {0}

-- ---- look-ups
-- a look-up in one list, and then in the others
pri_in : (p who : ℕ) (c : List Cell) (rest : List (ℕ × ℕ)) → pri_of (map (task_in p) c ++ rest) who ≡ cond (is_some (value_in c who)) (Some p) (pri_of rest who)
pri_in p who [] rest = refl
pri_in p who (x ∷ xs) rest =
    elim (eqb x.0 who) as (λ b. option_map task_pri (cond b (Some (p, x.0)) (of_id task_id (map (task_in p) xs ++ rest) who))
    ≡ cond (is_some (option_map (λ (y : Cell). y.1) (cond b (Some x) (of_id cell_key xs who)))) (Some p) (pri_of rest who)) [
      | true ↦ refl
      | false ↦ pri_in p who xs rest
    ]

value_or_rest : (c rest : List Cell) (who : ℕ) → is_some (value_in (c ++ rest) who) ≡ cond (is_some (value_in c who)) true (is_some (value_in rest who))
value_or_rest [] rest who = refl
value_or_rest (x ∷ xs) rest who =
    elim (eqb x.0 who) as (λ b. is_some (option_map (λ (y : Cell). y.1) (cond b (Some x) (of_id cell_key (xs ++ rest) who)))
    ≡ cond (is_some (option_map (λ (y : Cell). y.1) (cond b (Some x) (of_id cell_key xs who)))) true (is_some (value_in rest who))) [
      | true ↦ refl
      | false ↦ value_or_rest xs rest who
    ]

-- a task has a priority exactly if it has a cell
pub has_pri : (p who : ℕ) (cs : List (List Cell)) → is_some (pri_of (tasks_from p cs) who) ≡ is_some (value_of cs who)
has_pri p who [] = refl
has_pri p who (c ∷ cs) =
    ap is_some (pri_in p who c (tasks_from (suc p) cs))
    ∙ elim (is_some (value_in c who)) as (λ b. is_some (cond b (Some p) (pri_of (tasks_from (suc p) cs) who)) ≡ cond b true (is_some (value_of cs who))) [
      | true ↦ refl
      | false ↦ has_pri (suc p) who cs
    ]
    ∙ sym (value_or_rest c (all_cells cs) who)

no_option : {X : Type 0} (o : Option X) → is_some o ≡ false → o ≡ None
no_option None e = refl
no_option (Some x) e = absurd (cc)

pub no_value : (who : ℕ) (cs : List (List Cell)) → pri_of (tasks_from 0 cs) who ≡ None → value_of cs who ≡ None
no_value who cs none = no_option (value_of cs who) (sym (has_pri 0 who cs) ∙ ap is_some none)

pub no_pri : (who : ℕ) (cs : List (List Cell)) → value_of cs who ≡ None → pri_of (tasks_from 0 cs) who ≡ None
no_pri who cs none = no_option (pri_of (tasks_from 0 cs) who) (has_pri 0 who cs ∙ ap is_some none)

-- the priority of a task is the number of its list
pub pri_is : (p who q : ℕ) (cs : List (List Cell)) → q < length cs → IsSome (value_in (chain_at cs q) who) → ((r : ℕ) → r < q → value_in (chain_at cs r) who ≡ None) → pri_of (tasks_from p cs) who ≡ Some (p + q)
pri_is p who q [] hq here before = absurd (omega (arith, hq))
pri_is p who zero (c ∷ cs) hq here before =
    let same : p ≡ p + 0 = omega arith in
    pri_in p who c (tasks_from (suc p) cs) ∙ ap (λ b. cond b (Some p) (pri_of (tasks_from (suc p) cs) who)) here ∙ ap (λ n. Some n) same
pri_is p who (suc q) (c ∷ cs) hq here before =
    let same : suc p + q ≡ p + suc q = omega arith in
    pri_in p who c (tasks_from (suc p) cs)
    ∙ ap (λ b. cond b (Some p) (pri_of (tasks_from (suc p) cs) who)) (ap is_some (before 0 (omega arith)))
    ∙ pri_is (suc p) who q cs (omega (arith, hq)) here (λ r hr. before (suc r) (omega (arith, hr)))
    ∙ ap (λ n. Some n) same

-- ---- the number of tasks
pub length-tasks : (p : ℕ) (cs : List (List Cell)) → length (tasks_from p cs) ≡ length (all_cells cs)
length-tasks p [] = refl
length-tasks p (c ∷ cs) =
    omega (arith, length-append (map (task_in p) c) (tasks_from (suc p) cs), length-map c (task_in p), length-tasks (suc p) cs, length-append c (all_cells cs))

-- ---- a task is removed
one_without : (p who : ℕ) (c : List Cell) → map (task_in p) (without cell_key c who) ≡ without task_id (map (task_in p) c) who
one_without p who [] = refl
one_without p who (x ∷ xs) =
    elim (eqb x.0 who) as (λ b. map (task_in p) (cond (not b) (x ∷ without cell_key xs who) (without cell_key xs who)) ≡ cond (not b) ((p, x.0) ∷ without task_id (map (task_in p) xs) who) (without task_id (map (task_in p) xs) who)) [
      | true ↦ one_without p who xs
      | false ↦ ap (λ zs. (p, x.0) ∷ zs) (one_without p who xs)
    ]

pub tasks_without : (p who : ℕ) (cs : List (List Cell)) → tasks_from p (map (λ c. without cell_key c who) cs) ≡ taken_out (tasks_from p cs) who
tasks_without p who [] = refl
tasks_without p who (c ∷ cs) =
    ap (λ zs. zs ++ tasks_from (suc p) (map (λ d. without cell_key d who) cs)) (one_without p who c)
    ∙ ap (λ zs. without task_id (map (task_in p) c) who ++ zs) (tasks_without (suc p) who cs)
    ∙ sym (filter-append (λ (t : ℕ × ℕ). not (eqb t.1 who)) (map (task_in p) c) (tasks_from (suc p) cs))

-- ---- a task is added
-- it goes after those that are at least as urgent, and before the others
later : (p : ℕ) (t : ℕ × ℕ) (c : List Cell) (rest : List (ℕ × ℕ)) → p ≤ t.0 → put_in (map (task_in p) c ++ rest) t ≡ map (task_in p) c ++ put_in rest t
later p t [] rest h = refl
later p t (x ∷ xs) rest h = ap (λ b. cond b ((p, x.0) ∷ put_in (map (task_in p) xs ++ rest) t) (t ∷ (p, x.0) ∷ map (task_in p) xs ++ rest)) (le-leb p t.0 h) ∙ ap (λ zs. (p, x.0) ∷ zs) (later p t xs rest h)

before_all : (p : ℕ) (t : ℕ × ℕ) (cs : List (List Cell)) → t.0 < p → put_in (tasks_from p cs) t ≡ t ∷ tasks_from p cs
before_all p t [] h = refl
before_all p t ([] ∷ cs) h = before_all (suc p) t cs (omega (arith, h))
before_all p t ((x ∷ xs) ∷ cs) h = ap (λ b. cond b ((p, x.0) ∷ put_in (map (task_in p) xs ++ tasks_from (suc p) cs) t) (t ∷ (p, x.0) ∷ map (task_in p) xs ++ tasks_from (suc p) cs)) (lt-leb p t.0 h)

at_end : (cell : Cell) (c : List Cell) → put_before None cell c ≡ c ++ cell ∷ []
at_end cell [] = refl
at_end cell (x ∷ xs) = ap (λ zs. x ∷ zs) (at_end cell xs)

map_push : (p : ℕ) (cell : Cell) (c : List Cell) → map (task_in p) (c ++ cell ∷ []) ≡ map (task_in p) c ++ (p, cell.0) ∷ []
map_push p cell [] = refl
map_push p cell (x ∷ xs) = ap (λ zs. (p, x.0) ∷ zs) (map_push p cell xs)

put_from : (p q : ℕ) (cell : Cell) (cs : List (List Cell)) → q < length cs → tasks_from p (set cs q (put_before None cell (chain_at cs q))) ≡ put_in (tasks_from p cs) (p + q, cell.0)
put_from p q cell [] hq = absurd (omega (arith, hq))
put_from p zero cell (c ∷ cs) hq =
    let same : p ≡ p + 0 = omega arith in
    ap (λ zs. map (task_in p) zs ++ tasks_from (suc p) cs) (at_end cell c)
    ∙ ap (λ zs. zs ++ tasks_from (suc p) cs) (map_push p cell c)
    ∙ append_assoc (map (task_in p) c) ((p, cell.0) ∷ []) (tasks_from (suc p) cs)
    ∙ ap (λ zs. map (task_in p) c ++ zs) (sym (before_all (suc p) (p, cell.0) cs (omega arith)))
    ∙ sym (later p (p, cell.0) c (tasks_from (suc p) cs) (omega arith))
    ∙ ap (λ n. put_in (map (task_in p) c ++ tasks_from (suc p) cs) (n, cell.0)) same
put_from p (suc q) cell (c ∷ cs) hq =
    let same : suc p + q ≡ p + suc q = omega arith in
    ap (λ zs. map (task_in p) c ++ zs) (put_from (suc p) q cell cs (omega (arith, hq)))
    ∙ ap (λ n. map (task_in p) c ++ put_in (tasks_from (suc p) cs) (n, cell.0)) same
    ∙ sym (later p (p + suc q, cell.0) c (tasks_from (suc p) cs) (omega arith))

pub tasks_put : (q : ℕ) (cell : Cell) (cs : List (List Cell)) → q < length cs → tasks_from 0 (set cs q (put_before None cell (chain_at cs q))) ≡ put_in (tasks_from 0 cs) (q, cell.0)
tasks_put q cell cs hq = let same : 0 + q ≡ q = omega arith in put_from 0 q cell cs hq ∙ ap (λ n. put_in (tasks_from 0 cs) (n, cell.0)) same

-- ---- the first
pub filled_first : (c : List Cell) → ◌≡◌ {A = ℕ} (cond (is_some (first_key c)) 1 0) (filled c)
filled_first [] = refl
filled_first (x ∷ xs) = refl

filled_there : (c : List Cell) (who : ℕ) → IsSome (value_in c who) → 1 ≡ filled c
filled_there [] who h = absurd (cc)
filled_there (x ∷ xs) who h = refl

nothing : (c : List Cell) → 0 ≡ filled c → c ≡ []
nothing [] e = refl
nothing (x ∷ xs) e = absurd (cc)

pub first_from : (p q : ℕ) (cs : List (List Cell)) → q < length cs → 1 ≡ filled (chain_at cs q) → ((r : ℕ) → r < q → 0 ≡ filled (chain_at cs r)) → first_id (tasks_from p cs) ≡ first_key (chain_at cs q)
first_from p q [] hq here before = absurd (omega (arith, hq))
first_from p zero ([] ∷ cs) hq here before = absurd (cc)
first_from p zero ((x ∷ xs) ∷ cs) hq here before = refl
first_from p (suc q) (c ∷ cs) hq here before =
    ap (λ d. first_id (map (task_in p) d ++ tasks_from (suc p) cs)) (nothing c (before 0 (omega arith)))
    ∙ first_from (suc p) q cs (omega (arith, hq)) here (λ r hr. before (suc r) (omega (arith, hr)))

pub nobody_from : (p : ℕ) (cs : List (List Cell)) → ((r : ℕ) → r < length cs → 0 ≡ filled (chain_at cs r)) → first_id (tasks_from p cs) ≡ None
nobody_from p [] none = refl
nobody_from p (c ∷ cs) none =
    ap (λ d. first_id (map (task_in p) d ++ tasks_from (suc p) cs)) (nothing c (none 0 (omega arith)))
    ∙ nobody_from (suc p) cs (λ r hr. none (suc r) (omega (arith, hr)))

-- ---- the invariant
pub order_alike : (ts us : List (ℕ × ℕ)) (room : ℕ) → ts ≡ us → ◌≡◌ {A = Order} (record { tasks = ts; room = room }) (record { tasks = us; room = room })
order_alike ts us room e = λ i. record { tasks = e i; room = room }

unmapped : (o : Option Cell) → option_map (λ (c : Cell). c.1) o ≡ None → o ≡ None
unmapped None e = refl
unmapped (Some c) e = absurd (cc)

filled_put : (cell : Cell) (c : List Cell) → filled (put_before None cell c) ≡ 1
filled_put cell [] = refl
filled_put cell (x ∷ xs) = refl

pub mapped_put : (cs : List (List Cell)) (words after : List ℕ) (q : ℕ) (cell : Cell) → IsMapped cs words → q < priorities → IsMarked words after q 1 → IsMapped (set cs q (put_before None cell (chain_at cs q))) after
mapped_put cs words after q cell is hq marks =
    let new = put_before None cell (chain_at cs q) in
    record {
      lists = length-set cs q new ∙ is.lists;
      bits = λ p hp.
          ⊎_elim
          (λ (same : p ≡ q).
          ap (marked after) same
          ∙ marks.same
          ∙ sym (filled_put cell (chain_at cs q))
          ∙ ap filled (sym (get_or-set_same cs q new [] (subst (λ n. q < n) (sym is.lists) hq)))
          ∙ ap (λ r. filled (chain_at (set cs q new) r)) (sym same))
          (λ (ne : p ≡ q → ⊥). marks.others p hp ne ∙ is.bits p hp ∙ ap filled (sym (get_or-set_other cs q p new [] ne)))
          (cases_eq p q);
    }

pub mapped_without : (cs : List (List Cell)) (words after : List ℕ) (q who bit : ℕ) → IsMapped cs words → IsOnlyIn cs who q → IsMarked words after q bit
    → bit ≡ filled (chain_at (map (λ c. without cell_key c who) cs) q) → IsMapped (map (λ c. without cell_key c who) cs) after
mapped_without cs words after q who bit is only marks bit_is =
    let drop : List Cell → List Cell = λ c. without cell_key c who in
    record {
      lists = length-map cs drop ∙ is.lists;
      bits = λ p hp.
          ⊎_elim
          (λ (same : p ≡ q). ap (marked after) same ∙ marks.same ∙ bit_is ∙ ap (λ r. filled (chain_at (map drop cs) r)) (sym same))
          (λ (ne : p ≡ q → ⊥).
          let within : p < length cs = subst (λ n. p < n) (sym is.lists) hp in
          marks.others p hp ne
          ∙ is.bits p hp
          ∙ ap filled (sym (get_or-map drop cs p [] [] within ∙ none_without cell_key (chain_at cs p) who (unmapped (of_id cell_key (chain_at cs p) who) (only.elsewhere p ne)))))
          (cases_eq p q);
    }

pub mapped_rotated : (cs : List (List Cell)) (words : List ℕ) (q who : ℕ) (cell : Cell) → IsMapped cs words → IsOnlyIn cs who q
    → IsMapped (set (map (λ c. without cell_key c who) cs) q (put_before None cell (chain_at (map (λ c. without cell_key c who) cs) q))) words
mapped_rotated cs words q who cell is only =
    let drop : List Cell → List Cell = λ c. without cell_key c who in
    let ds = map drop cs in
    let new = put_before None cell (chain_at ds q) in
    let len = length-map cs drop in
    record {
      lists = length-set ds q new ∙ len ∙ is.lists;
      bits = λ p hp.
          let within : p < length cs = subst (λ n. p < n) (sym is.lists) hp in
          ⊎_elim
          (λ (same : p ≡ q).
          is.bits p hp
          ∙ ap (λ r. filled (chain_at cs r)) same
          ∙ sym (filled_there (chain_at cs q) who only.here)
          ∙ sym (filled_put cell (chain_at ds q))
          ∙ ap filled (sym (get_or-set_same ds q new [] (subst (λ n. q < n) (sym len) only.within)))
          ∙ ap (λ r. filled (chain_at (set ds q new) r)) (sym same))
          (λ (ne : p ≡ q → ⊥).
          is.bits p hp
          ∙ ap filled (sym (get_or-map drop cs p [] [] within ∙ none_without cell_key (chain_at cs p) who (unmapped (of_id cell_key (chain_at cs p) who) (only.elsewhere p ne))))
          ∙ ap filled (sym (get_or-set_other ds q p new [] ne)))
          (cases_eq p q);
    }

-- ---- a task that is there, and one that was removed
pub pri_found : (cs : List (List Cell)) (who q : ℕ) → IsOnlyIn cs who q → pri_of (tasks_from 0 cs) who ≡ Some q
pri_found cs who q only =
    let same : 0 + q ≡ q = omega arith in
    pri_is 0 who q cs only.within only.here (λ r h. only.elsewhere r (λ e. omega (arith, h, e))) ∙ ap (λ n. Some n) same

-- a task in a list is among those that are seen
pub found_told : (cs : List (List Cell)) (who q room : ℕ) (o : Order) → IsOnlyIn cs who q → ◌≡◌ {A = Order} (record { tasks = tasks_from 0 cs; room = room }) o → true ≡ is_some (pri_of o.tasks who)
found_told cs who q room o only seen = sym (ap is_some (pri_found cs who q only)) ∙ ap (λ (p : Order). is_some (pri_of p.tasks who)) seen

pub value_gone : (cs : List (List Cell)) (who : ℕ) → value_of (map (λ c. without cell_key c who) cs) who ≡ None
value_gone cs who = ap (λ zs. value_in zs who) (cells_without cs who) ∙ ap (option_map (λ (c : Cell). c.1)) (gone cell_key (all_cells cs) who)

pub fewer_cells : (cs : List (List Cell)) (who q : ℕ) → IsOnlyIn cs who q → length (all_cells (map (λ c. without cell_key c who) cs)) + 1 ≤ length (all_cells cs)
fewer_cells cs who q only =
    let x = cell_of (of_id cell_key (all_cells cs) who) (sym (has_pri 0 who cs) ∙ ap is_some (pri_found cs who q only)) in
    subst (λ n. n + 1 ≤ length (all_cells cs)) (ap length (sym (cells_without cs who))) (fewer_without cell_key (all_cells cs) who x.0 x.1)
  where
    cell_of : (o : Option Cell) → is_some (option_map (λ (c : Cell). c.1) o) ≡ true → (x : Cell) × (o ≡ Some x)
    cell_of None e = absurd (cc)
    cell_of (Some x) e = (x, refl)

-- removing a task that isn't there changes nothing
pub none_taken : (ts : List (ℕ × ℕ)) (who : ℕ) → pri_of ts who ≡ None → ts ≡ taken_out ts who
none_taken ts who none = sym (none_without task_id ts who (unmapped (of_id task_id ts who) none))
  where
    unmapped : (o : Option (ℕ × ℕ)) → option_map task_pri o ≡ None → o ≡ None
    unmapped None e = refl
    unmapped (Some t) e = absurd (cc)

pub mapped_empty : (cs : List (List Cell)) → cs ≡ replicate priorities [] → IsMapped cs (replicate 8 0)
mapped_empty cs e = record {
  lists = ap length e ∙ length-replicate {A = List Cell} priorities [];
  bits = λ p hp. word_empty (replicate 8 0) p (get_or-replicate 8 (p / 32) 0 0 (omega (arith, hp))) ∙ sym (ap (λ ds. filled (chain_at ds p)) e ∙ ap filled (get_or-replicate {A = List Cell} priorities p [] [] hp));
}

-- a removed task isn't there
pub taken_absent : (ts : List (ℕ × ℕ)) (who : ℕ) → pri_of (taken_out ts who) who ≡ None
taken_absent ts who = ap (option_map task_pri) (gone task_id ts who)
