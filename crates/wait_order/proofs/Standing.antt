-- The waiters in one list by place and key, and the same waiters by rising id.
use Rattle.std.proofs.Common.{◌≡◌, ℕ, Bool, true, false, not, cond, eqb, ltb, List, [], ◌∷◌, ◌++◌, map, get_or, length, Option, None, Some, Less, Equal, Greater, is_some, refl, sym, ap, ◌∙◌, subst, arith}
use Rattle.std.specs.Option.{option_map}
use Rattle.std.specs.List.{AllByRecursion, filter}
use Rattle.std.specs.Cmp.{IsStrictWeakOrder}
use Rattle.std.specs.Cmp.Lexicographic.{slice_cmp, nat_list_cmp_total, texts_ties, same_text}
use Rattle.std.specs.Ordering.{ordering_then, ordering_reverse, is_lt, is_eq, nat_cmp}
use Rattle.std.proofs.lemmas.Bool.{true≢false}
use Rattle.std.proofs.lemmas.List.{append-nil, length-map}
use Rattle.std.proofs.lemmas.List.MinMax.{ranks_by}
use Rattle.std.proofs.lemmas.List.Sorted.{IsStrictWeakOrder-by_number}
use Rattle.linked_lists.specs.IdTablePlace.{Place}
use Rattle.linked_lists.specs.IdTableSorting.{insert_sorted, sorted}
use Rattle.linked_lists.specs.IdTableRecords.{of_id, with_record, without, Rising}
use Rattle.linked_lists.proofs.IdTableSorting.{InOrder, in_order_sorted, filter-sorted, all_insert}
use Rattle.linked_lists.proofs.IdTableOrders.{sorted_same, IsPermutation-sorted}
use Rattle.linked_lists.proofs.IdTablePlaces.{Rising-with_record}
use Rattle.linked_lists.specs.Chains.{cell_key, cell_value, all_cells, chain_at, value_in, value_of, Apart}
use Rattle.linked_lists.proofs.Links.{Absent}
use Rattle.wait_order.specs.declared.waits.Waiter.{Waiter}
use Rattle.wait_order.specs.Line.{waiter_id, waiter_of, key, stands_before, stands_at, line_at, first_at}
use Rattle.wait_order.specs.Fronts.{place_key, place_before}
use Rattle.wait_order.specs.Inside.{precedes, cell_of, waiters_in, by_id, first_who, run, IsOwn}
use Rattle.wait_order.proofs.Places.{one_place}

-- ---- the order in the list
pub list_order : IsStrictWeakOrder precedes
list_order = ranks_by nat_list_cmp_total (λ w. place_key w.place ++ key w)

pub id_order : IsStrictWeakOrder (λ (v w : Waiter). ltb v.who w.who)
id_order = IsStrictWeakOrder-by_number (λ (w : Waiter). w.who)

pub earlier_place : (v w : Waiter) → place_before v.place w.place ≡ true → precedes v w ≡ true
earlier_place v w e = grind (arith, e)

own_number : (n : ℕ) → nat_cmp n n ≡ Equal
own_number n = grind (arith)

same_place_keys : (p : Place) (xs ys : List ℕ) → is_lt (slice_cmp nat_cmp (place_key p ++ xs) (place_key p ++ ys)) ≡ is_lt (slice_cmp nat_cmp xs ys)
same_place_keys p xs ys =
    ap (λ o. is_lt (ordering_then o (ordering_then (nat_cmp p.id p.id) (slice_cmp nat_cmp xs ys)))) (own_number p.side) ∙ ap (λ o. is_lt (ordering_then o (slice_cmp nat_cmp xs ys))) (own_number p.id)

-- two waiters of one place are in order of their keys
pub one_run : (p : Place) (v w : Waiter) → stands_at p v ≡ true → stands_at p w ≡ true → precedes v w ≡ stands_before v w
one_run p v w e f =
    (λ i. is_lt (slice_cmp nat_cmp (place_key (one_place v.place p e i) ++ key v) (place_key (one_place w.place p f i) ++ key w))) ∙ same_place_keys p (key v) (key w)

-- two lists of numbers are equal if neither is less
neither_less : (xs ys : List ℕ) → is_lt (slice_cmp nat_cmp xs ys) ≡ false → is_lt (slice_cmp nat_cmp ys xs) ≡ false → xs ≡ ys
neither_less xs ys e f =
    elim (slice_cmp nat_cmp ys xs) as (λ o. slice_cmp nat_cmp ys xs ≡ o → xs ≡ ys) [
      | Less ↦ λ q. absurd (true≢false (sym (ap is_lt q) ∙ f))
      | Equal ↦ λ q. sym (same_text ys xs (sym (texts_ties ys xs ∙ ap is_eq q)))
      | Greater ↦ λ q. absurd (true≢false (sym (ap is_lt (nat_list_cmp_total.antisymm xs ys ∙ ap ordering_reverse q)) ∙ e))
    ] refl

-- two waiters are equal if neither precedes the other
pub one_waiter : (v w : Waiter) → precedes v w ≡ false → precedes w v ≡ false → v ≡ w
one_waiter v w e f =
    let same = neither_less (place_key v.place ++ key v) (place_key w.place ++ key w) e f in
    let at : (k : ℕ) → get_or (place_key v.place ++ key v) k 0 ≡ get_or (place_key w.place ++ key w) k 0 = λ k. ap (λ ns. get_or ns k 0) same in
    λ i. record { place = record { side = at 0 i; id = at 1 i }; who = at 4 i; pri = at 2 i; since = at 3 i }

-- ---- sorted lists
module _ {X : Type 0} (lt : X → X → Bool) where
  pub sorted_stays : (xs : List X) → InOrder lt xs → sorted lt xs ≡ xs
  sorted_stays [] o = refl
  sorted_stays (x ∷ []) o = refl
  sorted_stays (x ∷ y ∷ ys) o = ap (insert_sorted lt x) (sorted_stays (y ∷ ys) o.1) ∙ ap (λ b. cond b (y ∷ insert_sorted lt x ys) (x ∷ y ∷ ys)) o.0.0

  pub all_sorted : (P : X → Type 0) (xs : List X) → AllByRecursion P xs → AllByRecursion P (sorted lt xs)
  all_sorted P [] ps = tt
  all_sorted P (x ∷ xs) ps = all_insert lt P x (sorted lt xs) ps.0 (all_sorted P xs ps.1)

-- two orders that agree on the elements that pass a test sort them alike
module _ {X : Type 0} (lt gt : X → X → Bool) (p : X → Bool) (agree : (x y : X) → p x ≡ true → p y ≡ true → lt x y ≡ gt x y) where
  inserted_alike : (x : X) (ys : List X) → p x ≡ true → AllByRecursion (λ y. p y ≡ true) ys → insert_sorted lt x ys ≡ insert_sorted gt x ys
  inserted_alike x [] px ps = refl
  inserted_alike x (y ∷ ys) px ps =
      ap (λ b. cond b (y ∷ insert_sorted lt x ys) (x ∷ y ∷ ys)) (agree y x ps.0 px) ∙ ap (λ zs. cond (gt y x) (y ∷ zs) (x ∷ y ∷ ys)) (inserted_alike x ys px ps.1)

  pub sorted_alike : (xs : List X) → AllByRecursion (λ x. p x ≡ true) xs → sorted lt xs ≡ sorted gt xs
  sorted_alike [] ps = refl
  sorted_alike (x ∷ xs) ps =
      ap (insert_sorted lt x) (sorted_alike xs ps.1) ∙ inserted_alike x (sorted gt xs) ps.0 (all_sorted gt (λ y. p y ≡ true) xs ps.1)

filter_passed : {X : Type 0} (p : X → Bool) (xs : List X) → AllByRecursion (λ x. p x ≡ true) (filter p xs)
filter_passed p [] = tt
filter_passed p (x ∷ xs) =
    elim (p x) as (λ b. p x ≡ b → AllByRecursion (λ y. p y ≡ true) (cond b (x ∷ filter p xs) (filter p xs))) [ true ↦ λ e. (e, filter_passed p xs) | false ↦ λ e. filter_passed p xs ] refl

-- ---- the run of a place
-- the waiters of a place, in the list's order, are the line of that place
pub run_is_line : (ws : List Waiter) (p : Place) → ws ≡ sorted precedes ws → line_at (by_id ws) p ≡ run ws p
run_is_line ws p order =
    sym (sorted_alike precedes stands_before (stands_at p) (one_run p) (filter (stands_at p) (by_id ws)) (filter_passed (stands_at p) (by_id ws)))
    ∙ sym (filter-sorted precedes list_order (stands_at p) (by_id ws))
    ∙ ap (filter (stands_at p)) (sym (sorted_same precedes list_order one_waiter ws (by_id ws) (IsPermutation-sorted (λ (v w : Waiter). ltb v.who w.who) ws)) ∙ sym order)

pub run_first : (ws : List Waiter) (p : Place) → ws ≡ sorted precedes ws → first_at (by_id ws) p ≡ first_who (run ws p)
run_first ws p order = ap first_who (run_is_line ws p order)

-- the list with one more waiter, and with one fewer
pub more_in_order : (ws : List Waiter) (w : Waiter) → ws ≡ sorted precedes ws → insert_sorted precedes w ws ≡ sorted precedes (insert_sorted precedes w ws)
more_in_order ws w order =
    let made : insert_sorted precedes w ws ≡ sorted precedes (w ∷ ws) = ap (insert_sorted precedes w) order in
    made ∙ sym (sorted_stays precedes (sorted precedes (w ∷ ws)) (in_order_sorted precedes list_order (w ∷ ws))) ∙ ap (sorted precedes) (sym made)

pub fewer_in_order : (ws : List Waiter) (who : ℕ) → ws ≡ sorted precedes ws → without waiter_id ws who ≡ sorted precedes (without waiter_id ws who)
fewer_in_order ws who order = ap (λ vs. without waiter_id vs who) order ∙ filter-sorted precedes list_order (λ w. not (eqb w.who who)) ws

pub run_more : (ws : List Waiter) (w : Waiter) (p : Place) → ws ≡ sorted precedes ws → run (insert_sorted precedes w ws) p ≡ cond (stands_at p w) (insert_sorted precedes w (run ws p)) (run ws p)
run_more ws w p order =
    ap (λ vs. filter (stands_at p) (insert_sorted precedes w vs)) order
    ∙ filter-sorted precedes list_order (stands_at p) (w ∷ ws)
    ∙ elim (stands_at p w) as (λ b. sorted precedes (cond b (w ∷ run ws p) (run ws p)) ≡ cond b (insert_sorted precedes w (run ws p)) (run ws p)) [
      | true ↦ ap (insert_sorted precedes w) (in_place ws p order)
      | false ↦ in_place ws p order
    ]
  where
    in_place : (vs : List Waiter) (q : Place) → vs ≡ sorted precedes vs → sorted precedes (run vs q) ≡ run vs q
    in_place vs q o = sym (filter-sorted precedes list_order (stands_at q) vs) ∙ ap (filter (stands_at q)) (sym o)

-- ---- by rising id
-- two waiters with different ids can be added in either order
change_places : (v w : Waiter) (ws : List Waiter) → eqb v.who w.who ≡ false → with_record waiter_id (with_record waiter_id ws w) v ≡ with_record waiter_id (with_record waiter_id ws v) w
change_places v w [] e = grind (arith, e)
change_places v w (u ∷ us) e = grind (arith, e, change_places v w us e)

pub by_id_more : (ws : List Waiter) (w : Waiter) → waiter_of ws w.who ≡ None → by_id (insert_sorted precedes w ws) ≡ with_record waiter_id (by_id ws) w
by_id_more [] w none = refl
by_id_more (v ∷ vs) w none =
    elim (eqb v.who w.who) as (λ e. eqb v.who w.who ≡ e → cond e (Some v) (waiter_of vs w.who) ≡ None → by_id (insert_sorted precedes w (v ∷ vs)) ≡ with_record waiter_id (by_id (v ∷ vs)) w) [
      | true ↦ λ e q. absurd (cc)
      | false ↦ λ e q.
          elim (precedes v w) as (λ b. by_id (cond b (v ∷ insert_sorted precedes w vs) (w ∷ v ∷ vs)) ≡ with_record waiter_id (by_id (v ∷ vs)) w) [
            | true ↦ ap (λ us. with_record waiter_id us v) (by_id_more vs w q) ∙ change_places v w (by_id vs) e
            | false ↦ refl
          ]
    ] refl none

pub by_id_fewer : (ws : List Waiter) (who : ℕ) → by_id (without waiter_id ws who) ≡ without waiter_id (by_id ws) who
by_id_fewer ws who = sym (filter-sorted (λ (v w : Waiter). ltb v.who w.who) id_order (λ w. not (eqb w.who who)) ws)

-- a waiter is in the list exactly if it is in the list by rising id
there_with : (ws : List Waiter) (w : Waiter) (who : ℕ) → is_some (waiter_of (with_record waiter_id ws w) who) ≡ is_some (waiter_of (w ∷ ws) who)
there_with [] w who = refl
there_with (v ∷ vs) w who =
    elim (ltb v.who w.who) as (λ b. is_some (waiter_of (cond b (v ∷ with_record waiter_id vs w) (w ∷ v ∷ vs)) who) ≡ is_some (waiter_of (w ∷ v ∷ vs) who)) [
      | true ↦
          elim (eqb v.who who) as (λ c. is_some (cond c (Some v) (waiter_of (with_record waiter_id vs w) who)) ≡ is_some (cond (eqb w.who who) (Some w) (cond c (Some v) (waiter_of vs who)))) [
            | true ↦ elim (eqb w.who who) as (λ d. true ≡ is_some (cond d (Some w) (Some v))) [ true ↦ refl | false ↦ refl ]
            | false ↦ there_with vs w who
          ]
      | false ↦ refl
    ]

pub there_by_id : (ws : List Waiter) (who : ℕ) → is_some (waiter_of (by_id ws) who) ≡ is_some (waiter_of ws who)
there_by_id [] who = refl
there_by_id (w ∷ ws) who =
    there_with (by_id ws) w who
    ∙ elim (eqb w.who who) as (λ c. is_some (cond c (Some w) (waiter_of (by_id ws) who)) ≡ is_some (cond c (Some w) (waiter_of ws who))) [ true ↦ refl | false ↦ there_by_id ws who ]

none_of : {X : Type 0} (o : Option X) → is_some o ≡ false → o ≡ None
none_of None e = refl
none_of (Some x) e = absurd (cc)

pub absent_by_id : (ws : List Waiter) (who : ℕ) → waiter_of ws who ≡ None → waiter_of (by_id ws) who ≡ None
absent_by_id ws who none = none_of (waiter_of (by_id ws) who) (there_by_id ws who ∙ ap is_some none)

pub absent_in_list : (ws : List Waiter) (who : ℕ) → waiter_of (by_id ws) who ≡ None → waiter_of ws who ≡ None
absent_in_list ws who none = none_of (waiter_of ws who) (sym (there_by_id ws who) ∙ ap is_some none)

-- ---- cells
pub cells_of : (ws : List Waiter) (who : ℕ) → of_id cell_key (map cell_of ws) who ≡ option_map cell_of (waiter_of ws who)
cells_of [] who = refl
cells_of (w ∷ ws) who =
    elim (eqb w.who who) as (λ b. cond b (Some (cell_of w)) (of_id cell_key (map cell_of ws) who) ≡ option_map cell_of (cond b (Some w) (waiter_of ws who))) [ true ↦ refl | false ↦ cells_of ws who ]

unmapped : (o : Option Waiter) → option_map cell_of o ≡ None → o ≡ None
unmapped None e = refl
unmapped (Some w) e = absurd (cc)

pub no_cell : (ws : List Waiter) (who : ℕ) → Absent who (map cell_of ws) → waiter_of ws who ≡ None
no_cell ws who none = unmapped (waiter_of ws who) (sym (cells_of ws who) ∙ none)

pub value_cell : (ws : List Waiter) (who : ℕ) → value_in (map cell_of ws) who ≡ waiter_of ws who
value_cell ws who = ap (option_map cell_value) (cells_of ws who) ∙ held (waiter_of ws who)
  where
    held : (o : Option Waiter) → option_map cell_value (option_map cell_of o) ≡ o
    held None = refl
    held (Some w) = refl

pub held_waiters : (ws : List Waiter) → map cell_value (map cell_of ws) ≡ ws
held_waiters [] = refl
held_waiters (w ∷ ws) = ap (λ vs. w ∷ vs) (held_waiters ws)

-- the ids rise
pub rising_by_id : (ws : List Waiter) → Apart (map cell_of ws) → Rising waiter_id (by_id ws)
rising_by_id [] apart = λ i j d hij hj. absurd (omega (arith, hj))
rising_by_id (w ∷ ws) apart = Rising-with_record waiter_id (by_id ws) w (rising_by_id ws apart.1) (absent_by_id ws w.who (no_cell ws w.who apart.0))

-- ---- the only list
module _ (cs : List (List (ℕ × Waiter))) (own : IsOwn cs) where
  pub own_cells : all_cells cs ≡ map cell_of (waiters_in cs)
  own_cells = ap all_cells own ∙ append-nil (map cell_of (waiters_in cs))

  pub own_chain : chain_at cs 0 ≡ map cell_of (waiters_in cs)
  own_chain = ap (λ ds. chain_at ds 0) own

  pub own_length : length (all_cells cs) ≡ length (waiters_in cs)
  own_length = ap length own_cells ∙ length-map (waiters_in cs) cell_of

  pub own_one : length cs ≡ 1
  own_one = ap length own

  pub own_value : (who : ℕ) → value_of cs who ≡ waiter_of (waiters_in cs) who
  own_value who = ap (λ ds. value_in ds who) own_cells ∙ value_cell (waiters_in cs) who

  pub own_apart : Apart (chain_at cs 0) → Apart (map cell_of (waiters_in cs))
  own_apart a = subst Apart own_chain a

-- such a list, from these waiters
pub owned : (cs : List (List (ℕ × Waiter))) (ws : List Waiter) → cs ≡ map cell_of ws ∷ [] → (waiters_in cs ≡ ws) × IsOwn cs
owned cs ws e =
    let here : waiters_in cs ≡ ws = ap waiters_in e ∙ held_waiters ws in
    (here, e ∙ ap (λ vs. map cell_of vs ∷ []) (sym here))
