-- The first waiter of each place, as waiters are added and removed.
use Rattle.std.proofs.Common.{◌≡◌, ℕ, true, false, cond, eqb, List, [], ◌∷◌, ◌++◌, map, Option, None, Some, refl, sym, ap, ◌∙◌, subst}
use Rattle.std.specs.Prelude.{IsSome}
use Rattle.std.specs.Option.{option_map}
use Rattle.std.specs.List.{AllByRecursion}
use Rattle.std.proofs.lemmas.Bool.{eqb-false, true≢false}
use Rattle.std.proofs.lemmas.Option.{same_Some}
use Rattle.linked_lists.specs.IdTablePlace.{Place}
use Rattle.linked_lists.specs.IdTableSorting.{insert_sorted, sorted, first}
use Rattle.linked_lists.proofs.IdTableSorting.{InOrder, in_order_sorted}
use Rattle.linked_lists.specs.Chains.{chain_at, value_of, Apart}
use Rattle.linked_lists.proofs.Links.{apart_remove}
use Rattle.wait_order.specs.declared.waits.Waiter.{Waiter}
use Rattle.wait_order.specs.declared.fronts.Front.{Front}
use Rattle.wait_order.specs.Line.{waiter_id, waiter_of, stands_at}
use Rattle.wait_order.specs.Fronts.{same_place, place_before, front_of, IsPut}
use Rattle.wait_order.specs.Inside.{precedes, cell_of, waiters_in, first_who, run, AreFronts, IsOwn, IsKept, is_after, stays, IsGone, if_there, next_there}
use Rattle.wait_order.proofs.LineOrder.{named}
use Rattle.wait_order.proofs.Places.{one_place, apart_places}
use Rattle.wait_order.proofs.Standing.{list_order, earlier_place, run_more, own_chain, own_value, owned}
use Rattle.wait_order.proofs.Walking.{joined_cells, found_after, none_ahead}

-- ---- which waiter is first at a place
-- the first waiter of a place, with those before it, which wait elsewhere
pub record Foremost (ws : List Waiter) (p : Place) (w : Waiter) : Type 0 where
  pub prefix : List Waiter
  pub back : List Waiter
  pub whole : ws ≡ prefix ++ w ∷ back
  pub here : stands_at p w ≡ true
  pub none : AllByRecursion (λ x. stands_at p x ≡ false) prefix

pub foremost : (ws : List Waiter) (p : Place) (w : Waiter) → first (run ws p) ≡ Some w → Foremost ws p w
foremost [] p w e = absurd (cc)
foremost (x ∷ xs) p w e =
    elim (stands_at p x) as (λ b. stands_at p x ≡ b → first (cond b (x ∷ run xs p) (run xs p)) ≡ Some w → Foremost (x ∷ xs) p w) [
      | true ↦ λ b q.
          let same : x ≡ w = same_Some x w q in
          record { prefix = []; back = xs; whole = ap (λ y. y ∷ xs) same; here = subst (λ y. stands_at p y ≡ true) same b; none = tt }
      | false ↦ λ b q.
          let f = foremost xs p w q in
          record { prefix = x ∷ f.prefix; back = f.back; whole = ap (λ ys. x ∷ ys) f.whole; here = f.here; none = (b, f.none) }
    ] refl e

pub record IsFoundFirst (cs : List (List (ℕ × Waiter))) (p : Place) (id : ℕ) : Type 0 where
  pub waiter : Waiter
  pub leads : first (run (waiters_in cs) p) ≡ Some waiter
  pub found : value_of cs id ≡ Some waiter

-- the first waiter in the index is in the list
pub first_found : (cs : List (List (ℕ × Waiter))) (fs : List Front) (p : Place) (id : ℕ) → IsKept cs fs → Apart (chain_at cs 0) → front_of fs p ≡ Some id → IsFoundFirst cs p id
first_found cs fs p id k a e =
    let ws = waiters_in cs in
    let n = named (first (run ws p)) id (sym (k.ahead.firsts p) ∙ e) in
    let f = foremost ws p n.0 n.1 in
    let apart = subst (λ vs. Apart (map cell_of vs)) f.whole (subst Apart (own_chain cs k.own) a) in
    record {
      waiter = n.0;
      leads = n.1;
      found = own_value cs k.own id ∙ (λ i. waiter_of (f.whole i) (sym n.2 i)) ∙ found_after f.prefix n.0 f.back (none_ahead f.prefix n.0 f.back apart);
    }

-- ---- a waiter is added
stays_first : (vs : List Waiter) (w : Waiter) → is_after (first vs) w ≡ true → first (insert_sorted precedes w vs) ≡ first vs
stays_first [] w e = absurd (true≢false (sym e))
stays_first (v ∷ vs) w e = ap (λ b. first (cond b (v ∷ insert_sorted precedes w vs) (w ∷ v ∷ vs))) e

comes_first : (vs : List Waiter) (w : Waiter) → is_after (first vs) w ≡ false → first (insert_sorted precedes w vs) ≡ Some w
comes_first [] w e = refl
comes_first (v ∷ vs) w e = ap (λ b. first (cond b (v ∷ insert_sorted precedes w vs) (w ∷ v ∷ vs))) e

pub firsts_stay : (ws : List Waiter) (fs : List Front) (w : Waiter) → ws ≡ sorted precedes ws → AreFronts ws fs → stays ws w ≡ true → AreFronts (insert_sorted precedes w ws) fs
firsts_stay ws fs w order are e = record {
  rising = are.rising;
  firsts = λ p.
      are.firsts p
      ∙ sym (ap first_who (run_more ws w p order)
      ∙ elim (stands_at p w) as (λ b. stands_at p w ≡ b → first_who (cond b (insert_sorted precedes w (run ws p)) (run ws p)) ≡ first_who (run ws p)) [
        | true ↦ λ b. ap (option_map waiter_id) (stays_first (run ws p) w (subst (λ q. is_after (first (run ws q)) w ≡ true) (one_place w.place p b) e))
        | false ↦ λ b. refl
      ] refl);
}

pub firsts_change : (ws : List Waiter) (fs gs : List Front) (w : Waiter) → ws ≡ sorted precedes ws → AreFronts ws fs → stays ws w ≡ false → IsPut fs w.place (Some w.who) gs → AreFronts (insert_sorted precedes w ws) gs
firsts_change ws fs gs w order are e put = record {
  rising = put.rising;
  firsts = λ p.
      put.found p
      ∙ sym (ap first_who (run_more ws w p order)
      ∙ elim (stands_at p w) as (λ b. stands_at p w ≡ b → first_who (cond b (insert_sorted precedes w (run ws p)) (run ws p)) ≡ cond b (Some w.who) (front_of fs p)) [
        | true ↦ λ b. ap (option_map waiter_id) (comes_first (run ws p) w (subst (λ q. is_after (first (run ws q)) w ≡ false) (one_place w.place p b) e))
        | false ↦ λ b. sym (are.firsts p)
      ] refl);
}

-- ---- a waiter is removed
-- the waiters of another place stay
run_other : (xs : List Waiter) (w : Waiter) (ys : List Waiter) (p : Place) → stands_at p w ≡ false → run (xs ++ w ∷ ys) p ≡ run (xs ++ ys) p
run_other [] w ys p e = ap (λ b. cond b (w ∷ run ys p) (run ys p)) e
run_other (x ∷ xs) w ys p e = ap (λ zs. cond (stands_at p x) (x ∷ zs) zs) (run_other xs w ys p e)

-- if another waiter is first, it stays first
first_other : (xs : List Waiter) (w : Waiter) (ys : List Waiter) (p : Place) → (first_who (run (xs ++ w ∷ ys) p) ≡ Some w.who → ⊥) → first_who (run (xs ++ w ∷ ys) p) ≡ first_who (run (xs ++ ys) p)
first_other [] w ys p other =
    elim (stands_at p w) as (λ b. (first_who (cond b (w ∷ run ys p) (run ys p)) ≡ Some w.who → ⊥) → first_who (cond b (w ∷ run ys p) (run ys p)) ≡ first_who (run ys p)) [ true ↦ λ o. absurd (o refl) | false ↦ λ o. refl ] other
first_other (x ∷ xs) w ys p other =
    elim (stands_at p x) as (λ b. (first_who (cond b (x ∷ run (xs ++ w ∷ ys) p) (run (xs ++ w ∷ ys) p)) ≡ Some w.who → ⊥) → first_who (cond b (x ∷ run (xs ++ w ∷ ys) p) (run (xs ++ w ∷ ys) p)) ≡ first_who (cond b (x ∷ run (xs ++ ys) p) (run (xs ++ ys) p))) [
      | true ↦ λ o. refl
      | false ↦ λ o. first_other xs w ys p o
    ] other

-- if it was the first, those after it follow
first_after : (xs : List Waiter) (w : Waiter) (ys : List Waiter) (p : Place) → waiter_of xs w.who ≡ None → first_who (run (xs ++ w ∷ ys) p) ≡ Some w.who → first_who (run (xs ++ ys) p) ≡ first_who (run ys p)
first_after [] w ys p none e = refl
first_after (x ∷ xs) w ys p none e =
    elim (eqb x.who w.who) as (λ c. eqb x.who w.who ≡ c → cond c (Some x) (waiter_of xs w.who) ≡ None → first_who (run (x ∷ xs ++ ys) p) ≡ first_who (run ys p)) [
      | true ↦ λ c q. absurd (cc)
      | false ↦ λ c q.
          elim (stands_at p x) as (λ b. first_who (cond b (x ∷ run (xs ++ w ∷ ys) p) (run (xs ++ w ∷ ys) p)) ≡ Some w.who → first_who (cond b (x ∷ run (xs ++ ys) p) (run (xs ++ ys) p)) ≡ first_who (run ys p)) [
            | true ↦ λ r. absurd (eqb-false x.who w.who c (same_Some x.who w.who r))
            | false ↦ λ r. first_after xs w ys p q r
          ] e
    ] refl none

order_back : (xs ys : List Waiter) → InOrder precedes (xs ++ ys) → InOrder precedes ys
order_back [] ys o = o
order_back (x ∷ xs) ys o = order_back xs ys o.1

pub not_earlier : (v w : Waiter) → precedes v w ≡ false → place_before v.place w.place ≡ false
not_earlier v w e =
    elim (place_before v.place w.place) as (λ b. place_before v.place w.place ≡ b → place_before v.place w.place ≡ false) [ true ↦ λ q. absurd (true≢false (sym (earlier_place v w q) ∙ e)) | false ↦ λ q. q ] refl

-- after a waiter of another place, none is at the place of a waiter before it
none_later : (w y : Waiter) (zs : List Waiter) → precedes y w ≡ false → same_place y.place w.place ≡ false → AllByRecursion (λ z. precedes z y ≡ false) zs → run zs w.place ≡ []
none_later w y [] e other all = refl
none_later w y (z ∷ zs) e other all =
    elim (stands_at w.place z) as (λ b. stands_at w.place z ≡ b → cond b (z ∷ run zs w.place) (run zs w.place) ≡ []) [
      | true ↦ λ b.
          let before : place_before w.place y.place ≡ true = apart_places y.place w.place other (not_earlier y w e) in
          absurd (true≢false (sym (subst (λ p. place_before p y.place ≡ true) (sym (one_place z.place w.place b)) before) ∙ not_earlier z y all.0))
      | false ↦ λ b. none_later w y zs e other all.1
    ] refl

next_first : (xs : List Waiter) (w : Waiter) (ys : List Waiter) → InOrder precedes (w ∷ ys) → Apart (map cell_of (xs ++ ys)) → first_who (run ys w.place) ≡ next_there (xs ++ ys) (first_who ys) w.place
next_first xs w [] o a = refl
next_first xs w (y ∷ ys) o a =
    elim (stands_at w.place y) as (λ b. stands_at w.place y ≡ b → first_who (cond b (y ∷ run ys w.place) (run ys w.place)) ≡ cond b (Some y.who) None) [
      | true ↦ λ b. refl
      | false ↦ λ b. ap first_who (none_later w y ys o.0.0 b o.1.0)
    ] refl
    ∙ sym (ap (if_there w.place y.who) (found_after xs y ys (none_ahead xs y ys a)))

apart_left : (xs : List Waiter) (w : Waiter) (ys : List Waiter) → Apart (map cell_of (xs ++ w ∷ ys)) → Apart (map cell_of (xs ++ ys))
apart_left xs w ys a =
    subst Apart (sym (joined_cells xs ys)) (apart_remove (map cell_of xs) (cell_of w) (map cell_of ys) (subst Apart (joined_cells xs (w ∷ ys)) a))

module _ (cs : List (List (ℕ × Waiter))) (fs : List Front) (w : Waiter) (next : Option ℕ) (g : IsGone cs fs w next) where
  abbrev left : List Waiter
  left = g.prefix ++ g.back

  -- the new first waiter of its place, if it was the first itself
  follows : front_of fs w.place ≡ Some w.who → first_who (run left w.place) ≡ next_there (waiters_in cs) next w.place
  follows e =
      first_after g.prefix w g.back w.place (none_ahead g.prefix w g.back g.apart) (sym (g.ahead.firsts w.place) ∙ e)
      ∙ next_first g.prefix w g.back (order_back g.prefix (w ∷ g.back) (subst (InOrder precedes) (sym g.order) (in_order_sorted precedes list_order (g.prefix ++ w ∷ g.back)))) (apart_left g.prefix w g.back g.apart)
      ∙ (λ i. next_there (sym (owned cs left g.left).0 i) (sym g.next_is i) w.place)

  pub firsts_left : (front_of fs w.place ≡ Some w.who → ⊥) → AreFronts (waiters_in cs) fs
  firsts_left other =
      subst (λ vs. AreFronts vs fs) (sym (owned cs left g.left).0)
      (record {
        rising = g.ahead.rising;
        firsts = λ p.
            g.ahead.firsts p
            ∙ elim (stands_at p w) as (λ b. stands_at p w ≡ b → first_who (run (g.prefix ++ w ∷ g.back) p) ≡ first_who (run left p)) [
              | true ↦ λ b. first_other g.prefix w g.back p (λ q. other (ap (front_of fs) (one_place w.place p b) ∙ g.ahead.firsts p ∙ q))
              | false ↦ λ b. ap first_who (run_other g.prefix w g.back p b)
            ] refl;
      })

  pub firsts_follow : (gs : List Front) (o : Option ℕ) → front_of fs w.place ≡ Some w.who → o ≡ next_there (waiters_in cs) next w.place → IsPut fs w.place o gs → AreFronts (waiters_in cs) gs
  firsts_follow gs o e is put =
      subst (λ vs. AreFronts vs gs) (sym (owned cs left g.left).0)
      (record {
        rising = put.rising;
        firsts = λ p.
            put.found p
            ∙ elim (stands_at p w) as (λ b. stands_at p w ≡ b → cond b o (front_of fs p) ≡ first_who (run left p)) [
              | true ↦ λ b. is ∙ sym (follows e) ∙ ap (λ q. first_who (run left q)) (one_place w.place p b)
              | false ↦ λ b. g.ahead.firsts p ∙ ap first_who (run_other g.prefix w g.back p b)
            ] refl;
      })

  pub left_own : IsOwn cs
  left_own = (owned cs left g.left).1

  pub next_found : (id : ℕ) → next ≡ Some id → IsSome (value_of cs id)
  next_found id e = subst IsSome (sym (own_value cs left_own id ∙ ap (λ vs. waiter_of vs id) (owned cs left g.left).0)) (seen g.back (sym g.next_is ∙ e) (apart_left g.prefix w g.back g.apart))
    where
      seen : (ys : List Waiter) → first_who ys ≡ Some id → Apart (map cell_of (g.prefix ++ ys)) → IsSome (waiter_of (g.prefix ++ ys) id)
      seen [] q a = absurd (cc)
      seen (y ∷ ys) q a = subst (λ k. IsSome (waiter_of (g.prefix ++ y ∷ ys) k)) (same_Some y.who id q) (subst IsSome (sym (found_after g.prefix y ys (none_ahead g.prefix y ys a))) refl)
