-- The place of a waiter in the list, and the waiters passed on the way there.
use Rattle.std.proofs.Common.{◌≡◌, ℕ, ◌+◌, ◌≤◌, true, false, cond, eqb, List, [], ◌∷◌, ◌++◌, map, length, Option, None, Some, refl, sym, ap, ◌∙◌, subst, arith, append_assoc}
use Rattle.std.specs.List.{AllByRecursion}
use Rattle.std.proofs.lemmas.Bool.{eq-eqb}
use Rattle.std.proofs.lemmas.List.{length-append}
use Rattle.std.proofs.lemmas.List.Elements.{All-append, All-cons, All-nil}
use Rattle.std.proofs.lemmas.Option.{same_Some}
use Rattle.linked_lists.specs.IdTableSorting.{insert_sorted, first}
use Rattle.linked_lists.specs.Chains.{chain_at, first_key, is_key, put_before, value_of, NextIs, Apart}
use Rattle.linked_lists.proofs.Links.{Absent, absent_cons, absent_append, apart_middle, apart_back}
use Rattle.wait_order.specs.declared.waits.Waiter.{Waiter}
use Rattle.wait_order.specs.Line.{waiter_of}
use Rattle.wait_order.specs.Inside.{precedes, cell_of, waiters_in, first_who, IsOwn, IsAfter, IsPlace}
use Rattle.wait_order.proofs.Standing.{own_chain, own_value, no_cell}

-- ---- the list from a waiter on
pub joined_cells : (xs ys : List Waiter) → map cell_of (xs ++ ys) ≡ map cell_of xs ++ map cell_of ys
joined_cells [] ys = refl
joined_cells (x ∷ xs) ys = ap (λ zs. cell_of x ∷ zs) (joined_cells xs ys)

pub first_cell : (ws : List Waiter) → first_key (map cell_of ws) ≡ first_who ws
first_cell [] = refl
first_cell (w ∷ ws) = refl

-- the waiter after some others is found by its id
pub found_after : (xs : List Waiter) (w : Waiter) (ys : List Waiter) → waiter_of xs w.who ≡ None → waiter_of (xs ++ w ∷ ys) w.who ≡ Some w
found_after [] w ys none = ap (λ b. cond b (Some w) (waiter_of ys w.who)) (eq-eqb w.who w.who refl)
found_after (x ∷ xs) w ys none =
    elim (eqb x.who w.who) as (λ b. cond b (Some x) (waiter_of xs w.who) ≡ None → cond b (Some x) (waiter_of (xs ++ w ∷ ys) w.who) ≡ Some w) [
      | true ↦ λ q. absurd (cc)
      | false ↦ λ q. found_after xs w ys q
    ] none

-- no other waiter of the list has its id
pub none_ahead : (xs : List Waiter) (w : Waiter) (ys : List Waiter) → Apart (map cell_of (xs ++ w ∷ ys)) → waiter_of xs w.who ≡ None
none_ahead xs w ys a = no_cell xs w.who (apart_middle (map cell_of xs) (cell_of w) (map cell_of ys) (subst Apart (joined_cells xs (w ∷ ys)) a))

pub none_after : (xs : List Waiter) (w : Waiter) (ys : List Waiter) → Apart (map cell_of (xs ++ w ∷ ys)) → waiter_of ys w.who ≡ None
none_after xs w ys a = no_cell ys w.who (apart_back (map cell_of xs) (map cell_of (w ∷ ys)) (subst Apart (joined_cells xs (w ∷ ys)) a)).0

-- ---- the way to the place
-- the next waiter on the way
pub record Ahead (ws : List Waiter) (prefix : List Waiter) (id : ℕ) (back : List Waiter) : Type 0 where
  pub here : Waiter
  pub rest : List Waiter
  pub own : here.who ≡ id
  pub back_is : back ≡ here ∷ rest
  pub found : waiter_of ws id ≡ Some here

pub ahead : (ws : List Waiter) (w : Waiter) (next : Option ℕ) (id : ℕ) → Apart (map cell_of ws) → (b : IsAfter ws next w) → next ≡ Some id → Ahead ws b.prefix id b.back
ahead ws w next id a b e = seen b.back (sym b.next_is ∙ e) b.whole
  where
    seen : (ys : List Waiter) → first_who ys ≡ Some id → ws ≡ b.prefix ++ ys → Ahead ws b.prefix id ys
    seen [] q r = absurd (cc)
    seen (y ∷ ys) q r =
        let own : y.who ≡ id = same_Some y.who id q in
        record {
          here = y;
          rest = ys;
          own = own;
          back_is = refl;
          found = (λ i. waiter_of (r i) (sym own i)) ∙ found_after b.prefix y ys (none_ahead b.prefix y ys (subst (λ vs. Apart (map cell_of vs)) r a));
        }

-- one waiter further
pub further : (cs : List (List (ℕ × Waiter))) (w v : Waiter) (next after : Option ℕ) (id : ℕ) → IsOwn cs → Apart (chain_at cs 0) → (b : IsAfter (waiters_in cs) next w) → next ≡ Some id
    → value_of cs id ≡ Some v → precedes v w ≡ true → NextIs cs id after → (c : IsAfter (waiters_in cs) after w) × (length c.prefix ≡ length b.prefix + 1)
further cs w v next after id own a b e value before follows =
    let ws = waiters_in cs in
    let f = ahead ws w next id (subst Apart (own_chain cs own) a) b e in
    let same : f.here ≡ v = same_Some f.here v (sym f.found ∙ sym (own_value cs own id) ∙ value) in
    let whole : ws ≡ b.prefix ++ f.here ∷ f.rest = b.whole ∙ ap (λ vs. b.prefix ++ vs) f.back_is in
    let cells : chain_at cs 0 ≡ map cell_of b.prefix ++ (id, f.here) ∷ map cell_of f.rest =
    own_chain cs own ∙ ap (map cell_of) whole ∙ joined_cells b.prefix (f.here ∷ f.rest) ∙ ap (λ k. map cell_of b.prefix ++ (k, f.here) ∷ map cell_of f.rest) f.own in (
      record {
        prefix = b.prefix ++ f.here ∷ [];
        back = f.rest;
        whole = whole ∙ sym (append_assoc b.prefix (f.here ∷ []) f.rest);
        next_is = follows 0 (map cell_of b.prefix) (map cell_of f.rest) f.here cells ∙ first_cell f.rest;
        before = All-append (λ u. precedes u w ≡ true) b.prefix (f.here ∷ []) b.before (All-cons (λ u. precedes u w ≡ true) f.here [] (subst (λ u. precedes u w ≡ true) (sym same) before) (All-nil (λ u. precedes u w ≡ true)));
      },
      omega (arith, length-append b.prefix (f.here ∷ [])),
    )

-- the walk ends at a waiter that doesn't precede this one, or at the end of the list
pub place_here : (cs : List (List (ℕ × Waiter))) (w v : Waiter) (next : Option ℕ) (id : ℕ) → IsOwn cs → Apart (chain_at cs 0) → IsAfter (waiters_in cs) next w → next ≡ Some id
    → value_of cs id ≡ Some v → precedes v w ≡ false → IsPlace (waiters_in cs) next w
place_here cs w v next id own a b e value later =
    let ws = waiters_in cs in
    let f = ahead ws w next id (subst Apart (own_chain cs own) a) b e in
    let same : f.here ≡ v = same_Some f.here v (sym f.found ∙ sym (own_value cs own id) ∙ value) in
    record {
      preceded = b;
      later = λ u q. subst (λ x. precedes x w ≡ false) (sym same ∙ same_Some f.here u (sym (ap first f.back_is) ∙ q)) later;
    }

pub place_end : (ws : List Waiter) (w : Waiter) (next : Option ℕ) → IsAfter ws next w → next ≡ None → IsPlace ws next w
place_end ws w next b e = record { preceded = b; later = λ u q. absurd (none b.back u (sym b.next_is ∙ e) q) }
  where
    none : (ys : List Waiter) (u : Waiter) → first_who ys ≡ None → first ys ≡ Some u → ⊥
    none [] u p q = cc
    none (y ∷ ys) u p q = cc

pub place_passed : (ws : List Waiter) (w : Waiter) (next : Option ℕ) → (b : IsAfter ws next w) → length ws ≤ length b.prefix → IsPlace ws next w
place_passed ws w next b long = record { preceded = b; later = λ u q. absurd (none b.back u (omega (arith, long, ap length b.whole, length-append b.prefix b.back)) q) }
  where
    none : (ys : List Waiter) (u : Waiter) → length ys ≡ 0 → first ys ≡ Some u → ⊥
    none [] u p q = cc
    none (y ∷ ys) u p q = omega (arith, p)

-- ---- a waiter at its place
pub put_in_run : (xs ys : List Waiter) (w : Waiter) → Apart (map cell_of (xs ++ ys)) → AllByRecursion (λ v. precedes v w ≡ true) xs → ((v : Waiter) → first ys ≡ Some v → precedes v w ≡ false)
    → put_before (first_who ys) (cell_of w) (map cell_of (xs ++ ys)) ≡ map cell_of (insert_sorted precedes w (xs ++ ys))
put_in_run [] [] w a before later = refl
put_in_run [] (y ∷ ys) w a before later =
    ap (λ b. cond b (cell_of w ∷ map cell_of (y ∷ ys)) (cell_of y ∷ put_before (Some y.who) (cell_of w) (map cell_of ys))) (eq-eqb y.who y.who refl)
    ∙ sym (ap (λ b. map cell_of (cond b (y ∷ insert_sorted precedes w ys) (w ∷ y ∷ ys))) (later y refl))
put_in_run (x ∷ xs) ys w a before later =
    ap (λ b. cond b (cell_of w ∷ map cell_of (x ∷ xs ++ ys)) (cell_of x ∷ put_before (first_who ys) (cell_of w) (map cell_of (xs ++ ys)))) (other ys (absent_append x.who (map cell_of xs) (map cell_of ys) (subst (Absent x.who) (joined_cells xs ys) a.0)).1)
    ∙ ap (λ zs. cell_of x ∷ zs) (put_in_run xs ys w a.1 before.1 later)
    ∙ sym (ap (λ b. map cell_of (cond b (x ∷ insert_sorted precedes w (xs ++ ys)) (w ∷ x ∷ xs ++ ys))) before.0)
  where
    other : (zs : List Waiter) → Absent x.who (map cell_of zs) → is_key (first_who zs) x.who ≡ false
    other [] none = refl
    other (z ∷ zs) none = (absent_cons x.who (cell_of z) (map cell_of zs) none).0
