-- The whole line, as a waiter is added and one removed.
use Rattle.std.proofs.Common.{◌≡◌, ℕ, ◌+◌, ◌<◌, ◌≤◌, true, false, not, cond, eqb, List, [], ◌∷◌, ◌++◌, map, set, get_or, length, Option, None, Some, refl, sym, ap, ◌∙◌, subst, arith}
use Rattle.std.specs.Prelude.{IsSome}
use Rattle.std.specs.Option.{option_map}
use Rattle.std.specs.List.{AllByRecursion, Contains, filter, find}
use Rattle.std.proofs.lemmas.Bool.{eqb-true, eq-eqb, true≢false}
use Rattle.std.proofs.lemmas.List.{append-nil}
use Rattle.std.proofs.lemmas.List.Elements.{All-from_recursion, All-contains, Contains-append_left, Contains-get_or, recursion_from_All}
use Rattle.std.proofs.lemmas.Option.{same_Some}
use Rattle.linked_lists.specs.IdTablePlace.{Place}
use Rattle.linked_lists.specs.IdTableSorting.{insert_sorted, sorted, first}
use Rattle.linked_lists.specs.IdTableRecords.{without}
use Rattle.linked_lists.proofs.IdTableSorting.{InOrder, in_order_sorted}
use Rattle.linked_lists.proofs.IdTablePlaces.{none_without}
use Rattle.linked_lists.specs.Chains.{Chains, cell_key, chain_at, put_before, value_in, value_of, with_cell, without_cell, NextIs, Apart}
use Rattle.wait_order.specs.declared.waits.Waiter.{Waiter}
use Rattle.wait_order.specs.declared.fronts.Front.{Front}
use Rattle.wait_order.specs.Line.{waiter_id, waiter_of, stands_at}
use Rattle.wait_order.specs.Fronts.{same_place, place_before, Rises, first_id, front_of, first_from}
use Rattle.wait_order.specs.Inside.{precedes, cell_of, waiters_in, first_who, run, AreFronts, IsOwn, IsKept, IsAfter, IsPlace, IsGone}
use Rattle.wait_order.proofs.LineOrder.{named}
use Rattle.wait_order.proofs.Places.{place_order, one_place, same_itself, apart_places, before_apart, all_are, passed}
use Rattle.wait_order.proofs.Standing.{list_order, earlier_place, more_in_order, fewer_in_order, own_chain, own_value, own_apart, owned, value_cell}
use Rattle.wait_order.proofs.Walking.{joined_cells, first_cell, found_after, none_ahead, none_after, put_in_run}
use Rattle.wait_order.proofs.Firsts.{foremost, not_earlier}

-- ---- entries and waiters
all_both : {X : Type 0} (P Q R : X → Type 0) → ((x : X) → P x → Q x → R x) → (xs : List X) → AllByRecursion P xs → AllByRecursion Q xs → AllByRecursion R xs
all_both P Q R f [] ps qs = tt
all_both P Q R f (x ∷ xs) ps qs = (f x ps.0 qs.0, all_both P Q R f xs ps.1 qs.1)

-- each entry is found by its place
own_entries : (fs : List Front) → Rises fs → AllByRecursion (λ f. front_of fs f.place ≡ Some f.first) fs
own_entries [] up = tt
own_entries (f ∷ fs) up = (
  ap (λ b. option_map first_id (cond b (Some f) (find (λ g. same_place g.place f.place) fs))) (same_itself f.place),
  all_both (λ g. place_before f.place g.place ≡ true) (λ g. front_of fs g.place ≡ Some g.first) (λ g. front_of (f ∷ fs) g.place ≡ Some g.first) (λ g before e. passed f fs g.place (before_apart f.place g.place before) ∙ e) fs up.0 (own_entries fs up.1),
)

-- the waiters of another place, after all of one place are left out
run_apart : (p q : Place) (ws : List Waiter) → same_place p q ≡ false → run (filter (λ w. not (stands_at p w)) ws) q ≡ run ws q
run_apart p q [] e = refl
run_apart p q (w ∷ ws) e =
    elim (stands_at p w) as (λ b. stands_at p w ≡ b → run (cond (not b) (w ∷ filter (λ v. not (stands_at p v)) ws) (filter (λ v. not (stands_at p v)) ws)) q ≡ run (w ∷ ws) q) [
      | true ↦ λ b. run_apart p q ws e ∙ sym (ap (λ c. cond c (w ∷ run ws q) (run ws q)) (subst (λ r. same_place r q ≡ false) (sym (one_place w.place p b)) e))
      | false ↦ λ b. ap (λ vs. cond (stands_at q w) (w ∷ vs) vs) (run_apart p q ws e)
    ] refl

length_apart : (p : Place) (ws : List Waiter) → length (filter (λ w. not (stands_at p w)) ws) + length (run ws p) ≡ length ws
length_apart p [] = refl
length_apart p (w ∷ ws) =
    elim (stands_at p w) as (λ b. length (cond (not b) (w ∷ filter (λ v. not (stands_at p v)) ws) (filter (λ v. not (stands_at p v)) ws)) + length (cond b (w ∷ run ws p) (run ws p)) ≡ length (w ∷ ws)) [
      | true ↦ omega (arith, length_apart p ws)
      | false ↦ omega (arith, length_apart p ws)
    ]

-- at most as many places are in use as tasks wait
few_places : (fs : List Front) (ws : List Waiter) → Rises fs → AllByRecursion (λ f. 0 < length (run ws f.place)) fs → length fs ≤ length ws
few_places [] ws up used = omega arith
few_places (f ∷ fs) ws up used =
    let rest = filter (λ w. not (stands_at f.place w)) ws in
    let still = all_both (λ g. place_before f.place g.place ≡ true) (λ g. 0 < length (run ws g.place)) (λ g. 0 < length (run rest g.place))
    (λ g before some. subst (λ vs. 0 < length vs) (sym (run_apart f.place g.place ws (before_apart f.place g.place before))) some) fs up.0 used.1 in
    omega (arith, few_places fs rest up.1 still, length_apart f.place ws, used.0)

pub few_fronts : (ws : List Waiter) (fs : List Front) → AreFronts ws fs → length fs ≤ length ws
few_fronts ws fs are =
    few_places fs ws are.rising (all_are (λ f. front_of fs f.place ≡ Some f.first) (λ f. 0 < length (run ws f.place)) (λ f e. some (run ws f.place) f.first (sym (are.firsts f.place) ∙ e)) fs (own_entries fs are.rising))
  where
    some : (vs : List Waiter) (n : ℕ) → first_who vs ≡ Some n → 0 < length vs
    some [] n e = absurd (cc)
    some (v ∷ vs) n e = omega arith

-- ---- the beginning of a walk
-- a place in use that isn't before p isn't before the first entry of such a place
from_least : (fs : List Front) (p q : Place) (f : Front) → Rises fs → find (λ g. not (place_before g.place p)) fs ≡ Some f → IsSome (front_of fs q) → place_before q p ≡ false → place_before q f.place ≡ false
from_least [] p q f up e some later = absurd (cc)
from_least (g ∷ gs) p q f up e some later =
    elim (place_before g.place p) as (λ b. place_before g.place p ≡ b → cond (not b) (Some g) (find (λ h. not (place_before h.place p)) gs) ≡ Some f → place_before q f.place ≡ false) [
      | true ↦ λ b r.
          elim (same_place g.place q) as (λ c. same_place g.place q ≡ c → IsSome (option_map first_id (cond c (Some g) (find (λ h. same_place h.place q) gs))) → place_before q f.place ≡ false) [
            | true ↦ λ c s. absurd (true≢false (sym (subst (λ x. place_before x p ≡ true) (one_place g.place q c) b) ∙ later))
            | false ↦ λ c s. from_least gs p q f up.1 r s later
          ] refl some
      | false ↦ λ b r.
          let same : g ≡ f = same_Some g f r in
          subst (λ h. place_before q h.place ≡ false) same
          (elim (same_place g.place q) as (λ c. same_place g.place q ≡ c → IsSome (option_map first_id (cond c (Some g) (find (λ h. same_place h.place q) gs))) → place_before q g.place ≡ false) [
            | true ↦ λ c s. subst (λ x. place_before x g.place ≡ false) (one_place g.place q c) (itself g.place)
            | false ↦ λ c s. place_order.one_way g.place q (preceded gs up.0 s)
          ] refl some)
    ] refl e
  where
    itself : (r : Place) → place_before r r ≡ false
    itself r = elim (place_before r r) as (λ b. place_before r r ≡ b → place_before r r ≡ false) [ true ↦ λ h. place_order.one_way r r h | false ↦ λ h. h ] refl

    preceded : (hs : List Front) → AllByRecursion (λ h. place_before g.place h.place ≡ true) hs → IsSome (front_of hs q) → place_before g.place q ≡ true
    preceded [] all s = absurd (cc)
    preceded (h ∷ hs) all s =
        elim (same_place h.place q) as (λ c. same_place h.place q ≡ c → IsSome (option_map first_id (cond c (Some h) (find (λ k. same_place k.place q) hs))) → place_before g.place q ≡ true) [
          | true ↦ λ c t. subst (λ x. place_before g.place x ≡ true) (one_place h.place q c) all.0
          | false ↦ λ c t. preceded hs all.1 t
        ] refl s

-- if no entry is of such a place, all places in use are before it
all_before : (fs : List Front) (p q : Place) → find (λ g. not (place_before g.place p)) fs ≡ None → IsSome (front_of fs q) → place_before q p ≡ true
all_before [] p q e some = absurd (cc)
all_before (g ∷ gs) p q e some =
    elim (place_before g.place p) as (λ b. place_before g.place p ≡ b → cond (not b) (Some g) (find (λ h. not (place_before h.place p)) gs) ≡ None → place_before q p ≡ true) [
      | true ↦ λ b r.
          elim (same_place g.place q) as (λ c. same_place g.place q ≡ c → IsSome (option_map first_id (cond c (Some g) (find (λ h. same_place h.place q) gs))) → place_before q p ≡ true) [
            | true ↦ λ c s. subst (λ x. place_before x p ≡ true) (one_place g.place q c) b
            | false ↦ λ c s. all_before gs p q r s
          ] refl some
      | false ↦ λ b r. absurd (cc)
    ] refl e

-- the found entry has the first waiter of its place
entry_found : (fs : List Front) (p : Place) (f : Front) → Rises fs → find (λ g. not (place_before g.place p)) fs ≡ Some f → front_of fs f.place ≡ Some f.first
entry_found [] p f up e = absurd (cc)
entry_found (g ∷ gs) p f up e =
    elim (place_before g.place p) as (λ b. place_before g.place p ≡ b → cond (not b) (Some g) (find (λ h. not (place_before h.place p)) gs) ≡ Some f → front_of (g ∷ gs) f.place ≡ Some f.first) [
      | true ↦ λ b r.
          let rest = entry_found gs p f up.1 r in
          passed g gs f.place (before_apart g.place f.place (preceded gs up.0 r)) ∙ rest
      | false ↦ λ b r. subst (λ h. front_of (g ∷ gs) h.place ≡ Some h.first) (same_Some g f r) (ap (λ c. option_map first_id (cond c (Some g) (find (λ h. same_place h.place g.place) gs))) (same_itself g.place))
    ] refl e
  where
    preceded : (hs : List Front) → AllByRecursion (λ h. place_before g.place h.place ≡ true) hs → find (λ h. not (place_before h.place p)) hs ≡ Some f → place_before g.place f.place ≡ true
    preceded [] all s = absurd (cc)
    preceded (h ∷ hs) all s =
        elim (place_before h.place p) as (λ c. cond (not c) (Some h) (find (λ k. not (place_before k.place p)) hs) ≡ Some f → place_before g.place f.place ≡ true) [
          | true ↦ λ t. preceded hs all.1 t
          | false ↦ λ t. subst (λ k. place_before g.place k.place ≡ true) (same_Some h f t) all.0
        ] s

-- the place of each waiter is in use
in_use : (ws : List Waiter) (fs : List Front) → AreFronts ws fs → (w : Waiter) → Contains ws w → IsSome (front_of fs w.place)
in_use ws fs are w at =
    subst IsSome (sym (are.firsts w.place)) (All-contains (λ v. IsSome (first_who (run ws v.place))) ws w (All-from_recursion (λ v. IsSome (first_who (run ws v.place))) ws (own ws)) at)
  where
    with_more : (v : Waiter) (vs : List Waiter) (p : Place) → IsSome (first_who (run vs p)) → IsSome (first_who (run (v ∷ vs) p))
    with_more v vs p h = elim (stands_at p v) as (λ b. IsSome (first_who (cond b (v ∷ run vs p) (run vs p)))) [ true ↦ refl | false ↦ h ]

    own : (vs : List Waiter) → AllByRecursion (λ v. IsSome (first_who (run vs v.place))) vs
    own [] = tt
    own (v ∷ vs) = (
      subst (λ b. IsSome (first_who (cond b (v ∷ run vs v.place) (run vs v.place)))) (sym (same_itself v.place)) refl,
      all_are (λ u. IsSome (first_who (run vs u.place))) (λ u. IsSome (first_who (run (v ∷ vs) u.place))) (λ u h. with_more v vs u.place h) vs (own vs),
    )

ahead_of : (xs : List Waiter) (z : Waiter) (ys : List Waiter) → InOrder precedes (xs ++ z ∷ ys) → AllByRecursion (λ x. precedes z x ≡ false) xs
ahead_of [] z ys o = tt
ahead_of (x ∷ xs) z ys o = (middle xs o.0, ahead_of xs z ys o.1)
  where
    middle : (us : List Waiter) → AllByRecursion (λ u. precedes u x ≡ false) (us ++ z ∷ ys) → precedes z x ≡ false
    middle [] all = all.0
    middle (u ∷ us) all = middle us all.1

-- all waiters before the first of a place, or of the next place in use, precede each waiter of that place
pub start_after : (ws : List Waiter) (fs : List Front) (w : Waiter) → ws ≡ sorted precedes ws → AreFronts ws fs → IsAfter ws (first_from fs w.place) w
start_after ws fs w order are =
    elim (find (λ g. not (place_before g.place w.place)) fs) as (λ o. find (λ g. not (place_before g.place w.place)) fs ≡ o → IsAfter ws (option_map first_id o) w) [
      | None ↦ λ e.
          record {
            prefix = ws;
            back = [];
            whole = sym (append-nil ws);
            next_is = refl;
            before = λ k d h. earlier_place (get_or ws k d) w (all_before fs w.place (get_or ws k d).place e (in_use ws fs are (get_or ws k d) (Contains-get_or ws k d h)));
          }
      | Some f ↦ λ e.
          let n = named (first (run ws f.place)) f.first (sym (are.firsts f.place) ∙ entry_found fs w.place f are.rising e) in
          let m = foremost ws f.place n.0 n.1 in
          let o = subst (InOrder precedes) (sym order ∙ m.whole) (in_order_sorted precedes list_order ws) in
          let after = All-from_recursion (λ x. precedes n.0 x ≡ false) m.prefix (ahead_of m.prefix n.0 m.back o) in
          let apart = All-from_recursion (λ x. stands_at f.place x ≡ false) m.prefix m.none in
          record {
            prefix = m.prefix;
            back = n.0 ∷ m.back;
            whole = m.whole;
            next_is = ap (λ k. Some k) (sym n.2);
            before = λ k d h.
                let x = get_or m.prefix k d in
                let used = in_use ws fs are x (subst (λ vs. Contains vs x) (sym m.whole) (Contains-append_left m.prefix (n.0 ∷ m.back) x (Contains-get_or m.prefix k d h))) in
                earlier_place x w
                (elim (place_before x.place w.place) as (λ b. place_before x.place w.place ≡ b → place_before x.place w.place ≡ true) [
                  | true ↦ λ b. b
                  | false ↦ λ b.
                      let least = from_least fs w.place x.place f are.rising e used b in
                      let here : n.0.place ≡ f.place = one_place n.0.place f.place m.here in
                      let preceded = apart_places x.place f.place (apart k d h) least in
                      absurd (true≢false (sym (subst (λ p. place_before p x.place ≡ true) (sym here) preceded) ∙ not_earlier n.0 x (after k d h)))
                ] refl);
          }
    ] refl

-- ---- a waiter is added
pub record Comes (t : Chains Waiter) (next : Option ℕ) (w : Waiter) : Type 0 where
  pub waiters : waiters_in (with_cell t 0 next (w.who, w)).chains ≡ insert_sorted precedes w (waiters_in t.chains)
  pub own : IsOwn (with_cell t 0 next (w.who, w)).chains
  pub order : waiters_in (with_cell t 0 next (w.who, w)).chains ≡ sorted precedes (waiters_in (with_cell t 0 next (w.who, w)).chains)

pub comes : (t : Chains Waiter) (next : Option ℕ) (w : Waiter) → IsOwn t.chains → waiters_in t.chains ≡ sorted precedes (waiters_in t.chains) → Apart (chain_at t.chains 0) → IsPlace (waiters_in t.chains) next w → Comes t next w
comes t next w own order a place =
    let ws = waiters_in t.chains in
    let b = place.preceded in
    let apart = own_apart t.chains own a in
    let put : put_before next (cell_of w) (map cell_of ws) ≡ map cell_of (insert_sorted precedes w ws) =
    (λ i. put_before (b.next_is i) (cell_of w) (map cell_of (b.whole i)))
    ∙ put_in_run b.prefix b.back w (subst (λ vs. Apart (map cell_of vs)) b.whole apart) (recursion_from_All (λ v. precedes v w ≡ true) b.prefix b.before) place.later
    ∙ ap (λ vs. map cell_of (insert_sorted precedes w vs)) (sym b.whole) in
    let made : set t.chains 0 (put_before next (cell_of w) (chain_at t.chains 0)) ≡ map cell_of (insert_sorted precedes w ws) ∷ [] =
    ap (λ cs. set cs 0 (put_before next (cell_of w) (chain_at cs 0))) own ∙ ap (λ c. c ∷ []) put in
    let o = owned (with_cell t 0 next (w.who, w)).chains (insert_sorted precedes w ws) made in
    record { waiters = o.0; own = o.1; order = o.0 ∙ more_in_order ws w order ∙ ap (sorted precedes) (sym o.0) }

-- the next waiter is in the list
pub place_there : (cs : List (List (ℕ × Waiter))) (next : Option ℕ) (w : Waiter) → IsOwn cs → Apart (chain_at cs 0) → IsPlace (waiters_in cs) next w → (id : ℕ) → next ≡ Some id → IsSome (value_in (chain_at cs 0) id)
place_there cs next w own a place id e =
    let b = place.preceded in
    subst (λ c. IsSome (value_in c id)) (sym (own_chain cs own ∙ ap (map cell_of) b.whole)) (seen b.back (sym b.next_is ∙ e) (subst (λ vs. Apart (map cell_of vs)) b.whole (own_apart cs own a)))
  where
    seen : (ys : List Waiter) → first_who ys ≡ Some id → Apart (map cell_of (place.preceded.prefix ++ ys)) → IsSome (value_in (map cell_of (place.preceded.prefix ++ ys)) id)
    seen [] q b = absurd (cc)
    seen (y ∷ ys) q b =
        subst (λ k. IsSome (value_in (map cell_of (place.preceded.prefix ++ y ∷ ys)) k)) (same_Some y.who id q)
        (subst IsSome (sym (value_cell (place.preceded.prefix ++ y ∷ ys) y.who ∙ found_after place.preceded.prefix y ys (none_ahead place.preceded.prefix y ys b))) refl)

-- ---- a waiter is removed
-- a waiter in the list, with those before and after it
record Spot (ws : List Waiter) (who : ℕ) (w : Waiter) : Type 0 where
  prefix : List Waiter
  back : List Waiter
  whole : ws ≡ prefix ++ w ∷ back
  own : w.who ≡ who

spot : (ws : List Waiter) (who : ℕ) (w : Waiter) → waiter_of ws who ≡ Some w → Spot ws who w
spot [] who w e = absurd (cc)
spot (x ∷ xs) who w e =
    elim (eqb x.who who) as (λ b. eqb x.who who ≡ b → cond b (Some x) (waiter_of xs who) ≡ Some w → Spot (x ∷ xs) who w) [
      | true ↦ λ b q.
          let same : x ≡ w = same_Some x w q in
          record { prefix = []; back = xs; whole = ap (λ y. y ∷ xs) same; own = ap (λ (y : Waiter). y.who) (sym same) ∙ eqb-true x.who who b }
      | false ↦ λ b q. let s = spot xs who w q in record { prefix = x ∷ s.prefix; back = s.back; whole = ap (λ ys. x ∷ ys) s.whole; own = s.own }
    ] refl e

pub record Goes (t : Chains Waiter) (fs : List Front) (who : ℕ) (next : Option ℕ) (w : Waiter) : Type 0 where
  pub waiters : waiters_in (without_cell t who).chains ≡ without waiter_id (waiters_in t.chains) who
  pub own : IsOwn (without_cell t who).chains
  pub order : waiters_in (without_cell t who).chains ≡ sorted precedes (waiters_in (without_cell t who).chains)
  pub gone : IsGone (without_cell t who).chains fs w next

without_cells : (ws : List Waiter) (who : ℕ) → without cell_key (map cell_of ws) who ≡ map cell_of (without waiter_id ws who)
without_cells [] who = refl
without_cells (w ∷ ws) who =
    elim (eqb w.who who) as (λ b. cond (not b) (cell_of w ∷ without cell_key (map cell_of ws) who) (without cell_key (map cell_of ws) who) ≡ map cell_of (cond (not b) (w ∷ without waiter_id ws who) (without waiter_id ws who))) [
      | true ↦ without_cells ws who
      | false ↦ ap (λ cs. cell_of w ∷ cs) (without_cells ws who)
    ]

fewer_chains : (t : Chains Waiter) (who : ℕ) → IsOwn t.chains → (without_cell t who).chains ≡ map cell_of (without waiter_id (waiters_in t.chains) who) ∷ []
fewer_chains t who own = ap (map (λ c. without cell_key c who)) own ∙ ap (λ c. c ∷ []) (without_cells (waiters_in t.chains) who)

pub goes : (t : Chains Waiter) (fs : List Front) (who : ℕ) (next : Option ℕ) (w : Waiter) → IsKept t.chains fs → Apart (chain_at t.chains 0) → value_of t.chains who ≡ Some w → NextIs t.chains who next → Goes t fs who next w
goes t fs who next w k a value follows =
    let cs = t.chains in
    let ws = waiters_in cs in
    let s = spot ws who w (sym (own_value cs k.own who) ∙ value) in
    let apart = subst (λ vs. Apart (map cell_of vs)) s.whole (own_apart cs k.own a) in
    let left : without waiter_id ws who ≡ s.prefix ++ s.back = (λ i. without waiter_id (s.whole i) (sym s.own i)) ∙ without_here s.prefix w s.back (none_ahead s.prefix w s.back apart) (none_after s.prefix w s.back apart) in
    let chains = fewer_chains t who k.own in
    let o = owned (without_cell t who).chains (without waiter_id ws who) chains in
    let cells : chain_at cs 0 ≡ map cell_of s.prefix ++ (who, w) ∷ map cell_of s.back =
    own_chain cs k.own ∙ ap (map cell_of) s.whole ∙ joined_cells s.prefix (w ∷ s.back) ∙ ap (λ n. map cell_of s.prefix ++ (n, w) ∷ map cell_of s.back) s.own in
    record {
      waiters = o.0;
      own = o.1;
      order = o.0 ∙ fewer_in_order ws who k.order ∙ ap (sorted precedes) (sym o.0);
      gone = record {
        prefix = s.prefix;
        back = s.back;
        left = chains ∙ ap (λ vs. map cell_of vs ∷ []) left;
        next_is = follows 0 (map cell_of s.prefix) (map cell_of s.back) w cells ∙ first_cell s.back;
        order = subst (λ vs. vs ≡ sorted precedes vs) s.whole k.order;
        apart = apart;
        ahead = subst (λ vs. AreFronts vs fs) s.whole k.ahead;
      };
    }
  where
    without_here : (xs : List Waiter) (v : Waiter) (ys : List Waiter) → waiter_of xs v.who ≡ None → waiter_of ys v.who ≡ None → without waiter_id (xs ++ v ∷ ys) v.who ≡ xs ++ ys
    without_here [] v ys none gone =
        ap (λ b. cond (not b) (v ∷ without waiter_id ys v.who) (without waiter_id ys v.who)) (eq-eqb v.who v.who refl) ∙ none_without waiter_id ys v.who gone
    without_here (x ∷ xs) v ys none gone =
        elim (eqb x.who v.who) as (λ b. cond b (Some x) (waiter_of xs v.who) ≡ None → cond (not b) (x ∷ without waiter_id (xs ++ v ∷ ys) v.who) (without waiter_id (xs ++ v ∷ ys) v.who) ≡ x ∷ xs ++ ys) [
          | true ↦ λ q. absurd (cc)
          | false ↦ λ q. ap (λ zs. x ∷ zs) (without_here xs v ys q gone)
        ] none

-- removing a task that doesn't wait changes nothing
pub none_goes : (t : Chains Waiter) (who : ℕ) → IsOwn t.chains → value_of t.chains who ≡ None → without_cell t who ≡ t
none_goes t who own none =
    let ws = waiters_in t.chains in
    let left : without waiter_id ws who ≡ ws = none_without waiter_id ws who (sym (own_value t.chains own who) ∙ none) in
    λ i. record { chains = (fewer_chains t who own ∙ ap (λ vs. map cell_of vs ∷ []) left ∙ sym own) i; room = t.room }
