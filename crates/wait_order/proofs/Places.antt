-- The order of places, and the entries of places as they are added and removed.
use Rattle.std.proofs.Common.{◌≡◌, ℕ, zero, suc, ◌<◌, ◌≤◌, Bool, true, false, not, cond, List, [], ◌∷◌, get_or, set, length, None, Some, refl, sym, ap, ◌∙◌, subst, arith}
use Rattle.std.specs.Option.{option_map}
use Rattle.std.specs.List.{AllByRecursion, find, insert, remove}
use Rattle.std.specs.List.Sorted.{IsPartitionedBy}
use Rattle.std.specs.Cmp.{IsStrictWeakOrder}
use Rattle.std.specs.Cmp.Lexicographic.{nat_list_cmp_total}
use Rattle.std.proofs.lemmas.Bool.{eqb-true, eq-eqb, true≢false}
use Rattle.std.proofs.lemmas.List.Elements.{All-from_recursion}
use Rattle.std.proofs.lemmas.List.MinMax.{ranks_by}
use Rattle.linked_lists.specs.IdTablePlace.{Place}
use Rattle.wait_order.specs.declared.fronts.Front.{Front}
use Rattle.wait_order.specs.Fronts.{same_place, place_key, place_before, Rises, first_id, front_of, first_from, IsRank, StandsHere, GoesHere, IsPut}

pub place_order : IsStrictWeakOrder place_before
place_order = ranks_by nat_list_cmp_total place_key

-- ---- two places
pub one_place : (p q : Place) → same_place p q ≡ true → p ≡ q
one_place p q e =
    let side : p.side ≡ q.side = eqb-true p.side q.side (grind (arith, e)) in
    let id : p.id ≡ q.id = eqb-true p.id q.id (grind (arith, e)) in
    λ i. record { side = side i; id = id i }

pub same_itself : (p : Place) → same_place p p ≡ true
same_itself p = rw (eq-eqb p.side p.side refl, eq-eqb p.id p.id refl) refl

-- of two different places, one comes before the other
pub apart_places : (p q : Place) → same_place p q ≡ false → place_before p q ≡ false → place_before q p ≡ true
apart_places p q e f = grind (arith, e, f)

pub before_apart : (p q : Place) → place_before p q ≡ true → same_place p q ≡ false
before_apart p q e = grind (arith, e)

pub after_apart : (p q : Place) → place_before p q ≡ true → same_place q p ≡ false
after_apart p q e = grind (arith, e)

module _ {X : Type 0} (lt : X → X → Bool) (order : IsStrictWeakOrder lt) where
  pub before_chain : (x y z : X) → lt x y ≡ true → lt y z ≡ true → lt x z ≡ true
  before_chain x y z e f =
      elim (lt x z) as (λ b. lt x z ≡ b → lt x z ≡ true) [ true ↦ λ q. q | false ↦ λ q. absurd (true≢false (sym f ∙ order.chain y x z (order.one_way x y e) q)) ] refl

-- ---- all of a list
pub all_are : {X : Type 0} (P Q : X → Type 0) → ((x : X) → P x → Q x) → (xs : List X) → AllByRecursion P xs → AllByRecursion Q xs
all_are P Q f [] ps = tt
all_are P Q f (x ∷ xs) ps = (f x ps.0, all_are P Q f xs ps.1)

all_set : {X : Type 0} (P : X → Type 0) (x : X) (xs : List X) (k : ℕ) → P x → AllByRecursion P xs → AllByRecursion P (set xs k x)
all_set P x [] k p ps = tt
all_set P x (y ∷ ys) zero p ps = (p, ps.1)
all_set P x (y ∷ ys) (suc k) p ps = (ps.0, all_set P x ys k p ps.1)

all_insert : {X : Type 0} (P : X → Type 0) (x : X) (xs : List X) (k : ℕ) → k ≤ length xs → P x → AllByRecursion P xs → AllByRecursion P (insert xs k x)
all_insert P x [] zero h p ps = (p, tt)
all_insert P x [] (suc k) h p ps = absurd (omega (arith, h))
all_insert P x (y ∷ ys) zero h p ps = (p, ps)
all_insert P x (y ∷ ys) (suc k) h p ps = (ps.0, all_insert P x ys k (omega (arith, h)) p ps.1)

all_remove : {X : Type 0} (P : X → Type 0) (xs : List X) (k : ℕ) → AllByRecursion P xs → AllByRecursion P (remove xs k)
all_remove P [] zero ps = tt
all_remove P [] (suc k) ps = tt
all_remove P (y ∷ ys) zero ps = ps.1
all_remove P (y ∷ ys) (suc k) ps = (ps.0, all_remove P ys k ps.1)

-- ---- the index of a place
-- the first entries, as many as given, are of places before this one, and the others are not
abbrev Ranked : List Front → Place → ℕ → Type 0
Ranked fs p zero = AllByRecursion (λ f. place_before f.place p ≡ false) fs
Ranked [] p (suc i) = ⊥
Ranked (f ∷ fs) p (suc i) = (place_before f.place p ≡ true) × Ranked fs p i

pub ranked : (fs : List Front) (p : Place) (i : ℕ) → i ≤ length fs → IsRank fs p i → Ranked fs p i
ranked [] p zero h at = tt
ranked (f ∷ fs) p zero h at = (at.1 0 f (omega arith) (omega arith), ranked fs p zero (omega arith) (λ k d lo hi. absurd (omega (arith, hi)), λ k d lo hi. at.1 (suc k) d (omega arith) (omega (arith, hi))))
ranked [] p (suc i) h at = absurd (omega (arith, h))
ranked (f ∷ fs) p (suc i) h at =
    (at.0 0 f (omega arith) (omega arith), ranked fs p i (omega (arith, h)) (λ k d lo hi. at.0 (suc k) d (omega arith) (omega (arith, hi)), λ k d lo hi. at.1 (suc k) d (omega (arith, lo)) (omega (arith, hi))))

-- the places before one come first
pub parted : (fs : List Front) (p : Place) → Rises fs → IsPartitionedBy (λ f. place_before f.place p) fs
parted [] p up i j d hij hj e = absurd (omega (arith, hj))
parted (f ∷ fs) p up zero zero d hij hj e = e
parted (f ∷ fs) p up zero (suc j) d hij hj e =
    let preceded = All-from_recursion (λ g. place_before f.place g.place ≡ true) fs up.0 j d (omega (arith, hj)) in
    before_chain place_before place_order f.place (get_or fs j d).place p preceded e
parted (f ∷ fs) p up (suc i) zero d hij hj e = absurd (omega (arith, hij))
parted (f ∷ fs) p up (suc i) (suc j) d hij hj e = parted fs p up.1 i j d (omega (arith, hij)) (omega (arith, hj)) e

pub stands_here : (fs : List Front) (p : Place) (i : ℕ) → Ranked fs p i → i < length fs → ((d : Front) → same_place (get_or fs i d).place p ≡ true) → StandsHere fs p i
stands_here [] p i at h same = absurd (omega (arith, h))
stands_here (f ∷ fs) p zero at h same = same f
stands_here (f ∷ fs) p (suc i) at h same = (at.0, stands_here fs p i at.1 (omega (arith, h)) same)

pub goes_here : (fs : List Front) (p : Place) (i : ℕ) → Rises fs → Ranked fs p i → ((d : Front) → i < length fs → same_place (get_or fs i d).place p ≡ false) → GoesHere fs p i
goes_here [] p zero up at other = tt
goes_here (f ∷ fs) p zero up at other =
    let before = apart_places f.place p (other f (omega arith)) at.0 in
    (before, all_are (λ g. place_before f.place g.place ≡ true) (λ g. place_before p g.place ≡ true) (λ g q. before_chain place_before place_order p f.place g.place before q) fs up.0)
goes_here [] p (suc i) up at other = at
goes_here (f ∷ fs) p (suc i) up at other = (at.0, goes_here fs p i up.1 at.1 (λ d h. other d (omega (arith, h))))

pub goes_within : (fs : List Front) (p : Place) (i : ℕ) → GoesHere fs p i → i ≤ length fs
goes_within fs p zero at = omega arith
goes_within [] p (suc i) at = absurd at
goes_within (f ∷ fs) p (suc i) at = omega (arith, goes_within fs p i at.1)

-- ---- the result of a look-up
-- an entry of another place is passed
pub passed : (f : Front) (fs : List Front) (p : Place) → same_place f.place p ≡ false → front_of (f ∷ fs) p ≡ front_of fs p
passed f fs p e = ap (λ b. option_map first_id (cond b (Some f) (find (λ g. same_place g.place p) fs))) e

pub front_here : (fs : List Front) (p : Place) (i : ℕ) (d : Front) → StandsHere fs p i → front_of fs p ≡ Some (get_or fs i d).first
front_here [] p i d at = absurd at
front_here (f ∷ fs) p zero d at = ap (λ b. option_map first_id (cond b (Some f) (find (λ g. same_place g.place p) fs))) at
front_here (f ∷ fs) p (suc i) d at = passed f fs p (before_apart f.place p at.0) ∙ front_here fs p i d at.1

pub no_front : (fs : List Front) (p : Place) (i : ℕ) → GoesHere fs p i → front_of fs p ≡ None
no_front [] p zero at = refl
no_front (f ∷ fs) p zero at = passed f fs p (after_apart p f.place at.0) ∙ no_front fs p zero at.1
no_front [] p (suc i) at = absurd at
no_front (f ∷ fs) p (suc i) at = passed f fs p (before_apart f.place p at.0) ∙ no_front fs p i at.1

pub from_here : (fs : List Front) (p : Place) (i : ℕ) (d : Front) → Ranked fs p i → i < length fs → first_from fs p ≡ Some (get_or fs i d).first
from_here [] p i d at h = absurd (omega (arith, h))
from_here (f ∷ fs) p zero d at h = ap (λ b. option_map first_id (cond (not b) (Some f) (find (λ g. not (place_before g.place p)) fs))) at.0
from_here (f ∷ fs) p (suc i) d at h = ap (λ b. option_map first_id (cond (not b) (Some f) (find (λ g. not (place_before g.place p)) fs))) at.0 ∙ from_here fs p i d at.1 (omega (arith, h))

pub from_end : (fs : List Front) (p : Place) (i : ℕ) → Ranked fs p i → i ≡ length fs → first_from fs p ≡ None
from_end [] p i at h = refl
from_end (f ∷ fs) p zero at h = absurd (omega (arith, h))
from_end (f ∷ fs) p (suc i) at h = ap (λ b. option_map first_id (cond (not b) (Some f) (find (λ g. not (place_before g.place p)) fs))) at.0 ∙ from_end fs p i at.1 (omega (arith, h))

-- ---- a place gets another first waiter
abbrev entry : Place → ℕ → Front
entry p n = record { place = p; first = n }

pub found_put : (fs : List Front) (p : Place) (n k : ℕ) → Rises fs → StandsHere fs p k → IsPut fs p (Some n) (set fs k (entry p n))
found_put fs p n k up at = record { rising = rises fs k up at; found = λ q. looked fs k at q }
  where
    rises : (gs : List Front) (i : ℕ) → Rises gs → StandsHere gs p i → Rises (set gs i (entry p n))
    rises [] i u a = absurd a
    rises (g ∷ gs) zero u a = (subst (λ r. AllByRecursion (λ h. place_before r h.place ≡ true) gs) (one_place g.place p a) u.0, u.1)
    rises (g ∷ gs) (suc i) u a = (all_set (λ h. place_before g.place h.place ≡ true) (entry p n) gs i a.0 u.0, rises gs i u.1 a.1)

    looked : (gs : List Front) (i : ℕ) → StandsHere gs p i → (q : Place) → front_of (set gs i (entry p n)) q ≡ cond (same_place p q) (Some n) (front_of gs q)
    looked [] i a q = absurd a
    looked (g ∷ gs) zero a q =
        elim (same_place p q) as (λ b. same_place p q ≡ b → option_map first_id (cond b (Some (entry p n)) (find (λ h. same_place h.place q) gs)) ≡ cond b (Some n) (front_of (g ∷ gs) q)) [
          | true ↦ λ e. refl
          | false ↦ λ e. sym (passed g gs q (subst (λ r. same_place r q ≡ false) (sym (one_place g.place p a)) e))
        ] refl
    looked (g ∷ gs) (suc i) a q =
        elim (same_place g.place q) as (λ b. same_place g.place q ≡ b → option_map first_id (cond b (Some g) (find (λ h. same_place h.place q) (set gs i (entry p n)))) ≡ cond (same_place p q) (Some n) (option_map first_id (cond b (Some g) (find (λ h. same_place h.place q) gs)))) [
          | true ↦ λ e. sym (ap (λ b. cond b (Some n) (Some g.first)) (subst (λ r. same_place p r ≡ false) (one_place g.place q e) (after_apart g.place p a.0)))
          | false ↦ λ e. looked gs i a.1 q
        ] refl

pub new_put : (fs : List Front) (p : Place) (n k : ℕ) → Rises fs → GoesHere fs p k → IsPut fs p (Some n) (insert fs k (entry p n))
new_put fs p n k up at = record { rising = rises fs k up at; found = λ q. looked fs k at q }
  where
    rises : (gs : List Front) (i : ℕ) → Rises gs → GoesHere gs p i → Rises (insert gs i (entry p n))
    rises gs zero u a = (a, u)
    rises [] (suc i) u a = absurd a
    rises (g ∷ gs) (suc i) u a = (all_insert (λ h. place_before g.place h.place ≡ true) (entry p n) gs i (goes_within gs p i a.1) a.0 u.0, rises gs i u.1 a.1)

    looked : (gs : List Front) (i : ℕ) → GoesHere gs p i → (q : Place) → front_of (insert gs i (entry p n)) q ≡ cond (same_place p q) (Some n) (front_of gs q)
    looked gs zero a q =
        elim (same_place p q) as (λ b. option_map first_id (cond b (Some (entry p n)) (find (λ h. same_place h.place q) gs)) ≡ cond b (Some n) (front_of gs q)) [ true ↦ refl | false ↦ refl ]
    looked [] (suc i) a q = absurd a
    looked (g ∷ gs) (suc i) a q =
        elim (same_place g.place q) as (λ b. same_place g.place q ≡ b → option_map first_id (cond b (Some g) (find (λ h. same_place h.place q) (insert gs i (entry p n)))) ≡ cond (same_place p q) (Some n) (option_map first_id (cond b (Some g) (find (λ h. same_place h.place q) gs)))) [
          | true ↦ λ e. sym (ap (λ b. cond b (Some n) (Some g.first)) (subst (λ r. same_place p r ≡ false) (one_place g.place q e) (after_apart g.place p a.0)))
          | false ↦ λ e. looked gs i a.1 q
        ] refl

pub found_removed : (fs : List Front) (p : Place) (k : ℕ) → Rises fs → StandsHere fs p k → IsPut fs p None (remove fs k)
found_removed fs p k up at = record { rising = rises fs k up; found = λ q. looked fs k up at q }
  where
    rises : (gs : List Front) (i : ℕ) → Rises gs → Rises (remove gs i)
    rises [] zero u = tt
    rises [] (suc i) u = tt
    rises (g ∷ gs) zero u = u.1
    rises (g ∷ gs) (suc i) u = (all_remove (λ h. place_before g.place h.place ≡ true) gs i u.0, rises gs i u.1)

    looked : (gs : List Front) (i : ℕ) → Rises gs → StandsHere gs p i → (q : Place) → front_of (remove gs i) q ≡ cond (same_place p q) None (front_of gs q)
    looked [] i u a q = absurd a
    looked (g ∷ gs) zero u a q =
        elim (same_place p q) as (λ b. same_place p q ≡ b → front_of gs q ≡ cond b None (front_of (g ∷ gs) q)) [
          | true ↦ λ e. no_front gs q zero (subst (λ r. AllByRecursion (λ h. place_before r h.place ≡ true) gs) (one_place g.place p a ∙ one_place p q e) u.0)
          | false ↦ λ e. sym (passed g gs q (subst (λ r. same_place r q ≡ false) (sym (one_place g.place p a)) e))
        ] refl
    looked (g ∷ gs) (suc i) u a q =
        elim (same_place g.place q) as (λ b. same_place g.place q ≡ b → option_map first_id (cond b (Some g) (find (λ h. same_place h.place q) (remove gs i))) ≡ cond (same_place p q) None (option_map first_id (cond b (Some g) (find (λ h. same_place h.place q) gs)))) [
          | true ↦ λ e. sym (ap (λ b. cond b None (Some g.first)) (subst (λ r. same_place p r ≡ false) (one_place g.place q e) (after_apart g.place p a.0)))
          | false ↦ λ e. looked gs i u.1 a.1 q
        ] refl

pub none_removed : (fs : List Front) (p : Place) (k : ℕ) → Rises fs → GoesHere fs p k → IsPut fs p None fs
none_removed fs p k up at = record {
  rising = up;
  found = λ q.
      elim (same_place p q) as (λ b. same_place p q ≡ b → front_of fs q ≡ cond b None (front_of fs q)) [
        | true ↦ λ e. ap (front_of fs) (sym (one_place p q e)) ∙ no_front fs p k at
        | false ↦ λ e. refl
      ] refl;
}
