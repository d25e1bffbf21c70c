-- Records by id: what a look-up finds, and that a write leaves the other records.
use Rattle.std.proofs.Common.{◌≡◌, ℕ, zero, suc, ◌<◌, true, false, cond, eqb, List, [], ◌∷◌, map, length, get_or, Some, refl, sym, ap, ◌∙◌, subst, arith}
use Rattle.std.specs.List.{AllPairs, All, Contains}
use Rattle.std.proofs.lemmas.Bool.{eqb-true, eq-eqb, ne_eqb}
use Rattle.std.proofs.lemmas.List.{length-map, get_or-map}
use Rattle.std.proofs.lemmas.Option.{same_Some}
use Rattle.id_table.specs.Records.{of_id, change, replace, Rising}

module _ {X : Type 0} (id : X → ℕ) where
  pub rising_tail : (x : X) (xs : List X) → Rising id (x ∷ xs) → Rising id xs
  rising_tail x xs up i j d hij hj = up (suc i) (suc j) d (omega arith) (omega arith)

  pub rising_head : (x : X) (xs : List X) → Rising id (x ∷ xs) → (k : ℕ) (d : X) → k < length xs → id x < id (get_or xs k d)
  rising_head x xs up k d hk = up 0 (suc k) d (omega arith) (omega arith)

  -- a found record has that id
  pub found_id : (xs : List X) (n : ℕ) (x : X) → of_id id xs n ≡ Some x → id x ≡ n
  found_id [] n x e = absurd (cc)
  found_id (y ∷ ys) n x e =
      elim (eqb (id y) n) as (λ b. eqb (id y) n ≡ b → cond b (Some y) (of_id id ys n) ≡ Some x → id x ≡ n) [
        | true ↦ λ b q. ap id (sym (same_Some y x q)) ∙ eqb-true (id y) n b
        | false ↦ λ b q. found_id ys n x q
      ] refl e

  -- it is in the list
  pub found_at : (xs : List X) (n : ℕ) (x : X) → of_id id xs n ≡ Some x → Contains xs x
  found_at [] n x e = absurd (cc)
  found_at (y ∷ ys) n x e =
      elim (eqb (id y) n) as (λ b. cond b (Some y) (of_id id ys n) ≡ Some x → Contains (y ∷ ys) x) [
        | true ↦ λ q. (0, omega arith, same_Some y x q)
        | false ↦ λ q. let at = found_at ys n x q in (suc at.0, omega (arith, at.1), at.2)
      ] e

  -- if the ids rise, each record is found by its id
  pub found_place : (xs : List X) (k : ℕ) (d : X) → Rising id xs → k < length xs → of_id id xs (id (get_or xs k d)) ≡ Some (get_or xs k d)
  found_place [] k d up h = absurd (omega arith)
  found_place (y ∷ ys) zero d up h = ap (λ b. cond b (Some y) (of_id id ys (id y))) (eq-eqb (id y) (id y) refl)
  found_place (y ∷ ys) (suc k) d up h =
      let above = rising_head y ys up k d (omega arith) in
      ap (λ b. cond b (Some y) (of_id id ys (id (get_or ys k d)))) (ne_eqb (id y) (id (get_or ys k d)) (λ q. omega arith))
      ∙ found_place ys k d (rising_tail y ys up) (omega arith)

  pub found_in : (xs : List X) (x : X) → Rising id xs → Contains xs x → of_id id xs (id x) ≡ Some x
  found_in xs x up at = subst (λ y. of_id id xs (id y) ≡ Some y) at.2 (found_place xs at.0 x up at.1)

  -- the record at a place, if it has the id of x, is x
  pub one_of_id : (xs : List X) (n : ℕ) (x : X) (k : ℕ) (d : X) → Rising id xs → of_id id xs n ≡ Some x → k < length xs → id (get_or xs k d) ≡ n → get_or xs k d ≡ x
  one_of_id xs n x k d up e h same =
      same_Some (get_or xs k d) x (sym (found_place xs k d up h) ∙ ap (of_id id xs) same ∙ e)

  none_changed : (n : ℕ) (f g : X → X) (ys : List X) → ((k : ℕ) (d : X) → k < length ys → id (get_or ys k d) ≡ n → ⊥) → change id ys n f ≡ change id ys n g
  none_changed n f g [] none = refl
  none_changed n f g (y ∷ ys) none =
      ap (λ b. cond b (f y) y ∷ change id ys n f) (ne_eqb (id y) n (none 0 y (omega arith)))
      ∙ ap (λ zs. y ∷ zs) (none_changed n f g ys (λ k d h. none (suc k) d (omega arith)))
      ∙ ap (λ b. cond b (g y) y ∷ change id ys n g) (sym (ne_eqb (id y) n (none 0 y (omega arith))))

  -- applying f to the record with an id puts f's result in its place
  pub replace-change : (xs : List X) (n : ℕ) (x : X) (f : X → X) → Rising id xs → of_id id xs n ≡ Some x → replace id xs n (f x) ≡ change id xs n f
  replace-change [] n x f up e = refl
  replace-change (y ∷ ys) n x f up e =
      elim (eqb (id y) n) as (λ b. eqb (id y) n ≡ b → cond b (Some y) (of_id id ys n) ≡ Some x → cond b (f x) y ∷ replace id ys n (f x) ≡ cond b (f y) y ∷ change id ys n f) [
        | true ↦ λ b q.
            ap (λ z. f z ∷ replace id ys n (f x)) (sym (same_Some y x q))
            ∙ ap (λ zs. f y ∷ zs) (none_changed n (λ _. f x) f ys (λ k d h i. let above = rising_head y ys up k d h in let here = eqb-true (id y) n b in omega arith))
        | false ↦ λ b q. ap (λ zs. y ∷ zs) (replace-change ys n x f (rising_tail y ys up) q)
      ] refl e

  -- two changes of the record with an id are equal if they agree at that record
  pub change_alike : (xs : List X) (n : ℕ) (x : X) (f g : X → X) → Rising id xs → of_id id xs n ≡ Some x → f x ≡ g x → change id xs n f ≡ change id xs n g
  change_alike xs n x f g up e same = sym (replace-change xs n x f up e) ∙ ap (replace id xs n) same ∙ replace-change xs n x g up e

  pub All-replace : (P : X → Type 0) (xs : List X) (n : ℕ) (y : X) → All P xs → P y → All P (replace id xs n y)
  All-replace P xs n y all new k d h =
      let within : k < length xs = omega (arith, length-map xs (λ x. cond (eqb (id x) n) y x)) in
      subst P (sym (get_or-map (λ x. cond (eqb (id x) n) y x) xs k d d within))
      (elim (eqb (id (get_or xs k d)) n) as (λ b. P (cond b y (get_or xs k d))) [ true ↦ new | false ↦ all k d within ])

  -- a relation between each two still holds after y replaces x, if it passes on from x to y
  pub AllPairs-replace : (P : X → Type 0) (R : X → X → Type 0) (xs : List X) (n : ℕ) (x y : X) → Rising id xs → of_id id xs n ≡ Some x → All P xs → AllPairs R xs
      → ((u : X) → P u → R u x → R u y) → ((u : X) → P u → R x u → R y u) → AllPairs R (replace id xs n y)
  AllPairs-replace P R xs n x y up e all pairs before after i j d hij hj =
      let put : X → X = λ z. cond (eqb (id z) n) y z in
      let wj : j < length xs = omega (arith, length-map xs put) in
      let wi : i < length xs = omega arith in
      let rise = up i j d hij wj in
      subst (λ a. R a (get_or (map put xs) j d)) (sym (get_or-map put xs i d d wi))
      (subst (R (put (get_or xs i d))) (sym (get_or-map put xs j d d wj))
      (elim (eqb (id (get_or xs i d)) n) as (λ b. eqb (id (get_or xs i d)) n ≡ b → R (cond b y (get_or xs i d)) (put (get_or xs j d))) [
        | true ↦ λ b.
            let ti = eqb-true (id (get_or xs i d)) n b in
            subst (R y) (sym (ap (λ c. cond c y (get_or xs j d)) (ne_eqb (id (get_or xs j d)) n (λ q. omega arith))))
            (after (get_or xs j d) (all j d wj) (subst (λ a. R a (get_or xs j d)) (one_of_id xs n x i d up e wi ti) (pairs i j d hij wj)))
        | false ↦ λ b.
            elim (eqb (id (get_or xs j d)) n) as (λ c. eqb (id (get_or xs j d)) n ≡ c → R (get_or xs i d) (cond c y (get_or xs j d))) [
              | true ↦ λ c.
                  before (get_or xs i d) (all i d wi) (subst (R (get_or xs i d)) (one_of_id xs n x j d up e wj (eqb-true (id (get_or xs j d)) n c)) (pairs i j d hij wj))
              | false ↦ λ c. pairs i j d hij wj
            ] refl
      ] refl))
