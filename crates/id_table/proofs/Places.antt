-- A record's place in a list of rising ids: looking it up, adding one, removing one.
use Rattle.std.proofs.Common.{◌≡◌, ℕ, zero, suc, ◌+◌, ◌<◌, ◌≤◌, Bool, true, false, not, cond, eqb, ltb, List, [], ◌∷◌, length, get_or, Option, None, Some, refl, sym, ap, ◌∙◌, arith}
use Rattle.std.specs.List.{All, position, position_or_len, insert, remove}
use Rattle.std.specs.Option.{MatchOption}
use Rattle.std.proofs.lemmas.Grind.{common_steps}
use Rattle.std.proofs.lemmas.Bool.{eqb-true, eqb-false, eq-eqb, ne_eqb, ltb-true, ltb-false}
use Rattle.std.proofs.lemmas.List.Elements.{All-cons, All-head, All-tail}
use Rattle.std.proofs.lemmas.List.Kept.{AllPairs-cons, AllPairs-filter}
use Rattle.std.proofs.lemmas.List.Quantifiers.{position-Some}
use Rattle.id_table.specs.Records.{of_id, change, without, with_record, StandsAt, Rising}
use Rattle.id_table.proofs.Passing.{length-filter}
use Rattle.id_table.proofs.Records.{rising_tail, rising_head, found_place}

module _ {X : Type 0} (id : X → ℕ) where
  -- ---- the place of a record
  abbrev pub place_of : List X → X → ℕ
  place_of xs x = position_or_len (λ y. not (ltb (id y) (id x))) xs

  no_place : (xs : List X) (n : ℕ) → position (λ x. eqb (id x) n) xs ≡ None → of_id id xs n ≡ None
  no_place [] n e = refl
  no_place (x ∷ xs) n e =
      elim (eqb (id x) n) as (λ b. eqb (id x) n ≡ b → cond b (Some x) (of_id id xs n) ≡ None) [
        | true ↦ λ b. absurd (grind (arith, common_steps, e, b))
        | false ↦ λ b. no_place xs n (grind (arith, common_steps, e, b))
      ] refl

  stands : (xs : List X) (n k : ℕ) → position (λ x. eqb (id x) n) xs ≡ Some k → StandsAt id xs n k
  stands [] n k e = grind arith
  stands (x ∷ xs) n k e = record {
    within = (position-Some (λ y. eqb (id y) n) (x ∷ xs) k x e).0;
    same = λ d. eqb-true (id (get_or (x ∷ xs) k d)) n (position-Some (λ y. eqb (id y) n) (x ∷ xs) k d e).1;
  }

  -- a search by id
  pub place_found : (xs : List X) (n : ℕ) → MatchOption (position (λ x. eqb (id x) n) xs) (of_id id xs n ≡ None) (StandsAt id xs n)
  place_found xs n =
      elim (position (λ x. eqb (id x) n) xs) as (λ o. position (λ x. eqb (id x) n) xs ≡ o → MatchOption o (of_id id xs n ≡ None) (StandsAt id xs n)) [
        | None ↦ no_place xs n
        | Some k ↦ stands xs n k
      ] refl

  pub found_stands : (xs : List X) (n k : ℕ) → Rising id xs → (at : StandsAt id xs n k) → (x : X) × (of_id id xs n ≡ Some x)
  found_stands [] n k up at = absurd (omega (arith, at.within))
  found_stands (x ∷ xs) n k up at =
      let y : X = get_or (x ∷ xs) k x in
      (y, ap (of_id id (x ∷ xs)) (sym (at.same x)) ∙ found_place id (x ∷ xs) k x up at.within)

  -- ---- removing one
  pub none_without : (xs : List X) (n : ℕ) → of_id id xs n ≡ None → without id xs n ≡ xs
  none_without [] n e = refl
  none_without (x ∷ xs) n e =
      elim (eqb (id x) n) as (λ b. cond b (Some x) (of_id id xs n) ≡ None → cond (not b) (x ∷ without id xs n) (without id xs n) ≡ x ∷ xs) [
        | true ↦ λ q. absurd (cc)
        | false ↦ λ q. ap (λ ys. x ∷ ys) (none_without xs n q)
      ] e

  -- if all ids are above this one, no record has it
  pub above_none : (xs : List X) (n : ℕ) → All (λ x. n < id x) xs → of_id id xs n ≡ None
  above_none [] n up = refl
  above_none (x ∷ xs) n up =
      let here : n < id x = All-head (λ y. n < id y) x xs up in
      ap (λ b. cond b (Some x) (of_id id xs n)) (ne_eqb (id x) n (λ q. omega arith)) ∙ above_none xs n (All-tail (λ y. n < id y) x xs up)

  -- if no record has the id, none changes
  pub not_there : (xs : List X) (n : ℕ) (f : X → X) → of_id id xs n ≡ None → change id xs n f ≡ xs
  not_there [] n f e = refl
  not_there (x ∷ xs) n f e =
      elim (eqb (id x) n) as (λ b. cond b (Some x) (of_id id xs n) ≡ None → cond b (f x) x ∷ change id xs n f ≡ x ∷ xs) [
        | true ↦ λ q. absurd (cc)
        | false ↦ λ q. ap (λ ys. x ∷ ys) (not_there xs n f q)
      ] e

  -- a list without one of its records is shorter
  pub fewer_without : (xs : List X) (n : ℕ) (x : X) → of_id id xs n ≡ Some x → length (without id xs n) + 1 ≤ length xs
  fewer_without [] n x e = absurd (cc)
  fewer_without (y ∷ ys) n x e =
      elim (eqb (id y) n) as (λ b. cond b (Some y) (of_id id ys n) ≡ Some x → length (cond (not b) (y ∷ without id ys n) (without id ys n)) + 1 ≤ length (y ∷ ys)) [
        | true ↦ λ q. omega (arith, length-filter (λ z. not (eqb (id z) n)) ys)
        | false ↦ λ q. omega (arith, fewer_without ys n x q)
      ] e

  pub remove_place : (xs : List X) (n k : ℕ) → Rising id xs → StandsAt id xs n k → remove xs k ≡ without id xs n
  remove_place [] n k up at = absurd (omega (arith, at.within))
  remove_place (x ∷ xs) n zero up at =
      let here : id x ≡ n = at.same x in
      sym (none_without xs n (above_none xs n (λ k d hk. let above = rising_head id x xs up k d hk in omega arith)))
      ∙ ap (λ b. cond (not b) (x ∷ without id xs n) (without id xs n)) (sym (eq-eqb (id x) n here))
  remove_place (x ∷ xs) n (suc k) up at =
      let within : k < length xs = omega (arith, at.within) in
      let here : id (get_or xs k x) ≡ n = at.same x in
      let above : id x < id (get_or xs k x) = rising_head id x xs up k x within in
      ap (λ ys. x ∷ ys) (remove_place xs n k (rising_tail id x xs up) (record { within = within; same = λ d. at.same d }))
      ∙ ap (λ b. cond (not b) (x ∷ without id xs n) (without id xs n)) (sym (ne_eqb (id x) n (λ q. omega arith)))

  pub of_id-without : (xs : List X) (n m : ℕ) → of_id id (without id xs n) m ≡ cond (eqb m n) None (of_id id xs m)
  of_id-without [] n m = elim (eqb m n) as (λ b. ◌≡◌ {A = Option X} None (cond b None None)) [ true ↦ refl | false ↦ refl ]
  of_id-without (x ∷ xs) n m =
      elim (eqb (id x) n) as (λ b. eqb (id x) n ≡ b → of_id id (cond (not b) (x ∷ without id xs n) (without id xs n)) m ≡ cond (eqb m n) None (cond (eqb (id x) m) (Some x) (of_id id xs m))) [
        | true ↦ λ b.
            of_id-without xs n m
            ∙ elim (eqb (id x) m) as (λ c. eqb (id x) m ≡ c → cond (eqb m n) None (of_id id xs m) ≡ cond (eqb m n) None (cond c (Some x) (of_id id xs m))) [
              | true ↦ λ c.
                  let same : eqb m n ≡ true = ap (λ i. eqb i n) (sym (eqb-true (id x) m c)) ∙ b in
                  ap (λ d. cond d None (of_id id xs m)) same ∙ sym (ap (λ d. cond d None (Some x)) same)
              | false ↦ λ c. refl
            ] refl
        | false ↦ λ b.
            elim (eqb (id x) m) as (λ c. eqb (id x) m ≡ c → cond c (Some x) (of_id id (without id xs n) m) ≡ cond (eqb m n) None (cond c (Some x) (of_id id xs m))) [
              | true ↦ λ c. sym (ap (λ d. cond d None (Some x)) (ap (λ i. eqb i n) (sym (eqb-true (id x) m c)) ∙ b))
              | false ↦ λ c. of_id-without xs n m
            ] refl
      ] refl

  pub gone : (xs : List X) (n : ℕ) → of_id id (without id xs n) n ≡ None
  gone xs n = of_id-without xs n n ∙ ap (λ b. cond b None (of_id id xs n)) (eq-eqb n n refl)

  pub Rising-without : (xs : List X) (n : ℕ) → Rising id xs → Rising id (without id xs n)
  Rising-without xs n up = AllPairs-filter (λ x y. id x < id y) (λ x. not (eqb (id x) n)) xs up

  -- ---- adding one
  pub insert_place : (x : X) (xs : List X) → insert xs (place_of xs x) x ≡ with_record id xs x
  insert_place x [] = refl
  insert_place x (y ∷ ys) =
      elim (ltb (id y) (id x)) as (λ t. insert (y ∷ ys) (cond (not (not t)) (1 + place_of ys x) 0) x ≡ cond t (y ∷ with_record id ys x) (x ∷ y ∷ ys)) [
        | true ↦
            let n : 1 + place_of ys x ≡ suc (place_of ys x) = omega arith in
            ap (λ j. insert (y ∷ ys) j x) n ∙ ap (λ zs. y ∷ zs) (insert_place x ys)
        | false ↦ refl
      ]

  all_with : (P : X → Type 0) (x : X) (ys : List X) → P x → All P ys → All P (with_record id ys x)
  all_with P x [] p ps = All-cons P x [] p ps
  all_with P x (y ∷ ys) p ps =
      elim (ltb (id y) (id x)) as (λ b. All P (cond b (y ∷ with_record id ys x) (x ∷ y ∷ ys))) [
        | true ↦ All-cons P y (with_record id ys x) (All-head P y ys ps) (all_with P x ys p (All-tail P y ys ps))
        | false ↦ All-cons P x (y ∷ ys) p ps
      ]

  pub Rising-with_record : (xs : List X) (x : X) → Rising id xs → of_id id xs (id x) ≡ None → Rising id (with_record id xs x)
  Rising-with_record [] x up none = λ i j d hij hj. absurd (omega arith)
  Rising-with_record (y ∷ ys) x up none =
      elim (eqb (id y) (id x)) as (λ e. eqb (id y) (id x) ≡ e → cond e (Some y) (of_id id ys (id x)) ≡ None → Rising id (with_record id (y ∷ ys) x)) [
        | true ↦ λ e q. absurd (cc)
        | false ↦ λ e q.
            let other : id y ≡ id x → ⊥ = eqb-false (id y) (id x) e in
            elim (ltb (id y) (id x)) as (λ b. ltb (id y) (id x) ≡ b → Rising id (cond b (y ∷ with_record id ys x) (x ∷ y ∷ ys))) [
              | true ↦ λ b.
                  AllPairs-cons (λ u v. id u < id v) y (with_record id ys x)
                  (all_with (λ v. id y < id v) x ys (ltb-true (id y) (id x) b) (rising_head id y ys up))
                  (Rising-with_record ys x (rising_tail id y ys up) q)
              | false ↦ λ b.
                  let before : id x < id y = omega (arith, ltb-false (id y) (id x) b, other) in
                  AllPairs-cons (λ u v. id u < id v) x (y ∷ ys)
                  (All-cons (λ v. id x < id v) y ys before (λ k d hk. let above = rising_head id y ys up k d hk in omega arith))
                  up
            ] refl
      ] refl none

  -- a look-up after one record is added
  pub of_id-with_record : (xs : List X) (x : X) (m : ℕ) → of_id id xs (id x) ≡ None → of_id id (with_record id xs x) m ≡ cond (eqb (id x) m) (Some x) (of_id id xs m)
  of_id-with_record [] x m none = refl
  of_id-with_record (y ∷ ys) x m none =
      elim (eqb (id y) (id x)) as (λ e. eqb (id y) (id x) ≡ e → cond e (Some y) (of_id id ys (id x)) ≡ None → of_id id (with_record id (y ∷ ys) x) m ≡ cond (eqb (id x) m) (Some x) (of_id id (y ∷ ys) m)) [
        | true ↦ λ e q. absurd (cc)
        | false ↦ λ e q.
            elim (ltb (id y) (id x)) as (λ b. of_id id (cond b (y ∷ with_record id ys x) (x ∷ y ∷ ys)) m ≡ cond (eqb (id x) m) (Some x) (of_id id (y ∷ ys) m)) [
              | true ↦
                  ap (cond (eqb (id y) m) (Some y)) (of_id-with_record ys x m q)
                  ∙ passes (eqb (id y) m) (eqb (id x) m) (of_id id ys m) (λ p r. eqb-false (id y) (id x) e (eqb-true (id y) m p ∙ sym (eqb-true (id x) m r)))
              | false ↦ refl
            ]
      ] refl none
    where
      passes : (p r : Bool) (o : Option X) → (p ≡ true → r ≡ true → ⊥) → cond p (Some y) (cond r (Some x) o) ≡ cond r (Some x) (cond p (Some y) o)
      passes true true o apart = absurd (apart refl refl)
      passes true false o apart = refl
      passes false true o apart = refl
      passes false false o apart = refl
