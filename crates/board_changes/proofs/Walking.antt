-- A walk along a list by id: a search from where it stands finds what a search of the whole list does.
use Rattle.std.proofs.Common.{◌≡◌, ℕ, zero, suc, ◌+◌, ◌<◌, ◌≤◌, cond, List, [], ◌∷◌, length, drop, get_or, Some, inl, inr, refl, sym, ap, ◌∙◌, arith}
use Rattle.std.proofs.lemmas.Bool.{eq-eqb, ne_eqb, cases_lt}
use Rattle.std.proofs.Math.Seq.{drop-cons}
use Rattle.id_table.specs.Records.{StandsAt, of_id}
use Rattle.board_changes.specs.Walks.{HasPassed}

-- a record that isn't among those before a place is found from there on
found_later : {X : Type 0} (id : X → ℕ) (xs : List X) (n place : ℕ) → ((k : ℕ) (d : X) → k < place → id (get_or xs k d) < n) → place ≤ length xs → of_id id (drop place xs) n ≡ of_id id xs n
found_later id xs n zero below within = refl
found_later id [] n (suc place) below within = refl
found_later id (x ∷ xs) n (suc place) below within =
    found_later id xs n place (λ k d less. below (suc k) d (omega arith)) (omega arith)
    ∙ ap (λ b. cond b (Some x) (of_id id xs n)) (sym (ne_eqb (id x) n (λ q. (let low = below 0 x (omega arith) in omega arith))))

pub found_on : {X : Type 0} (id : X → ℕ) (xs : List X) (n place : ℕ) → HasPassed id xs place n → of_id id (drop place xs) n ≡ of_id id xs n
found_on id xs n place has = found_later id xs n place has.below has.within

module _ {X : Type 0} (id : X → ℕ) (xs : List X) (n place bound : ℕ) (has : HasPassed id xs place bound) (low : bound ≤ n) (at : StandsAt id xs n place) where
  -- the record at which a walk stands is found
  pub found_here : (x : X) → x ≡ get_or xs place x → Some x ≡ of_id id xs n
  found_here x here =
      let less = at.within in
      let first : drop place xs ≡ x ∷ drop (suc place) xs = drop-cons xs place x less ∙ ap (λ y. y ∷ drop (suc place) xs) (sym here) in
      let same : id x ≡ n = ap id here ∙ at.same x in
      sym (ap (λ ys. of_id id ys n) first ∙ ap (λ b. cond b (Some x) (of_id id (drop (suc place) xs) n)) (eq-eqb (id x) n same))
      ∙ found_later id xs n place (λ k d l. (let b = has.below k d l in omega arith)) has.within

  -- and it goes on after it
  pub passed_here : HasPassed id xs (place + 1) (n + 1)
  passed_here = record {
    within = (let less = at.within in omega arith);
    below =
        λ k d l. elim (cases_lt k place) [
          | inl less ↦ (let b = has.below k d less in omega arith)
          | inr high ↦ (let is : k ≡ place = omega arith in rw is (let s = at.same d in omega arith))
        ];
  }
