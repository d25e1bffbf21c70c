-- The rows of a table, from one id to the next.
use Rattle.std.proofs.Common.{◌≡◌, ℕ, suc, ◌<◌, ◌≤◌, ◌==◌, Bool, true, false, cond, ltb, List, [], ◌∷◌, length, map, get_or, Some, None, inl, inr, refl, sym, ap, ap₂, ◌∙◌, arith}
use Rattle.std.specs.List.{filter, find}
use Rattle.std.specs.Option.{option_map}
use Rattle.std.proofs.lemmas.Bool.{lt-ltb, le-ltb, cases_lt}
use Rattle.std.proofs.lemmas.Bool.Decides.{eqb_tells}
use Rattle.id_table.specs.Records.{Rising}
use Rattle.id_table.specs.Rows.{row_id, row_object, next_above, object_of}

-- ---- numbers
same_number : (a b : ℕ) → a ≡ b → (a == b) ≡ true
same_number a b e = elim (eqb_tells a b) [ inl p ↦ p.0 | inr p ↦ absurd (p.1 e) ]

other_number : (a b : ℕ) → a < b → (a == b) ≡ false
other_number a b less = elim (eqb_tells a b) [ inl p ↦ absurd (omega (arith, p.1, less)) | inr p ↦ p.0 ]

-- what is found above a number is greater
pub found_above : (n : ℕ) (ids : List ℕ) (id : ℕ) → find (λ i. ltb n i) ids ≡ Some id → n < id
found_above n [] id found = absurd (cc)
found_above n (i ∷ is) id found =
    elim (cases_lt n i) [
      | inl less ↦ (
          let first : Some i ≡ Some id = sym (ap (λ t. cond t (Some i) (find (λ j. ltb n j) is)) (lt-ltb n i less)) ∙ found in
          let same : i ≡ id = cc in
          omega (arith, same, less))
      | inr more ↦ found_above n is id (sym (ap (λ t. cond t (Some i) (find (λ j. ltb n j) is)) (le-ltb n i more)) ∙ found)
    ]

module _ {X : Type 0} where
  abbrev pub above : ℕ → ℕ × X → Bool
  above n r = ltb n r.0

  abbrev pub rows_above : ℕ → List (ℕ × X) → List (ℕ × X)
  rows_above n rows = filter (above n) rows

  -- a row is above a number, or not
  is_above : (n : ℕ) (r : ℕ × X) (rs : List (ℕ × X)) → n < r.0 → rows_above n (r ∷ rs) ≡ r ∷ rows_above n rs
  is_above n r rs less = ap (λ t. cond t (r ∷ rows_above n rs) (rows_above n rs)) (lt-ltb n r.0 less)

  not_above : (n : ℕ) (r : ℕ × X) (rs : List (ℕ × X)) → r.0 ≤ n → rows_above n (r ∷ rs) ≡ rows_above n rs
  not_above n r rs more = ap (λ t. cond t (r ∷ rows_above n rs) (rows_above n rs)) (le-ltb n r.0 more)

  -- all rows are above a number that none reaches
  pub all_above : (n : ℕ) (rows : List (ℕ × X)) → ((j : ℕ) (d : ℕ × X) → j < length rows → n < (get_or rows j d).0) → rows_above n rows ≡ rows
  all_above n [] up = refl
  all_above n (r ∷ rs) up = is_above n r rs (up 0 r (omega arith)) ∙ ap (λ ys. r ∷ ys) (all_above n rs (λ j d less. up (suc j) d (omega (arith, less))))

  -- the first row above a number comes before those above its id
  pub next_rows : (rows : List (ℕ × X)) (last id : ℕ) (x : X) → Rising row_id rows → next_above rows last ≡ Some id → object_of rows id ≡ Some x
      → rows_above last rows ≡ (id, x) ∷ rows_above id rows
  next_rows [] last id x up next found = absurd (cc)
  next_rows (r ∷ rs) last id x up next found =
      let seek = λ (t : Bool). cond t (Some r.0) (find (λ i. ltb last i) (map row_id rs)) in
      let look = λ (t : Bool). option_map row_object (cond t (Some r) (find (λ y. row_id y == id) rs)) in
      elim (cases_lt last r.0) [
        | inl less ↦ (
            let here : Some r.0 ≡ Some id = sym (ap seek (lt-ltb last r.0 less)) ∙ next in
            let same : r.0 ≡ id = cc in
            let object : Some r.1 ≡ Some x = sym (ap look (same_number r.0 id same)) ∙ found in
            let is : r.1 ≡ x = cc in
            let later = λ (j : ℕ) (d : ℕ × X) (l : j < length rs). up 0 (suc j) d (omega arith) (omega (arith, l)) in
            let row : r ≡ (id, x) = ap₂ (λ (a : ℕ) (b : X). (a, b)) same is in
            is_above last r rs less
            ∙ ap (λ ys. r ∷ ys) (all_above last rs (λ j d l. (let h = later j d l in omega (arith, less, h))) ∙ sym (all_above id rs (λ j d l. (let h = later j d l in omega (arith, same, h)))))
            ∙ ap (λ ys. r ∷ ys) (sym (not_above id r rs (omega (arith, same))))
            ∙ ap (λ y. y ∷ rows_above id (r ∷ rs)) row)
        | inr more ↦ (
            let after : next_above rs last ≡ Some id = sym (ap seek (le-ltb last r.0 more)) ∙ next in
            let greater : last < id = found_above last (map row_id rs) id after in
            let low : r.0 < id = omega (arith, more, greater) in
            let there : object_of rs id ≡ Some x = sym (ap look (other_number r.0 id low)) ∙ found in
            let rest = next_rows rs last id x (λ i j d h l. up (suc i) (suc j) d (omega (arith, h)) (omega (arith, l))) after there in
            not_above last r rs more ∙ rest ∙ ap (λ ys. (id, x) ∷ ys) (sym (not_above id r rs (omega (arith, low)))))
      ]

  -- none is above, if there is no next one
  pub no_rows : (rows : List (ℕ × X)) (last : ℕ) → next_above rows last ≡ None → rows_above last rows ≡ []
  no_rows [] last none = refl
  no_rows (r ∷ rs) last none =
      let seek = λ (t : Bool). cond t (Some r.0) (find (λ i. ltb last i) (map row_id rs)) in
      elim (cases_lt last r.0) [
        | inl less ↦ (let bad : Some r.0 ≡ None = sym (ap seek (lt-ltb last r.0 less)) ∙ none in absurd (cc))
        | inr more ↦ not_above last r rs more ∙ no_rows rs last (sym (ap seek (le-ltb last r.0 more)) ∙ none)
      ]

  -- the next one has an object
  pub is_there : (rows : List (ℕ × X)) (last id : ℕ) → next_above rows last ≡ Some id → object_of rows id ≡ None → ⊥
  is_there [] last id next none = cc
  is_there (r ∷ rs) last id next none =
      let seek = λ (t : Bool). cond t (Some r.0) (find (λ i. ltb last i) (map row_id rs)) in
      let look = λ (t : Bool). option_map row_object (cond t (Some r) (find (λ y. row_id y == id) rs)) in
      elim (eqb_tells r.0 id) [
        | inl same ↦ (let bad : Some r.1 ≡ None = sym (ap look same.0) ∙ none in cc)
        | inr other ↦ (
            elim (cases_lt last r.0) [
              | inl less ↦ (let here : Some r.0 ≡ Some id = sym (ap seek (lt-ltb last r.0 less)) ∙ next in let is : r.0 ≡ id = cc in other.1 is)
              | inr more ↦ is_there rs last id (sym (ap seek (le-ltb last r.0 more)) ∙ next) (sym (ap look other.0) ∙ none)
            ])
      ]
