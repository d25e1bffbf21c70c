-- Going over the rows of a table.
use Rattle.std.proofs.Common.{◌≡◌, ℕ, ◌+◌, ◌<◌, ◌≤◌, List, [], ◌∷◌, ◌++◌, length, map, take, get_or, sym, ap, ap₂, ◌∙◌}
use Rattle.std.proofs.lemmas.List.{get_or-map, map-append, take_all, take_more}
use Rattle.id_table.specs.Rows.{row_id, row_object}

module _ {X : Type 0} where
  -- a row, from its id and its object
  pub row_at : (rows : List (ℕ × X)) (i id : ℕ) (x : X) → i < length rows → id ≡ get_or (map row_id rows) i id → x ≡ get_or (map row_object rows) i x
      → (id, x) ≡ get_or rows i (id, x)
  row_at rows i id x less e f =
      ap₂ (λ (a : ℕ) (b : X). (a, b)) (e ∙ get_or-map row_id rows i (id, x) id less) (f ∙ get_or-map row_object rows i (id, x) x less)

-- what is made of the first rows, and of one more
pub one_more : {A B : Type 0} (f : A → B) (items new : List B) (xs : List A) (i : ℕ) (x : A) → i < length xs → x ≡ get_or xs i x → items ≡ map f (take i xs)
    → new ≡ items ++ f x ∷ [] → new ≡ map f (take (i + 1) xs)
one_more f items new xs i x less at before now =
    now
    ∙ ap (λ p. p ++ f x ∷ []) before
    ∙ sym (map-append f (take i xs) (x ∷ []))
    ∙ ap (λ y. map f (take i xs ++ y ∷ [])) at
    ∙ ap (map f) (sym (take_more xs i x less))

-- of all
pub all_of : {A B : Type 0} (f : A → B) (items : List B) (xs : List A) (i : ℕ) → length xs ≤ i → items ≡ map f (take i xs) → items ≡ map f xs
all_of f items xs i end made = made ∙ ap (map f) (take_all i xs end)
