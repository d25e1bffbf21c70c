-- Going along the modules by their ids.
use Rattle.std.proofs.Common.{◌≡◌, ℕ, zero, suc, ◌+◌, ◌<◌, ◌≤◌, cond, ltb, List, [], ◌∷◌, length, map, get_or, Some, None, inl, inr, ap, ◌∙◌, arith}
use Rattle.std.specs.List.{All, find}
use Rattle.std.proofs.lemmas.Bool.{lt-ltb, le-ltb, cases_lt}
use Rattle.std.proofs.lemmas.List.{get_or_default, get_or-map, length-map}
use Rattle.id_table.specs.Rows.{row_id, next_above, Rises}
use Rattle.module_loader.specs.declared.module.LoadedModule.{LoadedModule}
use Rattle.module_loader.specs.Modules.{HasIdent}

-- the first i rows have ids up to last, and the next one a greater
pub record IsCome (rows : List (ℕ × LoadedModule)) (i last : ℕ) : Type 0 where
  pub before : (j : ℕ) (d : ℕ × LoadedModule) → j < i → (get_or rows j d).0 ≤ last
  pub ahead : (d : ℕ × LoadedModule) → i < length rows → last < (get_or rows i d).0

pub first_come : (rows : List (ℕ × LoadedModule)) → All HasIdent rows → IsCome rows 0 0
first_come rows all = record {
  before = λ j d h. absurd (omega arith);
  ahead = λ d h. (all 0 d h).0;
}

found_at : (n : ℕ) (rows : List (ℕ × LoadedModule)) (i : ℕ) (d : ℕ × LoadedModule) → i < length rows
    → ((j : ℕ) → j < i → (get_or rows j d).0 ≤ n) → n < (get_or rows i d).0 → find (λ id. ltb n id) (map row_id rows) ≡ Some (get_or rows i d).0
found_at n [] i d h low high = absurd (omega arith)
found_at n (r ∷ rs) zero d h low high = ap (λ t. cond t (Some r.0) (find (λ id. ltb n id) (map row_id rs))) (lt-ltb n r.0 high)
found_at n (r ∷ rs) (suc i) d h low high =
    ap (λ t. cond t (Some r.0) (find (λ id. ltb n id) (map row_id rs))) (le-ltb n r.0 (low 0 (omega arith)))
    ∙ found_at n rs i d (omega arith) (λ j l. low (suc j) (omega arith)) high

pub next_is : (rows : List (ℕ × LoadedModule)) (i last : ℕ) (d : ℕ × LoadedModule) → IsCome rows i last → i < length rows → next_above rows last ≡ Some (get_or rows i d).0
next_is rows i last d come h = found_at last rows i d h (λ j l. come.before j d l) (come.ahead d h)

rises : (rows : List (ℕ × LoadedModule)) (i j : ℕ) (d : ℕ × LoadedModule) → Rises rows → i < j → j < length rows → (get_or rows i d).0 < (get_or rows j d).0
rises rows i j d up h low =
    let n : length (map row_id rows) ≡ length rows = length-map rows row_id in
    let a : get_or (map row_id rows) i 0 ≡ (get_or rows i d).0 = get_or-map row_id rows i d 0 (omega arith) in
    let b : get_or (map row_id rows) j 0 ≡ (get_or rows j d).0 = get_or-map row_id rows j d 0 low in
    let less = up i j 0 h (omega arith) in
    omega arith

pub come_on : (rows : List (ℕ × LoadedModule)) (i last : ℕ) (d : ℕ × LoadedModule) → Rises rows → IsCome rows i last → i < length rows → IsCome rows (i + 1) (get_or rows i d).0
come_on rows i last d up come h = record {
  before = λ j e l. (
      let far = come.ahead d h in
      let q : get_or rows i e ≡ get_or rows i d = get_or_default rows i e d h in
      let f : (get_or rows i e).0 ≡ (get_or rows i d).0 = ap (λ r. r.0) q in
      elim (cases_lt j i) [
        | inl less ↦ (let b = come.before j e less in omega arith)
        | inr more ↦ (let is : j ≡ i = omega arith in let g : (get_or rows j e).0 ≡ (get_or rows i e).0 = ap (λ k. (get_or rows k e).0) is in omega arith)
      ]);
  ahead = λ e l. (
      let q : get_or rows i e ≡ get_or rows i d = get_or_default rows i e d h in
      let f : (get_or rows i e).0 ≡ (get_or rows i d).0 = ap (λ r. r.0) q in
      let up_one = rises rows i (i + 1) e up (omega arith) l in
      omega arith);
}

abbrev pub no_row : ℕ × LoadedModule
no_row = (0, record { name = []; segments = [] })

-- there is a next row as long as not all are met
pub not_past : (rows : List (ℕ × LoadedModule)) (i last : ℕ) → IsCome rows i last → i < length rows → next_above rows last ≡ None → ⊥
not_past rows i last come h none = let some = next_is rows i last no_row come h in cc
