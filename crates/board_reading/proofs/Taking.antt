-- Taking the ids of the modules, one after another.
use Rattle.std.proofs.Common.{◌≡◌, ℕ, suc, ◌+◌, ◌<◌, ◌≤◌, cond, ltb, List, [], ◌∷◌, ◌++◌, length, map, take, get_or, Some, None, inl, inr, refl, sym, ap, ◌∙◌, subst, arith}
use Rattle.std.specs.List.{All, find}
use Rattle.std.proofs.lemmas.Bool.{le-ltb, cases_lt}
use Rattle.std.proofs.lemmas.List.{take_all, take_more, get_or-map, length-append, length-map}
use Rattle.id_table.specs.Records.{Rising}
use Rattle.id_table.specs.Rows.{Rises, row_id, ids, next_above}
use Rattle.module_loader.specs.declared.module.LoadedModule.{LoadedModule}
use Rattle.module_loader.specs.Modules.{HasIdent}
use Rattle.board_reading.proofs.Coming.{IsCome, first_come, next_is, come_on, no_row, not_past}

-- the ids of the first rows are taken, and the last of them is this one
pub record HasTaken (rows : List (ℕ × LoadedModule)) (taken : List ℕ) (last : ℕ) : Type 0 where
  pub come : IsCome rows (length taken) last
  pub first : taken ≡ take (length taken) (ids rows)

pub none_taken : (rows : List (ℕ × LoadedModule)) (taken : List ℕ) → All HasIdent rows → taken ≡ [] → HasTaken rows taken 0
none_taken rows taken all none =
    subst (λ ts. HasTaken rows ts 0) (sym none) (record { come = first_come rows all; first = refl })

-- no row is above a number that none exceeds
past : (n : ℕ) (rows : List (ℕ × LoadedModule)) → ((j : ℕ) → j < length rows → (get_or rows j no_row).0 ≤ n) → next_above rows n ≡ None
past n [] low = refl
past n (r ∷ rs) low =
    ap (λ t. cond t (Some r.0) (find (λ id. ltb n id) (map row_id rs))) (le-ltb n r.0 (low 0 (omega arith)))
    ∙ past n rs (λ j less. low (suc j) (omega arith))

module _ (rows : List (ℕ × LoadedModule)) (taken : List ℕ) (last : ℕ) (has : HasTaken rows taken last) where
  -- not all are taken, if there is a next one
  more : (id : ℕ) → next_above rows last ≡ Some id → length taken < length rows
  more id next =
      elim (cases_lt (length taken) (length rows)) [
        | inl less ↦ less
        | inr end ↦ (
            let none : next_above rows last ≡ None = past last rows (λ j less. has.come.before j no_row (omega arith)) in
            absurd (cc))
      ]

  -- the next one is greater
  pub next_rises : (id : ℕ) → next_above rows last ≡ Some id → last < id
  next_rises id next =
      let less = more id next in
      let there : next_above rows last ≡ Some (get_or rows (length taken) no_row).0 = next_is rows (length taken) last no_row has.come less in
      let is : id ≡ (get_or rows (length taken) no_row).0 = cc in
      let up = has.come.ahead no_row less in
      omega arith

  -- it is taken too
  pub one_taken : (id : ℕ) (new : List ℕ) → Rising row_id rows → next_above rows last ≡ Some id → new ≡ taken ++ id ∷ [] → HasTaken rows new id
  one_taken id new up next grown =
      let i = length taken in
      let less = more id next in
      let there : next_above rows last ≡ Some (get_or rows i no_row).0 = next_is rows i last no_row has.come less in
      let is : id ≡ (get_or rows i no_row).0 = cc in
      let at : get_or (ids rows) i 0 ≡ (get_or rows i no_row).0 = get_or-map row_id rows i no_row 0 less in
      let within : i < length (ids rows) = simp length-map less in
      let count : length new ≡ i + 1 = ap length grown ∙ length-append taken (id ∷ []) in
      let rises : Rises rows = λ a b d h low. (
      let n : length (ids rows) ≡ length rows = length-map rows row_id in
      let first : get_or (ids rows) a d ≡ (get_or rows a no_row).0 = get_or-map row_id rows a no_row d (omega arith) in
      let second : get_or (ids rows) b d ≡ (get_or rows b no_row).0 = get_or-map row_id rows b no_row d (omega arith) in
      let less = up a b no_row h (omega arith) in
      omega arith) in
      record {
        come =
            subst (λ n. IsCome rows n id) (sym count) (subst (λ n. IsCome rows (i + 1) n) (sym is) (come_on rows i last no_row rises has.come less));
        first =
            grown ∙ ap (λ ts. ts ++ id ∷ []) has.first ∙ ap (λ n. take i (ids rows) ++ n ∷ []) (is ∙ sym at)
            ∙ sym (take_more (ids rows) i 0 within) ∙ ap (λ n. take n (ids rows)) (sym count);
      }

  -- all are taken, if there is no next one
  pub all_taken : next_above rows last ≡ None → taken ≡ ids rows
  all_taken none =
      elim (cases_lt (length taken) (length rows)) [
        | inl less ↦ absurd (not_past rows (length taken) last has.come less none)
        | inr end ↦ (let all : length (ids rows) ≤ length taken = simp length-map end in has.first ∙ take_all (length taken) (ids rows) all)
      ]
