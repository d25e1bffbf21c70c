-- A coverage whose modules are those of the table already.
use Rattle.std.proofs.Common.{◌≡◌, ℕ, zero, suc, ◌-◌, ◌/◌, ◌<◌, ◌==◌, Bool, true, false, not, ◌&&◌, ◌||◌, cond, List, [], ◌∷◌, ◌++◌, length, map, get_or, replicate, Option, None, Some, inl, inr, refl, sym, ap, ap₂, ◌∙◌, arith}
use Rattle.std.specs.Prelude.{slice_set}
use Rattle.std.specs.List.{filter, list_any}
use Rattle.std.proofs.lemmas.Bool.{and_from, cases_Bool, eq-eqb, not_from_false, not_from_true, or_left, or_right}
use Rattle.std.proofs.lemmas.List.{append-nil, length-replicate, length-set}
use Rattle.std.proofs.lemmas.List.Folds.{list_any-append, list_any_at}
use Rattle.module_loader.specs.declared.module.LoadedModule.{LoadedModule}
use Rattle.trace_coverage.specs.Covered.{CoverageState, CoveredState, is_among, is_live, is_of, is_word_among, leaving, staying, text_start, text_words, unexecuted, with_executed, with_new, with_table, with_word}
use Rattle.trace_coverage.specs.Listed.{covered}
use Rattle.trace_coverage.proofs.Lists.{any_filter, any_map}

-- ---- lists
module _ {X : Type 0} where
  filter_append : (p : X → Bool) (xs ys : List X) → filter p (xs ++ ys) ≡ filter p xs ++ filter p ys
  filter_append p [] ys = refl
  filter_append p (x ∷ xs) ys =
      elim (p x) as (λ v. cond v (x ∷ filter p (xs ++ ys)) (filter p (xs ++ ys)) ≡ cond v (x ∷ filter p xs) (filter p xs) ++ filter p ys)
      [ true ↦ ap (λ zs. x ∷ zs) (filter_append p xs ys) | false ↦ filter_append p xs ys ]

  -- a test that the elements passed, and its opposite
  filter_again : (p : X → Bool) (xs : List X) → filter p (filter p xs) ≡ filter p xs
  filter_again p [] = refl
  filter_again p (x ∷ xs) =
      elim (cases_Bool (p x)) [
        | inl e ↦ (
            ap (λ v. filter p (cond v (x ∷ filter p xs) (filter p xs))) e
            ∙ ap (λ v. cond v (x ∷ filter p (filter p xs)) (filter p (filter p xs))) e
            ∙ ap (λ zs. x ∷ zs) (filter_again p xs)
            ∙ sym (ap (λ v. cond v (x ∷ filter p xs) (filter p xs)) e))
        | inr e ↦ (
            ap (λ v. filter p (cond v (x ∷ filter p xs) (filter p xs))) e
            ∙ filter_again p xs
            ∙ sym (ap (λ v. cond v (x ∷ filter p xs) (filter p xs)) e))
      ]

  filter_other : (p : X → Bool) (xs : List X) → filter (λ x. not (p x)) (filter p xs) ≡ []
  filter_other p [] = refl
  filter_other p (x ∷ xs) =
      elim (cases_Bool (p x)) [
        | inl e ↦ (
            ap (λ v. filter (λ y. not (p y)) (cond v (x ∷ filter p xs) (filter p xs))) e
            ∙ ap (λ v. cond (not v) (x ∷ filter (λ y. not (p y)) (filter p xs)) (filter (λ y. not (p y)) (filter p xs))) e
            ∙ filter_other p xs)
        | inr e ↦ (
            ap (λ v. filter (λ y. not (p y)) (cond v (x ∷ filter p xs) (filter p xs))) e
            ∙ filter_other p xs)
      ]

  filter_none : (p : X → Bool) (xs : List X) → ((j : ℕ) (d : X) → j < length xs → p (get_or xs j d) ≡ false) → filter p xs ≡ []
  filter_none p [] none = refl
  filter_none p (x ∷ xs) none =
      ap (λ v. cond v (x ∷ filter p xs) (filter p xs)) (none 0 x (omega arith))
      ∙ filter_none p xs (λ j d less. none (suc j) d (omega (arith, less)))

  -- images
  filter_map : {Y : Type 0} (p : Y → Bool) (q : X → Bool) (f : X → Y) → ((x : X) → p (f x) ≡ q x) → (xs : List X) → filter p (map f xs) ≡ map f (filter q xs)
  filter_map p q f same [] = refl
  filter_map p q f same (x ∷ xs) =
      ap₂ (λ v zs. cond v (f x ∷ zs) zs) (same x) (filter_map p q f same xs)
      ∙ elim (q x) as (λ v. cond v (f x ∷ map f (filter q xs)) (map f (filter q xs)) ≡ map f (cond v (x ∷ filter q xs) (filter q xs))) [ true ↦ refl | false ↦ refl ]

  filter_same : (p q : X → Bool) → ((x : X) → p x ≡ q x) → (xs : List X) → filter p xs ≡ filter q xs
  filter_same p q same [] = refl
  filter_same p q same (x ∷ xs) = ap₂ (λ v ys. cond v (x ∷ ys) ys) (same x) (filter_same p q same xs)

  any_same : (p q : X → Bool) → ((x : X) → p x ≡ q x) → (xs : List X) → list_any p xs ≡ list_any q xs
  any_same p q same [] = refl
  any_same p q same (x ∷ xs) = ap₂ (λ v w. v || w) (same x) (any_same p q same xs)

  -- images of elements that pass another test
  filter_images : {Y : Type 0} (p : Y → Bool) (q : X → Bool) (f : X → Y) (xs : List X) → ((j : ℕ) (d : X) → j < length xs → p (f (get_or xs j d)) ≡ true)
      → filter p (map f (filter q xs)) ≡ map f (filter q xs)
  filter_images p q f [] pass = refl
  filter_images p q f (x ∷ xs) pass =
      let rest = filter_images p q f xs (λ j d less. pass (suc j) d (omega (arith, less))) in
      let here : p (f x) ≡ true = pass 0 x (omega arith) in
      elim (q x) as (λ v. filter p (map f (cond v (x ∷ filter q xs) (filter q xs))) ≡ map f (cond v (x ∷ filter q xs) (filter q xs)))
      [ true ↦ ap (λ v. cond v (f x ∷ filter p (map f (filter q xs))) (filter p (map f (filter q xs)))) here ∙ ap (λ zs. f x ∷ zs) rest | false ↦ rest ]

  no_images : {Y : Type 0} (p : Y → Bool) (q : X → Bool) (f : X → Y) (xs : List X) → ((j : ℕ) (d : X) → j < length xs → p (f (get_or xs j d)) ≡ true)
      → filter (λ y. not (p y)) (map f (filter q xs)) ≡ []
  no_images p q f [] pass = refl
  no_images p q f (x ∷ xs) pass =
      let rest = no_images p q f xs (λ j d less. pass (suc j) d (omega (arith, less))) in
      let here : p (f x) ≡ true = pass 0 x (omega arith) in
      elim (q x) as (λ v. filter (λ y. not (p y)) (map f (cond v (x ∷ filter q xs) (filter q xs))) ≡ [])
      [ true ↦ ap (λ v. cond (not v) (f x ∷ filter (λ y. not (p y)) (map f (filter q xs))) (filter (λ y. not (p y)) (map f (filter q xs)))) here ∙ rest | false ↦ rest ]

-- ---- modules
-- an instruction leaves a module's place
same_module : (a : ℕ) (m : CoveredState) (r : ℕ × LoadedModule) → is_of (with_word a m) r ≡ is_of m r
same_module a m r =
    elim (is_word_among m.start (length m.executed) a) as (λ v. is_of (cond v (record m { executed = slice_set m.executed ((a - m.start) / 4) true }) m) r ≡ is_of m r)
    [ true ↦ ap (λ n. (r.0 == m.id) && ((text_start r.1 == m.start) && (text_words r.1 == n))) (length-set m.executed ((a - m.start) / 4) true) | false ↦ refl ]

-- a row is its new module
own_module : (r : ℕ × LoadedModule) → is_of (unexecuted r) r ≡ true
own_module r =
    and_from (r.0 == r.0) ((text_start r.1 == text_start r.1) && (text_words r.1 == length (replicate (text_words r.1) false))) (eq-eqb r.0 r.0 refl)
    (and_from (text_start r.1 == text_start r.1) (text_words r.1 == length (replicate (text_words r.1) false)) (eq-eqb (text_start r.1) (text_start r.1) refl)
    (eq-eqb (text_words r.1) (length (replicate (text_words r.1) false)) (sym (length-replicate (text_words r.1) false))))

module _ (rows : List (ℕ × LoadedModule)) (ms : List CoveredState) where
  abbrev kept : List CoveredState
  kept = staying rows ms

  abbrev is_new : ℕ × LoadedModule → Bool
  is_new r = not (is_among kept r)

  abbrev there : List CoveredState
  there = with_new rows kept

  new_is_live : (j : ℕ) (d : ℕ × LoadedModule) → j < length rows → is_live rows (unexecuted (get_or rows j d)) ≡ true
  new_is_live j d less = list_any_at (is_of (unexecuted (get_or rows j d))) rows j d less (own_module (get_or rows j d))

  all_stay : staying rows there ≡ there
  all_stay =
      filter_append (is_live rows) kept (map unexecuted (filter is_new rows))
      ∙ ap₂ (λ (xs ys : List CoveredState). xs ++ ys) (filter_again (is_live rows) ms) (filter_images (is_live rows) is_new unexecuted rows new_is_live)

  none_leaves : leaving rows there ≡ []
  none_leaves =
      filter_append (λ m. not (is_live rows m)) kept (map unexecuted (filter is_new rows))
      ∙ ap₂ (λ (xs ys : List CoveredState). xs ++ ys) (filter_other (is_live rows) ms) (no_images (is_live rows) is_new unexecuted rows new_is_live)

  new_there : (j : ℕ) (d : ℕ × LoadedModule) → j < length rows → is_new (get_or rows j d) ≡ true → is_among (map unexecuted (filter is_new rows)) (get_or rows j d) ≡ true
  new_there j d less new =
      let r = get_or rows j d in
      any_map (λ m. is_of m r) (λ y. is_of (unexecuted y) r) unexecuted (λ y. refl) (filter is_new rows)
      ∙ any_filter (λ y. is_of (unexecuted y) r) is_new rows
      ∙ list_any_at (λ y. is_new y && is_of (unexecuted y) r) rows j d less (and_from (is_new r) (is_of (unexecuted r) r) new (own_module r))

  all_there : (j : ℕ) (d : ℕ × LoadedModule) → j < length rows → is_among there (get_or rows j d) ≡ true
  all_there j d less =
      let r = get_or rows j d in
      let new = map unexecuted (filter is_new rows) in
      list_any-append (λ m. is_of m r) kept new
      ∙ elim (cases_Bool (is_among kept r)) [
        | inl old ↦ or_left (is_among kept r) (is_among new r) old
        | inr none ↦ or_right (is_among kept r) (is_among new r) (new_there j d less (not_from_false (is_among kept r) none))
      ]

  none_new : filter (λ r. not (is_among there r)) rows ≡ []
  none_new = filter_none (λ r. not (is_among there r)) rows (λ j d less. not_from_true (is_among there (get_or rows j d)) (all_there j d less))

-- ---- a coverage whose modules are those of the table
pub record IsSettled (rows : List (ℕ × LoadedModule)) (ms : List CoveredState) : Type 0 where
  stays : staying rows ms ≡ ms
  none_goes : leaving rows ms ≡ []
  none_comes : filter (λ r. not (is_among ms r)) rows ≡ []

-- that after a change of the table is
settled_by : (rows : List (ℕ × LoadedModule)) (ms : List CoveredState) → IsSettled rows (with_new rows (staying rows ms))
settled_by rows ms = record { stays = all_stay rows ms; none_goes = none_leaves rows ms; none_comes = none_new rows ms }

abbrev coverage_of : List CoveredState → List CoveredState → CoverageState
coverage_of live gone = record { live = live; gone = gone }

-- the table changes nothing then
same_coverage : (rows : List (ℕ × LoadedModule)) (c : CoverageState) → IsSettled rows c.live → with_table rows c ≡ c
same_coverage rows c is =
    let live : with_new rows (staying rows c.live) ≡ c.live =
    ap (with_new rows) is.stays
    ∙ ap (λ rs. c.live ++ map unexecuted rs) is.none_comes
    ∙ append-nil c.live in
    let gone : c.gone ++ leaving rows c.live ≡ c.gone = ap (λ ms. c.gone ++ ms) is.none_goes ∙ append-nil c.gone in
    ap₂ coverage_of live gone

-- ---- an instruction leaves the modules as they are
module _ (rows : List (ℕ × LoadedModule)) (a : ℕ) (ms : List CoveredState) (is : IsSettled rows ms) where
  live_after : (m : CoveredState) → is_live rows (with_word a m) ≡ is_live rows m
  live_after m = any_same (is_of (with_word a m)) (is_of m) (same_module a m) rows

  among_after : (r : ℕ × LoadedModule) → is_among (map (with_word a) ms) r ≡ is_among ms r
  among_after r = any_map (λ m. is_of m r) (λ m. is_of m r) (with_word a) (λ m. same_module a m r) ms

  settled_after : IsSettled rows (map (with_word a) ms)
  settled_after = record {
    stays = filter_map (is_live rows) (is_live rows) (with_word a) live_after ms ∙ ap (map (with_word a)) is.stays;
    none_goes =
        filter_map (λ m. not (is_live rows m)) (λ m. not (is_live rows m)) (with_word a) (λ m. ap not (live_after m)) ms
        ∙ ap (map (with_word a)) is.none_goes;
    none_comes = filter_same (λ r. not (is_among (map (with_word a) ms) r)) (λ r. not (is_among ms r)) (λ r. ap not (among_after r)) rows ∙ is.none_comes;
  }

settled_executed : (rows : List (ℕ × LoadedModule)) (o : Option ℕ) (c : CoverageState) → IsSettled rows c.live → IsSettled rows (with_executed o c).live
settled_executed rows None c is = is
settled_executed rows (Some a) c is = settled_after rows a c.live is

-- ---- the coverage of a run
module _ (rows : ℕ → List (ℕ × LoadedModule)) (executed : ℕ → Option ℕ) where
  settled_at : (k : ℕ) → IsSettled (rows k) (covered rows executed k).live
  settled_at zero = settled_by (rows zero) []
  settled_at (suc k) = settled_by (rows (suc k)) (with_executed (executed k) (covered rows executed k)).live

  -- after a step that leaves the table
  pub covered_on : (k : ℕ) → rows (suc k) ≡ rows k → covered rows executed (suc k) ≡ with_executed (executed k) (covered rows executed k)
  covered_on k same =
      ap (λ rs. with_table rs (with_executed (executed k) (covered rows executed k))) same
      ∙ same_coverage (rows k) (with_executed (executed k) (covered rows executed k))
      (settled_executed (rows k) (executed k) (covered rows executed k) (settled_at k))
