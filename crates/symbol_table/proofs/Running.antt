-- Runs of entries of one group, and the entries before the first run of a group.
use Rattle.std.proofs.Common.{◌≡◌, ℕ, zero, suc, ◌-◌, ◌<◌, ◌≤◌, cond, eqb, not, List, [], ◌∷◌, ◌++◌, length, take, drop, get_or, refl, sym, ap, ◌∙◌, subst, inl, inr, arith, length-append}
use Rattle.std.proofs.lemmas.Bool.{ne_eqb, cases_eq, cases_lt}
use Rattle.std.proofs.lemmas.List.{get_or_push, get_or_append_left, get_or-take, length-take-le, get_or_default}
use Rattle.std.proofs.lemmas.List.Filters.{FiltersInPlace}
use Rattle.symbol_table.specs.declared.symbol.Symbol.{Symbol}
use Rattle.symbol_table.specs.State.{without_group}
use Rattle.symbol_table.specs.Runs.{IsRun, AreRuns, HasNone}

-- an entry is a run by itself
pub run_alone : (list : List Symbol) (n : ℕ) → IsRun list n n
run_alone list n = record {
  order = omega arith;
  same = λ i d low high. (let is : i ≡ n = omega arith in ap (λ k. (get_or list k d).group) is);
}

-- a run that leads to the entry before leads to one of the same group
pub run_longer : (list : List Symbol) (from n : ℕ) (e : Symbol) → 0 < n → n < length list → IsRun list from (n - 1) → (get_or list (n - 1) e).group ≡ (get_or list n e).group → IsRun list from n
run_longer list from n e some less run alike =
    let low = run.order in
    record {
      order = omega arith;
      same = λ i d above below. elim (cases_eq i n) [
        | inl is ↦ ap (λ k. (get_or list k d).group) is
        | inr other ↦
            run.same i d above (omega arith)
            ∙ ap (λ (s : Symbol). s.group) (get_or_default list (n - 1) d e (omega arith))
            ∙ alike
            ∙ ap (λ (s : Symbol). s.group) (get_or_default list n e d less)
      ];
    }

pub runs_push : (list : List Symbol) (runs : List ℕ) (r : ℕ) → AreRuns list runs → length runs < length list → IsRun list r (length runs) → AreRuns list (runs ++ r ∷ [])
runs_push list runs r k less run =
    let size = length-append runs (r ∷ []) in
    record {
      within = omega arith;
      each = λ i h. elim (cases_eq i (length runs)) [
        | inl last ↦ subst (λ f. IsRun list f i) (sym (get_or_push runs r 0 i (sym last))) (subst (IsRun list r) (sym last) run)
        | inr other ↦ subst (λ f. IsRun list f i) (sym (get_or_append_left runs (r ∷ []) 0 i (omega arith))) (k.each i (omega arith))
      ];
    }

-- runs of the first entries are runs of each list that begins with them
pub runs_kept : (xs ys : List Symbol) (runs : List ℕ) (n : ℕ) → AreRuns xs runs → n ≤ length runs → n ≤ length ys → take n ys ≡ take n xs → AreRuns ys (take n runs)
runs_kept xs ys runs n k le fits same =
    let size = length-take-le n runs le in
    let within = k.within in
    let at : (i : ℕ) (d : Symbol) → i < n → get_or ys i d ≡ get_or xs i d = λ i d h.
    sym (get_or-take n ys i d h) ∙ ap (λ (zs : List Symbol). get_or zs i d) same ∙ get_or-take n xs i d h in
    record {
      within = omega arith;
      each = λ i h.
          let run = k.each i (omega arith) in
          let here : i < n = omega arith in
          subst (λ f. IsRun ys f i) (sym (get_or-take n runs i 0 here))
          (record {
            order = run.order;
            same = λ j d low high. ap (λ (s : Symbol). s.group) (at j d (omega arith)) ∙ run.same j d low high ∙ sym (ap (λ (s : Symbol). s.group) (at i d here));
          });
    }

pub runs_longer : (list more : List Symbol) (runs : List ℕ) (x : Symbol) → AreRuns list runs → more ≡ list ++ x ∷ [] → AreRuns more runs
runs_longer list more runs x k longer = subst (λ (ys : List Symbol). AreRuns ys runs) (sym longer) (
    let size = length-append list (x ∷ []) in
    let within = k.within in
    record {
      within = omega arith;
      each = λ i h.
          let run = k.each i h in
          record {
            order = run.order;
            same = λ j d low high.
                ap (λ (s : Symbol). s.group) (get_or_append_left list (x ∷ []) d j (omega arith))
                ∙ run.same j d low high
                ∙ sym (ap (λ (s : Symbol). s.group) (get_or_append_left list (x ∷ []) d i (omega arith)));
          };
    })

-- ---- before the first run of a group

-- a search for the group has come down to this position
pub record HasCome (group : ℕ) (list : List Symbol) (at first : ℕ) : Type 0 where
  pub order : at ≤ first
  pub within : first ≤ length list
  pub none : HasNone group list at first

pub passes_run : (group : ℕ) (list : List Symbol) (at first start : ℕ) (e : Symbol) → HasCome group list at first → (at ≡ 0 → ⊥) → IsRun list start (at - 1)
    → ((get_or list (at - 1) e).group ≡ group → ⊥) → HasCome group list start first
passes_run group list at first start e come some run other =
    let low = run.order in
    let order = come.order in
    let within = come.within in
    record {
      order = omega arith;
      within = come.within;
      none = λ i d above below same. elim (cases_lt i at) [
        | inl before ↦ other (ap (λ (s : Symbol). s.group) (get_or_default list (at - 1) e d (omega arith)) ∙ sym (run.same i d above (omega arith)) ∙ same)
        | inr from ↦ come.none i d from below same
      ];
    }

pub begins_run : (group : ℕ) (list : List Symbol) (at first start : ℕ) → HasCome group list at first → (at ≡ 0 → ⊥) → IsRun list start (at - 1) → HasCome group list start start
begins_run group list at first start come some run =
    let low = run.order in
    let order = come.order in
    let within = come.within in
    record { order = omega arith; within = omega arith; none = λ i d above below. absurd (omega arith) }

-- ---- a group is removed

pub front_stays : (group : ℕ) (xs : List Symbol) (n : ℕ) → n ≤ length xs → HasNone group xs 0 n → without_group group xs ≡ take n xs ++ without_group group (drop n xs)
front_stays group xs zero le none = refl
front_stays group [] (suc n) le none = absurd (omega arith)
front_stays group (x ∷ xs) (suc n) le none =
    ap (λ t. cond (not t) (x ∷ without_group group xs) (without_group group xs)) (ne_eqb x.group group (none 0 x (omega arith) (omega arith)))
    ∙ ap (λ ys. x ∷ ys) (front_stays group xs n (omega arith) (λ i d low high. none (suc i) d (omega arith) (omega arith)))

take_front : (xs ys : List Symbol) → take (length xs) (xs ++ ys) ≡ xs
take_front [] ys = refl
take_front (x ∷ xs) ys = ap (λ zs. x ∷ zs) (take_front xs ys)

pub front_same : (group : ℕ) (xs : List Symbol) (n : ℕ) → n ≤ length xs → HasNone group xs 0 n → take n (without_group group xs) ≡ take n xs
front_same group xs n le none =
    ap (take n) (front_stays group xs n le none)
    ∙ ap (λ m. take m (take n xs ++ without_group group (drop n xs))) (sym (length-take-le n xs le))
    ∙ take_front (take n xs) (without_group group (drop n xs))

pub front_within : (group : ℕ) (xs : List Symbol) (n : ℕ) → n ≤ length xs → HasNone group xs 0 n → n ≤ length (without_group group xs)
front_within group xs n le none =
    let size = ap (λ (ys : List Symbol). length ys) (front_stays group xs n le none) ∙ length-append (take n xs) (without_group group (drop n xs)) in
    let front = length-take-le n xs le in
    omega arith

pub front_filtered : (group : ℕ) (xs : List Symbol) (n : ℕ) → n ≤ length xs → HasNone group xs 0 n → FiltersInPlace (λ s. not (eqb s.group group)) xs xs n n
front_filtered group xs n le none = record {
  front = sym (all_pass group (take n xs) (λ i d low high same. none i d low (omega (arith, high, length-take-le n xs le)) (sym (ap (λ (s : Symbol). s.group) (get_or-take n xs i d (omega (arith, high, length-take-le n xs le)))) ∙ same)));
  rest = refl;
  behind = omega arith;
  within = le;
  long = refl;
}
  where
    all_pass : (group : ℕ) (ys : List Symbol) → HasNone group ys 0 (length ys) → without_group group ys ≡ ys
    all_pass group [] none = refl
    all_pass group (y ∷ ys) none =
        ap (λ t. cond (not t) (y ∷ without_group group ys) (without_group group ys)) (ne_eqb y.group group (none 0 y (omega arith) (omega arith)))
        ∙ ap (λ zs. y ∷ zs) (all_pass group ys (λ i d low high. none (suc i) d (omega arith) (omega arith)))
