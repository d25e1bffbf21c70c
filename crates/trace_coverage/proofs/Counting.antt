-- Which words the coverage of a run lists.
use Rattle.std.proofs.Common.{◌≡◌, ℕ, zero, suc, ◌<◌, ◌≤◌, ◌==◌, Bool, true, false, ◌&&◌, ◌||◌, List, [], Option, None, Some, inl, inr, refl, sym, ap, subst, ◌∙◌, arith}
use Rattle.std.specs.List.{list_any}
use Rattle.std.proofs.lemmas.Bool.{and_from, and_parts, both_ways, cases_lt, eq-eqb, eqb-true, or_cases, or_left, or_right}
use Rattle.module_loader.specs.declared.module.LoadedModule.{LoadedModule}
use Rattle.trace_coverage.specs.Covered.{CoverageState, with_executed}
use Rattle.trace_coverage.specs.Listed.{ListsExecuted, covered, has_word, is_listed}
use Rattle.trace_coverage.proofs.Lists.{or_false}
use Rattle.trace_coverage.proofs.Tables.{one_listed, same_list, same_modules, word_in}

none_below : (j : ℕ) → j < zero → ⊥
none_below j h = omega arith

last_below : (j k : ℕ) → j < suc k → k ≤ j → j ≡ k
last_below j k h more = omega arith

-- a step executes the instruction at an address, which is a word of the module with this id
abbrev hits : List (ℕ × LoadedModule) → Option ℕ → ℕ → ℕ → Bool
hits rows None id at = false
hits rows (Some a) id at = (a == at) && has_word rows id at

hit_parts : (rows : List (ℕ × LoadedModule)) (o : Option ℕ) (id at : ℕ) → hits rows o id at ≡ true → (o ≡ Some at) × (has_word rows id at ≡ true)
hit_parts rows None id at h = absurd (cc)
hit_parts rows (Some a) id at h =
    let parts = and_parts (a == at) (has_word rows id at) h in
    (ap Some (eqb-true a at parts.0), parts.1)

hit_from : (rows : List (ℕ × LoadedModule)) (o : Option ℕ) (id at : ℕ) → o ≡ Some at → has_word rows id at ≡ true → hits rows o id at ≡ true
hit_from rows o id at e h =
    let P : Option ℕ → Type 0 = λ p. hits rows p id at ≡ true in
    subst P (sym e) (and_from (at == at) (has_word rows id at) (eq-eqb at at refl) h)

-- one more instruction
listed_by : (c : CoverageState) (rows : List (ℕ × LoadedModule)) (o : Option ℕ) (id at : ℕ) → list_any (word_in id at) c.live ≡ has_word rows id at
    → is_listed (with_executed o c) id at ≡ (is_listed c id at || hits rows o id at)
listed_by c rows None id at same = sym (or_false (is_listed c id at))
listed_by c rows (Some a) id at same = one_listed c a id at ∙ ap (λ v. is_listed c id at || ((a == at) && v)) same

module _ (rows : ℕ → List (ℕ × LoadedModule)) (executed : ℕ → Option ℕ) (id at : ℕ) where
  -- the modules of the coverage are those of the table
  same_at : (k : ℕ) → list_any (word_in id at) (covered rows executed k).live ≡ has_word (rows k) id at
  same_at zero = same_modules (rows zero) [] id at
  same_at (suc k) = same_modules (rows (suc k)) (with_executed (executed k) (covered rows executed k)).live id at

  listed_zero : is_listed (covered rows executed zero) id at ≡ false
  listed_zero = same_list (rows zero) (record { live = []; gone = [] }) id at

  listed_suc : (k : ℕ) → is_listed (covered rows executed (suc k)) id at ≡ (is_listed (covered rows executed k) id at || hits (rows k) (executed k) id at)
  listed_suc k =
      same_list (rows (suc k)) (with_executed (executed k) (covered rows executed k)) id at
      ∙ listed_by (covered rows executed k) (rows k) (executed k) id at (same_at k)

  abbrev Executed : ℕ → Type 0
  Executed k = (j : ℕ) × (j < k) × (executed j ≡ Some at) × (has_word (rows j) id at ≡ true)

  later : (k : ℕ) → Executed k → Executed (suc k)
  later k e = let below : e.0 < suc k = omega (arith, e.1) in (e.0, below, e.2, e.3)

  pub forward : (k : ℕ) → is_listed (covered rows executed k) id at ≡ true → Executed k
  forward zero h = absurd (both_ways (is_listed (covered rows executed zero) id at) listed_zero h)
  forward (suc k) h =
      elim (or_cases (is_listed (covered rows executed k) id at) (hits (rows k) (executed k) id at) (sym (listed_suc k) ∙ h)) [
        | inl before ↦ later k (forward k before)
        | inr here ↦ (
            let parts = hit_parts (rows k) (executed k) id at here in
            let below : k < suc k = omega arith in
            (k, below, parts.0, parts.1))
      ]

  pub backward : (k : ℕ) → Executed k → is_listed (covered rows executed k) id at ≡ true
  backward zero e = absurd (none_below e.0 e.1)
  backward (suc k) e =
      listed_suc k
      ∙ elim (cases_lt e.0 k) [
        | inl before ↦ or_left (is_listed (covered rows executed k) id at) (hits (rows k) (executed k) id at) (backward k (e.0, before, e.2, e.3))
        | inr more ↦ (
            let same = last_below e.0 k e.1 more in
            or_right (is_listed (covered rows executed k) id at) (hits (rows k) (executed k) id at)
            (hit_from (rows k) (executed k) id at (ap executed (sym same) ∙ e.2) (ap (λ j. has_word (rows j) id at) (sym same) ∙ e.3)))
      ]

pub lists_executed : (rows : ℕ → List (ℕ × LoadedModule)) (executed : ℕ → Option ℕ) → ListsExecuted rows executed
lists_executed rows executed k id at = (λ h. forward rows executed id at k h, λ e. backward rows executed id at k e)
