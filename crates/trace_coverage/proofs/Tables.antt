-- The modules of a coverage, and those of the table.
use Rattle.std.proofs.Common.{◌≡◌, ℕ, ◌-◌, ◌/◌, ◌==◌, Bool, true, false, not, ◌&&◌, ◌||◌, List, ◌++◌, length, map, get_or, replicate, Some, inl, inr, refl, sym, ap, ap₂, ◌∙◌}
use Rattle.std.specs.List.{filter, list_any}
use Rattle.std.proofs.lemmas.Bool.{and_from, and_parts, and_right, both_ways, cases_Bool, eqb-true, false_from_ne_true, not_from_false, or_cases, or_left, or_right}
use Rattle.std.proofs.lemmas.List.{length-replicate}
use Rattle.std.proofs.lemmas.List.Folds.{list_any-append}
use Rattle.module_loader.specs.declared.module.LoadedModule.{LoadedModule}
use Rattle.trace_coverage.specs.Covered.{CoverageState, CoveredState, is_among, is_live, is_of, is_word_among, leaving, staying, text_start, text_words, unexecuted, with_executed, with_new, with_table, with_word}
use Rattle.trace_coverage.specs.Listed.{has_word, is_executed, is_listed}
use Rattle.trace_coverage.proofs.Lists.{any_filter, any_implies, any_map, any_more, any_never, any_parts, or_assoc, or_false, same_tests, some_passes}
use Rattle.trace_coverage.proofs.Words.{none_yet, one_more}

-- ---- words of modules
-- the module has this id, and a word at this address
abbrev pub word_in : ℕ → ℕ → CoveredState → Bool
word_in id at m = m.id == id && is_word_among m.start (length m.executed) at

abbrev word_of_row : ℕ → ℕ → ℕ × LoadedModule → Bool
word_of_row id at r = r.0 == id && is_word_among (text_start r.1) (text_words r.1) at

-- a row's words are those of its module
same_words : (m : CoveredState) (r : ℕ × LoadedModule) (id at : ℕ) → is_of m r ≡ true → word_in id at m ≡ word_of_row id at r
same_words m r id at h =
    let parts = and_parts (r.0 == m.id) (text_start r.1 == m.start && text_words r.1 == length m.executed) h in
    let text = and_parts (text_start r.1 == m.start) (text_words r.1 == length m.executed) parts.1 in
    ap (λ v. (v == id) && is_word_among m.start (length m.executed) at) (sym (eqb-true r.0 m.id parts.0))
    ∙ ap (λ v. (r.0 == id) && is_word_among v (length m.executed) at) (sym (eqb-true (text_start r.1) m.start text.0))
    ∙ ap (λ v. (r.0 == id) && is_word_among (text_start r.1) v at) (sym (eqb-true (text_words r.1) (length m.executed) text.1))

new_words : (id at : ℕ) (r : ℕ × LoadedModule) → word_in id at (unexecuted r) ≡ word_of_row id at r
new_words id at r = ap (λ v. (r.0 == id) && is_word_among (text_start r.1) v at) (length-replicate (text_words r.1) false)

-- ---- the words of the modules that are in the table
module _ (rows : List (ℕ × LoadedModule)) (ms : List CoveredState) (id at : ℕ) where
  abbrev kept : List CoveredState
  kept = staying rows ms

  abbrev is_new : ℕ × LoadedModule → Bool
  is_new r = not (is_among kept r)

  of_kept : list_any (word_in id at) kept ≡ true → has_word rows id at ≡ true
  of_kept h =
      some_passes (λ m. is_live rows m && word_in id at m) (has_word rows id at ≡ true) ms (sym (any_filter (word_in id at) (is_live rows) ms) ∙ h)
      (λ m e. (
      let parts = and_parts (is_live rows m) (word_in id at m) e in
      any_implies (is_of m) (word_of_row id at) (λ r s. sym (same_words m r id at s) ∙ parts.1) rows parts.0))

  words_of_new : list_any (word_in id at) (map unexecuted (filter is_new rows)) ≡ list_any (λ r. is_new r && word_of_row id at r) rows
  words_of_new = any_map (word_in id at) (word_of_row id at) unexecuted (new_words id at) (filter is_new rows) ∙ any_filter (word_of_row id at) is_new rows

  of_new : list_any (word_in id at) (map unexecuted (filter is_new rows)) ≡ true → has_word rows id at ≡ true
  of_new h =
      any_implies (λ r. is_new r && word_of_row id at r) (word_of_row id at) (λ r e. (and_parts (is_new r) (word_of_row id at r) e).1) rows
      (sym words_of_new ∙ h)

  new_since : list_any (word_in id at) kept ≡ false → has_word rows id at ≡ true → list_any (word_in id at) (map unexecuted (filter is_new rows)) ≡ true
  new_since none h =
      words_of_new
      ∙ any_implies (word_of_row id at) (λ r. is_new r && word_of_row id at r)
      (λ r e. and_from (is_new r) (word_of_row id at r)
      (not_from_false (is_among kept r) (false_from_ne_true (is_among kept r)
      (λ among. both_ways (list_any (word_in id at) kept) none
      (any_implies (λ m. is_of m r) (word_in id at) (λ m s. same_words m r id at s ∙ e) kept among))))
      e)
      rows h

  abbrev in_kept : Bool
  in_kept = list_any (word_in id at) kept

  abbrev in_new : Bool
  in_new = list_any (word_in id at) (map unexecuted (filter is_new rows))

  -- the modules of a coverage have the words of those of the table
  there : (in_kept || in_new) ≡ true → has_word rows id at ≡ true
  there h = elim (or_cases in_kept in_new h) [ inl old ↦ of_kept old | inr new ↦ of_new new ]

  back : has_word rows id at ≡ true → (in_kept || in_new) ≡ true
  back h =
      elim (cases_Bool in_kept) [
        | inl old ↦ or_left in_kept in_new old
        | inr none ↦ or_right in_kept in_new (new_since none h)
      ]

  pub same_modules : list_any (word_in id at) (with_new rows (staying rows ms)) ≡ has_word rows id at
  same_modules =
      list_any-append (word_in id at) kept (map unexecuted (filter is_new rows))
      ∙ same_tests (in_kept || in_new) (has_word rows id at) there back

-- ---- the words that are listed
abbrev executed_in : ℕ → ℕ → CoveredState → Bool
executed_in id at m = m.id == id && is_executed at m

regroup : (g l t n u : Bool) → n ≡ false → (l || t) ≡ u → ((g || l) || (t || n)) ≡ (g || u)
regroup true l t n u e f = refl
regroup false true t n u e f = f
regroup false false t n u e f = ap (λ v. t || v) e ∙ or_false t ∙ f

-- a change of the table lists no other words
pub same_list : (rows : List (ℕ × LoadedModule)) (c : CoverageState) (id at : ℕ) → is_listed (with_table rows c) id at ≡ is_listed c id at
same_list rows c id at =
    let test = executed_in id at in
    let new = filter (λ r. not (is_among (staying rows c.live) r)) rows in
    list_any-append test (c.gone ++ leaving rows c.live) (staying rows c.live ++ map unexecuted new)
    ∙ ap₂ (λ v w. v || w) (list_any-append test c.gone (leaving rows c.live)) (list_any-append test (staying rows c.live) (map unexecuted new))
    ∙ regroup (list_any test c.gone) (list_any test (leaving rows c.live)) (list_any test (staying rows c.live)) (list_any test (map unexecuted new)) (list_any test c.live)
    (any_never test unexecuted
    (λ r. and_right (r.0 == id) (is_executed at (unexecuted r))
    (and_right (is_word_among (text_start r.1) (length (replicate (text_words r.1) false)) at) (get_or (replicate (text_words r.1) false) ((at - text_start r.1) / 4) false) (none_yet (text_words r.1) ((at - text_start r.1) / 4))))
    new)
    (any_parts test (is_live rows) c.live)
    ∙ sym (list_any-append test c.gone c.live)

-- an instruction lists its own word, of the modules that have it
pub one_listed : (c : CoverageState) (a id at : ℕ)
    → is_listed (with_executed (Some a) c) id at ≡ (is_listed c id at || ((a == at) && list_any (word_in id at) c.live))
one_listed c a id at =
    let test = executed_in id at in
    list_any-append test c.gone (map (with_word a) c.live)
    ∙ ap (λ v. list_any test c.gone || v) (any_more test test (word_in id at) (with_word a) (a == at) (one_more id a at) c.live)
    ∙ or_assoc (list_any test c.gone) (list_any test c.live) ((a == at) && list_any (word_in id at) c.live)
    ∙ ap (λ v. v || ((a == at) && list_any (word_in id at) c.live)) (sym (list_any-append test c.gone c.live))
