-- Spans that end one after another.
use Rattle.std.proofs.Common.{◌≡◌, ℕ, ◌+◌, ◌<◌, ◌≤◌, List, [], ◌∷◌, ◌++◌, length, get_or, take, sym, ap, subst, append_assoc, ◌∙◌}
use Rattle.std.proofs.lemmas.List.{append-nil, take_all, take_more}
use Rattle.board_changes.specs.declared.spans.Span.{Span}
use Rattle.trace_summary.specs.Keeping.{KeepsTimes}
use Rattle.trace_summary.specs.Times.{SpanLists}
use Rattle.trace_summary.specs.declared.times.LongestTimes.{LongestTimes}

-- one more of them
longer : {X : Type 0} (old xs : List X) (i : ℕ) (x : X) → i < length xs → x ≡ get_or xs i x → (old ++ take i xs) ++ x ∷ [] ≡ old ++ take (i + 1) xs
longer old xs i x below at =
    append_assoc old (take i xs) (x ∷ [])
    ∙ ap (λ y. old ++ (take i xs ++ y ∷ [])) at
    ∙ ap (λ ys. old ++ ys) (sym (take_more xs i x below))

module _ (t : LongestTimes) (b : SpanLists) where
  abbrev with_all : List Span → Type 0
  with_all spans = KeepsTimes t (record b { all = spans })

  abbrev with_others : List Span → Type 0
  with_others spans = KeepsTimes t (record b { uninterrupted = spans })

  pub none_added : KeepsTimes t b → with_all (b.all ++ [])
  none_added kept = subst with_all (sym (append-nil b.all)) kept

  pub none_other : KeepsTimes t b → with_others (b.uninterrupted ++ [])
  none_other kept = subst with_others (sym (append-nil b.uninterrupted)) kept

  pub one_added : (spans : List Span) (i : ℕ) (s : Span) → i < length spans → s ≡ get_or spans i s → with_all ((b.all ++ take i spans) ++ s ∷ []) → with_all (b.all ++ take (i + 1) spans)
  one_added spans i s below at kept = subst with_all (longer b.all spans i s below at) kept

  pub one_other : (spans : List Span) (i : ℕ) (s : Span) → i < length spans → s ≡ get_or spans i s → with_others ((b.uninterrupted ++ take i spans) ++ s ∷ []) → with_others (b.uninterrupted ++ take (i + 1) spans)
  one_other spans i s below at kept = subst with_others (longer b.uninterrupted spans i s below at) kept

  pub all_added : (spans : List Span) (i : ℕ) → length spans ≤ i → with_all (b.all ++ take i spans) → with_all (b.all ++ spans)
  all_added spans i end kept = subst with_all (ap (λ xs. b.all ++ xs) (take_all i spans end)) kept

  pub all_others : (spans : List Span) (i : ℕ) → length spans ≤ i → with_others (b.uninterrupted ++ take i spans) → with_others (b.uninterrupted ++ spans)
  all_others spans i end kept = subst with_others (ap (λ xs. b.uninterrupted ++ xs) (take_all i spans end)) kept
