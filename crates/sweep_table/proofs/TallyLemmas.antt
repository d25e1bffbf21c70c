-- The outcomes of a sweep, with more members.
use Rattle.std.proofs.Common.{◌≡◌, ℕ, zero, suc, ◌+◌, ◌<◌, ◌≤◌, ◌^◌, Bool, true, false, cond, List, [], ◌∷◌, ◌++◌, length, replicate, refl, sym, ap, ◌∙◌, subst, arith}
use Rattle.std.specs.Prelude.{◌==◌, ◌||◌}
use mathlib.Core.Logic.{⊎_elim}
use Rattle.std.specs.List.{All, list_any}
use Rattle.std.specs.Str.{bytes_eq}
use Rattle.std.proofs.lemmas.Bool.{cases_eq, cases_lt}
use Rattle.std.proofs.lemmas.Bool.Decides.{nat_tests}
use Rattle.std.proofs.lemmas.List.{get_or_append_left, length-append}
use Rattle.std.proofs.Math.Seq.{get_or-append_seam}
use Rattle.std.proofs.lemmas.List.Elements.{All-push, All-weaker, All-tail, All-from_get_or}
use Rattle.std.proofs.lemmas.List.Folds.{list_any-append}
use Rattle.std.proofs.lemmas.List.Quantifiers.{all_pairs_push}
use Rattle.std.proofs.lemmas.Slice.Eq.{bytes_eq-Decides}
use Rattle.sweep_table.specs.declared.runs.Run.{Run}
use Rattle.sweep_table.specs.Runs.{most_outcomes, outcome_at, outcomes_in, count_at, AreApart, Grows, IsSweep, HasTooMany}

-- ---- equal texts
pub same_bytes : (xs : List ℕ) → bytes_eq xs xs ≡ true
same_bytes xs = (bytes_eq-Decides xs xs).1 refl

pub equal_bytes : (xs ys : List ℕ) → xs ≡ ys → bytes_eq xs ys ≡ true
equal_bytes xs ys e = (bytes_eq-Decides xs ys).1 e

turned : (xs ys : List ℕ) (b : Bool) → bytes_eq xs ys ≡ false → bytes_eq ys xs ≡ b → b ≡ false
turned xs ys false h e = refl
turned xs ys true h e = let back : bytes_eq xs ys ≡ true = equal_bytes xs ys (sym ((bytes_eq-Decides ys xs).0 e)) in absurd (cc)

pub other_bytes : (xs ys : List ℕ) → bytes_eq xs ys ≡ false → bytes_eq ys xs ≡ false
other_bytes xs ys h = turned xs ys (bytes_eq ys xs) h refl

-- ---- one outcome more that is known
pub outcome_kept : (known : List (List ℕ)) (o : List ℕ) (k : ℕ) → k < length known → outcome_at (known ++ o ∷ []) k ≡ outcome_at known k
outcome_kept known o k h = get_or_append_left known (o ∷ []) [] k h

pub outcome_new : (known : List (List ℕ)) (o : List ℕ) → outcome_at (known ++ o ∷ []) (length known) ≡ o
outcome_new known o = get_or-append_seam known o [] []

pub outcomes_kept : (known : List (List ℕ)) (o : List ℕ) (runs : List Run) → All (λ run. run.place < length known) runs → outcomes_in (known ++ o ∷ []) runs ≡ outcomes_in known runs
outcomes_kept known o [] h = refl
outcomes_kept known o (run ∷ runs) h =
    ap (λ x. replicate run.length x ++ outcomes_in (known ++ o ∷ []) runs) (outcome_kept known o run.place (h 0 run (omega arith)))
    ∙ ap (λ v. replicate run.length (outcome_at known run.place) ++ v) (outcomes_kept known o runs (All-tail (λ (r : Run). r.place < length known) run runs h))

longer : (known : List (List ℕ)) (o : List ℕ) → length (known ++ o ∷ []) ≡ length known + 1
longer known o = length-append known (o ∷ [])

pub apart_more : (known : List (List ℕ)) (o : List ℕ) → AreApart known → All (λ x. bytes_eq x o ≡ false) known → AreApart (known ++ o ∷ [])
apart_more known o apart other = all_pairs_push (λ a b. bytes_eq a b ≡ false) known o apart (λ k d h. other k d h)

-- ---- sound after
pub lengthened : (known : List (List ℕ)) (runs more_runs : List Run) (members place more : ℕ) → IsSweep known runs members → Grows runs more_runs place more
    → place < length known → 0 < more → members + more < 2 ^ 64 → IsSweep known more_runs (members + more)
lengthened known runs more_runs members place more s g inside some fits = record {
  places = g.places (length known) inside s.places;
  some = g.some some s.some;
  used = λ k h. omega (arith, s.used k h, g.counts k);
  apart = s.apart;
  few = s.few;
  counted = omega (arith, s.counted, g.members);
  fits = omega (arith, s.counted, g.members, fits);
}

new_used : (runs more_runs : List Run) (n more k : ℕ) → Grows runs more_runs n more → 0 < more → k ≡ n → 0 < count_at k more_runs
new_used runs more_runs n more k g some e =
    let t : (n == k) ≡ true = grind (arith, nat_tests) in
    let all : cond (n == k) more 0 ≡ more = ap (λ b. cond b more 0) t in
    omega (arith, g.counts k, all)

pub begun : (known : List (List ℕ)) (o : List ℕ) (runs more_runs : List Run) (members more : ℕ) → IsSweep known runs members → Grows runs more_runs (length known) more
    → All (λ x. bytes_eq x o ≡ false) known → length known < most_outcomes → 0 < more → members + more < 2 ^ 64 → IsSweep (known ++ o ∷ []) more_runs (members + more)
begun known o runs more_runs members more s g other room some fits = record {
  places =
      g.places (length (known ++ o ∷ [])) (omega (arith, longer known o))
      (All-weaker (λ (r : Run). r.place < length known) (λ (r : Run). r.place < length (known ++ o ∷ [])) (λ r h. omega (arith, h, longer known o)) runs s.places);
  some = g.some some s.some;
  used =
      λ k h.
      ⊎_elim
      (λ l. omega (arith, s.used k l, g.counts k))
      (λ l. new_used runs more_runs (length known) more k g some (omega (arith, h, l, longer known o)))
      (cases_lt k (length known));
  apart = apart_more known o s.apart other;
  few = omega (arith, longer known o, room);
  counted = omega (arith, s.counted, g.members);
  fits = omega (arith, s.counted, g.members, fits);
}

-- the outcomes after that
pub begun_outcomes : (known : List (List ℕ)) (o : List ℕ) (runs more_runs : List Run) (more : ℕ) → All (λ run. run.place < length known) runs → Grows runs more_runs (length known) more
    → outcomes_in (known ++ o ∷ []) more_runs ≡ outcomes_in known runs ++ replicate more o
begun_outcomes known o runs more_runs more places g =
    g.outcomes (known ++ o ∷ [])
    ∙ ap (λ v. v ++ replicate more (outcome_at (known ++ o ∷ []) (length known))) (outcomes_kept known o runs places)
    ∙ ap (λ x. outcomes_in known runs ++ replicate more x) (outcome_new known o)

-- ---- too many outcomes
or_true : (b : Bool) → (b || true) ≡ true
or_true true = refl
or_true false = refl

first_occurs : (n : ℕ) (o : List ℕ) (rest : List (List ℕ)) → 0 < n → list_any (λ y. bytes_eq y o) (replicate n o ++ rest) ≡ true
first_occurs zero o rest h = absurd (omega (arith, h))
first_occurs (suc n) o rest h = ap (λ b. b || list_any (λ y. bytes_eq y o) (replicate n o ++ rest)) (same_bytes o)

later_occurs : (o : List ℕ) (xs ys : List (List ℕ)) → list_any (λ y. bytes_eq y o) ys ≡ true → list_any (λ y. bytes_eq y o) (xs ++ ys) ≡ true
later_occurs o xs ys h = list_any-append (λ y. bytes_eq y o) xs ys ∙ ap (λ b. list_any (λ y. bytes_eq y o) xs || b) h ∙ or_true (list_any (λ y. bytes_eq y o) xs)

pub occurs : (known : List (List ℕ)) (k : ℕ) (runs : List Run) → All (λ run. 0 < run.length) runs → 0 < count_at k runs → list_any (λ y. bytes_eq y (outcome_at known k)) (outcomes_in known runs) ≡ true
occurs known k [] some h = absurd (omega (arith, h))
occurs known k (run ∷ runs) some h =
    ⊎_elim
    (λ e.
    let same : outcome_at known run.place ≡ outcome_at known k = ap (outcome_at known) e in
    subst (λ o. list_any (λ y. bytes_eq y (outcome_at known k)) (replicate run.length o ++ outcomes_in known runs) ≡ true) (sym same)
    (first_occurs run.length (outcome_at known k) (outcomes_in known runs) (some 0 run (omega arith))))
    (λ e.
    let t : (run.place == k) ≡ false = grind (arith, nat_tests) in
    let none : cond (run.place == k) run.length 0 ≡ 0 = ap (λ b. cond b run.length 0) t in
    later_occurs (outcome_at known k) (replicate run.length (outcome_at known run.place)) (outcomes_in known runs)
    (occurs known k runs (All-tail (λ (r : Run). 0 < r.length) run runs some) (omega (arith, h, none))))
    (cases_eq run.place k)

pub over : (known : List (List ℕ)) (o : List ℕ) (runs : List Run) (members : ℕ) → IsSweep known runs members → All (λ x. bytes_eq x o ≡ false) known → most_outcomes ≤ length known
    → HasTooMany (outcomes_in known runs ++ o ∷ [])
over known o runs members s other full = record {
  found = known ++ o ∷ [];
  many = omega (arith, longer known o, full);
  apart = apart_more known o s.apart other;
  occur =
      All-push (λ x. list_any (λ y. bytes_eq y x) (outcomes_in known runs ++ o ∷ []) ≡ true) known o
      (All-from_get_or (λ x. list_any (λ y. bytes_eq y x) (outcomes_in known runs ++ o ∷ []) ≡ true) known []
      (λ k h. earlier_occurs (outcome_at known k) (outcomes_in known runs) (o ∷ []) (occurs known k runs s.some (s.used k h))))
      (later_occurs o (outcomes_in known runs) (o ∷ []) (first_occurs 1 o [] (omega arith)));
}
  where
    earlier_occurs : (x : List ℕ) (xs ys : List (List ℕ)) → list_any (λ y. bytes_eq y x) xs ≡ true → list_any (λ y. bytes_eq y x) (xs ++ ys) ≡ true
    earlier_occurs x xs ys h = list_any-append (λ y. bytes_eq y x) xs ys ∙ ap (λ b. b || list_any (λ y. bytes_eq y x) ys) h
