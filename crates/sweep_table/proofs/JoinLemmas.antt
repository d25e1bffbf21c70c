-- Joined outcomes.
use Rattle.std.proofs.Common.{◌≡◌, ℕ, zero, suc, ◌+◌, ◌-◌, ◌<◌, Bool, true, false, cond, List, [], ◌∷◌, ◌++◌, length, get_or, take, drop, replicate, refl, sym, ap, ◌∙◌, subst, arith}
use Rattle.std.specs.Prelude.{not, nat_lt, ◌||◌}
use Rattle.std.specs.List.{list_any, position_or_len}
use Rattle.std.specs.Str.{bytes_eq}
use Rattle.std.proofs.lemmas.Bool.Decides.{nat_tests}
use Rattle.std.proofs.lemmas.List.{append_assoc, length-append, length-replicate, take-append-drop, take_at, take_more, append-nil}
use Rattle.std.proofs.lemmas.List.Elements.{All-weaker}
use Rattle.std.proofs.lemmas.List.Folds.{list_any-append}
use Rattle.std.proofs.lemmas.List.Sums.{sum_by-append}
use Rattle.sweep_table.specs.declared.runs.Run.{Run}
use Rattle.sweep_table.specs.declared.tally.Tally.{Tally}
use Rattle.sweep_table.specs.Runs.{outcome_at, outcomes_in, members_in, outcomes_of, IsSweep, IsTally, IsSame, Adds, HasTooMany, IsJoinedPart}
use Rattle.sweep_table.proofs.RunLemmas.{outcomes_in-append, length-outcomes_in, left_is}
use Rattle.sweep_table.specs.Laws.{JoinLaw}

module _ (p : List ℕ → Bool) where
  step_cond : (b : Bool) (n m k : ℕ) (rest : ℕ) → rest ≡ cond (nat_lt n m) n (m + k) → cond b (1 + rest) 0 ≡ cond (nat_lt (cond b (1 + n) 0) (suc m)) (cond b (1 + n) 0) (suc m + k)
  step_cond false n m k rest e = grind (arith, nat_tests)
  step_cond true n m k rest e = grind (arith, nat_tests)

  first_both : (xs ys : List (List ℕ)) → position_or_len p (xs ++ ys) ≡ cond (nat_lt (position_or_len p xs) (length xs)) (position_or_len p xs) (length xs + position_or_len p ys)
  first_both [] ys = omega arith
  first_both (x ∷ xs) ys = step_cond (not (p x)) (position_or_len p xs) (length xs) (position_or_len p ys) (position_or_len p (xs ++ ys)) (first_both xs ys)

pub joins : JoinLaw
joins = record {
  counts = λ xs ys o. sum_by-append (λ x. cond (bytes_eq x o) 1 0) xs ys;
  firsts = λ xs ys o. first_both (λ x. bytes_eq x o) xs ys;
  grouping = λ xs ys zs. append_assoc xs ys zs;
}

still : (x : List ℕ) (xs ys : List (List ℕ)) → list_any (λ y. bytes_eq y x) xs ≡ true → list_any (λ y. bytes_eq y x) (xs ++ ys) ≡ true
still x xs ys h = list_any-append (λ y. bytes_eq y x) xs ys ∙ ap (λ b. b || list_any (λ y. bytes_eq y x) ys) h

-- more outcomes are still too many
pub over_more : (xs ys : List (List ℕ)) → HasTooMany xs → HasTooMany (xs ++ ys)
over_more xs ys h = record {
  found = h.found;
  many = h.many;
  apart = h.apart;
  occur = All-weaker (λ x. list_any (λ y. bytes_eq y x) xs ≡ true) (λ x. list_any (λ y. bytes_eq y x) (xs ++ ys) ≡ true) (λ x k. still x xs ys k) h.found h.occur;
}

-- ---- one run after another
pub outcomes_cut : (known : List (List ℕ)) (runs : List Run) (i : ℕ) → outcomes_in known runs ≡ outcomes_in known (take i runs) ++ outcomes_in known (drop i runs)
outcomes_cut known runs i = ap (outcomes_in known) (sym (take-append-drop i runs)) ∙ outcomes_in-append known (take i runs) (drop i runs)

one_more : (n : ℕ) (o : List ℕ) → 0 < n → replicate n o ≡ o ∷ replicate (n - 1) o
one_more zero o h = absurd (omega (arith, h))
one_more (suc n) o h = let e : n ≡ suc n - 1 = omega arith in ap (λ k. o ∷ replicate k o) e

-- with the first member of the next run there are too many
pub over_joined : (old now : List (List ℕ)) (known : List (List ℕ)) (runs : List Run) (i : ℕ) (d : Run) (o : List ℕ) → i < length runs → 0 < (get_or runs i d).length
    → o ≡ outcome_at known (get_or runs i d).place → now ≡ old ++ outcomes_in known (take i runs) → HasTooMany (now ++ o ∷ []) → HasTooMany (old ++ outcomes_in known runs)
over_joined old now known runs i d o h some is e over =
    let run = get_or runs i d in
    let rest = outcomes_in known (drop (i + 1) runs) in
    let own = outcome_at known run.place in
    let left : outcomes_in known (drop i runs) ≡ replicate run.length own ++ rest = ap (outcomes_in known) (left_is runs i d h) in
    let more : replicate run.length own ++ rest ≡ (o ∷ []) ++ (replicate (run.length - 1) own ++ rest) = ap (λ v. v ++ rest) (one_more run.length own some) ∙ ap (λ x. x ∷ (replicate (run.length - 1) own ++ rest)) (sym is) in
    let all : old ++ outcomes_in known runs ≡ (now ++ o ∷ []) ++ (replicate (run.length - 1) own ++ rest) =
    ap (λ v. old ++ v) (outcomes_cut known runs i ∙ ap (λ v. outcomes_in known (take i runs) ++ v) (left ∙ more))
    ∙ sym (append_assoc old (outcomes_in known (take i runs)) ((o ∷ []) ++ (replicate (run.length - 1) own ++ rest)))
    ∙ ap (λ v. v ++ ((o ∷ []) ++ (replicate (run.length - 1) own ++ rest))) (sym e)
    ∙ sym (append_assoc now (o ∷ []) (replicate (run.length - 1) own ++ rest)) in
    subst HasTooMany (sym all) (over_more (now ++ o ∷ []) (replicate (run.length - 1) own ++ rest) over)

-- ---- tallies
same_sound : (a b : Tally) → IsSame a b → IsTally b → IsTally a
same_sound a b s sound =
    subst (λ v. IsSweep v a.runs.items a.members) (sym s.known)
    (subst (λ v. IsSweep b.known.items v a.members) (sym s.runs) (subst (λ v. IsSweep b.known.items b.runs.items v) (sym s.members) sound))

same_outcomes : (a b : Tally) → IsSame a b → outcomes_of a ≡ outcomes_of b
same_outcomes a b s = ap (λ v. outcomes_in v a.runs.items) s.known ∙ ap (λ v. outcomes_in b.known.items v) s.runs

pub tally_members : (t : Tally) → IsTally t → t.members ≡ length (outcomes_of t)
tally_members t s = s.counted ∙ sym (length-outcomes_in t.known.items t.runs.items)

-- a run isn't added: those before it are
pub part_joined : (old now new : Tally) (known : List (List ℕ)) (runs : List Run) (i : ℕ) → IsTally now → outcomes_of now ≡ outcomes_of old ++ outcomes_in known (take i runs) → IsSame new now
    → IsJoinedPart old new (outcomes_in known runs)
part_joined old now new known runs i sound e same =
    let front = outcomes_in known (take i runs) in
    record {
      sound = same_sound new now same sound;
      part = length front;
      outcomes =
          same_outcomes new now same ∙ e
          ∙ ap (λ v. outcomes_of old ++ v) (sym (take_at front (outcomes_in known (drop i runs)) (length front) refl) ∙ ap (take (length front)) (sym (outcomes_cut known runs i)));
    }

-- a run is added
pub run_joined : (old now new : Tally) (known : List (List ℕ)) (runs : List Run) (i : ℕ) (d : Run) (o : List ℕ) → i < length runs → o ≡ outcome_at known (get_or runs i d).place
    → outcomes_of now ≡ outcomes_of old ++ outcomes_in known (take i runs) → Adds now new o (get_or runs i d).length
    → outcomes_of new ≡ outcomes_of old ++ outcomes_in known (take (i + 1) runs)
run_joined old now new known runs i d o h is e adds =
    let run = get_or runs i d in
    let last : outcomes_in known (take (i + 1) runs) ≡ outcomes_in known (take i runs) ++ replicate run.length o =
    ap (outcomes_in known) (take_more runs i d h)
    ∙ outcomes_in-append known (take i runs) (run ∷ [])
    ∙ ap (λ v. outcomes_in known (take i runs) ++ v) (append-nil (replicate run.length (outcome_at known run.place)) ∙ ap (replicate run.length) (sym is)) in
    adds.outcomes ∙ ap (λ v. v ++ replicate run.length o) e
    ∙ append_assoc (outcomes_of old) (outcomes_in known (take i runs)) (replicate run.length o)
    ∙ ap (λ v. outcomes_of old ++ v) (sym last)

pub run_members : (now new : Tally) (runs : List Run) (i : ℕ) (d : Run) (o : List ℕ) (all : ℕ) → i < length runs → IsTally now → Adds now new o (get_or runs i d).length
    → now.members + members_in (drop i runs) ≡ all → new.members + members_in (drop (i + 1) runs) ≡ all
run_members now new runs i d o all h sound adds e =
    let n = (get_or runs i d).length in
    let left : members_in (drop i runs) ≡ n + members_in (drop (i + 1) runs) = ap members_in (left_is runs i d h) in
    let grown : length (outcomes_of new) ≡ length (outcomes_of now) + n = ap length adds.outcomes ∙ length-append (outcomes_of now) (replicate n o) ∙ ap (λ k. length (outcomes_of now) + k) (length-replicate n o) in
    omega (arith, tally_members now sound, tally_members new adds.sound, grown, left, e)
