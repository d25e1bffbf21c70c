-- The outcomes of members one after another, as runs of equal outcomes.
use Rattle.std.specs.Prelude.{◌≡◌, ℕ, ◌+◌, ◌<◌, ◌≤◌, ◌^◌, false, true, ◌==◌, if◌then◌else◌, List, [], ◌∷◌, ◌++◌, length, replicate, take, slice_index_or}
use Rattle.std.specs.List.{All, AllPairs, list_any}
use Rattle.std.specs.Str.{bytes_eq}
use Rattle.sweep_table.specs.declared.runs.Run.{Run}
use Rattle.sweep_table.specs.declared.tally.Tally.{Tally}

-- the most outcomes of a table
abbrev pub most_outcomes : ℕ
most_outcomes = 10000

-- outcome number k
abbrev pub outcome_at : List (List ℕ) → ℕ → List ℕ
outcome_at known k = slice_index_or known k []

-- the outcome of each member of these runs, in order
abbrev pub outcomes_in : List (List ℕ) → List Run → List (List ℕ)
outcomes_in known [] = []
outcomes_in known (run ∷ runs) = replicate run.length (outcome_at known run.place) ++ outcomes_in known runs

-- how many members these runs have
abbrev pub members_in : List Run → ℕ
members_in [] = 0
members_in (run ∷ runs) = run.length + members_in runs

-- how many of them have outcome number `place`
abbrev pub count_at : ℕ → List Run → ℕ
count_at place [] = 0
count_at place (run ∷ runs) = (if run.place == place then run.length else 0) + count_at place runs

-- how many members stand before the first run with outcome number `place`
abbrev pub first_at : ℕ → List Run → ℕ
first_at place [] = 0
first_at place (run ∷ runs) = if run.place == place then 0 else run.length + first_at place runs

-- the known outcomes differ from each other
abbrev pub AreApart : List (List ℕ) → Type 0
AreApart known = AllPairs (λ a b. bytes_eq a b ≡ false) known

-- runs with more members at the end, all with outcome number `place`
pub record Grows (old new : List Run) (place more : ℕ) : Type 0 where
  pub outcomes : (known : List (List ℕ)) → outcomes_in known new ≡ outcomes_in known old ++ replicate more (outcome_at known place)
  pub members : members_in new ≡ members_in old + more
  pub places : (n : ℕ) → place < n → All (λ run. run.place < n) old → All (λ run. run.place < n) new
  pub some : 0 < more → All (λ run. 0 < run.length) old → All (λ run. 0 < run.length) new
  pub counts : (k : ℕ) → count_at k new ≡ count_at k old + (if place == k then more else 0)

-- each run has a known outcome and members, each known outcome occurs, and the members are counted
pub record IsSweep (known : List (List ℕ)) (runs : List Run) (members : ℕ) : Type 0 where
  pub places : All (λ run. run.place < length known) runs
  pub some : All (λ run. 0 < run.length) runs
  pub used : (k : ℕ) → k < length known → 0 < count_at k runs
  pub apart : AreApart known
  pub few : length known ≤ most_outcomes
  pub counted : members ≡ members_in runs
  pub fits : members_in runs < 2 ^ 64

-- the outcome of each member of a tally, in order
abbrev pub outcomes_of : Tally → List (List ℕ)
outcomes_of tally = outcomes_in tally.known.items tally.runs.items

abbrev pub IsTally : Tally → Type 0
IsTally tally = IsSweep tally.known.items tally.runs.items tally.members

-- the same outcomes, runs and count
pub record IsSame (a b : Tally) : Type 0 where
  pub known : a.known.items ≡ b.known.items
  pub runs : a.runs.items ≡ b.runs.items
  pub members : a.members ≡ b.members

-- members with one outcome were added
pub record Adds (old new : Tally) (outcome : List ℕ) (more : ℕ) : Type 0 where
  pub sound : IsTally new
  pub outcomes : outcomes_of new ≡ outcomes_of old ++ replicate more outcome

-- over 10,000 outcomes: these, which all occur and differ from each other
pub record HasTooMany (outcomes : List (List ℕ)) : Type 0 where
  pub found : List (List ℕ)
  pub many : most_outcomes < length found
  pub apart : AreApart found
  pub occur : All (λ x. list_any (λ y. bytes_eq y x) outcomes ≡ true) found

-- these outcomes were added
pub record IsJoined (old new : Tally) (more : List (List ℕ)) : Type 0 where
  pub sound : IsTally new
  pub outcomes : outcomes_of new ≡ outcomes_of old ++ more

-- a prefix of them was added
pub record IsJoinedPart (old new : Tally) (more : List (List ℕ)) : Type 0 where
  pub sound : IsTally new
  pub part : ℕ
  pub outcomes : outcomes_of new ≡ outcomes_of old ++ take part more
