-- The table of runs.
use Rattle.std.proofs.Common.{◌≡◌, ◌≢◌, ℕ, zero, suc, ◌+◌, ◌*◌, ◌<◌, ◌≤◌, Bool, true, false, cond, List, [], ◌∷◌, ◌++◌, length, get_or, take, replicate, refl, sym, ap, ◌∙◌, arith}
use Rattle.std.specs.Prelude.{◌==◌, ◌&&◌, ◌||◌, not, nat_lt, count_by}
use mathlib.Core.Logic.{⊎_elim}
use Rattle.std.specs.Cmp.{IsStrictWeakOrder}
use Rattle.std.specs.Ordering.{is_lt, nat_cmp, ordering_then}
use Rattle.std.specs.List.{All, list_any, position_or_len}
use Rattle.std.specs.List.Sorted.{IsPermutation, IsSortedBy}
use Rattle.std.specs.Str.{bytes_eq}
use Rattle.std.proofs.lemmas.Bool.{cases_eq, cases_lt}
use Rattle.std.proofs.lemmas.Bool.Decides.{nat_tests}
use Rattle.std.proofs.lemmas.List.{get_or-take, length-take-le}
use Rattle.std.proofs.lemmas.List.Elements.{All-append, All-push, All-tail, All-replicate}
use Rattle.std.proofs.lemmas.List.Folds.{list_any-append, sum_by-replicate}
use Rattle.std.proofs.lemmas.List.Sorted.{sorted_far, All-permutation, list_any-IsPermutation, sum_by-IsPermutation}
use Rattle.std.proofs.lemmas.List.Sums.{sum_by-append, sum_by_more_le}
use Rattle.sweep_table.specs.declared.runs.Run.{Run}
use Rattle.sweep_table.specs.declared.table.Row.{Row}
use Rattle.sweep_table.specs.Runs.{outcome_at, outcomes_in, count_at, first_at, AreApart, IsSweep}
use Rattle.sweep_table.specs.Table.{count_of, first_of, IsRow, stands_before, IsTable, row_at, rows_below}
use Rattle.sweep_table.proofs.TallyLemmas.{same_bytes, other_bytes}

-- ---- counts and first members, by the numbers of the outcomes
-- two known outcomes are the same exactly if their numbers are
apart_test : (known : List (List ℕ)) (j k : ℕ) → AreApart known → j < length known → k < length known → bytes_eq (outcome_at known j) (outcome_at known k) ≡ (j == k)
apart_test known j k apart hj hk =
    ⊎_elim
    (λ e.
    let t : true ≡ (j == k) = grind (arith, nat_tests) in
    ap (λ n. bytes_eq (outcome_at known j) (outcome_at known n)) (sym e) ∙ same_bytes (outcome_at known j) ∙ t)
    (λ e.
    let f : false ≡ (j == k) = grind (arith, nat_tests) in
    ⊎_elim
    (λ l. apart j k [] l hk ∙ f)
    (λ l. other_bytes (outcome_at known k) (outcome_at known j) (apart k j [] (omega (arith, l, e)) hj) ∙ f)
    (cases_lt j k))
    (cases_eq j k)

times_cond : (b : Bool) (n : ℕ) → n * cond b 1 0 ≡ cond b n 0
times_cond true n = omega arith
times_cond false n = omega arith

pub counts : (known : List (List ℕ)) (k : ℕ) (runs : List Run) → AreApart known → k < length known → All (λ run. run.place < length known) runs
    → count_of (outcomes_in known runs) (outcome_at known k) ≡ count_at k runs
counts known k [] apart h places = refl
counts known k (run ∷ runs) apart h places =
    let test : List ℕ → Bool = λ x. bytes_eq x (outcome_at known k) in
    let here = apart_test known run.place k apart (places 0 run (omega arith)) h in
    let one : count_by test (replicate run.length (outcome_at known run.place)) ≡ cond (run.place == k) run.length 0 =
    sum_by-replicate (λ x. cond (test x) 1 0) run.length (outcome_at known run.place) ∙ ap (λ b. run.length * cond b 1 0) here ∙ times_cond (run.place == k) run.length in
    sum_by-append (λ x. cond (test x) 1 0) (replicate run.length (outcome_at known run.place)) (outcomes_in known runs)
    ∙ ap (λ n. n + count_by test (outcomes_in known runs)) one
    ∙ ap (λ n. cond (run.place == k) run.length 0 + n) (counts known k runs apart h (All-tail (λ (r : Run). r.place < length known) run runs places))

first_yes : (test : List ℕ → Bool) (n : ℕ) (o : List ℕ) (rest : List (List ℕ)) → 0 < n → test o ≡ true → position_or_len test (replicate n o ++ rest) ≡ 0
first_yes test zero o rest h e = absurd (omega (arith, h))
first_yes test (suc n) o rest h e = ap (λ b. cond (not b) (1 + position_or_len test (replicate n o ++ rest)) 0) e

first_no : (test : List ℕ → Bool) (n : ℕ) (o : List ℕ) (rest : List (List ℕ)) → test o ≡ false → position_or_len test (replicate n o ++ rest) ≡ n + position_or_len test rest
first_no test zero o rest e = omega arith
first_no test (suc n) o rest e = ap (λ b. cond (not b) (1 + position_or_len test (replicate n o ++ rest)) 0) e ∙ omega (arith, first_no test n o rest e)

first_step : (b : Bool) (test : List ℕ → Bool) (n : ℕ) (o : List ℕ) (rest : List (List ℕ)) → 0 < n → test o ≡ b → position_or_len test (replicate n o ++ rest) ≡ cond b 0 (n + position_or_len test rest)
first_step true test n o rest h e = first_yes test n o rest h e
first_step false test n o rest h e = first_no test n o rest e

pub firsts : (known : List (List ℕ)) (k : ℕ) (runs : List Run) → AreApart known → k < length known → All (λ run. run.place < length known) runs → All (λ run. 0 < run.length) runs
    → first_of (outcomes_in known runs) (outcome_at known k) ≡ first_at k runs
firsts known k [] apart h places some = refl
firsts known k (run ∷ runs) apart h places some =
    let test : List ℕ → Bool = λ x. bytes_eq x (outcome_at known k) in
    let rest = firsts known k runs apart h (All-tail (λ (r : Run). r.place < length known) run runs places) (All-tail (λ (r : Run). 0 < r.length) run runs some) in
    first_step (run.place == k) test run.length (outcome_at known run.place) (outcomes_in known runs) (some 0 run (omega arith)) (apart_test known run.place k apart (places 0 run (omega arith)) h)
    ∙ ap (λ n. cond (run.place == k) 0 (run.length + n)) rest

-- outcomes with different numbers occur first at different members
first_cases : (a b : Bool) (n p q : ℕ) → 0 < n → (a ≡ true → b ≡ true → ⊥) → (a ≡ false → b ≡ false → p ≡ q → ⊥) → cond a 0 (n + p) ≡ cond b 0 (n + q) → ⊥
first_cases true true n p q h both none e = both refl refl
first_cases true false n p q h both none e = absurd (omega (arith, e, h))
first_cases false true n p q h both none e = absurd (omega (arith, e, h))
first_cases false false n p q h both none e = none refl refl (omega (arith, e))

left_count : (b : Bool) (n m : ℕ) → b ≡ false → 0 < cond b n 0 + m → 0 < m
left_count true n m e h = absurd (cc)
left_count false n m e h = omega (arith, h)

is_place : (n a : ℕ) → (n == a) ≡ true → n ≡ a
is_place n a e = grind (arith, nat_tests)

pub firsts_differ : (a b : ℕ) (runs : List Run) → a ≢ b → 0 < count_at a runs → 0 < count_at b runs → All (λ run. 0 < run.length) runs → first_at a runs ≢ first_at b runs
firsts_differ a b [] other p q some e = absurd (omega (arith, p))
firsts_differ a b (run ∷ runs) other p q some e =
    first_cases (run.place == a) (run.place == b) run.length (first_at a runs) (first_at b runs) (some 0 run (omega arith))
    (λ x y. other (sym (is_place run.place a x) ∙ is_place run.place b y))
    (λ x y z.
    firsts_differ a b runs other (left_count (run.place == a) run.length (count_at a runs) x p) (left_count (run.place == b) run.length (count_at b runs) y q)
    (All-tail (λ (r : Run). 0 < r.length) run runs some) z)
    e

-- ---- the rows
pub row_is : (known : List (List ℕ)) (runs : List Run) (members k : ℕ) → IsSweep known runs members → k < length known → IsRow (outcomes_in known runs) (row_at known runs k)
row_is known runs members k s h = record {
  some = s.used k h;
  count = sym (counts known k runs s.apart h s.places);
  first = sym (firsts known k runs s.apart h s.places s.some);
}

rows_are : (n : ℕ) (known : List (List ℕ)) (runs : List Run) (members : ℕ) → IsSweep known runs members → n ≤ length known → All (IsRow (outcomes_in known runs)) (rows_below n known runs)
rows_are zero known runs members s h = λ k d l. absurd (omega (arith, l))
rows_are (suc n) known runs members s h =
    All-push (IsRow (outcomes_in known runs)) (rows_below n known runs) (row_at known runs n) (rows_are n known runs members s (omega (arith, h))) (row_is known runs members n s (omega (arith, h)))

abbrev tells_of : List ℕ → Row → Bool
tells_of x row = bytes_eq row.outcome x

or_right : (b : Bool) → (b || true) ≡ true
or_right true = refl
or_right false = refl

has_row : (n k : ℕ) (known : List (List ℕ)) (runs : List Run) → k < n → list_any (tells_of (outcome_at known k)) (rows_below n known runs) ≡ true
has_row zero k known runs h = absurd (omega (arith, h))
has_row (suc n) k known runs h =
    ⊎_elim
    (λ l.
    list_any-append (tells_of (outcome_at known k)) (rows_below n known runs) (row_at known runs n ∷ [])
    ∙ ap (λ b. b || list_any (tells_of (outcome_at known k)) (row_at known runs n ∷ [])) (has_row n k known runs l))
    (λ l.
    let e : n ≡ k = omega (arith, h, l) in
    let own : bytes_eq (outcome_at known n) (outcome_at known k) ≡ true = ap (λ m. bytes_eq (outcome_at known m) (outcome_at known k)) e ∙ same_bytes (outcome_at known k) in
    list_any-append (tells_of (outcome_at known k)) (rows_below n known runs) (row_at known runs n ∷ [])
    ∙ ap (λ b. list_any (tells_of (outcome_at known k)) (rows_below n known runs) || (b || false)) own
    ∙ or_right (list_any (tells_of (outcome_at known k)) (rows_below n known runs)))
    (cases_lt k n)

outcomes_all : (P : List ℕ → Type 0) (known : List (List ℕ)) (runs : List Run) → ((k : ℕ) → k < length known → P (outcome_at known k)) → All (λ run. run.place < length known) runs → All P (outcomes_in known runs)
outcomes_all P known [] h places = λ k d l. absurd (omega (arith, l))
outcomes_all P known (run ∷ runs) h places =
    All-append P (replicate run.length (outcome_at known run.place)) (outcomes_in known runs)
    (All-replicate P run.length (outcome_at known run.place) (h run.place (places 0 run (omega arith))))
    (outcomes_all P known runs h (All-tail (λ (r : Run). r.place < length known) run runs places))

-- ---- their order
-- the order by which the rows are sorted
abbrev pub sorts_before : Row → Row → Bool
sorts_before a b = is_lt (ordering_then (nat_cmp b.count a.count) (nat_cmp a.first b.first))

pub row_order : IsStrictWeakOrder sorts_before
row_order = record {
  one_way = λ x y e. one_way_of x.count x.first y.count y.first e;
  chain = λ x y z p q. chain_of x.count x.first y.count y.first z.count z.first p q;
}
  where
    one_way_of : (a b c d : ℕ) → is_lt (ordering_then (nat_cmp c a) (nat_cmp b d)) ≡ true → is_lt (ordering_then (nat_cmp a c) (nat_cmp d b)) ≡ false
    one_way_of a b c d e = grind (arith, nat_tests)

    chain_of : (a b c d e f : ℕ) → is_lt (ordering_then (nat_cmp c a) (nat_cmp b d)) ≡ false → is_lt (ordering_then (nat_cmp e c) (nat_cmp d f)) ≡ false → is_lt (ordering_then (nat_cmp e a) (nat_cmp b f)) ≡ false
    chain_of a b c d e f p q = grind (arith, nat_tests)

stands : (a b : Row) → sorts_before b a ≡ false → a.first ≢ b.first → stands_before a b ≡ true
stands a b p q = stands_of a.count a.first b.count b.first p q
  where
    stands_of : (n p m q : ℕ) → is_lt (ordering_then (nat_cmp n m) (nat_cmp q p)) ≡ false → p ≢ q → (nat_lt m n || n == m && nat_lt p q) ≡ true
    stands_of n p m q h k = grind (arith, nat_tests)

abbrev begins_at : ℕ → Row → Bool
begins_at v row = row.first == v

-- at most one row has a given first member
not_before_n : (n v : ℕ) (known : List (List ℕ)) (runs : List Run) → ((k : ℕ) → k < n → first_at k runs ≢ v) → count_by (begins_at v) (rows_below n known runs) ≡ 0
not_before_n zero v known runs h = refl
not_before_n (suc n) v known runs h =
    let other : first_at n runs ≢ v = h n (omega arith) in
    let f : (first_at n runs == v) ≡ false = grind (arith, nat_tests) in
    sum_by-append (λ r. cond (begins_at v r) 1 0) (rows_below n known runs) (row_at known runs n ∷ [])
    ∙ ap (λ m. m + count_by (begins_at v) (row_at known runs n ∷ [])) (not_before_n n v known runs (λ k l. h k (omega (arith, l))))
    ∙ ap (λ b. 0 + (0 + cond b 1 0)) f

once : (n v : ℕ) (known : List (List ℕ)) (runs : List Run) (members : ℕ) → IsSweep known runs members → n ≤ length known → count_by (begins_at v) (rows_below n known runs) ≤ 1
once zero v known runs members s h = omega arith
once (suc n) v known runs members s h =
    let both = sum_by-append (λ r. cond (begins_at v r) 1 0) (rows_below n known runs) (row_at known runs n ∷ []) in
    ⊎_elim
    (λ e.
    let none = not_before_n n v known runs
    (λ k l x. firsts_differ k n runs (λ q. absurd (omega (arith, q, l))) (s.used k (omega (arith, l, h))) (s.used n (omega (arith, h))) s.some (x ∙ sym e)) in
    let t : (first_at n runs == v) ≡ true = grind (arith, nat_tests) in
    let one : count_by (begins_at v) (row_at known runs n ∷ []) ≡ 1 = ap (λ b. 0 + cond b 1 0) t in
    omega (arith, both, none, one))
    (λ e.
    let f : (first_at n runs == v) ≡ false = grind (arith, nat_tests) in
    let zero_of : count_by (begins_at v) (row_at known runs n ∷ []) ≡ 0 = ap (λ b. 0 + cond b 1 0) f in
    omega (arith, both, zero_of, once n v known runs members s (omega (arith, h))))
    (cases_eq (first_at n runs) v)

begins : (v : ℕ) (row : Row) → row.first ≡ v → begins_at v row ≡ true
begins v row e = grind (arith, nat_tests)

module _ {X : Type 0} (p : X → Bool) (xs : List X) (i j : ℕ) (d : X) where
  -- two places that pass are counted twice
  counted_twice : i < j → j < length xs → p (get_or xs i d) ≡ true → p (get_or xs j d) ≡ true → 2 ≤ count_by p xs
  counted_twice h l a b =
      let f : X → ℕ = λ x. cond (p x) 1 0 in
      let at : f (get_or (take j xs) i d) ≡ 1 = ap f (get_or-take j xs i d h) ∙ ap (λ t. cond t 1 0) a in
      let bt : f (get_or xs j d) ≡ 1 = ap (λ t. cond t 1 0) b in
      let short : length (take j xs) ≡ j = length-take-le j xs (omega (arith, l)) in
      omega (arith, sum_by_more_le f (take j xs) i d (omega (arith, short, h)), sum_by_more_le f xs j d l, at, bt)

-- two rows begin at different members
apart_rows : (known : List (List ℕ)) (runs : List Run) (members : ℕ) (rows : List Row) → IsSweep known runs members → IsPermutation (rows_below (length known) known runs) rows
    → (i j : ℕ) (d : Row) → i < j → j < length rows → (get_or rows i d).first ≡ (get_or rows j d).first → ⊥
apart_rows known runs members rows s moved i j d h l e =
    let v = (get_or rows j d).first in
    let ti : begins_at v (get_or rows i d) ≡ true = begins v (get_or rows i d) e in
    let tj : begins_at v (get_or rows j d) ≡ true = begins v (get_or rows j d) refl in
    let twice = counted_twice (begins_at v) rows i j d h l ti tj in
    let one = once (length known) v known runs members s (omega arith) in
    let same = sum_by-IsPermutation (λ (r : Row). cond (begins_at v r) 1 0) (rows_below (length known) known runs) rows moved in
    absurd (omega (arith, twice, one, same))

-- the table
pub table_is : (known : List (List ℕ)) (runs : List Run) (members : ℕ) (rows : List Row) → IsSweep known runs members → IsPermutation (rows_below (length known) known runs) rows
    → IsSortedBy sorts_before rows → IsTable (outcomes_in known runs) rows
table_is known runs members rows s moved up =
    let made = rows_below (length known) known runs in
    record {
      each = All-permutation (IsRow (outcomes_in known runs)) made rows moved (rows_are (length known) known runs members s (omega arith));
      whole =
          outcomes_all (λ x. list_any (tells_of x) rows ≡ true) known runs
          (λ k h. sym (list_any-IsPermutation (tells_of (outcome_at known k)) made rows moved) ∙ has_row (length known) k known runs h)
          s.places;
      order =
          λ i j d h l.
          stands (get_or rows i d) (get_or rows j d) (sorted_far sorts_before row_order rows up i j d (omega (arith, h)) l)
          (λ e. apart_rows known runs members rows s moved i j d h l e);
    }
