-- Runs, and what more members at their end change.
use Rattle.std.proofs.Common.{◌≡◌, ◌≢◌, ℕ, zero, suc, ◌+◌, ◌-◌, ◌<◌, ◌≤◌, Bool, true, false, cond, List, [], ◌∷◌, ◌++◌, length, get_or, set, take, drop, replicate, refl, sym, ap, ◌∙◌, subst, arith}
use Rattle.std.specs.Prelude.{◌==◌}
use Rattle.std.specs.List.{All}
use Rattle.std.proofs.lemmas.List.{append_assoc, append-nil, take_more, take_more_set, take_all, take_at, length-set, length-append, length-replicate}
use Rattle.std.proofs.Math.Seq.{drop-cons}
use Rattle.std.proofs.lemmas.List.Elements.{All-push, All-take}
use Rattle.std.proofs.lemmas.Bool.Decides.{nat_tests}
use Rattle.sweep_table.specs.declared.runs.Run.{Run}
use Rattle.sweep_table.specs.Runs.{outcome_at, outcomes_in, members_in, count_at, first_at, Grows}

-- ---- one list of runs after another
pub outcomes_in-append : (known : List (List ℕ)) (xs ys : List Run) → outcomes_in known (xs ++ ys) ≡ outcomes_in known xs ++ outcomes_in known ys
outcomes_in-append known [] ys = refl
outcomes_in-append known (x ∷ xs) ys =
    ap (λ v. replicate x.length (outcome_at known x.place) ++ v) (outcomes_in-append known xs ys) ∙ sym (append_assoc (replicate x.length (outcome_at known x.place)) (outcomes_in known xs) (outcomes_in known ys))

pub members-append : (xs ys : List Run) → members_in (xs ++ ys) ≡ members_in xs + members_in ys
members-append [] ys = omega arith
members-append (x ∷ xs) ys = omega (arith, members-append xs ys)

pub count-append : (k : ℕ) (xs ys : List Run) → count_at k (xs ++ ys) ≡ count_at k xs + count_at k ys
count-append k [] ys = omega arith
count-append k (x ∷ xs) ys = omega (arith, count-append k xs ys)

-- there are as many outcomes as members
pub length-outcomes_in : (known : List (List ℕ)) (xs : List Run) → length (outcomes_in known xs) ≡ members_in xs
length-outcomes_in known [] = refl
length-outcomes_in known (x ∷ xs) =
    length-append (replicate x.length (outcome_at known x.place)) (outcomes_in known xs)
    ∙ omega (arith, length-replicate x.length (outcome_at known x.place), length-outcomes_in known xs)

pub replicate-add : (n m : ℕ) (o : List ℕ) → replicate (n + m) o ≡ replicate n o ++ replicate m o
replicate-add zero m o = let e : 0 + m ≡ m = omega arith in ap (λ k. replicate k o) e
replicate-add (suc n) m o = let e : suc n + m ≡ suc (n + m) = omega arith in ap (λ k. replicate k o) e ∙ ap (λ v. o ∷ v) (replicate-add n m o)

-- ---- more members at the end
alone : (known : List (List ℕ)) (n place : ℕ) → outcomes_in known (record { length = n; place = place } ∷ []) ≡ replicate n (outcome_at known place)
alone known n place = append-nil (replicate n (outcome_at known place))

cond_add : (b : Bool) (n m : ℕ) → cond b (n + m) 0 ≡ cond b n 0 + cond b m 0
cond_add true n m = refl
cond_add false n m = refl

-- in a run of their own
pub grows_push : (rs : List Run) (place more : ℕ) → Grows rs (rs ++ record { length = more; place = place } ∷ []) place more
grows_push rs place more =
    let run : Run = record { length = more; place = place } in
    record {
      outcomes = λ known. outcomes_in-append known rs (run ∷ []) ∙ ap (λ v. outcomes_in known rs ++ v) (alone known more place);
      members = members-append rs (run ∷ []) ∙ omega arith;
      places = λ n h all. All-push (λ (r : Run). r.place < n) rs run all h;
      some = λ h all. All-push (λ (r : Run). 0 < r.length) rs run all h;
      counts = λ k. count-append k rs (run ∷ []) ∙ omega arith;
    }

-- in the last run
pub grows_split : (front : List Run) (n place more : ℕ) → Grows (front ++ record { length = n; place = place } ∷ []) (front ++ record { length = n + more; place = place } ∷ []) place more
grows_split front n place more =
    let a : Run = record { length = n; place = place } in
    let b : Run = record { length = n + more; place = place } in
    record {
      outcomes =
          λ known.
          outcomes_in-append known front (b ∷ [])
          ∙ ap (λ v. outcomes_in known front ++ v) (alone known (n + more) place ∙ replicate-add n more (outcome_at known place))
          ∙ sym (append_assoc (outcomes_in known front) (replicate n (outcome_at known place)) (replicate more (outcome_at known place)))
          ∙ ap (λ v. v ++ replicate more (outcome_at known place)) (ap (λ v. outcomes_in known front ++ v) (sym (alone known n place)) ∙ sym (outcomes_in-append known front (a ∷ [])));
      members = omega (arith, members-append front (b ∷ []), members-append front (a ∷ []));
      places = λ m h all. All-push (λ (r : Run). r.place < m) front b (front_all (λ (r : Run). r.place < m) front a all) h;
      some = λ h all. All-push (λ (r : Run). 0 < r.length) front b (front_all (λ (r : Run). 0 < r.length) front a all) (omega (arith, h));
      counts = λ k. omega (arith, count-append k front (b ∷ []), count-append k front (a ∷ []), cond_add (place == k) n more);
    }
  where
    front_all : (P : Run → Type 0) (xs : List Run) (x : Run) → All P (xs ++ x ∷ []) → All P xs
    front_all P xs x all = subst (All P) (take_at xs (x ∷ []) (length xs) refl) (All-take P (length xs) (xs ++ x ∷ []) all)

module _ (rs : List Run) (d : Run) (some : 0 < length rs) where
  last_split : rs ≡ take (length rs - 1) rs ++ get_or rs (length rs - 1) d ∷ []
  last_split =
      let one : length rs - 1 + 1 ≡ length rs = omega arith in
      sym (take_all (length rs) rs (omega arith)) ∙ ap (λ n. take n rs) (sym one) ∙ take_more rs (length rs - 1) d (omega arith)

  set_split : (y : Run) → set rs (length rs - 1) y ≡ take (length rs - 1) rs ++ y ∷ []
  set_split y =
      let one : length rs - 1 + 1 ≡ length rs = omega arith in
      sym (take_all (length rs) (set rs (length rs - 1) y) (omega (arith, length-set rs (length rs - 1) y)))
      ∙ ap (λ n. take n (set rs (length rs - 1) y)) (sym one)
      ∙ take_more_set rs (length rs - 1) y (omega arith)

  pub grows_last : (place more : ℕ) → (get_or rs (length rs - 1) d).place ≡ place
      → Grows rs (set rs (length rs - 1) (record (get_or rs (length rs - 1) d) { length = (get_or rs (length rs - 1) d).length + more })) place more
  grows_last place more at =
      let last = get_or rs (length rs - 1) d in
      let old : Run = record { length = last.length; place = place } in
      let same : last ≡ old = λ i. record { length = last.length; place = at i } in
      let here : rs ≡ take (length rs - 1) rs ++ old ∷ [] = last_split ∙ ap (λ v. take (length rs - 1) rs ++ v ∷ []) same in
      let there : set rs (length rs - 1) (record last { length = last.length + more }) ≡ take (length rs - 1) rs ++ record { length = last.length + more; place = place } ∷ [] =
      set_split (record last { length = last.length + more }) ∙ ap (λ p. take (length rs - 1) rs ++ record { length = last.length + more; place = p } ∷ []) at in
      subst (λ v. Grows v (set rs (length rs - 1) (record last { length = last.length + more })) place more) (sym here)
      (subst (λ v. Grows (take (length rs - 1) rs ++ old ∷ []) v place more) (sym there) (grows_split (take (length rs - 1) rs) last.length place more))

-- ---- one run more of those that are left
pub count_le : (k : ℕ) (rs : List Run) → count_at k rs ≤ members_in rs
count_le k [] = omega arith
count_le k (r ∷ rs) = omega (arith, count_le k rs, cond_le (r.place == k) r.length)
  where
    cond_le : (b : Bool) (n : ℕ) → cond b n 0 ≤ n
    cond_le true n = omega arith
    cond_le false n = omega arith

pub first_le : (k : ℕ) (rs : List Run) → first_at k rs ≤ members_in rs
first_le k [] = omega arith
first_le k (r ∷ rs) = first_cond (r.place == k) r.length (first_at k rs) (members_in rs) (first_le k rs)
  where
    first_cond : (b : Bool) (n m p : ℕ) → m ≤ p → cond b 0 (n + m) ≤ n + p
    first_cond true n m p h = omega arith
    first_cond false n m p h = omega (arith, h)

pub left_is : (rs : List Run) (i : ℕ) (d : Run) → i < length rs → drop i rs ≡ get_or rs i d ∷ drop (i + 1) rs
left_is rs i d h = let e : suc i ≡ i + 1 = omega arith in drop-cons rs i d h ∙ ap (λ n. get_or rs i d ∷ drop n rs) e

-- the length of a run of those that are left fits
pub count_here : (k : ℕ) (rs : List Run) (i n : ℕ) (d : Run) → i < length rs → (get_or rs i d).place ≡ k → n + count_at k (drop i rs) ≡ count_at k rs → n + (get_or rs i d).length ≤ members_in rs
count_here k rs i n d h at e =
    let run = get_or rs i d in
    let t : (run.place == k) ≡ true = grind (arith, nat_tests) in
    let here : cond (run.place == k) run.length 0 ≡ run.length = ap (λ b. cond b run.length 0) t in
    let left : count_at k (drop i rs) ≡ cond (run.place == k) run.length 0 + count_at k (drop (i + 1) rs) = ap (count_at k) (left_is rs i d h) in
    omega (arith, count_le k rs, e, here, left)

pub first_here : (k : ℕ) (rs : List Run) (i n : ℕ) (d : Run) → i < length rs → (get_or rs i d).place ≢ k → n + first_at k (drop i rs) ≡ first_at k rs → n + (get_or rs i d).length ≤ members_in rs
first_here k rs i n d h other e =
    let run = get_or rs i d in
    let t : (run.place == k) ≡ false = grind (arith, nat_tests) in
    let left : first_at k (drop i rs) ≡ cond (run.place == k) 0 (run.length + first_at k (drop (i + 1) rs)) = ap (first_at k) (left_is rs i d h) in
    let here : cond (run.place == k) 0 (run.length + first_at k (drop (i + 1) rs)) ≡ run.length + first_at k (drop (i + 1) rs) = ap (λ b. cond b 0 (run.length + first_at k (drop (i + 1) rs))) t in
    omega (arith, first_le k rs, e, here, left)

-- the members of a run are members of all
pub length_le : (rs : List Run) (i : ℕ) (d : Run) → i < length rs → (get_or rs i d).length ≤ members_in rs
length_le [] i d h = absurd (omega (arith, h))
length_le (r ∷ rs) zero d h = omega arith
length_le (r ∷ rs) (suc i) d h = omega (arith, length_le rs i d (omega (arith, h)))

pub last_fits : (rs : List Run) (last : Run) (n : ℕ) → n < length rs → last ≡ get_or rs n last → last.length ≤ members_in rs
last_fits rs last n h is = subst (λ k. k ≤ members_in rs) (sym (ap (λ (r : Run). r.length) is)) (length_le rs n last h)

-- the last run, as it was read, with more members
pub grows_at : (rs : List Run) (last : Run) (n place more : ℕ) → 0 < length rs → n ≡ length rs - 1 → (get_or rs (length rs - 1) last).place ≡ place → last ≡ get_or rs n last
    → Grows rs (set rs n (record { length = last.length + more; place = last.place })) place more
grows_at rs last n place more some e at is =
    let own : last ≡ get_or rs (length rs - 1) last = is ∙ ap (λ k. get_or rs k last) e in
    let made : List Run = set rs n (record { length = last.length + more; place = last.place }) in
    let same : made ≡ set rs (length rs - 1) (record (get_or rs (length rs - 1) last) { length = (get_or rs (length rs - 1) last).length + more }) =
    ap (λ k. set rs k (record { length = last.length + more; place = last.place })) e
    ∙ ap (λ (r : Run). set rs (length rs - 1) (record { length = r.length + more; place = r.place })) own in
    let P : List Run → Type 0 = λ v. Grows rs v place more in
    subst P (sym same) (grows_last rs last some place more at)
