-- Elements in line by a key, each shown by its id and rank: the line after one of them is changed, added or removed.
use Rattle.std.proofs.Common.{◌≡◌, ℕ, zero, suc, ◌<◌, ◌≤◌, Bool, true, false, not, cond, eqb, leb, List, [], ◌∷◌, ◌++◌, map, length, get_or, None, Some, refl, sym, ap, ◌∙◌, subst, arith}
use Rattle.std.specs.List.{All, AllByRecursion, filter}
use Rattle.std.specs.Cmp.{IsStrictWeakOrder}
use Rattle.std.proofs.lemmas.Bool.{eqb-true, eq-eqb}
use Rattle.std.proofs.lemmas.Option.{same_Some}
use Rattle.std.proofs.lemmas.List.{append-nil, length-map, length-append, map-append}
use Rattle.std.proofs.lemmas.List.Elements.{All-head, All-tail, All-cons, All-filter, All-append, recursion_from_All, filter-append}
use Rattle.id_table.specs.Records.{of_id, replace, without, Rising}
use Rattle.id_table.specs.Sorting.{insert_sorted, sorted, in_line}
use Rattle.id_table.specs.Arrivals.{put_after}
use Rattle.id_table.proofs.Records.{rising_head, rising_tail, found_id}
use Rattle.id_table.proofs.Places.{above_none, none_without, not_there, gone, fewer_without}
use Rattle.id_table.proofs.Passing.{length-in_line}
use Rattle.id_table.proofs.Sorting.{filter-sorted, seen_sorted, all_insert}

get_or_middle : {X : Type 0} (us : List X) (x : X) (vs : List X) (d : X) → get_or (us ++ x ∷ vs) (length us) d ≡ x
get_or_middle [] x vs d = refl
get_or_middle (u ∷ us) x vs d = get_or_middle us x vs d

-- ---- a record with an id splits its list
module _ {X : Type 0} (id : X → ℕ) where
  pub record Split (xs : List X) (n : ℕ) (x : X) : Type 0 where
    pub prefix : List X
    pub back : List X
    pub whole : xs ≡ prefix ++ x ∷ back
    pub replaced : (y : X) → replace id xs n y ≡ prefix ++ y ∷ back
    pub left : without id xs n ≡ prefix ++ back

  pub split : (xs : List X) (n : ℕ) (x : X) → Rising id xs → of_id id xs n ≡ Some x → Split xs n x
  split [] n x up e = absurd (cc)
  split (z ∷ zs) n x up e =
      elim (eqb (id z) n) as (λ b. eqb (id z) n ≡ b → cond b (Some z) (of_id id zs n) ≡ Some x → Split (z ∷ zs) n x) [
        | true ↦ λ b q.
            let here = eqb-true (id z) n b in
            let none = above_none id zs n (λ k d hk. let above = rising_head id z zs up k d hk in omega arith) in
            record {
              prefix = [];
              back = zs;
              whole = ap (λ u. u ∷ zs) (same_Some z x q);
              replaced = λ y. ap (λ c. cond c y z ∷ replace id zs n y) b ∙ ap (λ us. y ∷ us) (not_there id zs n (λ _. y) none);
              left = ap (λ c. cond (not c) (z ∷ without id zs n) (without id zs n)) b ∙ none_without id zs n none;
            }
        | false ↦ λ b q.
            let rest = split zs n x (rising_tail id z zs up) q in
            record {
              prefix = z ∷ rest.prefix;
              back = rest.back;
              whole = ap (λ us. z ∷ us) rest.whole;
              replaced = λ y. ap (λ c. cond c y z ∷ replace id zs n y) b ∙ ap (λ us. z ∷ us) (rest.replaced y);
              left = ap (λ c. cond (not c) (z ∷ without id zs n) (without id zs n)) b ∙ ap (λ us. z ∷ us) rest.left;
            }
      ] refl e

-- ---- insertions
module _ {X : Type 0} (lt : X → X → Bool) (w : IsStrictWeakOrder lt) (p : X → Bool) where
  -- if one of two elements is before the other, they can be inserted in either order
  swap_less : (x y : X) (zs : List X) → lt x y ≡ true → insert_sorted lt x (insert_sorted lt y zs) ≡ insert_sorted lt y (insert_sorted lt x zs)
  swap_less x y [] less = grind (arith, w.one_way)
  swap_less x y (z ∷ zs) less = grind (arith, w.one_way, w.chain, swap_less x y zs)

  -- one that passes the test is inserted at its place in the line
  pub passes_in : (prefix back : List X) (y : X) → p y ≡ true → All (λ x. lt x y ≡ not (lt y x)) prefix
      → sorted lt (filter p (prefix ++ y ∷ back)) ≡ insert_sorted lt y (sorted lt (filter p (prefix ++ back)))
  passes_in [] back y py apart = ap (λ b. sorted lt (cond b (y ∷ filter p back) (filter p back))) py
  passes_in (x ∷ xs) back y py apart =
      let rest = passes_in xs back y py (All-tail (λ u. lt u y ≡ not (lt y u)) x xs apart) in
      let here : lt x y ≡ not (lt y x) = All-head (λ u. lt u y ≡ not (lt y u)) x xs apart in
      elim (p x) as (λ b. sorted lt (cond b (x ∷ filter p (xs ++ y ∷ back)) (filter p (xs ++ y ∷ back))) ≡ insert_sorted lt y (sorted lt (cond b (x ∷ filter p (xs ++ back)) (filter p (xs ++ back))))) [
        | true ↦
            ap (insert_sorted lt x) rest
            ∙ elim (lt y x) as (λ b. lt y x ≡ b → insert_sorted lt x (insert_sorted lt y (sorted lt (filter p (xs ++ back)))) ≡ insert_sorted lt y (insert_sorted lt x (sorted lt (filter p (xs ++ back))))) [
              | true ↦ λ b. sym (swap_less y x (sorted lt (filter p (xs ++ back))) b)
              | false ↦ λ b. swap_less x y (sorted lt (filter p (xs ++ back))) (here ∙ ap not b)
            ] refl
        | false ↦ rest
      ]

  -- one that doesn't pass makes no difference
  pub skips : (prefix back : List X) (y : X) → p y ≡ false → filter p (prefix ++ y ∷ back) ≡ filter p (prefix ++ back)
  skips prefix back y py =
      filter-append p prefix (y ∷ back)
      ∙ ap (λ b. filter p prefix ++ cond b (y ∷ filter p back) (filter p back)) py
      ∙ sym (filter-append p prefix back)

  filters_commute : (q : X → Bool) (xs : List X) → filter p (filter q xs) ≡ filter q (filter p xs)
  filters_commute q [] = refl
  filters_commute q (x ∷ xs) = grind (arith, filters_commute q xs)

  pub all_sorted : (P : X → Type 0) (xs : List X) → AllByRecursion P xs → AllByRecursion P (sorted lt xs)
  all_sorted P [] h = tt
  all_sorted P (x ∷ xs) h = all_insert lt P x (sorted lt xs) h.0 (all_sorted P xs h.1)

-- ---- the line
module _ {X Y : Type 0} (id : X → ℕ) (own rank : Y → ℕ) (show : X → Y) (same_id : (x : X) → own (show x) ≡ id x) (lt : X → X → Bool) (w : IsStrictWeakOrder lt) (p : X → Bool) where
  -- the elements that pass the test, in line, as they are shown
  abbrev pub line : List X → List Y
  line xs = map show (in_line lt p xs)

  -- x is before y exactly if its rank is at most that of y; otherwise y is before x
  pub record After (y x : X) : Type 0 where
    pub ahead : lt x y ≡ leb (rank (show x)) (rank (show y))
    pub later : lt y x ≡ not (leb (rank (show x)) (rank (show y)))

  apart : (y x : X) → After y x → lt x y ≡ not (lt y x)
  apart y x b = grind (arith, b.ahead, b.later)

  shown_without : (xs : List X) (n : ℕ) → map show (without id xs n) ≡ without own (map show xs) n
  shown_without [] n = refl
  shown_without (x ∷ xs) n =
      elim (eqb (id x) n) as (λ b. map show (cond (not b) (x ∷ without id xs n) (without id xs n)) ≡ cond (not b) (show x ∷ without own (map show xs) n) (without own (map show xs) n)) [
        | true ↦ shown_without xs n
        | false ↦ ap (λ ys. show x ∷ ys) (shown_without xs n)
      ]
      ∙ ap (λ i. cond (not (eqb i n)) (show x ∷ without own (map show xs) n) (without own (map show xs) n)) (sym (same_id x))

  -- the line without one element
  pub line_without : (xs : List X) (n : ℕ) → line (without id xs n) ≡ without own (line xs) n
  line_without xs n =
      let other : X → Bool = λ x. not (eqb (id x) n) in
      ap (λ zs. map show (sorted lt zs)) (filters_commute lt w p other xs)
      ∙ ap (map show) (sym (filter-sorted lt w other (filter p xs)))
      ∙ shown_without (in_line lt p xs) n

  shown_insert : (y : X) (zs : List X) → AllByRecursion (After y) zs → map show (insert_sorted lt y zs) ≡ put_after own rank (map show zs) (show y)
  shown_insert y [] h = refl
  shown_insert y (z ∷ zs) h =
      ap (λ b. map show (cond b (z ∷ insert_sorted lt y zs) (y ∷ z ∷ zs))) h.0.ahead
      ∙ elim (leb (rank (show z)) (rank (show y))) as (λ b. map show (cond b (z ∷ insert_sorted lt y zs) (y ∷ z ∷ zs)) ≡ cond b (show z ∷ put_after own rank (map show zs) (show y)) (show y ∷ show z ∷ map show zs)) [
        | true ↦ ap (λ us. show z ∷ us) (shown_insert y zs h.1)
        | false ↦ refl
      ]

  in_line_all : (P : X → Type 0) (xs : List X) → All P xs → AllByRecursion P (in_line lt p xs)
  in_line_all P xs all = all_sorted lt w p P (filter p xs) (recursion_from_All P (filter p xs) (All-filter p P xs all))

  -- an element that comes after all of its rank, wherever it was, is inserted there
  put_in : (prefix back : List X) (y : X) → p y ≡ true → All (After y) prefix → All (After y) back → line (prefix ++ y ∷ back) ≡ put_after own rank (line (prefix ++ back)) (show y)
  put_in prefix back y py first last =
      ap (map show) (passes_in lt w p prefix back y py (λ k d h. apart y (get_or prefix k d) (first k d h)))
      ∙ shown_insert y (in_line lt p (prefix ++ back)) (in_line_all (After y) (prefix ++ back) (All-append (After y) prefix back first last))

  -- ---- one element changes
  -- it then passes, and comes after all of its rank
  pub line_renewed : (xs : List X) (n : ℕ) (x y : X) → Rising id xs → of_id id xs n ≡ Some x → p y ≡ true → All (After y) xs → line (replace id xs n y) ≡ put_after own rank (without own (line xs) n) (show y)
  line_renewed xs n x y up e py all =
      let s = split id xs n x up e in
      let parts : All (After y) (s.prefix ++ x ∷ s.back) = subst (All (After y)) s.whole all in
      ap line (s.replaced y)
      ∙ put_in s.prefix s.back y py (prefix_all (After y) s.prefix (x ∷ s.back) parts) (All-tail (After y) x s.back (back_all (After y) s.prefix (x ∷ s.back) parts))
      ∙ ap (λ us. put_after own rank (line us) (show y)) (sym s.left)
      ∙ ap (λ us. put_after own rank us (show y)) (line_without xs n)
    where
      prefix_all : (P : X → Type 0) (us vs : List X) → All P (us ++ vs) → All P us
      prefix_all P [] vs h = λ k d hk. absurd (omega arith)
      prefix_all P (u ∷ us) vs h = All-cons P u us (All-head P u (us ++ vs) h) (prefix_all P us vs (All-tail P u (us ++ vs) h))

      back_all : (P : X → Type 0) (us vs : List X) → All P (us ++ vs) → All P vs
      back_all P [] vs h = h
      back_all P (u ∷ us) vs h = back_all P us vs (All-tail P u (us ++ vs) h)

  -- it then doesn't pass
  pub line_gone : (xs : List X) (n : ℕ) (x y : X) → Rising id xs → of_id id xs n ≡ Some x → p y ≡ false → line (replace id xs n y) ≡ without own (line xs) n
  line_gone xs n x y up e py =
      let s = split id xs n x up e in
      ap line (s.replaced y)
      ∙ ap (λ us. map show (sorted lt us)) (skips lt w p s.prefix s.back y py)
      ∙ ap line (sym s.left)
      ∙ line_without xs n

  -- it didn't pass before, and doesn't pass then
  pub line_unmoved : (xs : List X) (n : ℕ) (x y : X) → Rising id xs → of_id id xs n ≡ Some x → p x ≡ false → p y ≡ false → line (replace id xs n y) ≡ line xs
  line_unmoved xs n x y up e px py =
      let s = split id xs n x up e in
      ap line (s.replaced y)
      ∙ ap (λ us. map show (sorted lt us)) (skips lt w p s.prefix s.back y py ∙ sym (skips lt w p s.prefix s.back x px))
      ∙ ap line (sym s.whole)

  -- ---- one element is added, and comes after all of its rank
  pub line_push : (xs : List X) (y : X) → p y ≡ true → All (After y) xs → line (xs ++ y ∷ []) ≡ put_after own rank (line xs) (show y)
  line_push xs y py all =
      put_in xs [] y py all (λ k d h. absurd (omega arith))
      ∙ ap (λ us. put_after own rank (line us) (show y)) (append-nil xs)

  -- one is added that doesn't pass
  pub line_pushed : (xs : List X) (y : X) → p y ≡ false → line (xs ++ y ∷ []) ≡ line xs
  line_pushed xs y py = ap (λ us. map show (sorted lt us)) (skips lt w p xs [] y py) ∙ ap line (append-nil xs)

  -- ---- the result of a look-up, and room
  pub line_absent : (xs : List X) (n : ℕ) → of_id id xs n ≡ None → of_id own (line xs) n ≡ None
  line_absent xs n none =
      ap (λ us. of_id own us n) (ap line (sym (none_without id xs n none)) ∙ line_without xs n)
      ∙ gone own (line xs) n

  pub fewer_in_line : (xs : List X) (n : ℕ) (x : X) → of_id id xs n ≡ Some x → length (without own (line xs) n) < length xs
  fewer_in_line xs n x e =
      omega (arith, ap length (line_without xs n), length-map (in_line lt p (without id xs n)) show, length-in_line id lt w p (without id xs n), fewer_without id xs n x e)

  pub length-line : (xs : List X) → length (line xs) ≤ length xs
  length-line xs = omega (arith, length-map (in_line lt p xs) show, length-in_line id lt w p xs)

  -- a record with an id that passes is found as it is shown, if elements have the same id when neither is before the other
  pub line_found : ((u v : X) → lt u v ≡ false → lt v u ≡ false → id u ≡ id v) → (xs : List X) (n : ℕ) (x : X) → Rising id xs → of_id id xs n ≡ Some x → p x ≡ true
      → of_id own (line xs) n ≡ Some (show x)
  line_found total xs n x up e px =
      let s = split id xs n x up e in
      let own_id : own (show x) ≡ n = same_id x ∙ found_id id xs n x e in
      ap (λ us. of_id own (line us) n) s.whole
      ∙ ap (λ us. of_id own (map show us) n) (passes_in lt w p s.prefix s.back x px (λ k d h. one_way (get_or s.prefix k d) (before s.prefix (subst (Rising id) s.whole up) k d h)))
      ∙ found_insert (in_line lt p (s.prefix ++ s.back)) own_id (ap (λ us. of_id own (line us) n) (sym s.left) ∙ ap (λ us. of_id own us n) (line_without xs n) ∙ gone own (line xs) n)
    where
      before : (prefix : List X) → Rising id (prefix ++ x ∷ (split id xs n x up e).back) → (k : ℕ) (d : X) → k < length prefix → id (get_or prefix k d) < id x
      before [] rise k d h = absurd (omega (arith, h))
      before (u ∷ us) rise zero d h =
          let back = (split id xs n x up e).back in
          let at : id u < id (get_or (us ++ x ∷ back) (length us) d) = rising_head id u (us ++ x ∷ back) rise (length us) d (omega (arith, length-append us (x ∷ back))) in
          subst (λ v. id u < id v) (get_or_middle us x back d) at
      before (u ∷ us) rise (suc k) d h = before us (rising_tail id u (us ++ x ∷ (split id xs n x up e).back) rise) k d (omega (arith, h))

      one_way : (u : X) → id u < id x → lt u x ≡ not (lt x u)
      one_way u less =
          elim (lt u x) as (λ b. lt u x ≡ b → b ≡ not (lt x u)) [
            | true ↦ λ b. sym (ap not (w.one_way u x b))
            | false ↦ λ b.
                elim (lt x u) as (λ c. lt x u ≡ c → false ≡ not c) [
                  | true ↦ λ c. refl
                  | false ↦ λ c. let same = total u x b c in absurd (omega (arith, less, same))
                ] refl
          ] refl

      found_insert : (zs : List X) → own (show x) ≡ n → of_id own (map show zs) n ≡ None → of_id own (map show (insert_sorted lt x zs)) n ≡ Some (show x)
      found_insert [] same none = ap (λ b. cond b (Some (show x)) None) (eq-eqb (own (show x)) n same)
      found_insert (z ∷ zs) same none =
          elim (lt z x) as (λ b. of_id own (map show (cond b (z ∷ insert_sorted lt x zs) (x ∷ z ∷ zs))) n ≡ Some (show x)) [
            | true ↦
                elim (eqb (own (show z)) n) as (λ c. cond c (Some (show z)) (of_id own (map show zs) n) ≡ None → cond c (Some (show z)) (of_id own (map show (insert_sorted lt x zs)) n) ≡ Some (show x)) [
                  | true ↦ λ q. absurd (cc)
                  | false ↦ λ q. found_insert zs same q
                ] none
            | false ↦ ap (λ b. cond b (Some (show x)) (of_id own (map show (z ∷ zs)) n)) (eq-eqb (own (show x)) n same)
          ]

-- ---- one element changes, but nothing that the line reads of it
module _ {X Y E : Type 0} (see : X → E) (show : E → Y) (lt : E → E → Bool) (p : E → Bool) where
  seen_filter : (xs : List X) → map see (filter (λ x. p (see x)) xs) ≡ filter p (map see xs)
  seen_filter [] = refl
  seen_filter (x ∷ xs) =
      elim (p (see x)) as (λ b. map see (cond b (x ∷ filter (λ u. p (see u)) xs) (filter (λ u. p (see u)) xs)) ≡ cond b (see x ∷ filter p (map see xs)) (filter p (map see xs))) [
        | true ↦ ap (λ es. see x ∷ es) (seen_filter xs)
        | false ↦ seen_filter xs
      ]

  seen_show : (xs : List X) → map (λ x. show (see x)) xs ≡ map show (map see xs)
  seen_show [] = refl
  seen_show (x ∷ xs) = ap (λ ys. show (see x) ∷ ys) (seen_show xs)

  seen_line : (xs : List X) → map (λ x. show (see x)) (in_line (λ x y. lt (see x) (see y)) (λ x. p (see x)) xs) ≡ map show (in_line lt p (map see xs))
  seen_line xs =
      seen_show (in_line (λ x y. lt (see x) (see y)) (λ x. p (see x)) xs)
      ∙ ap (map show) (seen_sorted see lt (filter (λ x. p (see x)) xs) ∙ ap (sorted lt) (seen_filter xs))

  pub line_same : (id : X → ℕ) (xs : List X) (n : ℕ) (x y : X) → Rising id xs → of_id id xs n ≡ Some x → see y ≡ see x
      → map (λ u. show (see u)) (in_line (λ u v. lt (see u) (see v)) (λ u. p (see u)) (replace id xs n y)) ≡ map (λ u. show (see u)) (in_line (λ u v. lt (see u) (see v)) (λ u. p (see u)) xs)
  line_same id xs n x y up e same =
      let s = split id xs n x up e in
      let seen : map see (replace id xs n y) ≡ map see xs =
      ap (map see) (s.replaced y)
      ∙ map-append see s.prefix (y ∷ s.back)
      ∙ ap (λ d. map see s.prefix ++ d ∷ map see s.back) same
      ∙ sym (map-append see s.prefix (x ∷ s.back))
      ∙ ap (map see) (sym s.whole) in
      seen_line (replace id xs n y) ∙ ap (λ es. map show (in_line lt p es)) seen ∙ sym (seen_line xs)
