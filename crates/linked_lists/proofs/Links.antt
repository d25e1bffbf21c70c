-- Linked cells, and what a change of links leaves of them.
use Rattle.std.proofs.Common.{◌≡◌, ℕ, zero, suc, ◌≤◌, true, false, cond, eqb, List, [], ◌∷◌, ◌++◌, length, Option, None, Some, refl, sym, ap, ◌∙◌, arith}
use Rattle.std.specs.Bool.{⊤}
use Rattle.std.specs.Option.{option_map}
use Rattle.std.proofs.lemmas.Bool.{eqb-true, eqb-false, eq-eqb, ne_eqb}
use Rattle.id_table.specs.Records.{of_id, without}
use Rattle.id_table.proofs.Places.{none_without, not_there}
use Rattle.linked_lists.specs.declared.node.Node.{Node}
use Rattle.linked_lists.specs.Chains.{cell_key, is_key, hold, Apart}
use Rattle.linked_lists.specs.Inside.{first_or, last_or, goes_on, goes_back, holds, Linked, stepped, walked}

unequal : (m n : ℕ) → eqb m n ≡ false → eqb n m ≡ false
unequal m n e = ne_eqb n m (λ q. eqb-false m n e (sym q))

-- no cell has the key, if there is a key
abbrev pub Unnamed : {T : Type 0} → Option ℕ → List (ℕ × T) → Type 0
Unnamed None cs = ⊤
Unnamed (Some k) cs = of_id cell_key cs k ≡ None

module _ {T : Type 0} where
  abbrev pub Absent : ℕ → List (ℕ × T) → Type 0
  Absent k cs = of_id cell_key cs k ≡ None

  -- the node with a key changes, and the others stay
  abbrev pub changed_at : Option ℕ → (Node T → Node T) → (ℕ → Option (Node T)) → ℕ → Option (Node T)
  changed_at key f g j = cond (is_key key j) (option_map f (g j)) (g j)

  -- ---- keys that no cell has
  pub absent_cons : (k : ℕ) (c : ℕ × T) (cs : List (ℕ × T)) → Absent k (c ∷ cs) → (eqb c.0 k ≡ false) × Absent k cs
  absent_cons k c cs none =
      elim (eqb c.0 k) as (λ b. eqb c.0 k ≡ b → cond b (Some c) (of_id cell_key cs k) ≡ None → (eqb c.0 k ≡ false) × Absent k cs) [
        | true ↦ λ e q. absurd (cc)
        | false ↦ λ e q. (e, q)
      ] refl none

  pub cons_absent : (k : ℕ) (c : ℕ × T) (cs : List (ℕ × T)) → eqb c.0 k ≡ false → Absent k cs → Absent k (c ∷ cs)
  cons_absent k c cs e none = ap (λ b. cond b (Some c) (of_id cell_key cs k)) e ∙ none

  pub absent_append : (k : ℕ) (xs ys : List (ℕ × T)) → Absent k (xs ++ ys) → Absent k xs × Absent k ys
  absent_append k [] ys none = (refl, none)
  absent_append k (x ∷ xs) ys none =
      let here = absent_cons k x (xs ++ ys) none in
      let rest = absent_append k xs ys here.1 in
      (cons_absent k x xs here.0 rest.0, rest.1)

  pub append_absent : (k : ℕ) (xs ys : List (ℕ × T)) → Absent k xs → Absent k ys → Absent k (xs ++ ys)
  append_absent k [] ys a b = b
  append_absent k (x ∷ xs) ys a b = let here = absent_cons k x xs a in cons_absent k x (xs ++ ys) here.0 (append_absent k xs ys here.1 b)

  pub not_first : (k : ℕ) (cs : List (ℕ × T)) → Absent k cs → is_key (first_or None cs) k ≡ false
  not_first k [] none = refl
  not_first k (c ∷ cs) none = (absent_cons k c cs none).0

  pub not_last : (k : ℕ) (cs : List (ℕ × T)) → Absent k cs → is_key (last_or None cs) k ≡ false
  not_last k [] none = refl
  not_last k (c ∷ []) none = (absent_cons k c [] none).0
  not_last k (c ∷ d ∷ cs) none = not_last k (d ∷ cs) (absent_cons k c (d ∷ cs) none).1

  -- ---- cells with different keys
  pub apart_prefix : (xs ys : List (ℕ × T)) → Apart (xs ++ ys) → Apart xs
  apart_prefix [] ys a = tt
  apart_prefix (x ∷ xs) ys a = ((absent_append x.0 xs ys a.0).0, apart_prefix xs ys a.1)

  pub apart_back : (xs ys : List (ℕ × T)) → Apart (xs ++ ys) → Apart ys
  apart_back [] ys a = a
  apart_back (x ∷ xs) ys a = apart_back xs ys a.1

  pub apart_middle : (xs : List (ℕ × T)) (c : ℕ × T) (ys : List (ℕ × T)) → Apart (xs ++ c ∷ ys) → Absent c.0 xs
  apart_middle [] c ys a = refl
  apart_middle (x ∷ xs) c ys a =
      let far = (absent_append x.0 xs (c ∷ ys) a.0).1 in
      cons_absent c.0 x xs (unequal c.0 x.0 (absent_cons x.0 c ys far).0) (apart_middle xs c ys a.1)

  pub apart_first : (xs ys : List (ℕ × T)) → Apart (xs ++ ys) → Unnamed (first_or None ys) xs
  apart_first xs [] a = tt
  apart_first xs (y ∷ ys) a = apart_middle xs y ys a

  pub apart_last : (xs ys : List (ℕ × T)) → Apart (xs ++ ys) → Unnamed (last_or None xs) ys
  apart_last [] ys a = tt
  apart_last (x ∷ []) ys a = a.0
  apart_last (x ∷ y ∷ xs) ys a = apart_last (y ∷ xs) ys a.1

  pub apart_insert : (xs : List (ℕ × T)) (c : ℕ × T) (ys : List (ℕ × T)) → Apart (xs ++ ys) → Absent c.0 (xs ++ ys) → Apart (xs ++ c ∷ ys)
  apart_insert [] c ys a none = (none, a)
  apart_insert (x ∷ xs) c ys a none =
      let here = absent_cons c.0 x (xs ++ ys) none in
      let far = absent_append x.0 xs ys a.0 in
      (append_absent x.0 xs (c ∷ ys) far.0 (cons_absent x.0 c ys (unequal x.0 c.0 here.0) far.1), apart_insert xs c ys a.1 here.1)

  pub apart_remove : (xs : List (ℕ × T)) (c : ℕ × T) (ys : List (ℕ × T)) → Apart (xs ++ c ∷ ys) → Apart (xs ++ ys)
  apart_remove [] c ys a = a.1
  apart_remove (x ∷ xs) c ys a =
      let far = absent_append x.0 xs (c ∷ ys) a.0 in
      (append_absent x.0 xs ys far.0 (absent_cons x.0 c ys far.1).1, apart_remove xs c ys a.1)

  pub without_middle : (xs : List (ℕ × T)) (c : ℕ × T) (ys : List (ℕ × T)) → Apart (xs ++ c ∷ ys) → without cell_key (xs ++ c ∷ ys) c.0 ≡ xs ++ ys
  without_middle [] c ys a = rw (eq-eqb c.0 c.0 refl) (none_without cell_key ys c.0 a.0)
  without_middle (x ∷ xs) c ys a = rw (absent_cons c.0 x xs (apart_middle (x ∷ xs) c ys a)).0 (ap (λ zs. x ∷ zs) (without_middle xs c ys a.1))

  -- ---- linked cells
  pub first_or-append : (o : Option ℕ) (xs ys : List (ℕ × T)) → first_or o (xs ++ ys) ≡ first_or (first_or o ys) xs
  first_or-append o [] ys = refl
  first_or-append o (x ∷ xs) ys = refl

  pub linked_prefix : (g : ℕ → Option (Node T)) (p : ℕ) (b : Option ℕ) (xs ys : List (ℕ × T)) (n : Option ℕ) → Linked g p b (xs ++ ys) n → Linked g p b xs (first_or n ys)
  linked_prefix g p b [] ys n l = tt
  linked_prefix g p b (x ∷ xs) ys n l =
      (l.0 ∙ ap (λ a. Some (record { list = p; before = b; after = a; value = x.1 })) (first_or-append n xs ys), linked_prefix g p (Some x.0) xs ys n l.1)

  pub linked_back : (g : ℕ → Option (Node T)) (p : ℕ) (b : Option ℕ) (xs ys : List (ℕ × T)) (n : Option ℕ) → Linked g p b (xs ++ ys) n → Linked g p (last_or b xs) ys n
  linked_back g p b [] ys n l = l
  linked_back g p b (x ∷ xs) ys n l = linked_back g p (Some x.0) xs ys n l.1

  pub linked_join : (g : ℕ → Option (Node T)) (p : ℕ) (b : Option ℕ) (xs ys : List (ℕ × T)) (n : Option ℕ) → Linked g p b xs (first_or n ys) → Linked g p (last_or b xs) ys n → Linked g p b (xs ++ ys) n
  linked_join g p b [] ys n f l = l
  linked_join g p b (x ∷ xs) ys n f l =
      (f.0 ∙ ap (λ a. Some (record { list = p; before = b; after = a; value = x.1 })) (sym (first_or-append n xs ys)), linked_join g p (Some x.0) xs ys n f.1 l)

  -- a key without a node is no cell's key
  pub linked_absent : (g : ℕ → Option (Node T)) (p : ℕ) (b : Option ℕ) (cs : List (ℕ × T)) (n : Option ℕ) (k : ℕ) → g k ≡ None → Linked g p b cs n → Absent k cs
  linked_absent g p b [] n k none l = refl
  linked_absent g p b (c ∷ cs) n k none l =
      cons_absent k c cs
      (ne_eqb c.0 k (λ q. let here : g c.0 ≡ None = ap g q ∙ none in let there = l.0 in absurd (cc)))
      (linked_absent g p (Some c.0) cs n k none l.1)

  -- a key with a node in another list is no cell's key
  pub linked_elsewhere : (g : ℕ → Option (Node T)) (p : ℕ) (b : Option ℕ) (cs : List (ℕ × T)) (n : Option ℕ) (k : ℕ) (node : Node T)
      → g k ≡ Some node → (node.list ≡ p → ⊥) → Linked g p b cs n → Absent k cs
  linked_elsewhere g p b [] n k node is other l = refl
  linked_elsewhere g p b (c ∷ cs) n k node is other l =
      cons_absent k c cs
      (ne_eqb c.0 k (λ q.
      let same : Some node ≡ Some (record { list = p; before = b; after = first_or n cs; value = c.1 }) = sym is ∙ ap g (sym q) ∙ l.0 in
      other (listed node (record { list = p; before = b; after = first_or n cs; value = c.1 }) same)))
      (linked_elsewhere g p (Some c.0) cs n k node is other l.1)
    where
      listed : (m n : Node T) → Some m ≡ Some n → m.list ≡ n.list
      listed m n e = cc

  -- ---- a change of links
  abbrev pub Same : (g h : ℕ → Option (Node T)) → List (ℕ × T) → Type 0
  Same g h [] = ⊤
  Same g h (c ∷ cs) = (h c.0 ≡ g c.0) × Same g h cs

  pub linked_same : (g h : ℕ → Option (Node T)) (p : ℕ) (b : Option ℕ) (cs : List (ℕ × T)) (n : Option ℕ) → Same g h cs → Linked g p b cs n → Linked h p b cs n
  linked_same g h p b [] n s l = tt
  linked_same g h p b (c ∷ cs) n s l = (s.0 ∙ l.0, linked_same g h p (Some c.0) cs n s.1 l.1)

  -- if at most one key's node changes, and no cell has that key, the cells' nodes stay
  pub same_unnamed : (g h : ℕ → Option (Node T)) (key : Option ℕ) (cs : List (ℕ × T)) → ((j : ℕ) → is_key key j ≡ false → h j ≡ g j) → Unnamed key cs → Same g h cs
  same_unnamed g h key [] says u = tt
  same_unnamed g h None (c ∷ cs) says u = (says c.0 refl, same_unnamed g h None cs says tt)
  same_unnamed g h (Some k) (c ∷ cs) says u =
      let here = absent_cons k c cs u in
      (says c.0 (unequal c.0 k here.0), same_unnamed g h (Some k) cs says here.1)

  kept_but : (g h : ℕ → Option (Node T)) (key : Option ℕ) (f : Node T → Node T) → ((j : ℕ) → h j ≡ changed_at key f g j) → (j : ℕ) → is_key key j ≡ false → h j ≡ g j
  kept_but g h key f says j e = says j ∙ ap (λ b. cond b (option_map f (g j)) (g j)) e

  changed_here : (g h : ℕ → Option (Node T)) (k : ℕ) (f : Node T → Node T) (node : Node T) → ((j : ℕ) → h j ≡ changed_at (Some k) f g j) → g k ≡ Some node → h k ≡ Some (f node)
  changed_here g h k f node says e = says k ∙ ap (λ b. cond b (option_map f (g k)) (g k)) (eq-eqb k k refl) ∙ ap (option_map f) e

  pub linked_after : (g h : ℕ → Option (Node T)) (p : ℕ) (b : Option ℕ) (xs : List (ℕ × T)) (n to : Option ℕ) → Apart xs
      → ((j : ℕ) → h j ≡ changed_at (last_or None xs) (goes_on to) g j) → Linked g p b xs n → Linked h p b xs to
  linked_after g h p b [] n to a says l = tt
  linked_after g h p b (x ∷ []) n to a says l =
      (changed_here g h x.0 (goes_on to) (record { list = p; before = b; after = n; value = x.1 }) says l.0, tt)
  linked_after g h p b (x ∷ y ∷ xs) n to a says l =
      (kept_but g h (last_or None (y ∷ xs)) (goes_on to) says x.0 (not_last x.0 (y ∷ xs) a.0) ∙ l.0, linked_after g h p (Some x.0) (y ∷ xs) n to a.1 says l.1)

  pub linked_before : (g h : ℕ → Option (Node T)) (p : ℕ) (b to : Option ℕ) (ys : List (ℕ × T)) (n : Option ℕ) → Apart ys
      → ((j : ℕ) → h j ≡ changed_at (first_or None ys) (goes_back to) g j) → Linked g p b ys n → Linked h p to ys n
  linked_before g h p b to [] n a says l = tt
  linked_before g h p b to (y ∷ ys) n a says l = (
    changed_here g h y.0 (goes_back to) (record { list = p; before = b; after = first_or n ys; value = y.1 }) says l.0,
    linked_same g h p (Some y.0) ys n (same_unnamed g h (Some y.0) ys (kept_but g h (Some y.0) (goes_back to) says) a.0) l.1,
  )

  -- two parts of a list are linked: the first part goes on to a key, and the second goes back to another
  pub relinked : (g h i : ℕ → Option (Node T)) (p : ℕ) (b after before : Option ℕ) (xs ys : List (ℕ × T)) (to back : Option ℕ) → Apart (xs ++ ys)
      → ((j : ℕ) → h j ≡ changed_at (last_or None xs) (goes_on to) g j) → ((j : ℕ) → i j ≡ changed_at (first_or None ys) (goes_back back) h j)
      → Linked g p b xs after → Linked g p before ys None → Linked i p b xs to × Linked i p back ys None
  relinked g h i p b after before xs ys to back a says1 says2 l1 l2 = (
    linked_same h i p b xs to (same_unnamed h i (first_or None ys) xs (kept_but h i (first_or None ys) (goes_back back) says2) (apart_first xs ys a))
        (linked_after g h p b xs after to (apart_prefix xs ys a) says1 l1),
    linked_before h i p before back ys None (apart_back xs ys a) says2
        (linked_same g h p before ys None (same_unnamed g h (last_or None xs) ys (kept_but g h (last_or None xs) (goes_on to) says1) (apart_last xs ys a)) l2),
  )

  -- a key that no cell of the two parts has
  pub relinked_other : (g h i : ℕ → Option (Node T)) (xs ys : List (ℕ × T)) (to back : Option ℕ) (k : ℕ) → Absent k (xs ++ ys)
      → ((j : ℕ) → h j ≡ changed_at (last_or None xs) (goes_on to) g j) → ((j : ℕ) → i j ≡ changed_at (first_or None ys) (goes_back back) h j) → i k ≡ g k
  relinked_other g h i xs ys to back k none says1 says2 =
      let parts = absent_append k xs ys none in
      kept_but h i (first_or None ys) (goes_back back) says2 k (not_first k ys parts.1) ∙ kept_but g h (last_or None xs) (goes_on to) says1 k (not_last k xs parts.0)

  abbrev pub node_in : ℕ → ℕ × T → List (ℕ × T) → List (ℕ × T) → Node T
  node_in p c xs ys = record { list = p; before = last_or None xs; after = first_or None ys; value = c.1 }

  pub inserted : (g f h i : ℕ → Option (Node T)) (p : ℕ) (xs : List (ℕ × T)) (c : ℕ × T) (ys : List (ℕ × T)) → Apart (xs ++ ys) → g c.0 ≡ None
      → f c.0 ≡ Some (node_in p c xs ys) → ((j : ℕ) → (j ≡ c.0 → ⊥) → f j ≡ g j)
      → ((j : ℕ) → h j ≡ changed_at (last_or None xs) (goes_on (Some c.0)) f j) → ((j : ℕ) → i j ≡ changed_at (first_or None ys) (goes_back (Some c.0)) h j)
      → Linked g p None (xs ++ ys) None → Linked i p None (xs ++ c ∷ ys) None
  inserted g f h i p xs c ys a fresh new others says1 says2 l =
      let none = linked_absent g p None (xs ++ ys) None c.0 fresh l in
      let kept : (j : ℕ) → is_key (Some c.0) j ≡ false → f j ≡ g j = λ j e. others j (λ q. eqb-false c.0 j e (sym q)) in
      let parts = absent_append c.0 xs ys none in
      let both = relinked f h i p None (first_or None ys) (last_or None xs) xs ys (Some c.0) (Some c.0) a says1 says2
      (linked_same g f p None xs (first_or None ys) (same_unnamed g f (Some c.0) xs kept parts.0) (linked_prefix g p None xs ys None l))
      (linked_same g f p (last_or None xs) ys None (same_unnamed g f (Some c.0) ys kept parts.1) (linked_back g p None xs ys None l)) in
      linked_join i p None xs (c ∷ ys) None both.0 (relinked_other f h i xs ys (Some c.0) (Some c.0) c.0 none says1 says2 ∙ new, both.1)

  pub removed : (g f h i : ℕ → Option (Node T)) (p : ℕ) (xs : List (ℕ × T)) (c : ℕ × T) (ys : List (ℕ × T)) → Apart (xs ++ c ∷ ys)
      → ((j : ℕ) → (j ≡ c.0 → ⊥) → f j ≡ g j)
      → ((j : ℕ) → h j ≡ changed_at (last_or None xs) (goes_on (first_or None ys)) f j) → ((j : ℕ) → i j ≡ changed_at (first_or None ys) (goes_back (last_or None xs)) h j)
      → Linked g p None (xs ++ c ∷ ys) None → Linked i p None (xs ++ ys) None
  removed g f h i p xs c ys a others says1 says2 l =
      let kept : (j : ℕ) → is_key (Some c.0) j ≡ false → f j ≡ g j = λ j e. others j (λ q. eqb-false c.0 j e (sym q)) in
      let last = linked_back g p None xs (c ∷ ys) None l in
      let both = relinked f h i p None (Some c.0) (Some c.0) xs ys (first_or None ys) (last_or None xs) (apart_remove xs c ys a) says1 says2
      (linked_same g f p None xs (Some c.0) (same_unnamed g f (Some c.0) xs kept (apart_middle xs c ys a)) (linked_prefix g p None xs (c ∷ ys) None l))
      (linked_same g f p (Some c.0) ys None (same_unnamed g f (Some c.0) ys kept (apart_back xs (c ∷ ys) a).0) last.1) in
      linked_join i p None xs ys None both.0 both.1

  -- the node of a cell
  pub linked_node : (g : ℕ → Option (Node T)) (p : ℕ) (xs : List (ℕ × T)) (c : ℕ × T) (ys : List (ℕ × T)) → Linked g p None (xs ++ c ∷ ys) None → g c.0 ≡ Some (node_in p c xs ys)
  linked_node g p xs c ys l = (linked_back g p None xs (c ∷ ys) None l).0

  -- another list's nodes stay
  pub linked_other : (g h : ℕ → Option (Node T)) (p q : ℕ) (b : Option ℕ) (cs : List (ℕ × T)) (n : Option ℕ) → (q ≡ p → ⊥)
      → ((k : ℕ) (node : Node T) → g k ≡ Some node → (node.list ≡ p → ⊥) → h k ≡ g k) → Linked g q b cs n → Linked h q b cs n
  linked_other g h p q b [] n other says l = tt
  linked_other g h p q b (c ∷ cs) n other says l = (
    says c.0 (record { list = q; before = b; after = first_or n cs; value = c.1 }) l.0 other ∙ l.0,
    linked_other g h p q (Some c.0) cs n other says l.1,
  )

  -- walking from the first cell on passes exactly the cells
  pub walked_is : (g : ℕ → Option (Node T)) (p : ℕ) (b : Option ℕ) (cs : List (ℕ × T)) (fuel : ℕ) → length cs ≤ fuel → Linked g p b cs None → walked g fuel (first_or None cs) ≡ cs
  walked_is g p b [] zero few l = refl
  walked_is g p b [] (suc fuel) few l = refl
  walked_is g p b (c ∷ cs) zero few l = absurd (omega (arith, few))
  walked_is g p b (c ∷ cs) (suc fuel) few l =
      ap (stepped c.0 (walked g fuel)) l.0 ∙ ap (λ zs. (c.0, c.1) ∷ zs) (walked_is g p (Some c.0) cs fuel (omega (arith, few)) l.1)

  -- ---- another value
  pub hold_none : (key : ℕ) (value : T) (cs : List (ℕ × T)) → Absent key cs → hold key value cs ≡ cs
  hold_none key value cs none = not_there cell_key cs key (λ x. (x.0, value)) none

  pub first_or-hold : (o : Option ℕ) (key : ℕ) (value : T) (cs : List (ℕ × T)) → first_or o (hold key value cs) ≡ first_or o cs
  first_or-hold o key value [] = refl
  first_or-hold o key value (c ∷ cs) = elim (eqb c.0 key) as (λ b. Some (cond b (c.0, value) c).0 ≡ Some c.0) [ true ↦ refl | false ↦ refl ]

  pub last_or-hold : (o : Option ℕ) (key : ℕ) (value : T) (cs : List (ℕ × T)) → last_or o (hold key value cs) ≡ last_or o cs
  last_or-hold o key value [] = refl
  last_or-hold o key value (c ∷ cs) =
      elim (eqb c.0 key) as (λ b. last_or (Some (cond b (c.0, value) c).0) (hold key value cs) ≡ last_or (Some c.0) cs) [
        | true ↦ last_or-hold (Some c.0) key value cs
        | false ↦ last_or-hold (Some c.0) key value cs
      ]

  absent-hold : (k key : ℕ) (value : T) (cs : List (ℕ × T)) → Absent k cs → Absent k (hold key value cs)
  absent-hold k key value [] none = refl
  absent-hold k key value (c ∷ cs) none =
      let here = absent_cons k c cs none in
      let rest = absent-hold k key value cs here.1 in
      elim (eqb c.0 key) as (λ b. Absent k (cond b (c.0, value) c ∷ hold key value cs)) [
        | true ↦ cons_absent k (c.0, value) (hold key value cs) here.0 rest
        | false ↦ cons_absent k c (hold key value cs) here.0 rest
      ]

  pub apart-hold : (key : ℕ) (value : T) (cs : List (ℕ × T)) → Apart cs → Apart (hold key value cs)
  apart-hold key value [] a = tt
  apart-hold key value (c ∷ cs) a =
      let none = absent-hold c.0 key value cs a.0 in
      (elim (eqb c.0 key) as (λ b. Absent (cond b (c.0, value) c).0 (hold key value cs)) [ true ↦ none | false ↦ none ], apart-hold key value cs a.1)

  pub linked-hold : (g h : ℕ → Option (Node T)) (p : ℕ) (b : Option ℕ) (cs : List (ℕ × T)) (n : Option ℕ) (key : ℕ) (value : T)
      → ((j : ℕ) → h j ≡ changed_at (Some key) (holds value) g j) → Linked g p b cs n → Linked h p b (hold key value cs) n
  linked-hold g h p b [] n key value says l = tt
  linked-hold g h p b (c ∷ cs) n key value says l =
      let rest = linked-hold g h p (Some c.0) cs n key value says l.1 in
      let after = first_or-hold n key value cs in
      elim (eqb c.0 key) as (λ t. eqb c.0 key ≡ t → Linked h p b (cond t (c.0, value) c ∷ hold key value cs) n) [
        | true ↦ λ e.
            let same = eqb-true c.0 key e in (
              ap h same
                  ∙ changed_here g h key (holds value) (record { list = p; before = b; after = first_or n cs; value = c.1 }) says (ap g (sym same) ∙ l.0)
                  ∙ ap (λ a. Some (record { list = p; before = b; after = a; value = value })) (sym after),
              rest,
            )
        | false ↦ λ e. (
          kept_but g h (Some key) (holds value) says c.0 (unequal c.0 key e) ∙ l.0 ∙ ap (λ a. Some (record { list = p; before = b; after = a; value = c.1 })) (sym after),
          rest,
        )
      ] refl
