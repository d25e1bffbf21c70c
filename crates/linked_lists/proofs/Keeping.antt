-- The invariant of lists in a slab holds after a cell is added and after one is removed.
use Rattle.std.proofs.Common.{◌≡◌, ℕ, zero, suc, ◌+◌, ◌<◌, ◌≤◌, true, false, cond, eqb, List, [], ◌∷◌, ◌++◌, map, set, length, get_or, replicate, Option, None, Some, is_some, refl, sym, ap, ◌∙◌, subst, arith, ⊎_elim, inl, inr, ◌⊎◌}
use Rattle.std.specs.Prelude.{IsSome, option_and_then}
use Rattle.std.specs.Option.{option_map}
use Rattle.std.proofs.lemmas.Bool.{cases_eq, eqb-true, eqb-false, eq-eqb, ne_eqb}
use Rattle.std.proofs.lemmas.List.{ext_get_or, get_or-map, get_or-set_same, get_or-set_other, set-get_or, set-set, map-set, length-map, length-set, length-append}
use Rattle.std.proofs.lemmas.List.Sums.{sum_by-set}
use Rattle.std.proofs.lemmas.Option.{same_Some}
use Rattle.slab.proofs.SlabLemmas.{Updates-with_value, ContainsKey-within}
use Rattle.slab.specs.Slab.{Slab, get, slab_len, with_value, Updates}
use Rattle.id_table.specs.Records.{of_id, without}
use Rattle.id_table.proofs.Places.{none_without}
use Rattle.linked_lists.specs.declared.node.Node.{Node}
use Rattle.linked_lists.specs.declared.node.Ends.{Ends}
use Rattle.linked_lists.specs.Chains.{Chains, cell_key, all_cells, chain_at, is_key, put_before, value_in, value_of, Apart}
use Rattle.linked_lists.specs.Inside.{IsKept, Linked, first_or, last_or, ends_of, no_ends, walked, chains_in, goes_on, goes_back, key_before, with_node, aimed, aim_first, aim_last}
use Rattle.linked_lists.proofs.Links.{Absent, changed_at, absent_append, append_absent, absent_cons, apart_middle, apart_insert, apart_remove, without_middle, linked_absent, linked_elsewhere, linked_other, linked_node, linked_prefix, linked_back, linked_same, same_unnamed, apart_back, node_in, inserted, removed, relinked_other, walked_is}

-- ---- options
module _ {X : Type 0} where
  pub some_is : (o : Option X) (x : X) → o ≡ Some x → IsSome o
  some_is None x e = absurd (cc)
  some_is (Some y) x e = refl

  pub is_some_of : (o : Option X) → IsSome o → (x : X) × (o ≡ Some x)
  is_some_of None h = absurd (cc)
  is_some_of (Some x) h = (x, refl)

  pub not_some : (o : Option X) → o ≡ None → IsSome o → ⊥
  not_some o e h = cc

-- ---- the ends of a list
pub length-aim_first : (ends : List Ends) (p : ℕ) (before to : Option ℕ) → length (aim_first ends p before to) ≡ length ends
length-aim_first ends p None to = length-set ends p (record (get_or ends p no_ends) { first = to })
length-aim_first ends p (Some k) to = refl

pub no_ends_of : (T : Type 0) (n : ℕ) → replicate n no_ends ≡ map (ends_of {T = T}) (replicate n [])
no_ends_of T zero = refl
no_ends_of T (suc n) = ap (λ es. no_ends ∷ es) (no_ends_of T n)

pub alike_ends : (a b c d : Option ℕ) → a ≡ c → b ≡ d → ◌≡◌ {A = Ends} (record { first = a; last = b }) (record { first = c; last = d })
alike_ends a b c d e f = λ i. record { first = e i; last = f i }

module _ {T : Type 0} where
  pub last_or-append : (o : Option ℕ) (xs ys : List (ℕ × T)) → last_or o (xs ++ ys) ≡ last_or (last_or o xs) ys
  last_or-append o [] ys = refl
  last_or-append o (x ∷ xs) ys = last_or-append (Some x.0) xs ys

  -- a list that isn't empty keeps its first cell, whatever follows
  abbrev pub or_end : List (ℕ × T) → Option ℕ → Option ℕ → Option ℕ
  or_end [] a b = a
  or_end (c ∷ cs) a b = b

  first_stays : (ends : List Ends) (p : ℕ) (k : ℕ) (xs : List (ℕ × T)) (to : Option ℕ) → aim_first ends p (last_or (Some k) xs) to ≡ ends
  first_stays ends p k [] to = refl
  first_stays ends p k (x ∷ xs) to = first_stays ends p x.0 xs to

  ends_aimed : (ends : List Ends) (p : ℕ) (xs ys : List (ℕ × T)) (to back : Option ℕ) → p < length ends
      → aim_last (aim_first ends p (last_or None xs) to) p (first_or None ys) back
      ≡ set ends p (record { first = or_end xs to (get_or ends p no_ends).first; last = or_end ys back (get_or ends p no_ends).last })
  ends_aimed ends p [] [] to back hp =
      let e1 : Ends = record (get_or ends p no_ends) { first = to } in
      ap (λ (e : Ends). set (set ends p e1) p (record e { last = back })) (get_or-set_same ends p e1 no_ends hp) ∙ set-set ends p e1 (record e1 { last = back })
  ends_aimed ends p [] (y ∷ ys) to back hp = refl
  ends_aimed ends p (x ∷ xs) [] to back hp = ap (λ es. aim_last es p None back) (first_stays ends p x.0 xs to)
  ends_aimed ends p (x ∷ xs) (y ∷ ys) to back hp = first_stays ends p x.0 xs to ∙ sym (set-get_or ends p no_ends)

  pub ends_inserted : (ends : List Ends) (p : ℕ) (xs : List (ℕ × T)) (c : ℕ × T) (ys : List (ℕ × T)) → p < length ends → get_or ends p no_ends ≡ ends_of (xs ++ ys)
      → aim_last (aim_first ends p (last_or None xs) (Some c.0)) p (first_or None ys) (Some c.0) ≡ set ends p (ends_of (xs ++ c ∷ ys))
  ends_inserted ends p xs c ys hp is =
      ends_aimed ends p xs ys (Some c.0) (Some c.0) hp
      ∙ ap (set ends p)
      (alike_ends (or_end xs (Some c.0) (get_or ends p no_ends).first) (or_end ys (Some c.0) (get_or ends p no_ends).last) (first_or None (xs ++ c ∷ ys)) (last_or None (xs ++ c ∷ ys))
      (ap (λ (e : Ends). or_end xs (Some c.0) e.first) is ∙ firsts xs)
      (ap (λ (e : Ends). or_end ys (Some c.0) e.last) is ∙ backs ys))
    where
      firsts : (zs : List (ℕ × T)) → or_end zs (Some c.0) (first_or None (zs ++ ys)) ≡ first_or None (zs ++ c ∷ ys)
      firsts [] = refl
      firsts (z ∷ zs) = refl

      backs : (zs : List (ℕ × T)) → or_end zs (Some c.0) (last_or None (xs ++ zs)) ≡ last_or None (xs ++ c ∷ zs)
      backs [] = sym (last_or-append None xs (c ∷ []))
      backs (z ∷ zs) = last_or-append None xs (z ∷ zs) ∙ sym (last_or-append None xs (c ∷ z ∷ zs))

  pub ends_removed : (ends : List Ends) (p : ℕ) (xs : List (ℕ × T)) (c : ℕ × T) (ys : List (ℕ × T)) → p < length ends → get_or ends p no_ends ≡ ends_of (xs ++ c ∷ ys)
      → aim_last (aim_first ends p (last_or None xs) (first_or None ys)) p (first_or None ys) (last_or None xs) ≡ set ends p (ends_of (xs ++ ys))
  ends_removed ends p xs c ys hp is =
      ends_aimed ends p xs ys (first_or None ys) (last_or None xs) hp
      ∙ ap (set ends p)
      (alike_ends (or_end xs (first_or None ys) (get_or ends p no_ends).first) (or_end ys (last_or None xs) (get_or ends p no_ends).last) (first_or None (xs ++ ys)) (last_or None (xs ++ ys))
      (ap (λ (e : Ends). or_end xs (first_or None ys) e.first) is ∙ firsts xs)
      (ap (λ (e : Ends). or_end ys (last_or None xs) e.last) is ∙ backs ys))
    where
      firsts : (zs : List (ℕ × T)) → or_end zs (first_or None ys) (first_or None (zs ++ c ∷ ys)) ≡ first_or None (zs ++ ys)
      firsts [] = refl
      firsts (z ∷ zs) = refl

      backs : (zs : List (ℕ × T)) → or_end zs (last_or None xs) (last_or None (xs ++ c ∷ zs)) ≡ last_or None (xs ++ zs)
      backs [] = sym (last_or-append None xs [])
      backs (z ∷ zs) = last_or-append None xs (c ∷ z ∷ zs) ∙ sym (last_or-append None xs (z ∷ zs))

  -- ---- the nodes after one of them changes
  pub get_aimed : (nodes : Slab (Node T)) (key : Option ℕ) (f : Node T → Node T) (j : ℕ) → get (aimed nodes key f) j ≡ changed_at key f (get nodes) j
  get_aimed nodes None f j = refl
  get_aimed nodes (Some k) f j =
      elim (get nodes k) as (λ o. get nodes k ≡ o → get (with_node nodes k f o) j ≡ cond (eqb k j) (option_map f (get nodes j)) (get nodes j)) [
        | None ↦ λ e.
            elim (eqb k j) as (λ b. eqb k j ≡ b → get nodes j ≡ cond b (option_map f (get nodes j)) (get nodes j)) [
              | true ↦ λ q. let here : get nodes j ≡ None = ap (get nodes) (sym (eqb-true k j q)) ∙ e in here ∙ sym (ap (option_map f) here)
              | false ↦ λ q. refl
            ] refl
        | Some n ↦ λ e.
            let u = Updates-with_value nodes k (f n) (some_is (get nodes k) n e) in
            elim (eqb k j) as (λ b. eqb k j ≡ b → get (with_value nodes k (f n)) j ≡ cond b (option_map f (get nodes j)) (get nodes j)) [
              | true ↦ λ q.
                  let same = eqb-true k j q in
                  ap (get (with_value nodes k (f n))) (sym same) ∙ u.changed ∙ sym (ap (option_map f) (ap (get nodes) (sym same) ∙ e))
              | false ↦ λ q. u.others j (λ r. eqb-false k j q (sym r))
            ] refl
      ] refl

  pub len_aimed : (nodes : Slab (Node T)) (key : Option ℕ) (f : Node T → Node T) → slab_len (aimed nodes key f) ≡ slab_len nodes
  len_aimed nodes None f = refl
  len_aimed nodes (Some k) f =
      elim (get nodes k) as (λ o. get nodes k ≡ o → slab_len (with_node nodes k f o) ≡ slab_len nodes) [
        | None ↦ λ e. refl
        | Some n ↦ λ e.
            let within = ContainsKey-within nodes k (some_is (get nodes k) n e) in
            let sums = sum_by-set (λ (o : Option (Node T)). cond (is_some o) 1 0) nodes.slots k (Some (f n)) None within in
            let here : ◌≡◌ {A = ℕ} (cond (is_some (get nodes k)) 1 0) 1 = ap {B = ℕ} (λ (o : Option (Node T)). cond (is_some o) 1 0) e in
            omega (arith, sums, here)
      ] refl

  pub capacity_aimed : (nodes : Slab (Node T)) (key : Option ℕ) (f : Node T → Node T) → (aimed nodes key f).capacity ≡ nodes.capacity
  capacity_aimed nodes None f = refl
  capacity_aimed nodes (Some k) f = elim (get nodes k) as (λ o. (with_node nodes k f o).capacity ≡ nodes.capacity) [ None ↦ refl | Some n ↦ refl ]

  -- ---- the number of cells
  pub length_cells-set : (cs : List (List (ℕ × T))) (p : ℕ) (c : List (ℕ × T)) → p < length cs → length (all_cells (set cs p c)) + length (chain_at cs p) ≡ length (all_cells cs) + length c
  length_cells-set [] p c hp = absurd (omega (arith, hp))
  length_cells-set (x ∷ xs) zero c hp = omega (arith, length-append x (all_cells xs), length-append c (all_cells xs))
  length_cells-set (x ∷ xs) (suc p) c hp =
      omega (arith, length_cells-set xs p c (omega (arith, hp)), length-append x (all_cells xs), length-append x (all_cells (set xs p c)))

  pub length_chain : (cs : List (List (ℕ × T))) (p : ℕ) → p < length cs → length (chain_at cs p) ≤ length (all_cells cs)
  length_chain [] p hp = absurd (omega (arith, hp))
  length_chain (x ∷ xs) zero hp = omega (arith, length-append x (all_cells xs))
  length_chain (x ∷ xs) (suc p) hp = omega (arith, length_chain xs p (omega (arith, hp)), length-append x (all_cells xs))

  pub chains_alike : (cs ds : List (List (ℕ × T))) (room : ℕ) → cs ≡ ds → ◌≡◌ {A = Chains T} (record { chains = cs; room = room }) (record { chains = ds; room = room })
  chains_alike cs ds room e = λ i. record { chains = e i; room = room }

  -- ---- the invariant
  pub ended_at : (nodes : Slab (Node T)) (ends : List Ends) (cs : List (List (ℕ × T))) (room p : ℕ) (d : Ends) → IsKept nodes ends cs room → p < length cs → get_or ends p d ≡ ends_of (chain_at cs p)
  ended_at nodes ends cs room p d is hp = ap (λ es. get_or es p d) is.ended ∙ get_or-map ends_of cs p [] d hp

  pub ends_length : (nodes : Slab (Node T)) (ends : List Ends) (cs : List (List (ℕ × T))) (room : ℕ) → IsKept nodes ends cs room → length ends ≡ length cs
  ends_length nodes ends cs room is = ap length is.ended ∙ length-map cs ends_of

  -- the nodes and ends spell the lists
  pub kept_view : (nodes : Slab (Node T)) (ends : List Ends) (cs : List (List (ℕ × T))) (room : ℕ) → IsKept nodes ends cs room → chains_in nodes ends ≡ cs
  kept_view nodes ends cs room is =
      let walk : Ends → List (ℕ × T) = λ e. walked (get nodes) (slab_len nodes) e.first in
      let same = ends_length nodes ends cs room is in
      ext_get_or [] (map walk ends) cs (length-map ends walk ∙ same)
      (λ q hq.
      let within : q < length ends = omega (arith, hq, length-map ends walk) in
      let inside : q < length cs = omega (arith, within, same) in
      get_or-map walk ends q no_ends [] within
      ∙ ap walk (ended_at nodes ends cs room q no_ends is inside)
      ∙ walked_is (get nodes) q None (chain_at cs q) (slab_len nodes) (omega (arith, is.all, length_chain cs q inside)) (is.linked q inside))

  -- one list is replaced, and the nodes of the others stay
  pub kept_set : (nodes after : Slab (Node T)) (ends ends' : List Ends) (cs : List (List (ℕ × T))) (room p : ℕ) (c : List (ℕ × T)) → IsKept nodes ends cs room → p < length cs
      → ((k : ℕ) (node : Node T) → get nodes k ≡ Some node → (node.list ≡ p → ⊥) → get after k ≡ get nodes k)
      → Linked (get after) p None c None → Apart c → ends' ≡ set ends p (ends_of c)
      → slab_len after + length (chain_at cs p) ≡ slab_len nodes + length c → slab_len after ≤ room → room ≤ after.capacity
      → IsKept after ends' (set cs p c) room
  kept_set nodes after ends ends' cs room p c is hp elsewhere linked apart ended count fits space =
      let len = length-set cs p c in
      record {
        linked = λ q hq.
            let inside : q < length cs = omega (arith, hq, len) in
            ⊎_elim
            (λ (e : q ≡ p).
            subst (λ l. Linked (get after) l None (chain_at (set cs p c) l) None) (sym e) (subst (λ d. Linked (get after) p None d None) (sym (get_or-set_same cs p c [] hp)) linked))
            (λ (ne : q ≡ p → ⊥).
            subst (λ d. Linked (get after) q None d None) (sym (get_or-set_other cs p q c [] ne))
            (linked_other (get nodes) (get after) p q None (chain_at cs q) None ne elsewhere (is.linked q inside)))
            (cases_eq q p);
        apart = λ q hq.
            let inside : q < length cs = omega (arith, hq, len) in
            ⊎_elim
            (λ (e : q ≡ p). subst (λ l. Apart (chain_at (set cs p c) l)) (sym e) (subst Apart (sym (get_or-set_same cs p c [] hp)) apart))
            (λ (ne : q ≡ p → ⊥). subst Apart (sym (get_or-set_other cs p q c [] ne)) (is.apart q inside))
            (cases_eq q p);
        ended = ended ∙ ap (λ es. set es p (ends_of c)) is.ended ∙ sym (map-set ends_of cs p c);
        all = omega (arith, is.all, count, length_cells-set cs p c hp);
        fits = fits;
        space = space;
      }

  -- ---- a cell is added
  -- the place at which a cell is inserted into a list
  pub record Split (cs : List (ℕ × T)) (next : Option ℕ) (cell : ℕ × T) : Type 0 where
    pub prefix : List (ℕ × T)
    pub back : List (ℕ × T)
    pub whole : cs ≡ prefix ++ back
    pub next_is : next ≡ first_or None back
    pub put : put_before next cell cs ≡ prefix ++ cell ∷ back

  pub split_end : (cs : List (ℕ × T)) (cell : ℕ × T) → Split cs None cell
  split_end [] cell = record { prefix = []; back = []; whole = refl; next_is = refl; put = refl }
  split_end (c ∷ cs) cell =
      let s = split_end cs cell in
      record { prefix = c ∷ s.prefix; back = s.back; whole = ap (λ zs. c ∷ zs) s.whole; next_is = s.next_is; put = ap (λ zs. c ∷ zs) s.put }

  pub split_at : (cs : List (ℕ × T)) (k : ℕ) (cell : ℕ × T) → IsSome (value_in cs k) → Split cs (Some k) cell
  split_at [] k cell h = absurd (cc)
  split_at (c ∷ cs) k cell h =
      elim (eqb c.0 k) as (λ b. eqb c.0 k ≡ b → IsSome (option_map (λ (x : ℕ × T). x.1) (cond b (Some c) (of_id cell_key cs k))) → Split (c ∷ cs) (Some k) cell) [
        | true ↦ λ e q.
            record {
              prefix = [];
              back = c ∷ cs;
              whole = refl;
              next_is = ap (λ j. Some j) (sym (eqb-true c.0 k e));
              put = rw (sided c.0 k e) refl;
            }
        | false ↦ λ e q.
            let s = split_at cs k cell q in
            record {
              prefix = c ∷ s.prefix;
              back = s.back;
              whole = ap (λ zs. c ∷ zs) s.whole;
              next_is = s.next_is;
              put = rw (other c.0 k e) (ap (λ zs. c ∷ zs) s.put);
            }
      ] refl h
    where
      sided : (m n : ℕ) → eqb m n ≡ true → eqb n m ≡ true
      sided m n e = eq-eqb n m (sym (eqb-true m n e))

      other : (m n : ℕ) → eqb m n ≡ false → eqb n m ≡ false
      other m n e = ne_eqb n m (λ q. eqb-false m n e (sym q))

  pub split_next : (cs : List (ℕ × T)) (next : Option ℕ) (cell : ℕ × T) → ((k : ℕ) → next ≡ Some k → IsSome (value_in cs k)) → Split cs next cell
  split_next cs None cell h = split_end cs cell
  split_next cs (Some k) cell h = split_at cs k cell (h k refl)

  -- the node before the place, from the link of the node after it, or the list's last node
  pub key_before_is : (nodes : Slab (Node T)) (ends : List Ends) (cs : List (List (ℕ × T))) (room p : ℕ) (next : Option ℕ) (cell : ℕ × T) → IsKept nodes ends cs room → p < length cs
      → (s : Split (chain_at cs p) next cell) → key_before nodes ends p next ≡ last_or None s.prefix
  key_before_is nodes ends cs room p None cell is hp s = ap (λ (e : Ends). e.last) (ended_at nodes ends cs room p no_ends is hp) ∙ ap (last_or None) s.whole ∙ no_back s.back s.next_is
    where
      no_back : (ys : List (ℕ × T)) → None ≡ first_or None ys → last_or None (s.prefix ++ ys) ≡ last_or None s.prefix
      no_back [] q = last_or-append None s.prefix []
      no_back (y ∷ ys) q = absurd (cc)
  key_before_is nodes ends cs room p (Some k) cell is hp s = back_to s.prefix s.back s.next_is (subst (λ c. Linked (get nodes) p None c None) s.whole (is.linked p hp))
    where
      back_to : (xs ys : List (ℕ × T)) → Some k ≡ first_or None ys → Linked (get nodes) p None (xs ++ ys) None → option_and_then (λ (n : Node T). n.before) (get nodes k) ≡ last_or None xs
      back_to xs [] q l = absurd (cc)
      back_to xs (y ∷ ys) q l = ap (option_and_then (λ (n : Node T). n.before)) (ap (get nodes) (same_Some k y.0 q) ∙ linked_node (get nodes) p xs y ys l)

  -- the last of linked cells has a node, and so does the first
  pub last_there : (g : ℕ → Option (Node T)) (p : ℕ) (b : Option ℕ) (cs : List (ℕ × T)) (n : Option ℕ) (k : ℕ) → Linked g p b cs n → last_or None cs ≡ Some k → IsSome (g k)
  last_there g p b [] n k l e = absurd (cc)
  last_there g p b (c ∷ []) n k l e = subst (λ j. IsSome (g j)) (same_Some c.0 k e) (some_is (g c.0) (record { list = p; before = b; after = n; value = c.1 }) l.0)
  last_there g p b (c ∷ d ∷ cs) n k l e = last_there g p (Some c.0) (d ∷ cs) n k l.1 e

  pub first_there : (g : ℕ → Option (Node T)) (p : ℕ) (b : Option ℕ) (cs : List (ℕ × T)) (n : Option ℕ) (k : ℕ) → Linked g p b cs n → first_or None cs ≡ Some k → IsSome (g k)
  first_there g p b [] n k l e = absurd (cc)
  first_there g p b (c ∷ cs) n k l e = subst (λ j. IsSome (g j)) (same_Some c.0 k e) (some_is (g c.0) (record { list = p; before = b; after = first_or n cs; value = c.1 }) l.0)

  pub some_aimed : (nodes : Slab (Node T)) (key : Option ℕ) (f : Node T → Node T) (k : ℕ) → IsSome (get nodes k) → IsSome (get (aimed nodes key f) k)
  some_aimed nodes key f k h =
      let node = is_some_of (get nodes k) h in
      subst IsSome (sym (get_aimed nodes key f k ∙ ap (λ o. cond (is_key key k) (option_map f o) o) node.1))
      (elim (is_key key k) as (λ b. IsSome (cond b (option_map f (Some node.0)) (Some node.0))) [ true ↦ refl | false ↦ refl ])

  pub some_updated : (old new : Slab (Node T)) (key : ℕ) (node : Node T) (k : ℕ) → Updates old new key (Some node) → IsSome (get old k) → IsSome (get new k)
  some_updated old new key node k updates h =
      ⊎_elim
      (λ (e : k ≡ key). some_is (get new k) node (ap (get new) e ∙ updates.changed))
      (λ (ne : k ≡ key → ⊥). subst IsSome (sym (updates.others k ne)) h)
      (cases_eq k key)

  -- the node before the place exists
  pub before_there : (nodes : Slab (Node T)) (ends : List Ends) (cs : List (List (ℕ × T))) (room p : ℕ) (next : Option ℕ) (cell : ℕ × T) (k : ℕ) → IsKept nodes ends cs room → p < length cs
      → (s : Split (chain_at cs p) next cell) → key_before nodes ends p next ≡ Some k → IsSome (get nodes k)
  before_there nodes ends cs room p next cell k is hp s e =
      last_there (get nodes) p None s.prefix (first_or None s.back) k
      (linked_prefix (get nodes) p None s.prefix s.back None (subst (λ c. Linked (get nodes) p None c None) s.whole (is.linked p hp)))
      (sym (key_before_is nodes ends cs room p next cell is hp s) ∙ e)

  -- a key that is in a list has a node
  pub value_node : (nodes : Slab (Node T)) (ends : List Ends) (cs : List (List (ℕ × T))) (room p k : ℕ) → IsKept nodes ends cs room → p < length cs → IsSome (value_in (chain_at cs p) k) → IsSome (get nodes k)
  value_node nodes ends cs room p k is hp h = there (chain_at cs p) None (is.linked p hp) h
    where
      there : (xs : List (ℕ × T)) (b : Option ℕ) → Linked (get nodes) p b xs None → IsSome (value_in xs k) → IsSome (get nodes k)
      there [] b l h = absurd (cc)
      there (x ∷ xs) b l h =
          elim (eqb x.0 k) as (λ t. eqb x.0 k ≡ t → IsSome (option_map (λ (c : ℕ × T). c.1) (cond t (Some x) (of_id cell_key xs k))) → IsSome (get nodes k)) [
            | true ↦ λ e q. subst (λ j. IsSome (get nodes j)) (eqb-true x.0 k e) (some_is (get nodes x.0) (record { list = p; before = b; after = first_or None xs; value = x.1 }) l.0)
            | false ↦ λ e q. there xs (Some x.0) l.1 q
          ] refl h

  pub kept_inserted : (nodes more : Slab (Node T)) (ends : List Ends) (cs : List (List (ℕ × T))) (room p key : ℕ) (next before : Option ℕ) (value : T) → IsKept nodes ends cs room → p < length cs
      → (s : Split (chain_at cs p) next (key, value)) → before ≡ last_or None s.prefix
      → get nodes key ≡ None → Updates nodes more key (Some (record { list = p; before = before; after = next; value = value }))
      → slab_len more ≡ slab_len nodes + 1 → more.capacity ≡ nodes.capacity → slab_len nodes < room
      → IsKept (aimed (aimed more before (goes_on (Some key))) next (goes_back (Some key))) (aim_last (aim_first ends p before (Some key)) p next (Some key)) (set cs p (put_before next (key, value) (chain_at cs p))) room
  kept_inserted nodes more ends cs room p key next before value is hp s before_is vacant updates count capacity few =
      let c : ℕ × T = (key, value) in
      let linked = subst (λ d. Linked (get nodes) p None d None) s.whole (is.linked p hp) in
      let apart = subst Apart s.whole (is.apart p hp) in
      let none = linked_absent (get nodes) p None (s.prefix ++ s.back) None key vacant linked in
      let more2 = aimed more before (goes_on (Some key)) in
      let more3 = aimed more2 next (goes_back (Some key)) in
      let says1 : (j : ℕ) → get more2 j ≡ changed_at (last_or None s.prefix) (goes_on (Some key)) (get more) j =
      λ j. get_aimed more before (goes_on (Some key)) j ∙ ap (λ o. changed_at o (goes_on (Some key)) (get more) j) before_is in
      let says2 : (j : ℕ) → get more3 j ≡ changed_at (first_or None s.back) (goes_back (Some key)) (get more2) j =
      λ j. get_aimed more2 next (goes_back (Some key)) j ∙ ap (λ o. changed_at o (goes_back (Some key)) (get more2) j) s.next_is in
      let len = len_aimed more2 next (goes_back (Some key)) ∙ len_aimed more before (goes_on (Some key)) ∙ count in
      let cap = capacity_aimed more2 next (goes_back (Some key)) ∙ capacity_aimed more before (goes_on (Some key)) ∙ capacity in
      let here : get_or ends p no_ends ≡ ends_of (s.prefix ++ s.back) = ended_at nodes ends cs room p no_ends is hp ∙ ap ends_of s.whole in
      let new : get more key ≡ Some (node_in p c s.prefix s.back) = updates.changed ∙ (λ i. Some (record { list = p; before = before_is i; after = s.next_is i; value = value })) in
      kept_set nodes more3 ends (aim_last (aim_first ends p before (Some key)) p next (Some key)) cs room p (put_before next c (chain_at cs p)) is hp
      (λ k node e other.
      let far = linked_elsewhere (get nodes) p None (s.prefix ++ s.back) None k node e other linked in
      relinked_other (get more) (get more2) (get more3) s.prefix s.back (Some key) (Some key) k far says1 says2
      ∙ updates.others k (λ q. let gone : get nodes k ≡ None = ap (get nodes) q ∙ vacant in absurd (cc)))
      (subst (λ d. Linked (get more3) p None d None) (sym s.put) (inserted (get nodes) (get more) (get more2) (get more3) p s.prefix c s.back apart vacant new updates.others says1 says2 linked))
      (subst Apart (sym s.put) (apart_insert s.prefix c s.back apart none))
      ((λ i. aim_last (aim_first ends p (before_is i) (Some key)) p (s.next_is i) (Some key))
      ∙ ends_inserted ends p s.prefix c s.back (subst (λ n. p < n) (sym (ends_length nodes ends cs room is)) hp) here
      ∙ ap (λ d. set ends p (ends_of d)) (sym s.put))
      (omega (arith, len, ap length s.whole, ap length s.put, length-append s.prefix s.back, length-append s.prefix (c ∷ s.back)))
      (omega (arith, len, few))
      (omega (arith, cap, is.space))

  -- ---- a cell is removed
  pub map_one : (f : List (ℕ × T) → List (ℕ × T)) (cs : List (List (ℕ × T))) (p : ℕ) → p < length cs
      → ((q : ℕ) → q < length cs → (q ≡ p → ⊥) → f (chain_at cs q) ≡ chain_at cs q) → map f cs ≡ set cs p (f (chain_at cs p))
  map_one f cs p hp others =
      ext_get_or [] (map f cs) (set cs p (f (chain_at cs p))) (length-map cs f ∙ sym (length-set cs p (f (chain_at cs p))))
      (λ q hq.
      let inside : q < length cs = omega (arith, hq, length-map cs f) in
      get_or-map f cs q [] [] inside
      ∙ ⊎_elim
      (λ (e : q ≡ p). ap (λ l. f (chain_at cs l)) e ∙ sym (get_or-set_same cs p (f (chain_at cs p)) [] hp) ∙ ap (chain_at (set cs p (f (chain_at cs p)))) (sym e))
      (λ (ne : q ≡ p → ⊥). others q inside ne ∙ sym (get_or-set_other cs p q (f (chain_at cs p)) [] ne))
      (cases_eq q p))

  -- the place of the cell with a key
  pub record Spot (cs : List (ℕ × T)) (key : ℕ) (value : T) : Type 0 where
    pub prefix : List (ℕ × T)
    pub back : List (ℕ × T)
    pub whole : cs ≡ prefix ++ (key, value) ∷ back

  pub record Found (cs : List (List (ℕ × T))) (key : ℕ) (value : T) : Type 0 where
    pub list : ℕ
    pub within : list < length cs
    pub spot : Spot (chain_at cs list) key value

  spot_or_rest : (cs rest : List (ℕ × T)) (k : ℕ) (v : T) → value_in (cs ++ rest) k ≡ Some v → Spot cs k v ⊎ (value_in rest k ≡ Some v)
  spot_or_rest [] rest k v e = inr e
  spot_or_rest (c ∷ cs) rest k v e =
      elim (eqb c.0 k) as (λ b. eqb c.0 k ≡ b → option_map (λ (x : ℕ × T). x.1) (cond b (Some c) (of_id cell_key (cs ++ rest) k)) ≡ Some v → Spot (c ∷ cs) k v ⊎ (value_in rest k ≡ Some v)) [
        | true ↦ λ b q.
            let key_is = eqb-true c.0 k b in
            let value_is = same_Some c.1 v q in
            inl (record { prefix = []; back = cs; whole = λ i. (key_is i, value_is i) ∷ cs })
        | false ↦ λ b q.
            ⊎_elim
            (λ (s : Spot cs k v). let found : Spot (c ∷ cs) k v = record { prefix = c ∷ s.prefix; back = s.back; whole = ap (λ zs. c ∷ zs) s.whole } in inl found)
            (λ (r : value_in rest k ≡ Some v). inr r)
            (spot_or_rest cs rest k v q)
      ] refl e

  pub found_list : (cs : List (List (ℕ × T))) (k : ℕ) (v : T) → value_of cs k ≡ Some v → Found cs k v
  found_list [] k v e = absurd (cc)
  found_list (c ∷ cs) k v e =
      ⊎_elim
      (λ (s : Spot c k v). let found : Found (c ∷ cs) k v = record { list = 0; within = omega arith; spot = s } in found)
      (λ (r : value_of cs k ≡ Some v).
      let f = found_list cs k v r in
      let found : Found (c ∷ cs) k v = record { list = suc f.list; within = omega (arith, f.within); spot = f.spot } in
      found)
      (spot_or_rest c (all_cells cs) k v e)

  pub value_there : (xs : List (ℕ × T)) (k : ℕ) (v : T) (ys : List (ℕ × T)) → IsSome (value_in (xs ++ (k, v) ∷ ys) k)
  value_there [] k v ys = rw (eq-eqb k k refl) refl
  value_there (x ∷ xs) k v ys =
      elim (eqb x.0 k) as (λ b. IsSome (option_map (λ (c : ℕ × T). c.1) (cond b (Some x) (of_id cell_key (xs ++ (k, v) ∷ ys) k)))) [ true ↦ refl | false ↦ value_there xs k v ys ]

  absent_all : (cs : List (List (ℕ × T))) (k : ℕ) → ((p : ℕ) → p < length cs → Absent k (chain_at cs p)) → Absent k (all_cells cs)
  absent_all [] k none = refl
  absent_all (c ∷ cs) k none = append_absent k c (all_cells cs) (none 0 (omega arith)) (absent_all cs k (λ p hp. none (suc p) (omega (arith, hp))))

  pub some_back : (xs ys : List (ℕ × T)) (k : ℕ) → IsSome (value_in ys k) → IsSome (value_in (xs ++ ys) k)
  some_back [] ys k h = h
  some_back (x ∷ xs) ys k h = elim (eqb x.0 k) as (λ b. IsSome (option_map (λ (c : ℕ × T). c.1) (cond b (Some x) (of_id cell_key (xs ++ ys) k)))) [ true ↦ refl | false ↦ some_back xs ys k h ]

  pub some_prefix : (xs ys : List (ℕ × T)) (k : ℕ) → IsSome (value_in xs k) → IsSome (value_in (xs ++ ys) k)
  some_prefix [] ys k h = absurd (cc)
  some_prefix (x ∷ xs) ys k h =
      elim (eqb x.0 k) as (λ b. IsSome (option_map (λ (c : ℕ × T). c.1) (cond b (Some x) (of_id cell_key xs k))) → IsSome (option_map (λ (c : ℕ × T). c.1) (cond b (Some x) (of_id cell_key (xs ++ ys) k)))) [
        | true ↦ λ q. refl
        | false ↦ λ q. some_prefix xs ys k q
      ] h

  -- a key with a value in one list has one in the lists
  pub value_in_all : (cs : List (List (ℕ × T))) (p k : ℕ) → p < length cs → IsSome (value_in (chain_at cs p) k) → IsSome (value_of cs k)
  value_in_all [] p k hp h = absurd (omega (arith, hp))
  value_in_all (c ∷ cs) zero k hp h = some_prefix c (all_cells cs) k h
  value_in_all (c ∷ cs) (suc p) k hp h = some_back c (all_cells cs) k (value_in_all cs p k (omega (arith, hp)) h)

  -- a key without a node is new
  pub key_is_new : (nodes : Slab (Node T)) (ends : List Ends) (cs : List (List (ℕ × T))) (room k : ℕ) → IsKept nodes ends cs room → get nodes k ≡ None → value_of cs k ≡ None
  key_is_new nodes ends cs room k is vacant =
      ap (option_map (λ (c : ℕ × T). c.1)) (absent_all cs k (λ p hp. linked_absent (get nodes) p None (chain_at cs p) None k vacant (is.linked p hp)))

  -- the node of a cell
  pub found_node : (nodes : Slab (Node T)) (ends : List Ends) (cs : List (List (ℕ × T))) (room p k : ℕ) (v : T) → IsKept nodes ends cs room → p < length cs → (s : Spot (chain_at cs p) k v)
      → get nodes k ≡ Some (node_in p (k, v) s.prefix s.back)
  found_node nodes ends cs room p k v is hp s = linked_node (get nodes) p s.prefix (k, v) s.back (subst (λ c. Linked (get nodes) p None c None) s.whole (is.linked p hp))

  -- the lists without the cell
  pub cell_gone : (nodes : Slab (Node T)) (ends : List Ends) (cs : List (List (ℕ × T))) (room p k : ℕ) (v : T) → IsKept nodes ends cs room → (hp : p < length cs) → (s : Spot (chain_at cs p) k v)
      → map (λ c. without cell_key c k) cs ≡ set cs p (s.prefix ++ s.back)
  cell_gone nodes ends cs room p k v is hp s =
      map_one (λ c. without cell_key c k) cs p hp
      (λ q hq ne.
      none_without cell_key (chain_at cs q) k
      (linked_elsewhere (get nodes) q None (chain_at cs q) None k (node_in p (k, v) s.prefix s.back) (found_node nodes ends cs room p k v is hp s) (λ e. ne (sym e)) (is.linked q hq)))
      ∙ ap (set cs p) (ap (λ c. without cell_key c k) s.whole ∙ without_middle s.prefix (k, v) s.back (subst Apart s.whole (is.apart p hp)))

  -- nodes and ends after a node is removed and its neighbours are linked
  abbrev pub closed_nodes : Slab (Node T) → Node T → Slab (Node T)
  closed_nodes fewer node = aimed (aimed fewer node.before (goes_on node.after)) node.after (goes_back node.before)

  abbrev pub closed_ends : List Ends → Node T → List Ends
  closed_ends ends node = aim_last (aim_first ends node.list node.before node.after) node.list node.after node.before

  kept_closed : (nodes fewer : Slab (Node T)) (ends : List Ends) (cs : List (List (ℕ × T))) (room p key : ℕ) (value : T) → IsKept nodes ends cs room → (hp : p < length cs)
      → (s : Spot (chain_at cs p) key value) → Updates nodes fewer key None → slab_len fewer + 1 ≡ slab_len nodes → fewer.capacity ≡ nodes.capacity
      → IsKept (closed_nodes fewer (node_in p (key, value) s.prefix s.back)) (closed_ends ends (node_in p (key, value) s.prefix s.back)) (map (λ c. without cell_key c key) cs) room
  kept_closed nodes fewer ends cs room p key value is hp s updates count capacity =
      let c : ℕ × T = (key, value) in
      let before = last_or None s.prefix in
      let after = first_or None s.back in
      let linked = subst (λ d. Linked (get nodes) p None d None) s.whole (is.linked p hp) in
      let apart = subst Apart s.whole (is.apart p hp) in
      let fewer2 = aimed fewer before (goes_on after) in
      let fewer3 = aimed fewer2 after (goes_back before) in
      let says1 : (j : ℕ) → get fewer2 j ≡ changed_at before (goes_on after) (get fewer) j = get_aimed fewer before (goes_on after) in
      let says2 : (j : ℕ) → get fewer3 j ≡ changed_at after (goes_back before) (get fewer2) j = get_aimed fewer2 after (goes_back before) in
      let len = len_aimed fewer2 after (goes_back before) ∙ len_aimed fewer before (goes_on after) in
      let cap = capacity_aimed fewer2 after (goes_back before) ∙ capacity_aimed fewer before (goes_on after) ∙ capacity in
      let here : get_or ends p no_ends ≡ ends_of (s.prefix ++ c ∷ s.back) = ended_at nodes ends cs room p no_ends is hp ∙ ap ends_of s.whole in
      subst (λ ds. IsKept fewer3 (closed_ends ends (node_in p c s.prefix s.back)) ds room) (sym (cell_gone nodes ends cs room p key value is hp s))
      (kept_set nodes fewer3 ends (closed_ends ends (node_in p c s.prefix s.back)) cs room p (s.prefix ++ s.back) is hp
      (λ k node e other.
      let far = linked_elsewhere (get nodes) p None (s.prefix ++ c ∷ s.back) None k node e other linked in
      let parts = absent_append k s.prefix (c ∷ s.back) far in
      let key_before = absent_cons k c s.back parts.1 in
      relinked_other (get fewer) (get fewer2) (get fewer3) s.prefix s.back after before k (append_absent k s.prefix s.back parts.0 key_before.1) says1 says2
      ∙ updates.others k (λ q. eqb-false c.0 k key_before.0 (sym q)))
      (removed (get nodes) (get fewer) (get fewer2) (get fewer3) p s.prefix c s.back apart updates.others says1 says2 linked)
      (apart_remove s.prefix c s.back apart)
      (ends_removed ends p s.prefix c s.back (subst (λ n. p < n) (sym (ends_length nodes ends cs room is)) hp) here)
      (omega (arith, len, count, ap length s.whole, length-append s.prefix s.back, length-append s.prefix (c ∷ s.back)))
      (omega (arith, len, count, is.fits))
      (omega (arith, cap, is.space)))

  pub kept_removed : (nodes fewer : Slab (Node T)) (ends : List Ends) (cs : List (List (ℕ × T))) (room p key : ℕ) (value : T) (node : Node T) → IsKept nodes ends cs room → (hp : p < length cs)
      → (s : Spot (chain_at cs p) key value) → get nodes key ≡ Some node → Updates nodes fewer key None → slab_len fewer + 1 ≡ slab_len nodes → fewer.capacity ≡ nodes.capacity
      → IsKept (closed_nodes fewer node) (closed_ends ends node) (map (λ c. without cell_key c key) cs) room
  kept_removed nodes fewer ends cs room p key value node is hp s at updates count capacity =
      let same = same_Some node (node_in p (key, value) s.prefix s.back) (sym at ∙ found_node nodes ends cs room p key value is hp s) in
      subst (λ n. IsKept (closed_nodes fewer n) (closed_ends ends n) (map (λ c. without cell_key c key) cs) room) (sym same)
      (kept_closed nodes fewer ends cs room p key value is hp s updates count capacity)

  -- the neighbours of a removed node exist
  pub neighbours : (nodes fewer : Slab (Node T)) (ends : List Ends) (cs : List (List (ℕ × T))) (room p key : ℕ) (value : T) (node : Node T) → IsKept nodes ends cs room → (hp : p < length cs)
      → (s : Spot (chain_at cs p) key value) → get nodes key ≡ Some node → Updates nodes fewer key None
      → ((k : ℕ) → node.before ≡ Some k → IsSome (get fewer k)) × ((k : ℕ) → node.after ≡ Some k → IsSome (get fewer k))
  neighbours nodes fewer ends cs room p key value node is hp s at updates =
      let c : ℕ × T = (key, value) in
      let linked = subst (λ d. Linked (get nodes) p None d None) s.whole (is.linked p hp) in
      let apart = subst Apart s.whole (is.apart p hp) in
      let same = same_Some node (node_in p c s.prefix s.back) (sym at ∙ found_node nodes ends cs room p key value is hp s) in
      let kept : (j : ℕ) → is_key (Some key) j ≡ false → get fewer j ≡ get nodes j = λ j e. updates.others j (λ q. eqb-false key j e (sym q)) in
      let firsts = linked_same (get nodes) (get fewer) p None s.prefix (Some key) (same_unnamed (get nodes) (get fewer) (Some key) s.prefix kept (apart_middle s.prefix c s.back apart)) (linked_prefix (get nodes) p None s.prefix (c ∷ s.back) None linked) in
      let backs = linked_same (get nodes) (get fewer) p (Some key) s.back None (same_unnamed (get nodes) (get fewer) (Some key) s.back kept (apart_back s.prefix (c ∷ s.back) apart).0) (linked_back (get nodes) p None s.prefix (c ∷ s.back) None linked).1 in (
        λ k e. last_there (get fewer) p None s.prefix (Some key) k firsts (sym (ap (λ (n : Node T). n.before) same) ∙ e),
        λ k e. first_there (get fewer) p (Some key) s.back None k backs (sym (ap (λ (n : Node T). n.after) same) ∙ e),
      )
