-- What a node says about the lists, and another value in a node.
use Rattle.std.proofs.Common.{◌≡◌, ℕ, zero, suc, ◌<◌, ◌≤◌, cond, eqb, List, [], ◌∷◌, ◌++◌, map, length, replicate, Option, None, Some, is_some, refl, sym, ap, ◌∙◌, subst, arith, ⊎_elim, append_assoc}
use Rattle.std.specs.Prelude.{IsSome}
use Rattle.std.specs.Option.{option_map}
use Rattle.std.specs.List.{count_by}
use Rattle.std.proofs.lemmas.Bool.{cases_lt}
use Rattle.std.proofs.lemmas.List.{get_or-map, length-map, length-append, get_or-replicate, length-replicate, get_or_past}
use Rattle.std.proofs.lemmas.Option.{same_Some}
use Rattle.slab.specs.Slab.{Slab, get, slab_len}
use Rattle.linked_lists.specs.declared.node.Node.{Node}
use Rattle.linked_lists.specs.declared.node.Ends.{Ends}
use Rattle.linked_lists.specs.Chains.{all_cells, chain_at, first_key, value_in, value_of, IsOnlyIn, ValueIs, NextIs, hold, Apart}
use Rattle.linked_lists.specs.Inside.{IsKept, Linked, first_or, last_or, ends_of, no_ends, holds, aimed}
use Rattle.linked_lists.proofs.Links.{linked_elsewhere, node_in, first_or-hold, last_or-hold, apart-hold, linked-hold}
use Rattle.linked_lists.proofs.Keeping.{Found, Spot, alike_ends, capacity_aimed, found_list, found_node, get_aimed, is_some_of, len_aimed, no_ends_of, value_in_all, value_there}

module _ {T : Type 0} where
  -- ---- what a node says
  pub found_at : (nodes : Slab (Node T)) (ends : List Ends) (cs : List (List (ℕ × T))) (room key : ℕ) → IsKept nodes ends cs room → IsSome (value_of cs key)
      → (v : T) × (value_of cs key ≡ Some v) × (f : Found cs key v) × (get nodes key ≡ Some (node_in f.list (key, v) f.spot.prefix f.spot.back))
  found_at nodes ends cs room key is h =
      let v = is_some_of (value_of cs key) h in
      let f = found_list cs key v.0 v.1 in
      (v.0, v.1, f, found_node nodes ends cs room f.list key v.0 is f.within f.spot)

  -- the key of a node is in the node's list, and in no other
  pub only_in : (nodes : Slab (Node T)) (ends : List Ends) (cs : List (List (ℕ × T))) (room key : ℕ) (node : Node T) → IsKept nodes ends cs room → IsSome (value_of cs key) → get nodes key ≡ Some node
      → IsOnlyIn cs key node.list
  only_in nodes ends cs room key node is h at =
      let found = found_at nodes ends cs room key is h in
      let spot = found.2.spot in
      let list : node.list ≡ found.2.list = ap (λ (n : Node T). n.list) (same_Some node (node_in found.2.list (key, found.0) spot.prefix spot.back) (sym at ∙ found.3)) in
      record {
        within = subst (λ l. l < length cs) (sym list) found.2.within;
        here = subst (λ l. IsSome (value_in (chain_at cs l) key)) (sym list) (subst (λ c. IsSome (value_in c key)) (sym spot.whole) (value_there spot.prefix key found.0 spot.back));
        elsewhere = λ other ne.
            ⊎_elim
            (λ (hp : other < length cs).
            ap (option_map (λ (c : ℕ × T). c.1)) (linked_elsewhere (get nodes) other None (chain_at cs other) None key node at (λ e. ne (sym e)) (is.linked other hp)))
            (λ (past : length cs ≤ other). ap (λ c. value_in c key) (get_or_past cs other [] past))
            (cases_lt other (length cs));
      }

  pub after_is : (nodes : Slab (Node T)) (ends : List Ends) (cs : List (List (ℕ × T))) (room key : ℕ) (node : Node T) → IsKept nodes ends cs room → get nodes key ≡ Some node
      → (list : ℕ) (prefix back : List (ℕ × T)) (value : T) → chain_at cs list ≡ prefix ++ (key, value) ∷ back → node.after ≡ first_key back
  after_is nodes ends cs room key node is at list prefix back value whole =
      ⊎_elim
      (λ (hp : list < length cs).
      let spot : Spot (chain_at cs list) key value = record { prefix = prefix; back = back; whole = whole } in
      let same = same_Some node (node_in list (key, value) prefix back) (sym at ∙ found_node nodes ends cs room list key value is hp spot) in
      ap (λ (n : Node T). n.after) same ∙ firsts back)
      (λ (past : length cs ≤ list). absurd (omega (arith, ap length (sym (get_or_past cs list [] past) ∙ whole), length-append prefix ((key, value) ∷ back))))
      (cases_lt list (length cs))
    where
      firsts : (xs : List (ℕ × T)) → first_or None xs ≡ first_key xs
      firsts [] = refl
      firsts (x ∷ xs) = refl

  pub value_is : (nodes : Slab (Node T)) (ends : List Ends) (cs : List (List (ℕ × T))) (room key : ℕ) (node : Node T) → IsKept nodes ends cs room → get nodes key ≡ Some node → ValueIs cs key node.value
  value_is nodes ends cs room key node is at list prefix back value whole =
      ⊎_elim
      (λ (hp : list < length cs).
      let spot : Spot (chain_at cs list) key value = record { prefix = prefix; back = back; whole = whole } in
      ap (λ (n : Node T). n.value) (same_Some (node_in list (key, value) prefix back) node (sym (found_node nodes ends cs room list key value is hp spot) ∙ at)))
      (λ (past : length cs ≤ list). absurd (omega (arith, ap length (sym (get_or_past cs list [] past) ∙ whole), length-append prefix ((key, value) ∷ back))))
      (cases_lt list (length cs))

  -- ---- empty lists
  pub no_cells : (n : ℕ) → all_cells (replicate {A = List (ℕ × T)} n []) ≡ []
  no_cells zero = refl
  no_cells (suc n) = no_cells n

  pub kept_empty : (nodes : Slab (Node T)) (ends : List Ends) (n room : ℕ) → nodes.slots ≡ [] → room ≤ nodes.capacity → ends ≡ replicate n no_ends → IsKept nodes ends (replicate n []) room
  kept_empty nodes ends n room none space ended =
      let size = length-replicate {A = List (ℕ × T)} n [] in
      let len : slab_len nodes ≡ 0 = ap {B = ℕ} (λ (os : List (Option (Node T))). count_by is_some os) none in
      record {
        linked = λ p hp. subst (λ c. Linked (get nodes) p None c None) (sym (get_or-replicate n p [] [] (omega (arith, hp, size)))) tt;
        apart = λ p hp. subst Apart (sym (get_or-replicate n p [] [] (omega (arith, hp, size)))) tt;
        ended = ended ∙ no_ends_of T n;
        all = len ∙ sym (ap length (no_cells n));
        fits = omega (arith, len);
        space = space;
      }

  -- ---- another value
  length_cells-hold : (key : ℕ) (value : T) (cs : List (List (ℕ × T))) → length (all_cells (map (hold key value) cs)) ≡ length (all_cells cs)
  length_cells-hold key value [] = refl
  length_cells-hold key value (c ∷ cs) =
      omega (
        arith,
        length-append (hold key value c) (all_cells (map (hold key value) cs)),
        length-append c (all_cells cs),
        length-map c (λ (x : ℕ × T). cond (eqb x.0 key) (x.0, value) x),
        length_cells-hold key value cs,
      )

  ends-hold : (key : ℕ) (value : T) (cs : List (List (ℕ × T))) → map ends_of cs ≡ map ends_of (map (hold key value) cs)
  ends-hold key value [] = refl
  ends-hold key value (c ∷ cs) =
      λ i. alike_ends (first_or None c) (last_or None c) (first_or None (hold key value c)) (last_or None (hold key value c)) (sym (first_or-hold None key value c)) (sym (last_or-hold None key value c)) i
      ∷ ends-hold key value cs i

  pub kept_hold : (nodes : Slab (Node T)) (ends : List Ends) (cs : List (List (ℕ × T))) (room key : ℕ) (value : T) → IsKept nodes ends cs room
      → IsKept (aimed nodes (Some key) (holds value)) ends (map (hold key value) cs) room
  kept_hold nodes ends cs room key value is =
      let len = length-map cs (hold key value) in
      let new = aimed nodes (Some key) (holds value) in
      record {
        linked = λ q hq.
            let inside : q < length cs = omega (arith, hq, len) in
            subst (λ d. Linked (get new) q None d None) (sym (get_or-map (hold key value) cs q [] [] inside))
            (linked-hold (get nodes) (get new) q None (chain_at cs q) None key value (get_aimed nodes (Some key) (holds value)) (is.linked q inside));
        apart = λ q hq.
            let inside : q < length cs = omega (arith, hq, len) in
            subst Apart (sym (get_or-map (hold key value) cs q [] [] inside)) (apart-hold key value (chain_at cs q) (is.apart q inside));
        ended = is.ended ∙ ends-hold key value cs;
        all = len_aimed nodes (Some key) (holds value) ∙ is.all ∙ sym (length_cells-hold key value cs);
        fits = omega (arith, is.fits, len_aimed nodes (Some key) (holds value));
        space = omega (arith, is.space, capacity_aimed nodes (Some key) (holds value));
      }

  -- the key of the cell after another has a value
  pub next_value : (cs : List (List (ℕ × T))) (key k : ℕ) (next : Option ℕ) → IsSome (value_of cs key) → NextIs cs key next → next ≡ Some k → IsSome (value_of cs k)
  next_value cs key k next h after e =
      let v = is_some_of (value_of cs key) h in
      let found = found_list cs key v.0 v.1 in
      let spot = found.spot in
      let back = after found.list spot.prefix spot.back v.0 spot.whole in
      some_after cs found.list k spot.prefix (key, v.0) spot.back found.within spot.whole (sym back ∙ e)
    where
      some_after : (ds : List (List (ℕ × T))) (p j : ℕ) (xs : List (ℕ × T)) (c : ℕ × T) (ys : List (ℕ × T)) → p < length ds → chain_at ds p ≡ xs ++ c ∷ ys → first_key ys ≡ Some j → IsSome (value_of ds j)
      some_after ds p j xs c [] hp whole q = absurd (cc)
      some_after ds p j xs c (y ∷ ys) hp whole q =
          let key_is = same_Some y.0 j q in
          subst (λ n. IsSome (value_of ds n)) key_is
          (value_in_all ds p y.0 hp (subst (λ zs. IsSome (value_in zs y.0)) (sym whole) (subst (λ zs. IsSome (value_in zs y.0)) (append_assoc xs (c ∷ []) (y ∷ ys)) (value_there (xs ++ c ∷ []) y.0 y.1 ys))))
