-- Lists by id, on top of lists by key and an index.
use Rattle.std.proofs.Common.{◌≡◌, ℕ, zero, suc, ◌+◌, ◌<◌, ◌≤◌, Bool, true, false, cond, not, eqb, ltb, List, [], ◌∷◌, ◌++◌, map, set, length, get_or, replicate, Option, None, Some, refl, sym, ap, ◌∙◌, subst, arith, ⊎_elim, append_assoc}
use Rattle.std.specs.Prelude.{IsSome}
use Rattle.std.specs.Option.{option_map}
use Rattle.std.specs.List.{All, filter, insert}
use Rattle.std.proofs.lemmas.Bool.{cases_eq, cases_lt, eqb-true, eqb-false, eq-eqb, ne_eqb}
use Rattle.std.proofs.lemmas.List.{get_or_past, get_or-map, map-set, length-map, length-append}
use Rattle.std.proofs.lemmas.List.Elements.{All-append, All-cons, All-head, All-tail, All-weaker, All-filter, filter_passes, filter-append}
use Rattle.std.proofs.lemmas.List.Sums.{position_or_len_is}
use Rattle.std.proofs.lemmas.Option.{same_Some}
use Rattle.id_table.specs.Records.{of_id, without, with_record, StandsAt, Rising}
use Rattle.id_table.proofs.Records.{found_place}
use Rattle.id_table.proofs.Halving.{IsRank}
use Rattle.id_table.proofs.Sorting.{length-insert_sorted}
use Rattle.id_table.proofs.Places.{place_of, insert_place, of_id-without, of_id-with_record, Rising-without, Rising-with_record}
use Rattle.id_table.specs.declared.entry.Entry.{Entry}
use Rattle.linked_lists.specs.declared.id_lists.Member.{Member}
use Rattle.linked_lists.specs.Chains.{Chains, cell_key, all_cells, chain_at, first_key, is_key, put_before, value_in, value_of, IsOnlyIn}
use Rattle.id_table.specs.Entries.{entry_id}
use Rattle.linked_lists.specs.Named.{member_id, named_cell, named_chains, named, entry_of, IsIndexed, key_found}
use Rattle.linked_lists.proofs.Keeping.{Split, some_is, not_some, is_some_of}
use Rattle.linked_lists.proofs.Telling.{no_cells}

eqb_comm : (m n : ℕ) → eqb m n ≡ eqb n m
eqb_comm m n = ⊎_elim (λ (e : m ≡ n). eq-eqb m n e ∙ sym (eq-eqb n m (sym e))) (λ (ne : m ≡ n → ⊥). ne_eqb m n ne ∙ sym (ne_eqb n m (λ q. ne (sym q)))) (cases_eq m n)

pub head_same : {X : Type 0} (x y : X) (xs ys : List X) → x ∷ xs ≡ y ∷ ys → x ≡ y
head_same x y xs ys e = cc

pub tail_same : {X : Type 0} (x y : X) (xs ys : List X) → x ∷ xs ≡ y ∷ ys → xs ≡ ys
tail_same x y xs ys e = cc

-- ---- a search in the index
pub rank_place : (es : List Entry) (e : Entry) (i : ℕ) → IsRank entry_id es e.id i → i ≤ length es → place_of entry_id es e ≡ i
rank_place es e i rank within =
    position_or_len_is (λ (y : Entry). not (ltb y.id e.id)) es i e within
    (λ k h. ap not (rank.0 k e (omega arith) h))
    (λ h. ap not (rank.1 i e (omega arith) h))

-- a look-up finds the entry at a place
pub entry_at : (es : List Entry) (who at : ℕ) (d : Entry) → StandsAt entry_id es who at → Rising entry_id es → of_id entry_id es who ≡ Some (get_or es at d)
entry_at es who at d stands up = sym (ap (of_id entry_id es) (stands.same d)) ∙ found_place entry_id es at d up stands.within

pub entry_found : (es : List Entry) (who at : ℕ) (e : Entry) → StandsAt entry_id es who at → Rising entry_id es → e ≡ get_or es at e → of_id entry_id es who ≡ Some e
entry_found es who at e stands up here = entry_at es who at e stands up ∙ ap (λ (x : Entry). Some x) (sym here)

-- an entry that is read from a list that equals the index
pub entry_got : (es xs : List Entry) (at : ℕ) (d : Entry) → xs ≡ es → d ≡ get_or xs at d → get_or xs at d ≡ get_or es at (get_or xs at d)
entry_got es xs at d same is = subst (λ e. e ≡ get_or es at e) is (is ∙ ap (λ zs. get_or zs at d) same)

-- an entry that is inserted at its rank
pub entry_placed : (es after : List Entry) (e : Entry) (rank : ℕ) → IsRank entry_id es e.id rank → rank ≤ length es → after ≡ insert es rank e → after ≡ with_record entry_id es e
entry_placed es after e rank is within put = put ∙ ap (λ k. insert es k e) (sym (rank_place es e rank is within)) ∙ insert_place entry_id e es

module _ {T : Type 0} where
  -- ---- cells
  some_back : (xs ys : List (ℕ × T)) (k : ℕ) → IsSome (value_in ys k) → IsSome (value_in (xs ++ ys) k)
  some_back [] ys k h = h
  some_back (x ∷ xs) ys k h = elim (eqb x.0 k) as (λ b. IsSome (option_map (λ (c : ℕ × T). c.1) (cond b (Some x) (of_id cell_key (xs ++ ys) k)))) [ true ↦ refl | false ↦ some_back xs ys k h ]

  -- the first cell of a list, if it has a key
  pub first_cell : (cs : List (ℕ × T)) (k : ℕ) → first_key cs ≡ Some k → (v : T) × (rest : List (ℕ × T)) × (cs ≡ (k, v) ∷ rest)
  first_cell [] k e = absurd (cc)
  first_cell (c ∷ cs) k e = (c.1, cs, ap (λ n. (n, c.1) ∷ cs) (same_Some c.0 k e))

  pub first_there : (cs : List (List (ℕ × T))) (p k : ℕ) → p < length cs → first_key (chain_at cs p) ≡ Some k → IsSome (value_of cs k)
  first_there [] p k hp e = absurd (omega (arith, hp))
  first_there (c ∷ cs) zero k hp e =
      let cell = first_cell c k e in
      subst (λ zs. IsSome (value_in (zs ++ all_cells cs) k)) (sym cell.2) (rw (eq-eqb k k refl) refl)
  first_there (c ∷ cs) (suc p) k hp e = some_back c (all_cells cs) k (first_there cs p k (omega (arith, hp)) e)

  pub all_prefix : (P : ℕ × T → Type 0) (xs ys : List (ℕ × T)) → All P (xs ++ ys) → All P xs
  all_prefix P [] ys all = λ k d h. absurd (omega (arith, h))
  all_prefix P (x ∷ xs) ys all = All-cons P x xs (All-head P x (xs ++ ys) all) (all_prefix P xs ys (All-tail P x (xs ++ ys) all))

  pub all_back : (P : ℕ × T → Type 0) (xs ys : List (ℕ × T)) → All P (xs ++ ys) → All P ys
  all_back P [] ys all = all
  all_back P (x ∷ xs) ys all = all_back P xs ys (All-tail P x (xs ++ ys) all)

  -- a property of all cells holds for those of each list
  pub all_chain : (P : ℕ × T → Type 0) (cs : List (List (ℕ × T))) (p : ℕ) → p < length cs → All P (all_cells cs) → All P (chain_at cs p)
  all_chain P [] p hp all = absurd (omega (arith, hp))
  all_chain P (c ∷ cs) zero hp all = all_prefix P c (all_cells cs) all
  all_chain P (c ∷ cs) (suc p) hp all = all_chain P cs p (omega (arith, hp)) (all_back P c (all_cells cs) all)

  pub cells_without : (cs : List (List (ℕ × T))) (key : ℕ) → all_cells (map (λ c. without cell_key c key) cs) ≡ without cell_key (all_cells cs) key
  cells_without [] key = refl
  cells_without (c ∷ cs) key =
      ap (λ zs. without cell_key c key ++ zs) (cells_without cs key) ∙ sym (filter-append (λ (x : ℕ × T). not (eqb x.0 key)) c (all_cells cs))

  -- all cells, with one added between two parts of them
  pub record Parted (cs ds : List (List (ℕ × T))) (cell : ℕ × T) : Type 0 where
    pub prefix : List (ℕ × T)
    pub back : List (ℕ × T)
    pub before : all_cells cs ≡ prefix ++ back
    pub after : all_cells ds ≡ prefix ++ cell ∷ back

  pub parted : (cs : List (List (ℕ × T))) (p : ℕ) (next : Option ℕ) (cell : ℕ × T) → p < length cs → Split (chain_at cs p) next cell → Parted cs (set cs p (put_before next cell (chain_at cs p))) cell
  parted [] p next cell hp s = absurd (omega (arith, hp))
  parted (c ∷ cs) zero next cell hp s =
      record {
        prefix = s.prefix;
        back = s.back ++ all_cells cs;
        before = ap (λ zs. zs ++ all_cells cs) s.whole ∙ append_assoc s.prefix s.back (all_cells cs);
        after = ap (λ zs. zs ++ all_cells cs) s.put ∙ append_assoc s.prefix (cell ∷ s.back) (all_cells cs);
      }
  parted (c ∷ cs) (suc p) next cell hp s =
      let rest = parted cs p next cell (omega (arith, hp)) s in
      record {
        prefix = c ++ rest.prefix;
        back = rest.back;
        before = ap (λ zs. c ++ zs) rest.before ∙ sym (append_assoc c rest.prefix rest.back);
        after = ap (λ zs. c ++ zs) rest.after ∙ sym (append_assoc c rest.prefix (cell ∷ rest.back));
      }

  -- a look-up after a cell is added in between
  pub value_past : (xs : List (ℕ × T)) (cell : ℕ × T) (ys : List (ℕ × T)) (k : ℕ) → eqb cell.0 k ≡ false → value_in (xs ++ cell ∷ ys) k ≡ value_in (xs ++ ys) k
  value_past [] cell ys k e = ap (λ b. option_map (λ (c : ℕ × T). c.1) (cond b (Some cell) (of_id cell_key ys k))) e
  value_past (x ∷ xs) cell ys k e =
      elim (eqb x.0 k) as (λ b. option_map (λ (c : ℕ × T). c.1) (cond b (Some x) (of_id cell_key (xs ++ cell ∷ ys) k)) ≡ option_map (λ (c : ℕ × T). c.1) (cond b (Some x) (of_id cell_key (xs ++ ys) k))) [
        | true ↦ refl
        | false ↦ value_past xs cell ys k e
      ]

  pub value_new : (xs : List (ℕ × T)) (cell : ℕ × T) (ys : List (ℕ × T)) → value_in (xs ++ ys) cell.0 ≡ None → value_in (xs ++ cell ∷ ys) cell.0 ≡ Some cell.1
  value_new [] cell ys none = ap (λ b. option_map (λ (c : ℕ × T). c.1) (cond b (Some cell) (of_id cell_key ys cell.0))) (eq-eqb cell.0 cell.0 refl)
  value_new (x ∷ xs) cell ys none =
      elim (eqb x.0 cell.0) as (λ b. option_map (λ (c : ℕ × T). c.1) (cond b (Some x) (of_id cell_key (xs ++ ys) cell.0)) ≡ None
      → option_map (λ (c : ℕ × T). c.1) (cond b (Some x) (of_id cell_key (xs ++ cell ∷ ys) cell.0)) ≡ Some cell.1) [
        | true ↦ λ q. absurd (cc)
        | false ↦ λ q. value_new xs cell ys q
      ] none

-- ---- cells by id
module _ {T : Type 0} where
  pub named_cells : (cs : List (List (ℕ × Member T))) → all_cells (named_chains cs) ≡ map named_cell (all_cells cs)
  named_cells [] = refl
  named_cells (c ∷ cs) = ap (λ zs. map named_cell c ++ zs) (named_cells cs) ∙ joined c
    where
      joined : (xs : List (ℕ × Member T)) → map named_cell xs ++ map named_cell (all_cells cs) ≡ map named_cell (xs ++ all_cells cs)
      joined [] = refl
      joined (x ∷ xs) = ap (λ zs. named_cell x ∷ zs) (joined xs)

  -- the cell has the key exactly if it has the id
  abbrev pub IsAlike : ℕ → ℕ → ℕ × Member T → Type 0
  IsAlike key who c = eqb c.0 key ≡ eqb c.1.who who

  pub value_alike : (key who : ℕ) (cs : List (ℕ × Member T)) → All (IsAlike key who) cs → value_in (map named_cell cs) who ≡ option_map (λ (m : Member T). m.value) (value_in cs key)
  value_alike key who [] all = refl
  value_alike key who (c ∷ cs) all =
      let here : eqb c.0 key ≡ eqb c.1.who who = All-head (IsAlike key who) c cs all in
      let rest = value_alike key who cs (All-tail (IsAlike key who) c cs all) in
      elim (eqb c.1.who who) as (λ b. eqb c.0 key ≡ b
      → option_map (λ (x : ℕ × T). x.1) (cond b (Some (named_cell c)) (of_id cell_key (map named_cell cs) who))
      ≡ option_map (λ (m : Member T). m.value) (option_map (λ (x : ℕ × Member T). x.1) (cond (eqb c.0 key) (Some c) (of_id cell_key cs key)))) [
        | true ↦ λ e. sym (ap (λ b. option_map (λ (m : Member T). m.value) (option_map (λ (x : ℕ × Member T). x.1) (cond b (Some c) (of_id cell_key cs key)))) e)
        | false ↦ λ e. rest ∙ sym (ap (λ b. option_map (λ (m : Member T). m.value) (option_map (λ (x : ℕ × Member T). x.1) (cond b (Some c) (of_id cell_key cs key)))) e)
      ] here

  without_alike : (key who : ℕ) (cs : List (ℕ × Member T)) → All (IsAlike key who) cs → map named_cell (without cell_key cs key) ≡ without cell_key (map named_cell cs) who
  without_alike key who [] all = refl
  without_alike key who (c ∷ cs) all =
      let here : eqb c.0 key ≡ eqb c.1.who who = All-head (IsAlike key who) c cs all in
      let rest = without_alike key who cs (All-tail (IsAlike key who) c cs all) in
      ap (λ b. map named_cell (cond (not b) (c ∷ without cell_key cs key) (without cell_key cs key))) here
      ∙ elim (eqb c.1.who who) as (λ b. map named_cell (cond (not b) (c ∷ without cell_key cs key) (without cell_key cs key)) ≡ cond (not b) (named_cell c ∷ without cell_key (map named_cell cs) who) (without cell_key (map named_cell cs) who)) [
        | true ↦ rest
        | false ↦ ap (λ zs. named_cell c ∷ zs) rest
      ]

  pub chains_without : (key who : ℕ) (cs : List (List (ℕ × Member T))) → All (IsAlike key who) (all_cells cs)
      → named_chains (map (λ c. without cell_key c key) cs) ≡ map (λ c. without cell_key c who) (named_chains cs)
  chains_without key who [] all = refl
  chains_without key who (c ∷ cs) all = λ i. without_alike key who c (all_prefix (IsAlike key who) c (all_cells cs) all) i ∷ chains_without key who cs (all_back (IsAlike key who) c (all_cells cs) all) i

  put_alike : (nk nw : Option ℕ) (cell : ℕ × Member T) (cs : List (ℕ × Member T)) → All (λ c. is_key nk c.0 ≡ is_key nw c.1.who) cs → map named_cell (put_before nk cell cs) ≡ put_before nw (named_cell cell) (map named_cell cs)
  put_alike nk nw cell [] all = refl
  put_alike nk nw cell (c ∷ cs) all =
      let rest = put_alike nk nw cell cs (All-tail (λ c. is_key nk c.0 ≡ is_key nw c.1.who) c cs all) in
      ap (λ b. map named_cell (cond b (cell ∷ c ∷ cs) (c ∷ put_before nk cell cs))) (All-head (λ c. is_key nk c.0 ≡ is_key nw c.1.who) c cs all)
      ∙ elim (is_key nw c.1.who) as (λ b. map named_cell (cond b (cell ∷ c ∷ cs) (c ∷ put_before nk cell cs)) ≡ cond b (named_cell cell ∷ named_cell c ∷ map named_cell cs) (named_cell c ∷ put_before nw (named_cell cell) (map named_cell cs))) [
        | true ↦ refl
        | false ↦ ap (λ zs. named_cell c ∷ zs) rest
      ]

  -- a place among the lists by id is one among the lists by key
  pub place_within : (l : Chains (Member T)) (t : Chains T) (p : ℕ) → named l ≡ t → p < length t.chains → p < length l.chains
  place_within l t p is within = subst (λ n. p < n) (length-map l.chains (map named_cell)) (subst (λ (s : Chains T). p < length s.chains) (sym is) within)

  pub named_at : (cs : List (List (ℕ × Member T))) (p : ℕ) → p < length cs → chain_at (named_chains cs) p ≡ map named_cell (chain_at cs p)
  named_at cs p hp = get_or-map (map named_cell) cs p [] [] hp

  pub chains_put : (nk nw : Option ℕ) (cell : ℕ × Member T) (cs : List (List (ℕ × Member T))) (p : ℕ) → p < length cs → All (λ c. is_key nk c.0 ≡ is_key nw c.1.who) (chain_at cs p)
      → named_chains (set cs p (put_before nk cell (chain_at cs p))) ≡ set (named_chains cs) p (put_before nw (named_cell cell) (chain_at (named_chains cs) p))
  chains_put nk nw cell cs p hp all =
      map-set (map named_cell) cs p (put_before nk cell (chain_at cs p))
      ∙ ap (set (named_chains cs) p) (put_alike nk nw cell (chain_at cs p) all ∙ ap (put_before nw (named_cell cell)) (sym (named_at cs p hp)))

  -- ---- what the index says
  module _ (cs : List (List (ℕ × Member T))) (es : List Entry) (is : IsIndexed cs es) where
    abbrev Listed : ℕ × Member T → Type 0
    Listed c = of_id entry_id es c.1.who ≡ Some (entry_of c)

    pub one_cell : (who : ℕ) (e : Entry) → of_id entry_id es who ≡ Some e → (c : ℕ × Member T) → Listed c → IsAlike e.key who c
    one_cell who e at c listed =
        ⊎_elim
        (λ (same : c.0 ≡ e.key).
        let ids : c.1.who ≡ who = same_Some c.1.who who (sym (is.known c.1.who (entry_of c) listed) ∙ ap (λ k. option_map member_id (value_of cs k)) same ∙ is.known who e at) in
        eq-eqb c.0 e.key same ∙ sym (eq-eqb c.1.who who ids))
        (λ (other : c.0 ≡ e.key → ⊥).
        ne_eqb c.0 e.key other
        ∙ sym (ne_eqb c.1.who who (λ q. other (ap (λ (x : Entry). x.key) (same_Some (entry_of c) e (sym listed ∙ ap (of_id entry_id es) q ∙ at))))))
        (cases_eq c.0 e.key)

    -- the entry of an id distinguishes the cells of that id from the others
    pub cells_alike : (who : ℕ) (e : Entry) → of_id entry_id es who ≡ Some e → All (IsAlike e.key who) (all_cells cs)
    cells_alike who e at = All-weaker Listed (IsAlike e.key who) (one_cell who e at) (all_cells cs) is.listed

    -- the cell of an entry
    pub entry_value : (who : ℕ) (e : Entry) → of_id entry_id es who ≡ Some e → (m : Member T) × (value_of cs e.key ≡ Some m) × (value_of (named_chains cs) who ≡ Some m.value)
    entry_value who e at =
        let m = named_is (value_of cs e.key) who (is.known who e at) in
        (m.0, m.1, ap (λ zs. value_in zs who) (named_cells cs) ∙ value_alike e.key who (all_cells cs) (cells_alike who e at) ∙ ap (option_map (λ (x : Member T). x.value)) m.1)
      where
        named_is : (o : Option (Member T)) (n : ℕ) → option_map member_id o ≡ Some n → (m : Member T) × (o ≡ Some m)
        named_is None n q = absurd (cc)
        named_is (Some m) n q = (m, refl)

    -- without an entry of an id, there is no cell of it
    pub no_cell : (who : ℕ) → of_id entry_id es who ≡ None → All (λ c. eqb c.1.who who ≡ false) (all_cells cs)
    no_cell who none =
        All-weaker Listed (λ c. eqb c.1.who who ≡ false)
        (λ c listed. ne_eqb c.1.who who (λ q. let there : ◌≡◌ {A = Option Entry} None (Some (entry_of c)) = sym none ∙ ap (of_id entry_id es) (sym q) ∙ listed in absurd (cc)))
        (all_cells cs) is.listed

    -- the entry of an id has a node
    pub entry_node : (who : ℕ) (e : Entry) → of_id entry_id es who ≡ Some e → IsSome (value_of cs e.key)
    entry_node who e entry = let v = entry_value who e entry in some_is (value_of cs e.key) v.0 v.1

    -- and so has an entry that stands at the place of the id
    pub node_there : (who at : ℕ) (e : Entry) → StandsAt entry_id es who at → e ≡ get_or es at e → IsSome (value_of cs e.key)
    node_there who at e stands here = entry_node who e (entry_found es who at e stands is.rising here)

    pub no_value : (who : ℕ) → of_id entry_id es who ≡ None → value_of (named_chains cs) who ≡ None
    no_value who none = ap (λ zs. value_in zs who) (named_cells cs) ∙ missing (all_cells cs) (no_cell who none)
      where
        missing : (xs : List (ℕ × Member T)) → All (λ c. eqb c.1.who who ≡ false) xs → value_in (map named_cell xs) who ≡ None
        missing [] all = refl
        missing (x ∷ xs) all =
            ap (λ b. option_map (λ (c : ℕ × T). c.1) (cond b (Some (named_cell x)) (of_id cell_key (map named_cell xs) who))) (All-head (λ c. eqb c.1.who who ≡ false) x xs all)
            ∙ missing xs (All-tail (λ c. eqb c.1.who who ≡ false) x xs all)

    -- an id in a list has an entry
    pub has_entry : (who : ℕ) → IsSome (value_of (named_chains cs) who) → IsSome (of_id entry_id es who)
    has_entry who some =
        elim (of_id entry_id es who) as (λ o. of_id entry_id es who ≡ o → IsSome o) [
          | None ↦ λ e. absurd (not_some (value_of (named_chains cs) who) (no_value who e) some)
          | Some x ↦ λ e. refl
        ] refl

    -- if an id is in no list, it has no entry
    pub no_entry : (who : ℕ) → value_of (named_chains cs) who ≡ None → of_id entry_id es who ≡ None
    no_entry who none =
        elim (of_id entry_id es who) as (λ o. of_id entry_id es who ≡ o → o ≡ None) [
          | None ↦ λ e. refl
          | Some x ↦ λ e. let v = entry_value who x e in let there : ◌≡◌ {A = Option T} None (Some v.0.value) = sym none ∙ v.2 in absurd (cc)
        ] refl

    -- removing an id that is in no list changes nothing
    pub chains_same : (who : ℕ) → of_id entry_id es who ≡ None → map (λ c. without cell_key c who) (named_chains cs) ≡ named_chains cs
    chains_same who none = all_same cs (no_cell who none)
      where
        one_same : (xs : List (ℕ × Member T)) → All (λ c. eqb c.1.who who ≡ false) xs → without cell_key (map named_cell xs) who ≡ map named_cell xs
        one_same [] all = refl
        one_same (x ∷ xs) all =
            ap (λ b. cond (not b) (named_cell x ∷ without cell_key (map named_cell xs) who) (without cell_key (map named_cell xs) who)) (All-head (λ c. eqb c.1.who who ≡ false) x xs all)
            ∙ ap (λ zs. named_cell x ∷ zs) (one_same xs (All-tail (λ c. eqb c.1.who who ≡ false) x xs all))

        all_same : (ds : List (List (ℕ × Member T))) → All (λ c. eqb c.1.who who ≡ false) (all_cells ds) → map (λ c. without cell_key c who) (named_chains ds) ≡ named_chains ds
        all_same [] all = refl
        all_same (d ∷ ds) all = λ i. one_same d (all_prefix (λ c. eqb c.1.who who ≡ false) d (all_cells ds) all) i ∷ all_same ds (all_back (λ c. eqb c.1.who who ≡ false) d (all_cells ds) all) i

    -- ---- an id is added
    pub same_next : (next : Option ℕ) (p : ℕ) → p < length cs → ((id : ℕ) → next ≡ Some id → IsSome (value_in (chain_at (named_chains cs) p) id))
        → All (λ c. is_key (key_found es next) c.0 ≡ is_key next c.1.who) (chain_at cs p)
    same_next None p hp h = λ k d q. refl
    same_next (Some id) p hp h =
        elim (of_id entry_id es id) as (λ o. of_id entry_id es id ≡ o → All (λ c. is_key (option_map (λ (e : Entry). e.key) o) c.0 ≡ eqb id c.1.who) (chain_at cs p)) [
          | None ↦ λ q.
              let all = all_chain (λ c. eqb c.1.who id ≡ false) cs p hp (no_cell id q) in
              λ k d within. sym (ne_eqb id (get_or (chain_at cs p) k d).1.who (λ e. eqb-false (get_or (chain_at cs p) k d).1.who id (all k d within) (sym e)))
          | Some e ↦ λ q.
              let all = all_chain (IsAlike e.key id) cs p hp (cells_alike id e q) in
              λ k d within. keyed e.key (get_or (chain_at cs p) k d).0 id (get_or (chain_at cs p) k d).1.who (all k d within)
        ] refl
      where
        keyed : (a b m n : ℕ) → eqb b a ≡ eqb n m → eqb a b ≡ eqb m n
        keyed a b m n e = eqb_comm a b ∙ e ∙ eqb_comm n m

    -- the node of an id in a list
    pub node_of_next : (next : Option ℕ) (p : ℕ) → p < length cs → ((id : ℕ) → next ≡ Some id → IsSome (value_in (chain_at (named_chains cs) p) id))
        → (key : ℕ) → key_found es next ≡ Some key → IsSome (value_in (chain_at cs p) key)
    node_of_next None p hp h key q = absurd (cc)
    node_of_next (Some id) p hp h key q =
        elim (of_id entry_id es id) as (λ o. of_id entry_id es id ≡ o → option_map (λ (e : Entry). e.key) o ≡ Some key → IsSome (value_in (chain_at cs p) key)) [
          | None ↦ λ e r. absurd (cc)
          | Some e ↦ λ at r.
              let alike = all_chain (IsAlike e.key id) cs p hp (cells_alike id e at) in
              let named_value = subst (λ c. IsSome (value_in c id)) (named_at cs p hp) (h id refl) in
              subst (λ k. IsSome (value_in (chain_at cs p) k)) (same_Some e.key key r)
              (unmapped (value_in (chain_at cs p) e.key) (subst IsSome (value_alike e.key id (chain_at cs p) alike) named_value))
        ] refl q
      where
        unmapped : (o : Option (Member T)) → IsSome (option_map (λ (m : Member T). m.value) o) → IsSome o
        unmapped None s = absurd (cc)
        unmapped (Some m) s = refl

    pub indexed_inserted : (ds : List (List (ℕ × Member T))) (key who : ℕ) (value : T) → Parted cs ds (key, record { who = who; value = value }) → value_of cs key ≡ None
        → of_id entry_id es who ≡ None → IsIndexed ds (with_record entry_id es (record { id = who; key = key }))
    indexed_inserted ds key who value parts fresh none =
        let e : Entry = record { id = who; key = key } in
        let m : Member T = record { who = who; value = value } in
        let old : value_in (parts.prefix ++ parts.back) key ≡ None = ap (λ zs. value_in zs key) (sym parts.before) ∙ fresh in
        record {
          rising = Rising-with_record entry_id es e is.rising none;
          known = λ id x at.
              elim (eqb who id) as (λ b. eqb who id ≡ b → cond b (Some e) (of_id entry_id es id) ≡ Some x → option_map member_id (value_of ds x.key) ≡ Some id) [
                | true ↦ λ b q.
                    let key_is : key ≡ x.key = ap (λ (y : Entry). y.key) (same_Some e x q) in
                    ap (λ k. option_map member_id (value_of ds k)) (sym key_is)
                    ∙ ap (λ zs. option_map member_id (value_in zs key)) parts.after
                    ∙ ap (option_map member_id) (value_new parts.prefix (key, m) parts.back old)
                    ∙ ap (λ n. Some n) (eqb-true who id b)
                | false ↦ λ b q.
                    let known = is.known id x q in
                    let apart : eqb key x.key ≡ false =
                    ne_eqb key x.key (λ r. let there : ◌≡◌ {A = Option ℕ} None (Some id) = ap (option_map member_id) (sym fresh ∙ ap (value_of cs) r) ∙ known in absurd (cc)) in
                    ap (λ zs. option_map member_id (value_in zs x.key)) parts.after
                    ∙ ap (option_map member_id) (value_past parts.prefix (key, m) parts.back x.key apart)
                    ∙ ap (λ zs. option_map member_id (value_in zs x.key)) (sym parts.before)
                    ∙ known
              ] refl (sym (of_id-with_record entry_id es e id none) ∙ at);
          listed =
              let P : ℕ × Member T → Type 0 = λ c. of_id entry_id (with_record entry_id es e) c.1.who ≡ Some (entry_of c) in
              let keeps : (c : ℕ × Member T) → Listed c → P c =
              λ c listed.
              of_id-with_record entry_id es e c.1.who none
              ∙ ap (λ b. cond b (Some e) (of_id entry_id es c.1.who))
              (ne_eqb who c.1.who (λ q. let there : ◌≡◌ {A = Option Entry} None (Some (entry_of c)) = sym none ∙ ap (of_id entry_id es) q ∙ listed in absurd (cc)))
              ∙ listed in
              let all = subst (All Listed) parts.before is.listed in
              subst (All P) (sym parts.after)
              (All-append P parts.prefix ((key, m) ∷ parts.back)
              (All-weaker Listed P keeps parts.prefix (all_prefix Listed parts.prefix parts.back all))
              (All-cons P (key, m) parts.back
              (of_id-with_record entry_id es e who none ∙ ap (λ b. cond b (Some e) (of_id entry_id es who)) (eq-eqb who who refl))
              (All-weaker Listed P keeps parts.back (all_back Listed parts.prefix parts.back all))));
          count =
              omega (
                arith,
                length-insert_sorted (λ (x y : Entry). ltb x.id y.id) e es,
                is.count,
                ap length parts.before,
                ap length parts.after,
                length-append parts.prefix parts.back,
                length-append parts.prefix ((key, m) ∷ parts.back),
              );
        }

    -- ---- an id is removed
    pub indexed_removed : (who : ℕ) (e : Entry) → of_id entry_id es who ≡ Some e → (rest : List Entry) → rest ≡ without entry_id es who → length rest + 1 ≡ length es
        → length (all_cells (map (λ c. without cell_key c e.key) cs)) + 1 ≡ length (all_cells cs) → IsIndexed (map (λ c. without cell_key c e.key) cs) rest
    indexed_removed who e at rest rest_is fewer count =
        let ds = map (λ c. without cell_key c e.key) cs in
        let cells = cells_without cs e.key in
        record {
          rising = subst (Rising entry_id) (sym rest_is) (Rising-without entry_id es who is.rising);
          known = λ id x there.
              elim (eqb id who) as (λ b. eqb id who ≡ b → cond b None (of_id entry_id es id) ≡ Some x → option_map member_id (value_of ds x.key) ≡ Some id) [
                | true ↦ λ b q. absurd (cc)
                | false ↦ λ b q.
                    let known = is.known id x q in
                    let apart : eqb x.key e.key ≡ false =
                    ne_eqb x.key e.key (λ r. eqb-false id who b (same_Some id who (sym known ∙ ap (λ k. option_map member_id (value_of cs k)) r ∙ is.known who e at))) in
                    ap (λ zs. option_map member_id (value_in zs x.key)) cells
                    ∙ ap (λ o. option_map member_id (option_map (λ (c : ℕ × Member T). c.1) o)) (of_id-without cell_key (all_cells cs) e.key x.key ∙ ap (λ b. cond b None (of_id cell_key (all_cells cs) x.key)) apart)
                    ∙ known
              ] refl (sym (of_id-without entry_id es who id) ∙ ap (λ xs. of_id entry_id xs id) (sym rest_is) ∙ there);
          listed =
              let test : ℕ × Member T → Bool = λ c. not (eqb c.0 e.key) in
              let P : ℕ × Member T → Type 0 = λ c. of_id entry_id rest c.1.who ≡ Some (entry_of c) in
              let alike = All-filter test (IsAlike e.key who) (all_cells cs) (cells_alike who e at) in
              let passes = filter_passes test (all_cells cs) in
              let kept = All-filter test Listed (all_cells cs) is.listed in
              subst (All P) (sym cells)
              (λ k d h.
              let c = get_or (filter test (all_cells cs)) k d in
              let other : eqb c.1.who who ≡ false = sym (alike k d h) ∙ unnot (eqb c.0 e.key) (passes k d h) in
              ap (λ xs. of_id entry_id xs c.1.who) rest_is ∙ of_id-without entry_id es who c.1.who ∙ ap (λ b. cond b None (of_id entry_id es c.1.who)) other ∙ kept k d h);
          count = omega (arith, fewer, count, is.count);
        }
      where
        unnot : (b : Bool) → not b ≡ true → b ≡ false
        unnot true q = absurd (cc)
        unnot false q = refl

  -- the list that an id is in, and no other
  pub listed_in : (cs : List (List (ℕ × Member T))) (p key who : ℕ) → All (IsAlike key who) (all_cells cs) → IsOnlyIn cs key p → IsOnlyIn (named_chains cs) who p
  listed_in cs p key who alike only =
      let m = is_some_of (value_in (chain_at cs p) key) only.here in
      record {
        within = subst (λ n. p < n) (sym (length-map cs (map named_cell))) only.within;
        here =
            subst (λ c. IsSome (value_in c who)) (sym (named_at cs p only.within))
            (some_is (value_in (map named_cell (chain_at cs p)) who) m.0.value
            (value_alike key who (chain_at cs p) (all_chain (IsAlike key who) cs p only.within alike) ∙ ap (option_map (λ (x : Member T). x.value)) m.1));
        elsewhere = λ other ne.
            ⊎_elim
            (λ (hp : other < length cs).
            ap (λ c. value_in c who) (named_at cs other hp)
            ∙ value_alike key who (chain_at cs other) (all_chain (IsAlike key who) cs other hp alike)
            ∙ ap (option_map (λ (x : Member T). x.value)) (only.elsewhere other ne))
            (λ (past : length cs ≤ other). ap (λ c. value_in c who) (get_or_past (named_chains cs) other [] (omega (arith, past, length-map cs (map named_cell)))))
            (cases_lt other (length cs));
      }

  -- the first id of a list is that of its first cell
  pub first_named : (cs : List (List (ℕ × Member T))) (es : List Entry) (p k : ℕ) (m : Member T) → IsIndexed cs es → p < length cs → first_key (chain_at cs p) ≡ Some k → value_of cs k ≡ Some m
      → Some m.who ≡ first_key (chain_at (named_chains cs) p)
  first_named cs es p k m is hp first value =
      let cell = first_cell (chain_at cs p) k first in
      let listed = subst (All (λ (c : ℕ × Member T). of_id entry_id es c.1.who ≡ Some (entry_of c))) cell.2 (all_chain (λ c. of_id entry_id es c.1.who ≡ Some (entry_of c)) cs p hp is.listed) in
      let here : of_id entry_id es cell.0.who ≡ Some (entry_of (k, cell.0)) = listed 0 (k, cell.0) (omega arith) in
      sym (ap (option_map member_id) value)
      ∙ is.known cell.0.who (entry_of (k, cell.0)) here
      ∙ sym (ap first_key (named_at cs p hp ∙ ap (map named_cell) cell.2))

  -- a list without a first cell is empty
  pub no_first : (xs : List (ℕ × Member T)) → first_key xs ≡ None → xs ≡ []
  no_first [] e = refl
  no_first (x ∷ xs) e = absurd (cc)

  pub first_none : (cs : List (List (ℕ × Member T))) (p : ℕ) → p < length cs → first_key (chain_at cs p) ≡ None → None ≡ first_key (chain_at (named_chains cs) p)
  first_none cs p hp none = sym (ap first_key (named_at cs p hp ∙ ap (map named_cell) (no_first (chain_at cs p) none)))

  pub named_alike : (cs ds : List (List (ℕ × T))) (room : ℕ) → cs ≡ ds → ◌≡◌ {A = Chains T} (record { chains = cs; room = room }) (record { chains = ds; room = room })
  named_alike cs ds room e = λ i. record { chains = e i; room = room }

  -- the lists after an id is inserted
  pub inserted_chains : (cs : List (List (ℕ × Member T))) (es : List Entry) (p key who : ℕ) (value : T) (nk next : Option ℕ) → IsIndexed cs es → p < length cs → nk ≡ key_found es next
      → ((id : ℕ) → next ≡ Some id → IsSome (value_in (chain_at (named_chains cs) p) id))
      → named_chains (set cs p (put_before nk (key, record { who = who; value = value }) (chain_at cs p))) ≡ set (named_chains cs) p (put_before next (who, value) (chain_at (named_chains cs) p))
  inserted_chains cs es p key who value nk next is hp nk_is h =
      chains_put nk next (key, record { who = who; value = value }) cs p hp
      (subst (λ o. All (λ (c : ℕ × Member T). is_key o c.0 ≡ is_key next c.1.who) (chain_at cs p)) (sym nk_is) (same_next cs es is next p hp h))

  -- empty lists
  pub indexed_empty : (n : ℕ) → IsIndexed (replicate {A = List (ℕ × Member T)} n []) []
  indexed_empty n =
      record {
        rising = λ i j d hij hj. absurd (omega (arith, hj));
        known = λ id e at. absurd (cc);
        listed = λ k d h. absurd (omega (arith, h, ap length (no_cells {T = Member T} n)));
        count = sym (ap length (no_cells {T = Member T} n));
      }

  pub named_empty : (n : ℕ) → named_chains (replicate n []) ≡ replicate {A = List (ℕ × T)} n []
  named_empty zero = refl
  named_empty (suc n) = ap (λ zs. [] ∷ zs) (named_empty n)
