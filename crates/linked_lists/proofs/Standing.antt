-- The contents of one list by id: its first id, the id after an id, another value.
use Rattle.std.proofs.Common.{◌≡◌, ℕ, ◌<◌, ◌≤◌, true, false, cond, eqb, List, [], ◌∷◌, ◌++◌, map, length, Option, None, Some, refl, sym, ap, ◌∙◌, subst, arith, ⊎_elim}
use Rattle.std.specs.Option.{option_map}
use Rattle.std.specs.List.{All}
use Rattle.std.proofs.lemmas.Bool.{cases_lt, eqb-true, eqb-false}
use Rattle.std.proofs.lemmas.List.{get_or_past, length-map, length-append}
use Rattle.std.proofs.lemmas.List.Elements.{All-cons, All-head, All-tail, All-weaker}
use Rattle.std.proofs.lemmas.Option.{same_Some}
use Rattle.id_table.specs.Records.{of_id}
use Rattle.id_table.specs.declared.entry.Entry.{Entry}
use Rattle.linked_lists.specs.declared.id_lists.Member.{Member}
use Rattle.linked_lists.specs.Chains.{cell_key, all_cells, chain_at, first_key, value_in, value_of, first_value, hold, ValueIs, NextIs, Apart}
use Rattle.id_table.specs.Entries.{entry_id}
use Rattle.linked_lists.specs.Named.{member_id, named_cell, named_chains, entry_of, IsIndexed}
use Rattle.linked_lists.proofs.Naming.{IsAlike, all_back, all_chain, all_prefix, cells_alike, first_cell, head_same, named_at, no_cell, no_first, one_cell, tail_same, value_alike}

module _ {T : Type 0} where
  -- ---- the contents of one list
  abbrev IsListed : List Entry → ℕ × Member T → Type 0
  IsListed es c = of_id entry_id es c.1.who ≡ Some (entry_of c)

  unvalued : (o : Option (ℕ × T)) → option_map (λ (c : ℕ × T). c.1) o ≡ None → o ≡ None
  unvalued None e = refl
  unvalued (Some c) e = absurd (cc)

  named_apart : (cs : List (List (ℕ × Member T))) (es : List Entry) → IsIndexed cs es → (xs : List (ℕ × Member T)) → All (IsListed es) xs → Apart xs → Apart (map named_cell xs)
  named_apart cs es is [] all a = tt
  named_apart cs es is (x ∷ xs) all a =
      let alike = All-weaker (IsListed es) (IsAlike x.0 x.1.who) (one_cell cs es is x.1.who (entry_of x) (All-head (IsListed es) x xs all)) xs (All-tail (IsListed es) x xs all) in (
        unvalued (of_id cell_key (map named_cell xs) x.1.who)
            (value_alike x.0 x.1.who xs alike ∙ ap (λ o. option_map (λ (m : Member T). m.value) (option_map (λ (c : ℕ × Member T). c.1) o)) a.0),
        named_apart cs es is xs (All-tail (IsListed es) x xs all) a.1,
      )

  pub apart_at : (cs : List (List (ℕ × Member T))) (es : List Entry) (p : ℕ) → IsIndexed cs es → p < length cs → Apart (chain_at cs p) → Apart (chain_at (named_chains cs) p)
  apart_at cs es p is hp a = subst Apart (sym (named_at cs p hp)) (named_apart cs es is (chain_at cs p) (all_chain (IsListed es) cs p hp is.listed) a)

  pub first_value_named : (cs : List (List (ℕ × Member T))) (p k : ℕ) (m : Member T) → p < length cs → first_key (chain_at cs p) ≡ Some k → ValueIs cs k m → Some m.value ≡ first_value (chain_at (named_chains cs) p)
  first_value_named cs p k m hp first same =
      let cell = first_cell (chain_at cs p) k first in
      ap (λ (n : Member T). Some n.value) (sym (same p [] cell.1 cell.0 cell.2)) ∙ sym (ap first_value (named_at cs p hp ∙ ap (map named_cell) cell.2))

  pub first_value_none : (cs : List (List (ℕ × Member T))) (p : ℕ) → p < length cs → first_key (chain_at cs p) ≡ None → None ≡ first_value (chain_at (named_chains cs) p)
  first_value_none cs p hp none = sym (ap first_value (named_at cs p hp ∙ ap (map named_cell) (no_first (chain_at cs p) none)))

  -- ---- the id after an id
  record Unnamed_at (xs : List (ℕ × Member T)) (who : ℕ) (back : List (ℕ × T)) : Type 0 where
    prefix : List (ℕ × Member T)
    cell : ℕ × Member T
    rest : List (ℕ × Member T)
    whole : xs ≡ prefix ++ cell ∷ rest
    id_is : cell.1.who ≡ who
    back_is : map named_cell rest ≡ back

  unnamed_at : (xs : List (ℕ × Member T)) (who : ℕ) (value : T) (prefix back : List (ℕ × T)) → map named_cell xs ≡ prefix ++ (who, value) ∷ back → Unnamed_at xs who back
  unnamed_at [] who value [] back e = absurd (cc)
  unnamed_at [] who value (f ∷ fs) back e = absurd (cc)
  unnamed_at (x ∷ xs) who value [] back e =
      record { prefix = []; cell = x; rest = xs; whole = refl; id_is = ap (λ c. c.0) (head_same (named_cell x) (who, value) (map named_cell xs) back e); back_is = tail_same (named_cell x) (who, value) (map named_cell xs) back e }
  unnamed_at (x ∷ xs) who value (f ∷ fs) back e =
      let found = unnamed_at xs who value fs back (tail_same (named_cell x) f (map named_cell xs) (fs ++ (who, value) ∷ back) e) in
      record { prefix = x ∷ found.prefix; cell = found.cell; rest = found.rest; whole = ap (λ zs. x ∷ zs) found.whole; id_is = found.id_is; back_is = found.back_is }

  -- the key after an entry's key has the id after its id
  pub next_key : (cs : List (List (ℕ × Member T))) (es : List Entry) (who : ℕ) (e : Entry) (next : Option ℕ) → IsIndexed cs es → of_id entry_id es who ≡ Some e → NextIs cs e.key next
      → (list : ℕ) (prefix back : List (ℕ × T)) (value : T) → chain_at (named_chains cs) list ≡ prefix ++ (who, value) ∷ back
      → (rest : List (ℕ × Member T)) × (next ≡ first_key rest) × (map named_cell rest ≡ back) × All (IsListed es) rest
  next_key cs es who e next is at after list prefix back value whole =
      ⊎_elim
      (λ (hp : list < length cs).
      let found = unnamed_at (chain_at cs list) who value prefix back (sym (named_at cs list hp) ∙ whole) in
      let listed = subst (All (IsListed es)) found.whole (all_chain (IsListed es) cs list hp is.listed) in
      let tail = all_back (IsListed es) found.prefix (found.cell ∷ found.rest) listed in
      let here : of_id entry_id es found.cell.1.who ≡ Some (entry_of found.cell) = All-head (IsListed es) found.cell found.rest tail in
      let key : found.cell.0 ≡ e.key = ap (λ (x : Entry). x.key) (same_Some (entry_of found.cell) e (sym here ∙ ap (of_id entry_id es) found.id_is ∙ at)) in (
        found.rest,
        after list found.prefix found.rest found.cell.1 (found.whole ∙ ap (λ k. found.prefix ++ (k, found.cell.1) ∷ found.rest) key),
        found.back_is,
        All-tail (IsListed es) found.cell found.rest tail,
      ))
      (λ (past : length cs ≤ list).
      absurd (omega (arith, ap length (sym (get_or_past (named_chains cs) list [] (omega (arith, past, length-map cs (map named_cell)))) ∙ whole), length-append prefix ((who, value) ∷ back))))
      (cases_lt list (length cs))

  -- an id without an entry is in no list
  pub no_stand : (cs : List (List (ℕ × Member T))) (es : List Entry) (who : ℕ) → IsIndexed cs es → of_id entry_id es who ≡ None
      → (list : ℕ) (prefix back : List (ℕ × T)) (value : T) → chain_at (named_chains cs) list ≡ prefix ++ (who, value) ∷ back → ⊥
  no_stand cs es who is none list prefix back value whole =
      ⊎_elim
      (λ (hp : list < length cs).
      let found = unnamed_at (chain_at cs list) who value prefix back (sym (named_at cs list hp) ∙ whole) in
      let all = subst (All (λ (c : ℕ × Member T). eqb c.1.who who ≡ false)) found.whole (all_chain (λ c. eqb c.1.who who ≡ false) cs list hp (no_cell cs es is who none)) in
      eqb-false found.cell.1.who who (All-head (λ (c : ℕ × Member T). eqb c.1.who who ≡ false) found.cell found.rest (all_back (λ c. eqb c.1.who who ≡ false) found.prefix (found.cell ∷ found.rest) all)) found.id_is)
      (λ (past : length cs ≤ list).
      absurd (omega (arith, ap length (sym (get_or_past (named_chains cs) list [] (omega (arith, past, length-map cs (map named_cell)))) ∙ whole), length-append prefix ((who, value) ∷ back))))
      (cases_lt list (length cs))

  pub next_none : (rest : List (ℕ × Member T)) (back : List (ℕ × T)) → None ≡ first_key rest → map named_cell rest ≡ back → None ≡ first_key back
  next_none [] back e same = ap first_key same
  next_none (x ∷ xs) back e same = absurd (cc)

  pub next_named : (cs : List (List (ℕ × Member T))) (es : List Entry) (rest : List (ℕ × Member T)) (back : List (ℕ × T)) (k : ℕ) (m : Member T) → IsIndexed cs es → Some k ≡ first_key rest → map named_cell rest ≡ back
      → All (IsListed es) rest → value_of cs k ≡ Some m → Some m.who ≡ first_key back
  next_named cs es [] back k m is e same listed value = absurd (cc)
  next_named cs es (x ∷ xs) back k m is e same listed value =
      let here : of_id entry_id es x.1.who ≡ Some (entry_of x) = All-head (IsListed es) x xs listed in
      sym (ap (option_map member_id) value) ∙ ap (λ n. option_map member_id (value_of cs n)) (same_Some k x.0 e) ∙ is.known x.1.who (entry_of x) here ∙ ap first_key same

  -- ---- another value
  hold_alike : (key who : ℕ) (value : T) (cs : List (ℕ × Member T)) → All (IsAlike key who) cs → map named_cell (hold key (record { who = who; value = value }) cs) ≡ hold who value (map named_cell cs)
  hold_alike key who value [] all = refl
  hold_alike key who value (c ∷ cs) all =
      let here : eqb c.0 key ≡ eqb c.1.who who = All-head (IsAlike key who) c cs all in
      let m : Member T = record { who = who; value = value } in
      let rest = hold_alike key who value cs (All-tail (IsAlike key who) c cs all) in
      ap (λ b. named_cell (cond b (c.0, m) c) ∷ map named_cell (hold key m cs)) here
      ∙ elim (eqb c.1.who who) as (λ b. eqb c.1.who who ≡ b → named_cell (cond b (c.0, m) c) ∷ map named_cell (hold key m cs) ≡ cond b (c.1.who, value) (named_cell c) ∷ hold who value (map named_cell cs)) [
        | true ↦ λ e. ap (λ n. (n, value) ∷ map named_cell (hold key m cs)) (sym (eqb-true c.1.who who e)) ∙ ap (λ zs. (c.1.who, value) ∷ zs) rest
        | false ↦ λ e. ap (λ zs. named_cell c ∷ zs) rest
      ] refl

  pub chains_hold : (key who : ℕ) (value : T) (cs : List (List (ℕ × Member T))) → All (IsAlike key who) (all_cells cs)
      → named_chains (map (hold key (record { who = who; value = value })) cs) ≡ map (hold who value) (named_chains cs)
  chains_hold key who value [] all = refl
  chains_hold key who value (c ∷ cs) all =
      λ i. hold_alike key who value c (all_prefix (IsAlike key who) c (all_cells cs) all) i ∷ chains_hold key who value cs (all_back (IsAlike key who) c (all_cells cs) all) i

  cells_hold : (key : ℕ) (m : Member T) (cs : List (List (ℕ × Member T))) → all_cells (map (hold key m) cs) ≡ hold key m (all_cells cs)
  cells_hold key m [] = refl
  cells_hold key m (c ∷ cs) = ap (λ zs. hold key m c ++ zs) (cells_hold key m cs) ∙ joined c
    where
      joined : (xs : List (ℕ × Member T)) → hold key m xs ++ hold key m (all_cells cs) ≡ hold key m (xs ++ all_cells cs)
      joined [] = refl
      joined (x ∷ xs) = ap (λ zs. cond (eqb x.0 key) (x.0, m) x ∷ zs) (joined xs)

  ids_hold : (key who : ℕ) (value : T) (cs : List (ℕ × Member T)) (k : ℕ) → All (IsAlike key who) cs
      → option_map member_id (value_in (hold key (record { who = who; value = value }) cs) k) ≡ option_map member_id (value_in cs k)
  ids_hold key who value [] k all = refl
  ids_hold key who value (c ∷ cs) k all =
      let here : eqb c.0 key ≡ eqb c.1.who who = All-head (IsAlike key who) c cs all in
      let m : Member T = record { who = who; value = value } in
      let rest = ids_hold key who value cs k (All-tail (IsAlike key who) c cs all) in
      elim (eqb c.0 key) as (λ b. eqb c.0 key ≡ b → option_map member_id (option_map (λ (x : ℕ × Member T). x.1) (cond (eqb (cond b (c.0, m) c).0 k) (Some (cond b (c.0, m) c)) (of_id cell_key (hold key m cs) k)))
      ≡ option_map member_id (option_map (λ (x : ℕ × Member T). x.1) (cond (eqb c.0 k) (Some c) (of_id cell_key cs k)))) [
        | true ↦ λ e.
            elim (eqb c.0 k) as (λ t. option_map member_id (option_map (λ (x : ℕ × Member T). x.1) (cond t (Some (c.0, m)) (of_id cell_key (hold key m cs) k)))
            ≡ option_map member_id (option_map (λ (x : ℕ × Member T). x.1) (cond t (Some c) (of_id cell_key cs k)))) [
              | true ↦ ap (λ n. Some n) (sym (eqb-true c.1.who who (sym here ∙ e)))
              | false ↦ rest
            ]
        | false ↦ λ e.
            elim (eqb c.0 k) as (λ t. option_map member_id (option_map (λ (x : ℕ × Member T). x.1) (cond t (Some c) (of_id cell_key (hold key m cs) k)))
            ≡ option_map member_id (option_map (λ (x : ℕ × Member T). x.1) (cond t (Some c) (of_id cell_key cs k)))) [
              | true ↦ refl
              | false ↦ rest
            ]
      ] refl

  listed_hold : (es : List Entry) (key who : ℕ) (value : T) (cs : List (ℕ × Member T)) → All (IsAlike key who) cs → All (IsListed es) cs → All (IsListed es) (hold key (record { who = who; value = value }) cs)
  listed_hold es key who value [] alike all = all
  listed_hold es key who value (c ∷ cs) alike all =
      let here : eqb c.0 key ≡ eqb c.1.who who = All-head (IsAlike key who) c cs alike in
      let m : Member T = record { who = who; value = value } in
      let rest = listed_hold es key who value cs (All-tail (IsAlike key who) c cs alike) (All-tail (IsListed es) c cs all) in
      let own : of_id entry_id es c.1.who ≡ Some (entry_of c) = All-head (IsListed es) c cs all in
      elim (eqb c.0 key) as (λ b. eqb c.0 key ≡ b → All (IsListed es) (cond b (c.0, m) c ∷ hold key m cs)) [
        | true ↦ λ e.
            All-cons (IsListed es) (c.0, m) (hold key m cs)
            (subst (λ n. of_id entry_id es n ≡ Some (record { id = n; key = c.0 })) (eqb-true c.1.who who (sym here ∙ e)) own) rest
        | false ↦ λ e. All-cons (IsListed es) c (hold key m cs) own rest
      ] refl

  pub indexed_hold : (cs : List (List (ℕ × Member T))) (es : List Entry) (who : ℕ) (value : T) (e : Entry) → IsIndexed cs es → of_id entry_id es who ≡ Some e
      → IsIndexed (map (hold e.key (record { who = who; value = value })) cs) es
  indexed_hold cs es who value e is at =
      let m : Member T = record { who = who; value = value } in
      let alike = cells_alike cs es is who e at in
      let cells = cells_hold e.key m cs in
      record {
        rising = is.rising;
        known = λ id x there. ap (λ zs. option_map member_id (value_in zs x.key)) cells ∙ ids_hold e.key who value (all_cells cs) x.key alike ∙ is.known id x there;
        listed = subst (All (IsListed es)) (sym cells) (listed_hold es e.key who value (all_cells cs) alike is.listed);
        count = is.count ∙ sym (ap length cells ∙ length-map (all_cells cs) (λ (c : ℕ × Member T). cond (eqb c.0 e.key) (c.0, m) c));
      }
