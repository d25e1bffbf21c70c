-- The rows of a table, from its entries and slab.
use Rattle.std.proofs.Common.{◌≡◌, ℕ, zero, suc, ◌+◌, ◌<◌, true, false, cond, not, eqb, List, [], ◌∷◌, ◌++◌, map, length, get_or, take, drop, Option, None, Some, refl, sym, ap, ◌∙◌, subst, arith, ⊎_elim}
use Rattle.std.specs.Prelude.{nat_lt}
use Rattle.std.specs.Option.{IsSome, option_map}
use Rattle.std.specs.List.{AllPairs, All, find, cons_option, remove}
use Rattle.std.proofs.lemmas.Grind.{common_steps}
use Rattle.std.proofs.lemmas.Bool.{cases_eq, eq-eqb, ne_eqb}
use Rattle.std.proofs.lemmas.List.{get_or_default, get_or-map, length-map, length_push, length-append, length-take, length-drop, get_or-take, get_or-drop}
use Rattle.std.proofs.lemmas.List.Elements.{All-cons, All-push, All-append, filter_map-append}
use Rattle.std.proofs.lemmas.List.Quantifiers.{all_pairs_push, all_pairs_remove}
use Rattle.std.proofs.lemmas.Option.{same_Some}
use Rattle.slab.proofs.SlabLemmas.{Updates-with_value}
use Rattle.slab.specs.Slab.{Slab, get, slab_len, with_value, Updates}
use Rattle.id_table.specs.declared.entry.Entry.{Entry}
use Rattle.id_table.specs.Records.{of_id, Rising, StandsAt}
use Rattle.id_table.proofs.Halving.{none_of}
use Rattle.id_table.specs.Rows.{Rows, IsId, IsTable, Rises, row_id, row_object, ids, next_above, objects, object_of, with_object, without, IdsBelow}
use Rattle.id_table.specs.Entries.{entry_id}
use Rattle.id_table.specs.Inside.{row_at, rows_in, IsKept}

-- only the entry of an id has its key
pub alike_at : (order : List Entry) (id at : ℕ) (d : Entry) → AllPairs (λ c e. c.id < e.id) order → AllPairs (λ c e. c.key ≡ e.key → ⊥) order → StandsAt entry_id order id at
    → (k : ℕ) (e : Entry) → k < length order → eqb (get_or order k e).id id ≡ eqb (get_or order k e).key (get_or order at d).key
alike_at order id at d up apart stands k e hk =
    let here = stands.same e in
    let same = get_or_default order at d e stands.within in
    ⊎_elim
    (λ (q : k ≡ at). grind (arith, common_steps))
    (λ (ne : k ≡ at → ⊥).
    let ids : (get_or order k e).id ≡ id → ⊥ = λ i. grind (arith, up k at e, up at k e) in
    let keys : (get_or order k e).key ≡ (get_or order at d).key → ⊥ = λ i. grind (arith, apart k at e, apart at k e) in
    ne_eqb _ _ ids ∙ sym (ne_eqb _ _ keys))
    (cases_eq k at)

apart_at : (order : List Entry) (at : ℕ) (x : Entry) → AllPairs (λ c e. c.key ≡ e.key → ⊥) order → at < length order → x ≡ get_or order at x
    → (k : ℕ) (d : Entry) → k < length order → (k ≡ at → ⊥) → (get_or order k d).key ≡ x.key → ⊥
apart_at order at x apart hat here k d hk ne q =
    let q' : (get_or order k d).key ≡ (get_or order at d).key = q ∙ ap (λ e. e.key) (here ∙ get_or_default order at x d hat) in
    grind (arith, apart k at d, apart at k d)

fewer : (order : List Entry) (at : ℕ) → at < length order → length (remove order at) + 1 ≡ length order
fewer order at hat = omega (arith, length-append (take at order) (drop (suc at) order), length-take at order, length-drop (suc at) order)

-- no entry of a list has this id: not the first one, and none of the others
none_here : (e : Entry) (es : List Entry) (id : ℕ) → of_id entry_id (e ∷ es) id ≡ None → (eqb e.id id ≡ false) × (of_id entry_id es id ≡ None)
none_here e es id none =
    elim (eqb e.id id) as (λ b. cond b (Some e) (of_id entry_id es id) ≡ None → (b ≡ false) × (of_id entry_id es id ≡ None)) [ true ↦ λ q. absurd (cc) | false ↦ λ q. (refl, q) ] none

-- the ids of entries rise
rises_map : (order : List Entry) → AllPairs (λ c e. c.id < e.id) order → AllPairs (λ i j. i < j) (map (λ e. e.id) order)
rises_map [] up i j d hij hj = absurd (omega arith)
rises_map (x ∷ xs) up i j d hij hj =
    let within : j < length (x ∷ xs) = omega (arith, length-map (x ∷ xs) (λ (e : Entry). e.id)) in
    let at_i = get_or-map (λ (e : Entry). e.id) (x ∷ xs) i x d (omega arith) in
    let at_j = get_or-map (λ (e : Entry). e.id) (x ∷ xs) j x d within in
    omega (arith, at_i, at_j, up i j x hij within)

-- ---- rows
abbrev pub Present : {T : Type 0} → List Entry → Slab T → Type 0
Present order slots = All (λ e. IsSome (get slots e.key)) order

module _ {T : Type 0} where
  pub no_object : (o : Option T) → o ≡ None → IsSome o → ⊥
  no_object o e h = cc

  present_is : (slots : Slab T) (key : ℕ) → IsSome (get slots key) → (v : T) × (get slots key ≡ Some v)
  present_is slots key h = elim (get slots key) as (λ o. IsSome o → (v : T) × (o ≡ Some v)) [ None ↦ λ p. absurd (cc) | Some v ↦ λ p. (v, refl) ] h

  row_is : (slots : Slab T) (e : Entry) (es : List Entry) → IsSome (get slots e.key) → (v : T) × (get slots e.key ≡ Some v) × (rows_in (e ∷ es) slots ≡ (e.id, v) ∷ rows_in es slots)
  row_is slots e es h = let v = present_is slots e.key h in (v.0, v.1, ap (λ o. cons_option (option_map (λ x. (e.id, x)) o) (rows_in es slots)) v.1)

  rest_present : (slots : Slab T) (e : Entry) (es : List Entry) → Present (e ∷ es) slots → Present es slots
  rest_present slots e es h k d hk = h (suc k) d (omega arith)

  pub length-rows : (order : List Entry) (slots : Slab T) → Present order slots → length (rows_in order slots) ≡ length order
  length-rows [] slots h = refl
  length-rows (e ∷ es) slots h =
      let row = row_is slots e es (h 0 e (omega arith)) in
      ap length row.2 ∙ ap suc (length-rows es slots (rest_present slots e es h))

  -- a look-up that begins with a first row
  pub object_of-cons : (i : ℕ) (v : T) (rs : List (ℕ × T)) (id : ℕ) → object_of ((i, v) ∷ rs) id ≡ cond (eqb i id) (Some v) (object_of rs id)
  object_of-cons i v rs id =
      elim (eqb i id) as (λ b. option_map row_object (cond b (Some (i, v)) (of_id row_id rs id)) ≡ cond b (Some v) (object_of rs id)) [ true ↦ refl | false ↦ refl ]

  -- the object with an id is the one under its entry's key
  pub object_at : (order : List Entry) (slots : Slab T) (id at : ℕ) (d : Entry) → Present order slots → AllPairs (λ c e. c.id < e.id) order → StandsAt entry_id order id at
      → object_of (rows_in order slots) id ≡ get slots (get_or order at d).key
  object_at [] slots id at d h up stands = absurd (omega (arith, stands.within))
  object_at (e ∷ es) slots id zero d h up stands =
      let row = row_is slots e es (h 0 e (omega arith)) in
      let same : eqb e.id id ≡ true = eq-eqb e.id id (stands.same d) in
      ap (λ rs. object_of rs id) row.2 ∙ object_of-cons e.id row.0 (rows_in es slots) id ∙ ap (λ b. cond b (Some row.0) (object_of (rows_in es slots) id)) same ∙ sym row.1
  object_at (e ∷ es) slots id (suc at) d h up stands =
      let row = row_is slots e es (h 0 e (omega arith)) in
      let within : at < length es = omega (arith, stands.within) in
      let here : (get_or es at d).id ≡ id = stands.same d in
      let above : e.id < (get_or es at d).id = up 0 (suc at) d (omega arith) (omega arith) in
      let other : eqb e.id id ≡ false = ne_eqb e.id id (λ q. omega arith) in
      ap (λ rs. object_of rs id) row.2 ∙ object_of-cons e.id row.0 (rows_in es slots) id ∙ ap (λ b. cond b (Some row.0) (object_of (rows_in es slots) id)) other
      ∙ object_at es slots id at d (rest_present slots e es h) (λ i j c hij hj. up (suc i) (suc j) c (omega arith) (omega arith)) (record { within = within; same = stands.same })

  pub object_none : (order : List Entry) (slots : Slab T) (id : ℕ) → Present order slots → of_id entry_id order id ≡ None → object_of (rows_in order slots) id ≡ None
  object_none [] slots id h none = refl
  object_none (e ∷ es) slots id h none =
      let row = row_is slots e es (h 0 e (omega arith)) in
      let rest = none_here e es id none in
      ap (λ rs. object_of rs id) row.2 ∙ object_of-cons e.id row.0 (rows_in es slots) id ∙ ap (λ b. cond b (Some row.0) (object_of (rows_in es slots) id)) rest.0
      ∙ object_none es slots id (rest_present slots e es h) rest.1

  -- the live ids are those of the entries
  pub ids_rows : (order : List Entry) (slots : Slab T) → Present order slots → ids (rows_in order slots) ≡ map (λ e. e.id) order
  ids_rows [] slots h = refl
  ids_rows (e ∷ es) slots h =
      let row = row_is slots e es (h 0 e (omega arith)) in
      ap ids row.2 ∙ ap (λ is. e.id ∷ is) (ids_rows es slots (rest_present slots e es h))

  pub rows_rise : (order : List Entry) (slots : Slab T) → Present order slots → AllPairs (λ c e. c.id < e.id) order → Rises (rows_in order slots)
  rows_rise order slots h up = subst (λ is. AllPairs (λ i j. i < j) is) (sym (ids_rows order slots h)) (rises_map order up)

  rising_rows : (rs : List (ℕ × T)) → Rises rs → Rising row_id rs
  rising_rows rs up i j d hij hj =
      let within : j < length (ids rs) = omega (arith, length-map rs row_id) in
      let at_i = get_or-map row_id rs i d d.0 (omega arith) in
      let at_j = get_or-map row_id rs j d d.0 hj in
      omega (arith, at_i, at_j, up i j d.0 hij within)

  ranged_rows : (order : List Entry) (slots : Slab T) → Present order slots → All (λ e. IsId e.id) order → All (λ r. IsId r.0) (rows_in order slots)
  ranged_rows [] slots h ranged = λ k d hk. absurd (omega arith)
  ranged_rows (e ∷ es) slots h ranged =
      let row = row_is slots e es (h 0 e (omega arith)) in
      subst (All (λ r. IsId r.0)) (sym row.2)
      (All-cons (λ (r : ℕ × T). IsId r.0) (e.id, row.0) (rows_in es slots) (ranged 0 e (omega arith)) (ranged_rows es slots (rest_present slots e es h) (λ k d hk. ranged (suc k) d (omega arith))))

  -- the invariant of the rows
  pub rows_sound : (order : List Entry) (slots : Slab T) (room : ℕ) → IsKept order slots room → IsTable (record { rows = rows_in order slots; room = room })
  rows_sound order slots room is = record {
    few = omega (arith, length-rows order slots is.present, is.fits);
    rising = rising_rows (rows_in order slots) (rows_rise order slots is.present is.rising);
    ranged = ranged_rows order slots is.present is.ranged;
  }

  pub above_rows : (order : List Entry) (slots : Slab T) (n : ℕ) → Present order slots → next_above (rows_in order slots) n ≡ find (λ id. nat_lt n id) (map entry_id order)
  above_rows order slots n h = ap (find (λ id. nat_lt n id)) (ids_rows order slots h)

  -- if the keys of a list keep their objects, the rows stay
  pub rows_same : (order : List Entry) (old new : Slab T) → ((k : ℕ) (d : Entry) → k < length order → get new (get_or order k d).key ≡ get old (get_or order k d).key) → rows_in order new ≡ rows_in order old
  rows_same [] old new h = refl
  rows_same (e ∷ es) old new h =
      ap (λ o. cons_option (option_map (λ x. (e.id, x)) o) (rows_in es new)) (h 0 e (omega arith))
      ∙ ap (λ rs. cons_option (option_map (λ x. (e.id, x)) (get old e.key)) rs) (rows_same es old new (λ k d hk. h (suc k) d (omega arith)))

  -- the object of one key is overwritten
  pub rows_written : (order : List Entry) (old new : Slab T) (id key : ℕ) (w : T) → Present order old
      → ((k : ℕ) (d : Entry) → k < length order → eqb (get_or order k d).id id ≡ eqb (get_or order k d).key key)
      → ((j : ℕ) → get new j ≡ cond (eqb j key) (Some w) (get old j))
      → rows_in order new ≡ with_object (rows_in order old) id w
  rows_written [] old new id key w h alike says = refl
  rows_written (e ∷ es) old new id key w h alike says =
      let row = row_is old e es (h 0 e (omega arith)) in
      let ih = rows_written es old new id key w (rest_present old e es h) (λ k d hk. alike (suc k) d (omega arith)) says in
      let now : get new e.key ≡ cond (eqb e.id id) (Some w) (Some row.0) = says e.key ∙ ap (λ b. cond b (Some w) (get old e.key)) (sym (alike 0 e (omega arith))) ∙ ap (λ o. cond (eqb e.id id) (Some w) o) row.1 in
      ap (λ o. cons_option (option_map (λ x. (e.id, x)) o) (rows_in es new)) now
      ∙ ap (λ rs. cons_option (option_map (λ x. (e.id, x)) (cond (eqb e.id id) (Some w) (Some row.0))) rs) ih
      ∙ one_row e.id id w row.0 (rows_in es old)
      ∙ ap (λ rs. with_object rs id w) (sym row.2)
    where
      one_row : (i id : ℕ) (w v : T) (rs : List (ℕ × T)) → cons_option (option_map (λ x. (i, x)) (cond (eqb i id) (Some w) (Some v))) (with_object rs id w) ≡ with_object ((i, v) ∷ rs) id w
      one_row i id w v rs = elim (eqb i id) as (λ b. cons_option (option_map (λ x. (i, x)) (cond b (Some w) (Some v))) (with_object rs id w) ≡ cond b (i, w) (i, v) ∷ with_object rs id w) [ true ↦ refl | false ↦ refl ]

  kept_all : (order : List Entry) (slots : Slab T) (id : ℕ) → Present order slots → of_id entry_id order id ≡ None → without (rows_in order slots) id ≡ rows_in order slots
  kept_all [] slots id h none = refl
  kept_all (e ∷ es) slots id h none =
      let row = row_is slots e es (h 0 e (omega arith)) in
      let rest = none_here e es id none in
      ap (λ rs. without rs id) row.2
      ∙ ap (λ b. cond (not b) ((e.id, row.0) ∷ without (rows_in es slots) id) (without (rows_in es slots) id)) rest.0
      ∙ ap (λ rs. (e.id, row.0) ∷ rs) (kept_all es slots id (rest_present slots e es h) rest.1)
      ∙ sym row.2

  -- one row is added
  pub rows_pushed : (order : List Entry) (old new : Slab T) (e : Entry) (value : T) → ((k : ℕ) (d : Entry) → k < length order → get new (get_or order k d).key ≡ get old (get_or order k d).key)
      → get new e.key ≡ Some value → rows_in (order ++ e ∷ []) new ≡ rows_in order old ++ (e.id, value) ∷ []
  rows_pushed order old new e value same here =
      filter_map-append (row_at new) order (e ∷ [])
      ∙ ap (λ rs. rs ++ rows_in (e ∷ []) new) (rows_same order old new same)
      ∙ ap (λ o. rows_in order old ++ cons_option (option_map (λ x. (e.id, x)) o) []) here

  pub ids_below : (order : List Entry) (slots : Slab T) (n : ℕ) → Present order slots → IdsBelow n (rows_in order slots) → (k : ℕ) (d : Entry) → k < length order → (get_or order k d).id < n
  ids_below [] slots n h below k d hk = absurd (omega arith)
  ids_below (e ∷ es) slots n h below zero d hk =
      let row = row_is slots e es (h 0 e (omega arith)) in
      let all : IdsBelow n ((e.id, row.0) ∷ rows_in es slots) = subst (IdsBelow n) row.2 below in
      all 0 (e.id, row.0) (omega arith)
  ids_below (e ∷ es) slots n h below (suc k) d hk =
      let row = row_is slots e es (h 0 e (omega arith)) in
      let all : IdsBelow n ((e.id, row.0) ∷ rows_in es slots) = subst (IdsBelow n) row.2 below in
      ids_below es slots n (rest_present slots e es h) (λ j c hj. all (suc j) c (omega arith)) k d (omega arith)

  -- the object of one key is removed
  pub rows_removed : (order : List Entry) (old new : Slab T) (id at : ℕ) → Present order old → AllPairs (λ c e. c.id < e.id) order → StandsAt entry_id order id at
      → ((k : ℕ) (d : Entry) → k < length order → (k ≡ at → ⊥) → get new (get_or order k d).key ≡ get old (get_or order k d).key)
      → rows_in (remove order at) new ≡ without (rows_in order old) id
  rows_removed [] old new id at h up stands says = absurd (omega (arith, stands.within))
  rows_removed (e ∷ es) old new id zero h up stands says =
      let row = row_is old e es (h 0 e (omega arith)) in
      let same : eqb e.id id ≡ true = eq-eqb e.id id (stands.same e) in
      rows_same es old new (λ k d hk. says (suc k) d (omega arith) (λ q. omega arith))
      ∙ sym (kept_all es old id (rest_present old e es h) (none_of entry_id es id (λ k d hk q. let above : e.id < (get_or es k d).id = up 0 (suc k) d (omega arith) (omega arith) in let here : e.id ≡ id = stands.same e in omega arith)))
      ∙ ap (λ b. cond (not b) ((e.id, row.0) ∷ without (rows_in es old) id) (without (rows_in es old) id)) (sym same)
      ∙ ap (λ rs. without rs id) (sym row.2)
  rows_removed (e ∷ es) old new id (suc at) h up stands says =
      let row = row_is old e es (h 0 e (omega arith)) in
      let within : at < length es = omega (arith, stands.within) in
      let here : (get_or es at e).id ≡ id = stands.same e in
      let above : e.id < (get_or es at e).id = up 0 (suc at) e (omega arith) (omega arith) in
      let other : eqb e.id id ≡ false = ne_eqb e.id id (λ q. omega arith) in
      let ih = rows_removed es old new id at (rest_present old e es h) (λ i j c hij hj. up (suc i) (suc j) c (omega arith) (omega arith)) (record { within = within; same = stands.same })
      (λ k d hk ne. says (suc k) d (omega arith) (λ q. ne (omega arith))) in
      let mine : get new e.key ≡ Some row.0 = says 0 e (omega arith) (λ q. omega arith) ∙ row.1 in
      ap (λ o. cons_option (option_map (λ x. (e.id, x)) o) (rows_in (remove es at) new)) mine
      ∙ ap (λ rs. (e.id, row.0) ∷ rs) ih
      ∙ ap (λ b. cond (not b) ((e.id, row.0) ∷ without (rows_in es old) id) (without (rows_in es old) id)) (sym other)
      ∙ ap (λ rs. without rs id) (sym row.2)

  -- what a slab holds after one write
  pub with_value_says : (slots : Slab T) (key : ℕ) (w : T) → IsSome (get slots key) → (j : ℕ) → get (with_value slots key w) j ≡ cond (eqb j key) (Some w) (get slots j)
  with_value_says slots key w h j =
      let u = Updates-with_value slots key w h in
      ⊎_elim
      (λ (e : j ≡ key). ap (get (with_value slots key w)) e ∙ u.changed ∙ ap (λ b. cond b (Some w) (get slots j)) (sym (eq-eqb j key e)))
      (λ (ne : j ≡ key → ⊥). u.others j ne ∙ ap (λ b. cond b (Some w) (get slots j)) (sym (ne_eqb j key ne)))
      (cases_eq j key)

  -- a write through a key is a write of the object with its id
  pub object_written : (order : List Entry) (slots : Slab T) (room id at : ℕ) (x : Entry) (v w : T) → IsKept order slots room → StandsAt entry_id order id at → x ≡ get_or order at x → get slots x.key ≡ Some v
      → rows_in order (with_value slots x.key w) ≡ with_object (rows_in order slots) id w
  object_written order slots room id at x v w is stands here has =
      rows_written order slots (with_value slots x.key w) id x.key w is.present
      (λ k e hk. alike_at order id at x is.rising is.apart stands k e hk ∙ ap (λ y. eqb (get_or order k e).key y.key) (sym here))
      (with_value_says slots x.key w (subst (λ o. IsSome o) (sym has) refl))

  -- the invariant and the rows after an object is added
  pub IsKept-push : (order : List Entry) (old new : Slab T) (room : ℕ) (e : Entry) (value : T) → IsKept order old room → length order < room
      → Updates old new e.key (Some value) → get old e.key ≡ None → slab_len new ≡ slab_len old + 1 → new.capacity ≡ old.capacity
      → ((k : ℕ) (d : Entry) → k < length order → (get_or order k d).id < e.id) → IsId e.id
      → IsKept (order ++ e ∷ []) new room × (rows_in (order ++ e ∷ []) new ≡ rows_in order old ++ (e.id, value) ∷ [])
  IsKept-push order old new room e value is few u vacant len roomy below ranged =
      let apart : (k : ℕ) (d : Entry) → k < length order → (get_or order k d).key ≡ e.key → ⊥ = λ k d hk q.
      let none : get old (get_or order k d).key ≡ None = ap (get old) q ∙ vacant in
      no_object (get old (get_or order k d).key) none (is.present k d hk) in
      let same : (k : ℕ) (d : Entry) → k < length order → get new (get_or order k d).key ≡ get old (get_or order k d).key = λ k d hk. u.others (get_or order k d).key (apart k d hk) in (
        record {
          present = All-push (λ d. IsSome (get new d.key)) order e (λ k d hk. subst (λ o. IsSome o) (sym (same k d hk)) (is.present k d hk)) (subst (λ o. IsSome o) (sym u.changed) refl);
          apart = all_pairs_push (λ c d. c.key ≡ d.key → ⊥) order e is.apart apart;
          rising = all_pairs_push (λ c d. c.id < d.id) order e is.rising below;
          ranged = All-push (λ d. IsId d.id) order e is.ranged ranged;
          all = len ∙ ap (λ n. n + 1) is.all ∙ sym (length_push order e);
          fits = omega (arith, length_push order e);
          space = omega (arith, is.space, roomy);
        },
        rows_pushed order old new e value same u.changed,
      )

  -- and after one is removed
  pub IsKept-remove : (order : List Entry) (old new : Slab T) (room id at : ℕ) (x : Entry) → IsKept order old room → StandsAt entry_id order id at → x ≡ get_or order at x
      → Updates old new x.key None → slab_len new + 1 ≡ slab_len old → new.capacity ≡ old.capacity
      → IsKept (remove order at) new room × (rows_in (remove order at) new ≡ without (rows_in order old) id)
  IsKept-remove order old new room id at x is stands here u len roomy =
      let same : (k : ℕ) (d : Entry) → k < length order → (k ≡ at → ⊥) → get new (get_or order k d).key ≡ get old (get_or order k d).key = λ k d hk ne.
      u.others (get_or order k d).key (λ q. apart_at order at x is.apart stands.within here k d hk ne q) in (
        record {
          present = All-append (λ d. IsSome (get new d.key)) (take at order) (drop (suc at) order)
              (λ k d hk. let wk : k < at = omega (arith, length-take at order) in
              subst (λ e. IsSome (get new e.key)) (sym (get_or-take at order k d wk)) (subst (λ o. IsSome o) (sym (same k d (omega (arith, stands.within)) (λ q. omega arith))) (is.present k d (omega (arith, stands.within)))))
              (λ k d hk. let wk : suc at + k < length order = omega (arith, length-drop (suc at) order) in
              subst (λ e. IsSome (get new e.key)) (sym (get_or-drop (suc at) order k d)) (subst (λ o. IsSome o) (sym (same (suc at + k) d wk (λ q. omega arith))) (is.present (suc at + k) d wk)));
          apart = all_pairs_remove (λ c d. c.key ≡ d.key → ⊥) order at stands.within is.apart;
          rising = all_pairs_remove (λ c d. c.id < d.id) order at stands.within is.rising;
          ranged = All-append (λ d. IsId d.id) (take at order) (drop (suc at) order)
              (λ k d hk. let wk : k < at = omega (arith, length-take at order) in subst (λ e. IsId e.id) (sym (get_or-take at order k d wk)) (is.ranged k d (omega (arith, stands.within))))
              (λ k d hk. let wk : suc at + k < length order = omega (arith, length-drop (suc at) order) in subst (λ e. IsId e.id) (sym (get_or-drop (suc at) order k d)) (is.ranged (suc at + k) d wk));
          all = omega (arith, len, is.all, fewer order at stands.within);
          fits = omega (arith, is.fits, fewer order at stands.within);
          space = omega (arith, is.space, roomy);
        },
        rows_removed order old new id at is.present is.rising stands same,
      )

  pub rows_alike : (rs us : List (ℕ × T)) (n : ℕ) → rs ≡ us → ◌≡◌ {A = Rows T} (record { rows = rs; room = n }) (record { rows = us; room = n })
  rows_alike rs us n e = λ i. record { rows = e i; room = n }

  -- no entry has this id, so nothing changes
  pub without_none : (order : List Entry) (slots : Slab T) (room id : ℕ) → IsKept order slots room → of_id entry_id order id ≡ None → rows_in order slots ≡ without (rows_in order slots) id
  without_none order slots room id is none = sym (kept_all order slots id is.present none)

  -- the object at a position is the one under its key
  pub object_in : (order : List Entry) (slots : Slab T) (k : ℕ) (d : Entry) (v : T) → Present order slots → k < length order → get slots (get_or order k d).key ≡ Some v
      → v ≡ get_or (objects (rows_in order slots)) k v
  object_in [] slots k d v h hk e = absurd (omega arith)
  object_in (x ∷ xs) slots zero d v h hk e =
      let row = row_is slots x xs (h 0 x (omega arith)) in
      same_Some v row.0 (sym e ∙ row.1) ∙ ap (λ rs. get_or (objects rs) 0 v) (sym row.2)
  object_in (x ∷ xs) slots (suc k) d v h hk e =
      let row = row_is slots x xs (h 0 x (omega arith)) in
      object_in xs slots k d v (rest_present slots x xs h) (omega arith) e ∙ ap (λ rs. get_or (objects rs) (suc k) v) (sym row.2)
