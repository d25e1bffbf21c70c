-- Going along modules by rising id.
use Rattle.std.proofs.Common.{◌≡◌, ℕ, suc, ◌<◌, ◌≤◌, true, false, cond, ltb, List, [], ◌∷◌, ◌++◌, append_assoc, get_or, length, map, Some, None, refl, sym, ap, ◌∙◌, arith}
use Rattle.std.specs.List.{All, AllByRecursion, filter, find, flat_map}
use Rattle.std.specs.Option.{option_map}
use Rattle.std.proofs.lemmas.Bool.{lt-ltb, le-ltb, ltb-true, ltb-false, eq-eqb, ne_eqb}
use Rattle.std.proofs.lemmas.List.Elements.{All-head, All-tail}
use Rattle.id_table.specs.Records.{Rising, of_id}
use Rattle.id_table.specs.Rows.{row_id, row_object, next_above, object_of}
use Rattle.module_loader.specs.declared.module.LoadedModule.{LoadedModule}
use Rattle.module_loader.specs.Modules.{HasIdent}

abbrev Row : Type 0
Row = ℕ × LoadedModule

-- the modules whose ids are above a number
abbrev pub above : ℕ → List Row → List Row
above n rs = filter (λ r. ltb n r.0) rs

-- the ids rise along the list
abbrev Rise : List Row → Type 0
Rise [] = Unit {0}
Rise (r ∷ rs) = AllByRecursion (λ u. r.0 < u.0) rs × Rise rs

head_below : (r : Row) (rs : List Row) → ((k : ℕ) (d : Row) → k < length rs → r.0 < (get_or rs k d).0) → AllByRecursion (λ u. r.0 < u.0) rs
head_below r [] f = tt
head_below r (u ∷ us) f = (f 0 u (omega arith), head_below r us (λ k d less. f (suc k) d (omega arith)))

rise : (rs : List Row) → Rising row_id rs → Rise rs
rise [] up = tt
rise (r ∷ rs) up = (
  head_below r rs (λ k d less. up 0 (suc k) d (omega arith) (omega arith)),
  rise rs (λ i j d less within. up (suc i) (suc j) d (omega arith) (omega arith)),
)

-- all are above a number
all_above : (n : ℕ) (rs : List Row) → AllByRecursion (λ u. n < u.0) rs → above n rs ≡ rs
all_above n [] ps = refl
all_above n (r ∷ rs) ps = ap (λ b. cond b (r ∷ above n rs) (above n rs)) (lt-ltb n r.0 ps.0) ∙ ap (λ us. r ∷ us) (all_above n rs ps.1)

lower : (m n : ℕ) (rs : List Row) → m ≤ n → AllByRecursion (λ u. n < u.0) rs → AllByRecursion (λ u. m < u.0) rs
lower m n [] le ps = tt
lower m n (r ∷ rs) le ps = ((let p = ps.0 in omega arith), lower m n rs le ps.1)

-- each id is above 0
pub from_first : (rs : List Row) → All HasIdent rs → above 0 rs ≡ rs
from_first [] all = refl
from_first (r ∷ rs) all =
    ap (λ b. cond b (r ∷ above 0 rs) (above 0 rs)) (lt-ltb 0 r.0 (All-head HasIdent r rs all).0)
    ∙ ap (λ us. r ∷ us) (from_first rs (All-tail HasIdent r rs all))

-- none is above a number
pub none_above : (n : ℕ) (rs : List Row) → next_above rs n ≡ None → above n rs ≡ []
none_above n [] e = refl
none_above n (r ∷ rs) e =
    elim (ltb n r.0) as (λ b. cond b (Some r.0) (find (λ id. ltb n id) (map row_id rs)) ≡ None → cond b (r ∷ above n rs) (above n rs) ≡ []) [
      | true ↦ λ q. absurd (cc)
      | false ↦ λ q. none_above n rs q
    ] e

-- the next id is above the number
pub next_rises : (n : ℕ) (rs : List Row) (id : ℕ) → next_above rs n ≡ Some id → n < id
next_rises n [] id e = absurd (cc)
next_rises n (r ∷ rs) id e =
    elim (ltb n r.0) as (λ b. ltb n r.0 ≡ b → cond b (Some r.0) (find (λ id. ltb n id) (map row_id rs)) ≡ Some id → n < id) [
      | true ↦ λ t q. (let same : r.0 ≡ id = cc in let less : n < r.0 = ltb-true n r.0 t in omega arith)
      | false ↦ λ t q. next_rises n rs id q
    ] refl e

-- the first of the list is the one, or not
first_is : (r : Row) (rs : List Row) (id : ℕ) (m : LoadedModule) → r.0 ≡ id → object_of (r ∷ rs) id ≡ Some m → r ≡ (id, m)
first_is r rs id m same o =
    let here : Some r.1 ≡ Some m = sym (ap (λ t. option_map row_object (cond t (Some r) (of_id row_id rs id))) (eq-eqb r.0 id same)) ∙ o in
    let module_is : r.1 ≡ m = cc in
    ap (λ i. (i, r.1)) same ∙ ap (λ x. (id, x)) module_is

not_first : (r : Row) (rs : List Row) (id : ℕ) → r.0 < id → object_of (r ∷ rs) id ≡ object_of rs id
not_first r rs id less = ap (λ t. option_map row_object (cond t (Some r) (of_id row_id rs id))) (ne_eqb r.0 id (λ e. omega (arith, less, e)))

-- the first of the list is not above a number
not_above : (r : Row) (rs : List Row) (id : ℕ) → r.0 ≤ id → above id (r ∷ rs) ≡ above id rs
not_above r rs id le = ap (λ b. cond b (r ∷ above id rs) (above id rs)) (le-ltb id r.0 le)

-- the module with the next id comes before those above it
split : (n : ℕ) (rs : List Row) (id : ℕ) (m : LoadedModule) → Rise rs → next_above rs n ≡ Some id → object_of rs id ≡ Some m → above n rs ≡ (id, m) ∷ above id rs
split n [] id m up e o = absurd (cc)
split n (r ∷ rs) id m up e o =
    elim (ltb n r.0) as (λ b. ltb n r.0 ≡ b → cond b (Some r.0) (find (λ id. ltb n id) (map row_id rs)) ≡ Some id → cond b (r ∷ above n rs) (above n rs) ≡ (id, m) ∷ above id (r ∷ rs)) [
      | true ↦ λ t q. (
          let same : r.0 ≡ id = cc in
          let less : n < r.0 = ltb-true n r.0 t in
          let le : n ≤ r.0 = omega arith in
          let ge : r.0 ≤ id = omega arith in
          let to : id ≤ r.0 = omega arith in
          ap (λ us. r ∷ us) (all_above n rs (lower n r.0 rs le up.0))
          ∙ ap (λ v. v ∷ rs) (first_is r rs id m same o)
          ∙ ap (λ us. (id, m) ∷ us) (sym (not_above r rs id ge ∙ all_above id rs (lower id r.0 rs to up.0))))
      | false ↦ λ t q. (
          let low : r.0 ≤ n = ltb-false n r.0 t in
          let high : n < id = next_rises n rs id q in
          let less : r.0 < id = omega arith in
          let le : r.0 ≤ id = omega arith in
          split n rs id m up.1 q (sym (not_first r rs id less) ∙ o)
          ∙ ap (λ us. (id, m) ∷ us) (sym (not_above r rs id le)))
    ] refl e

-- the next id has a module
pub is_live : (n : ℕ) (rs : List Row) (id : ℕ) → next_above rs n ≡ Some id → object_of rs id ≡ None → ⊥
is_live n [] id e o = absurd (cc)
is_live n (r ∷ rs) id e o =
    elim (ltb n r.0) as (λ b. ltb n r.0 ≡ b → cond b (Some r.0) (find (λ id. ltb n id) (map row_id rs)) ≡ Some id → ⊥) [
      | true ↦ λ t q. (
          let same : r.0 ≡ id = cc in
          let here : Some r.1 ≡ None = sym (ap (λ t. option_map row_object (cond t (Some r) (of_id row_id rs id))) (eq-eqb r.0 id same)) ∙ o in
          absurd (cc))
      | false ↦ λ t q. (
          let low : r.0 ≤ n = ltb-false n r.0 t in
          let high : n < id = next_rises n rs id q in
          let less : r.0 < id = omega arith in
          is_live n rs id q (sym (not_first r rs id less) ∙ o))
    ] refl e

-- one more module is shown
pub one_more : (show : Row → List ℕ) (n : ℕ) (rs : List Row) (id : ℕ) (m : LoadedModule) (all page new : List ℕ)
    → Rising row_id rs → next_above rs n ≡ Some id → object_of rs id ≡ Some m
    → page ++ flat_map show (above n rs) ≡ all → new ≡ page ++ show (id, m) → new ++ flat_map show (above id rs) ≡ all
one_more show n rs id m all page new up e o before w =
    let later = flat_map show (above id rs) in
    ap (λ p. p ++ later) w ∙ append_assoc page (show (id, m)) later
    ∙ ap (λ us. page ++ us) (sym (ap (flat_map show) (split n rs id m (rise rs up) e o))) ∙ before
