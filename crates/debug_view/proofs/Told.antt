-- The ids of the modules, compared with those that were told.
use Rattle.std.proofs.Common.{◌≡◌, ℕ, suc, ◌+◌, ◌<◌, ◌≤◌, ◌==◌, Bool, true, false, cond, ltb, List, [], ◌∷◌, length, drop, get_or, Option, None, Some, refl, sym, ap, ◌∙◌, inl, inr, arith, add-one}
use Rattle.std.specs.Prelude.{◌&&◌, is_none, not}
use Rattle.std.specs.List.{All, AllPairs, filter, find}
use Rattle.std.specs.Option.{option_map_or}
use Rattle.std.specs.Str.{bytes_eq}
use Rattle.std.proofs.lemmas.Bool.{cases_lt, le-ltb, lt-ltb}
use Rattle.std.proofs.lemmas.Bool.Decides.{eqb_tells}
use Rattle.std.proofs.lemmas.List.{get_or-map, length-map}
use Rattle.std.proofs.Math.ListN.{drop_of_length-le}
use Rattle.std.proofs.Math.Seq.{drop-cons}
use Rattle.id_table.specs.Records.{Rising}
use Rattle.id_table.specs.Rows.{ids, next_above, row_id}
use Rattle.module_loader.specs.declared.module.LoadedModule.{LoadedModule}
use Rattle.module_loader.specs.Modules.{HasIdent}
use Rattle.debug_view.specs.Modules.{are_loaded, is_next}

-- the numbers above one
abbrev pub above : ℕ → List ℕ → List ℕ
above n xs = filter (λ x. ltb n x) xs

abbrev Rises : List ℕ → Type 0
Rises xs = AllPairs (λ x y. x < y) xs

abbrev first_above : ℕ → List ℕ → Option ℕ
first_above n xs = find (λ x. ltb n x) xs

-- ---- rising numbers, one after another
is_above : (n x : ℕ) (xs : List ℕ) → n < x → above n (x ∷ xs) ≡ x ∷ above n xs
is_above n x xs less = ap (λ t. cond t (x ∷ above n xs) (above n xs)) (lt-ltb n x less)

not_above : (n x : ℕ) (xs : List ℕ) → x ≤ n → above n (x ∷ xs) ≡ above n xs
not_above n x xs more = ap (λ t. cond t (x ∷ above n xs) (above n xs)) (le-ltb n x more)

all_above : (n : ℕ) (xs : List ℕ) → ((j : ℕ) (d : ℕ) → j < length xs → n < get_or xs j d) → above n xs ≡ xs
all_above n [] up = refl
all_above n (x ∷ xs) up = is_above n x xs (up 0 x (omega arith)) ∙ ap (λ ys. x ∷ ys) (all_above n xs (λ j d less. up (suc j) d (omega (arith, less))))

found_above : (n : ℕ) (xs : List ℕ) (id : ℕ) → first_above n xs ≡ Some id → n < id
found_above n [] id found = absurd (cc)
found_above n (x ∷ xs) id found =
    elim (cases_lt n x) [
      | inl less ↦
          let first : Some x ≡ Some id = sym (ap (λ t. cond t (Some x) (first_above n xs)) (lt-ltb n x less)) ∙ found in
          let same : x ≡ id = cc in
          omega (arith, same, less)
      | inr more ↦ found_above n xs id (sym (ap (λ t. cond t (Some x) (first_above n xs)) (le-ltb n x more)) ∙ found)
    ]

-- the next one comes before those above it
next_first : (xs : List ℕ) (last id : ℕ) → Rises xs → first_above last xs ≡ Some id → above last xs ≡ id ∷ above id xs
next_first [] last id up next = absurd (cc)
next_first (x ∷ xs) last id up next =
    let seek = λ (t : Bool). cond t (Some x) (first_above last xs) in
    elim (cases_lt last x) [
      | inl less ↦
          let here : Some x ≡ Some id = sym (ap seek (lt-ltb last x less)) ∙ next in
          let same : x ≡ id = cc in
          let later = λ (j d : ℕ) (l : j < length xs). up 0 (suc j) d (omega arith) (omega (arith, l)) in
          is_above last x xs less
          ∙ ap (λ ys. x ∷ ys) (all_above last xs (λ j d l. (let h = later j d l in omega (arith, less, h))) ∙ sym (all_above id xs (λ j d l. (let h = later j d l in omega (arith, same, h)))))
          ∙ ap (λ y. y ∷ above id xs) same
          ∙ ap (λ ys. id ∷ ys) (sym (not_above id x xs (omega (arith, same))))
      | inr more ↦
          let after : first_above last xs ≡ Some id = sym (ap seek (le-ltb last x more)) ∙ next in
          let greater : last < id = found_above last xs id after in
          not_above last x xs more ∙ next_first xs last id (λ i j d h l. up (suc i) (suc j) d (omega (arith, h)) (omega (arith, l))) after
          ∙ ap (λ ys. id ∷ ys) (sym (not_above id x xs (omega (arith, more, greater))))
    ]

-- none is above, if there is no next one
none_above : (xs : List ℕ) (last : ℕ) → first_above last xs ≡ None → above last xs ≡ []
none_above [] last none = refl
none_above (x ∷ xs) last none =
    let seek = λ (t : Bool). cond t (Some x) (first_above last xs) in
    elim (cases_lt last x) [
      | inl less ↦ (let bad : Some x ≡ None = sym (ap seek (lt-ltb last x less)) ∙ none in absurd (cc))
      | inr more ↦ not_above last x xs more ∙ none_above xs last (sym (ap seek (le-ltb last x more)) ∙ none)
    ]

-- ---- the comparison goes on
abbrev same_next : Option ℕ → ℕ → Bool
same_next o id = option_map_or (λ next. next == id) o false

next_is : (o : Option ℕ) (id : ℕ) → same_next o id ≡ true → o ≡ Some id
next_is None id e = absurd (cc)
next_is (Some n) id e = elim (eqb_tells n id) [ inl p ↦ ap Some p.1 | inr p ↦ (let both : true ≡ false = sym e ∙ p.0 in absurd (cc)) ]

self_same : (n : ℕ) → (n == n) ≡ true
self_same n = elim (eqb_tells n n) [ inl p ↦ p.0 | inr p ↦ absurd (p.1 refl) ]

-- as far as the ids were compared they are the same: what is left decides
abbrev pub Left : List ℕ → List ℕ → ℕ → ℕ → Type 0
Left xs told i last = bytes_eq xs told ≡ bytes_eq (above last xs) (drop i told)

rest_of : (told : List ℕ) (i id : ℕ) → i < length told → id ≡ get_or told i 0 → drop i told ≡ id ∷ drop (i + 1) told
rest_of told i id less is = drop-cons told i 0 less ∙ ap (λ x. x ∷ drop (suc i) told) (sym is) ∙ ap (λ n. id ∷ drop n told) (sym (add-one i))

one_same : (xs told : List ℕ) (i last id : ℕ) → Rises xs → Left xs told i last → i < length told → id ≡ get_or told i 0 → same_next (first_above last xs) id ≡ true
    → Left xs told (i + 1) id
one_same xs told i last id up left less is next =
    let found : first_above last xs ≡ Some id = next_is _ id next in
    let first : above last xs ≡ id ∷ above id xs = next_first xs last id up found in
    let second : drop i told ≡ id ∷ drop (i + 1) told = rest_of told i id less is in
    left ∙ ap (λ ys. bytes_eq ys (drop i told)) first ∙ ap (λ ys. bytes_eq (id ∷ above id xs) ys) second ∙ ap (λ t. t && bytes_eq (above id xs) (drop (i + 1) told)) (self_same id)

by_next : (xs told : List ℕ) (i last id : ℕ) (o : Option ℕ) → Rises xs → Left xs told i last → i < length told → id ≡ get_or told i 0 → first_above last xs ≡ o → same_next o id ≡ false
    → false ≡ bytes_eq xs told
by_next xs told i last id None up left less is found other =
    sym (left ∙ ap (λ ys. bytes_eq ys (drop i told)) (none_above xs last found) ∙ ap (λ ys. bytes_eq [] ys) (rest_of told i id less is))
by_next xs told i last id (Some n) up left less is found other =
    sym (left ∙ ap (λ ys. bytes_eq ys (drop i told)) (next_first xs last n up found) ∙ ap (λ ys. bytes_eq (n ∷ above n xs) ys) (rest_of told i id less is)
    ∙ ap (λ t. t && bytes_eq (above n xs) (drop (i + 1) told)) other)

at_end : (xs told : List ℕ) (i last : ℕ) (o : Option ℕ) → Rises xs → Left xs told i last → length told ≤ i → first_above last xs ≡ o → is_none o ≡ bytes_eq xs told
at_end xs told i last None up left end found =
    sym (left ∙ ap (λ ys. bytes_eq ys (drop i told)) (none_above xs last found) ∙ ap (λ ys. bytes_eq [] ys) (drop_of_length-le told end))
at_end xs told i last (Some n) up left end found =
    sym (left ∙ ap (λ ys. bytes_eq ys (drop i told)) (next_first xs last n up found) ∙ ap (λ ys. bytes_eq (n ∷ above n xs) ys) (drop_of_length-le told end))

-- a test and its opposite
pub flipped : (a r : Bool) → a ≡ not r → r ≡ not a
flipped a true e = sym (ap not e)
flipped a false e = sym (ap not e)

-- ---- modules
module _ (rows : List (ℕ × LoadedModule)) (up : Rising row_id rows) where
  no_row : ℕ × LoadedModule
  no_row = (0, record { name = []; segments = [] })

  ids_rise : Rises (ids rows)
  ids_rise = λ a b d h low. (
      let n : length (ids rows) ≡ length rows = length-map rows row_id in
      let first : get_or (ids rows) a d ≡ (get_or rows a no_row).0 = get_or-map row_id rows a no_row d (omega arith) in
      let second : get_or (ids rows) b d ≡ (get_or rows b no_row).0 = get_or-map row_id rows b no_row d (omega arith) in
      let less = up a b no_row h (omega arith) in
      omega arith)

  pub goes_on : (told : List ℕ) (i last id : ℕ) → Left (ids rows) told i last → i < length told → id ≡ get_or told i 0 → is_next rows last id ≡ true
      → Left (ids rows) told (i + 1) id
  goes_on told i last id left less is next = one_same (ids rows) told i last id ids_rise left less is next

  pub stops : (told : List ℕ) (i last id : ℕ) → Left (ids rows) told i last → i < length told → id ≡ get_or told i 0 → is_next rows last id ≡ false
      → false ≡ are_loaded rows told
  stops told i last id left less is other = by_next (ids rows) told i last id (first_above last (ids rows)) ids_rise left less is refl other

  pub ends : (told : List ℕ) (i last : ℕ) → Left (ids rows) told i last → length told ≤ i → is_none (next_above rows last) ≡ are_loaded rows told
  ends told i last left end = at_end (ids rows) told i last (first_above last (ids rows)) ids_rise left end refl

pub begins : (rows : List (ℕ × LoadedModule)) (told : List ℕ) → All HasIdent rows → Left (ids rows) told 0 0
begins rows told all =
    sym (ap (λ ys. bytes_eq ys told) (all_above 0 (ids rows) (λ j d less. (
    let n : length (ids rows) ≡ length rows = length-map rows row_id in
    let no_row : ℕ × LoadedModule = (0, record { name = []; segments = [] }) in
    let at : get_or (ids rows) j d ≡ (get_or rows j no_row).0 = get_or-map row_id rows j no_row d (omega (arith, n, less)) in
    let some = all j no_row (omega (arith, n, less)) in
    omega (arith, at, some.0)))))
