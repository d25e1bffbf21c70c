-- The words of a module that are executed.
use Rattle.std.proofs.Common.{◌≡◌, ℕ, ◌-◌, ◌/◌, ◌%◌, ◌<◌, ◌≤◌, ◌==◌, Bool, true, false, ◌&&◌, ◌||◌, List, length, get_or, replicate, inl, inr, refl, sym, ap, ◌∙◌, arith}
use Rattle.std.specs.Prelude.{nat_le, nat_lt, slice_set}
use Rattle.std.proofs.lemmas.Bool.{and_parts, and_right, cases_Bool, cases_lt, cond-false, cond-true, eqb-true, leb-true, ltb-true}
use Rattle.std.proofs.lemmas.Bool.Decides.{eqb_tells}
use Rattle.std.proofs.lemmas.List.{get_or-set_other, get_or-set_same, get_or-replicate, get_or_past, length-set, length-replicate}
use Rattle.trace_coverage.specs.Covered.{CoveredState, is_word_among, with_word}
use Rattle.trace_coverage.specs.Listed.{is_executed}
use Rattle.trace_coverage.proofs.Lists.{or_false}

-- ---- tests
or_true : (h : Bool) → (h || true) ≡ true
or_true true = refl
or_true false = refl

nowhere : (e w h : Bool) → w ≡ false → ((w && h) || (e && w)) ≡ false
nowhere e w h p = ap (λ v. (v && h) || (e && v)) p ∙ and_right e false refl

both_more : (d x h e w : Bool) → x ≡ (h || (e && w)) → (d && x) ≡ ((d && h) || (e && (d && w)))
both_more true x h e w p = p
both_more false x h true w p = refl
both_more false x h false w p = refl

no_more : (e d w : Bool) → (e ≡ true → w ≡ false) → (e && (d && w)) ≡ false
no_more false d w f = refl
no_more true true w f = f refl
no_more true false w f = refl

-- ---- places
-- what a word's address shows
pub parts_of : (start words at : ℕ) → is_word_among start words at ≡ true → (start ≤ at) × ((at - start) % 4 ≡ 0) × ((at - start) / 4 < words)
parts_of start words at h =
    let first = and_parts (nat_le start at) ((at - start) % 4 == 0 && nat_lt ((at - start) / 4) words) h in
    let next = and_parts ((at - start) % 4 == 0) (nat_lt ((at - start) / 4) words) first.1 in
    (leb-true start at first.0, eqb-true ((at - start) % 4) 0 next.0, ltb-true ((at - start) / 4) words next.1)

-- words at different addresses have different places
same_number : (a b start : ℕ) → start ≤ a → start ≤ b → (a - start) % 4 ≡ 0 → (b - start) % 4 ≡ 0 → (a - start) / 4 ≡ (b - start) / 4 → a ≡ b
same_number a b start la lb ra rb e = omega arith

same_address : (start n a b : ℕ) → is_word_among start n a ≡ true → is_word_among start n b ≡ true → (a - start) / 4 ≡ (b - start) / 4 → a ≡ b
same_address start n a b h k e =
    let p = parts_of start n a h in
    let q = parts_of start n b k in
    same_number a b start p.0 q.0 p.1 q.1 e

-- the place of a word is below the number of words
place_below : (start n a : ℕ) → is_word_among start n a ≡ true → (a - start) / 4 < n
place_below start n a h = (parts_of start n a h).2

-- ---- one more word
-- the words that are executed, when the one at `a` is executed too
set_at : (start a at : ℕ) (xs : List Bool) → is_word_among start (length xs) a ≡ true → is_word_among start (length xs) at ≡ true
    → get_or (slice_set xs ((a - start) / 4) true) ((at - start) / 4) false ≡ (get_or xs ((at - start) / 4) false || (a == at))
set_at start a at xs h within =
    let i = (a - start) / 4 in
    let j = (at - start) / 4 in
    elim (eqb_tells a at) [
      | inl same ↦ (
          ap (λ p. get_or (slice_set xs i true) ((p - start) / 4) false) (sym same.1)
          ∙ get_or-set_same xs i true false (place_below start (length xs) a h)
          ∙ sym (ap (λ v. get_or xs j false || v) same.0 ∙ or_true (get_or xs j false)))
      | inr other ↦ (
          get_or-set_other xs i j true false (λ e. other.1 (same_address start (length xs) a at h within (sym e)))
          ∙ sym (ap (λ v. get_or xs j false || v) other.0 ∙ or_false (get_or xs j false)))
    ]

and_true : (e : Bool) → (e && true) ≡ e
and_true true = refl
and_true false = refl

with_place : (start a at : ℕ) (xs : List Bool) → is_word_among start (length xs) a ≡ true
    → (is_word_among start (length (slice_set xs ((a - start) / 4) true)) at && get_or (slice_set xs ((a - start) / 4) true) ((at - start) / 4) false)
    ≡ ((is_word_among start (length xs) at && get_or xs ((at - start) / 4) false) || ((a == at) && is_word_among start (length xs) at))
with_place start a at xs h =
    let i = (a - start) / 4 in
    let j = (at - start) / 4 in
    let before = get_or xs j false in
    let now = get_or (slice_set xs i true) j false in
    ap (λ n. is_word_among start n at && now) (length-set xs i true)
    ∙ elim (cases_Bool (is_word_among start (length xs) at)) [
      | inr out ↦ ap (λ v. v && now) out ∙ sym (nowhere (a == at) (is_word_among start (length xs) at) before out)
      | inl within ↦ (
          ap (λ v. v && now) within
          ∙ set_at start a at xs h within
          ∙ ap (λ v. before || v) (sym (and_true (a == at)))
          ∙ sym (ap (λ v. (v && before) || ((a == at) && v)) within))
    ]

-- after one more word of a module is executed, a word is executed if it was before, or if it is that one
pub one_more : (id a at : ℕ) (m : CoveredState)
    → ((with_word a m).id == id && is_executed at (with_word a m))
    ≡ ((m.id == id && is_executed at m) || ((a == at) && (m.id == id && is_word_among m.start (length m.executed) at)))
one_more id a at m =
    let Test : CoveredState → Bool = λ n. n.id == id && is_executed at n in
    let changed : CoveredState = record m { executed = slice_set m.executed ((a - m.start) / 4) true } in
    elim (cases_Bool (is_word_among m.start (length m.executed) a)) [
      | inr out ↦ (
          ap Test (cond-false (is_word_among m.start (length m.executed) a) changed m out)
          ∙ sym (ap (λ v. Test m || v)
          (no_more (a == at) (m.id == id) (is_word_among m.start (length m.executed) at)
          (λ e. ap (λ p. is_word_among m.start (length m.executed) p) (sym (eqb-true a at e)) ∙ out))
          ∙ or_false (Test m)))
      | inl within ↦ (
          ap Test (cond-true (is_word_among m.start (length m.executed) a) changed m within)
          ∙ both_more (m.id == id) _ (is_executed at m) (a == at) (is_word_among m.start (length m.executed) at) (with_place m.start a at m.executed within))
    ]

-- no word of a new module is executed
pub none_yet : (n i : ℕ) → get_or (replicate n false) i false ≡ false
none_yet n i =
    elim (cases_lt i n) [
      | inl below ↦ get_or-replicate n i false false below
      | inr past ↦ get_or_past (replicate n false) i false (omega (arith, past, length-replicate n false))
    ]
