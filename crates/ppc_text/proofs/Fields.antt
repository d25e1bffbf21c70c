-- An instruction's fields are exactly those within the limits of its operands that meet its rule.
use Rattle.std.proofs.Common.{◌≡◌, ℕ, ◌+◌, ◌-◌, ◌/◌, ◌%◌, ◌^◌, ◌<◌, Bool, true, false, ◌&&◌, nat_eq, List, [], ◌∷◌, ◌++◌, length, replicate, map, get_or, refl, sym, ap, ◌∙◌, arith, eqb-true, eq-eqb, length-append}
use Rattle.std.specs.List.{list_all}
use Rattle.std.proofs.lemmas.Bool.{and_parts}
use Rattle.std.proofs.lemmas.List.{get_or-map, length-replicate}
use Rattle.std.proofs.Math.Nat.{mod-eq_of_lt}
use Rattle.ppc_word.specs.declared.row.Row.{Row}
use Rattle.ppc_word.specs.Words.{bits, fit, joined, meets, parts, fields, field_places}
use Rattle.ppc_word.specs.Rules.{allowed, spr_of, bo2_of}
use Rattle.ppc_word.specs.Table.{Form, table, no_form, number, form_of}
use Rattle.ppc_word.specs.Rows.{word_with, are_fields}
use Rattle.ppc_word.proofs.Digits.{joined-one, meets-joined, fit-parts, joined-after, joined-parts, joined-lt}
use Rattle.ppc_word.proofs.Read.{whole-parts}
use Rattle.ppc_word.proofs.Whole.{length-table, number-below, whole-at}
use Rattle.ppc_word.proofs.Placed.{at_place, parts-placed, form-test}
use Rattle.ppc_word.specs.declared.rule.Rule.{Rule}
use Rattle.ppc_word.specs.declared.rule.Rule.TheVariants.{Any, LoadUpdate, StoreUpdate, LoadMultiple, SpecialRegister, NoCount}
use Rattle.ppc_text.specs.Mnemonics.{Named, instructions, no_name, named_as, flagged}
use Rattle.ppc_text.specs.Operands.{with_value}
use Rattle.ppc_text.specs.Limits.{limit_of, limits_of, are_within, special_of, holds}
use Rattle.ppc_text.proofs.Spellings.{length-instructions}

-- two functions that agree along both tables agree on each instruction
pub along : {B : Type 0} (F : Form → B) (G : Named → B) → map F table ≡ map G instructions → (row : Row) → F (form_of row) ≡ G (named_as row)
unfolding named_as
along F G e row =
    let k = number row in
    let low : k < length table = omega (arith, number-below row, length-table) in
    let low' : k < length instructions = omega (arith, number-below row, length-instructions) in
    sym (get_or-map F table k no_form (F no_form) low) ∙ ap (λ bs. get_or bs k (F no_form)) e ∙ get_or-map G instructions k no_name (F no_form) low'

-- ---- limits
fits_alike : (a b c d e f : ℕ) → map (λ (g : Form). fit g.pieces (a ∷ b ∷ c ∷ d ∷ e ∷ f ∷ [])) table ≡ map (λ (m : Named). are_within (limits_of m) (a ∷ b ∷ c ∷ d ∷ e ∷ f ∷ [])) instructions
unfolding table instructions limits_of limit_of flagged with_value
fits_alike a b c d e f = refl

pub fit-within : (row : Row) (fs : List ℕ) → length fs ≡ 6 → fit (form_of row).pieces fs ≡ are_within (limits_of (named_as row)) fs
fit-within row [] h = absurd (omega arith)
fit-within row (a ∷ []) h = absurd (omega arith)
fit-within row (a ∷ b ∷ []) h = absurd (omega arith)
fit-within row (a ∷ b ∷ c ∷ []) h = absurd (omega arith)
fit-within row (a ∷ b ∷ c ∷ d ∷ []) h = absurd (omega arith)
fit-within row (a ∷ b ∷ c ∷ d ∷ e ∷ []) h = absurd (omega arith)
fit-within row (a ∷ b ∷ c ∷ d ∷ e ∷ f ∷ []) h =
    along (λ (g : Form). fit g.pieces (a ∷ b ∷ c ∷ d ∷ e ∷ f ∷ [])) (λ (m : Named). are_within (limits_of m) (a ∷ b ∷ c ∷ d ∷ e ∷ f ∷ [])) (fits_alike a b c d e f) row
fit-within row (a ∷ b ∷ c ∷ d ∷ e ∷ f ∷ g ∷ fs) h = absurd (omega arith)

-- ---- rules
-- a form's first field has 5 bits, and its second the given number
abbrev begins : ℕ → List (ℕ × ℕ) → Bool
begins width [] = false
begins width (p ∷ []) = false
begins width (p ∷ q ∷ ps) = nat_eq p.0 6 && (nat_eq p.1 5 && (nat_eq q.0 11 && nat_eq q.1 width))

-- the fields that a rule reads stand where the word has them
unfoldable placed_for : Rule → List (ℕ × ℕ) → Bool
placed_for Any ps = true
placed_for LoadUpdate ps = begins 5 ps
placed_for StoreUpdate ps = begins 5 ps
placed_for LoadMultiple ps = begins 5 ps
placed_for SpecialRegister ps = begins 10 ps
placed_for NoCount ps = begins 5 ps

placed : list_all (λ (g : Form). placed_for g.rule (field_places g.pieces)) table ≡ true
unfolding table placed_for
placed = refl

-- ---- the fields of a word
counts : list_all (λ (g : Form). nat_eq (length (field_places g.pieces)) (fields g.pieces)) table ≡ true
unfolding table
counts = refl

length-map' : {A B : Type 0} (f : A → B) (xs : List A) → length (map f xs) ≡ length xs
length-map' f [] = refl
length-map' f (x ∷ xs) = let r = length-map' f xs in omega arith

-- fields that fit can be read back from the word that they make
joined_fields : (row : Row) (fs : List ℕ) → length fs ≡ 6 → fit (form_of row).pieces fs ≡ true
    → fs ≡ map (at_place (joined (form_of row).pieces fs)) (field_places (form_of row).pieces) ++ replicate (6 - fields (form_of row).pieces) 0
joined_fields row fs six h =
    let ps = (form_of row).pieces in
    let n = joined (form_of row).pieces fs in
    let zs = replicate (6 - fields (form_of row).pieces) 0 in
    let t = whole-parts ps (whole-at (number row) (number-below row)) in
    let m : meets ps n ≡ true = meets-joined ps fs n 0 t.2 h (omega arith) in
    let lt : n < 2 ^ bits ps = joined-lt ps fs t.2 h in
    let again : joined ps (parts ps n ++ zs) ≡ n = joined-after ps n zs ∙ joined-parts ps n m ∙ mod-eq_of_lt lt in
    let placed : parts ps n ≡ map (at_place n) (field_places ps) = parts-placed ps n (omega (arith, t.0)) in
    let many : length (field_places ps) ≡ fields ps = eqb-true _ _ (form-test (λ (g : Form). nat_eq (length (field_places g.pieces)) (fields g.pieces)) counts row) in
    let long : length (parts ps n ++ zs) ≡ 6 =
    length-append (parts ps n) zs ∙ omega (arith, t.1, many, ap length placed, length-map' (at_place n) (field_places ps), length-replicate {A = ℕ} (6 - fields ps) 0) in
    joined-one ps fs (parts ps n ++ zs) t.2 h (fit-parts ps n (6 - fields ps)) (six ∙ sym long) (sym again) ∙ ap (λ qs. qs ++ zs) placed

-- the first two of them
first_two : (width n : ℕ) (ps : List (ℕ × ℕ)) (zs : List ℕ) → begins width ps ≡ true
    → (get_or (map (at_place n) ps ++ zs) 0 0 ≡ n / 2 ^ 21 % 2 ^ 5) × (get_or (map (at_place n) ps ++ zs) 1 0 ≡ n / 2 ^ (21 - width) % 2 ^ width)
first_two width n [] zs h = cc
first_two width n (p ∷ []) zs h = cc
first_two width n (p ∷ q ∷ ps) zs h =
    let a = and_parts (nat_eq p.0 6) (nat_eq p.1 5 && (nat_eq q.0 11 && nat_eq q.1 width)) h in
    let b = and_parts (nat_eq p.1 5) (nat_eq q.0 11 && nat_eq q.1 width) a.1 in
    let c = and_parts (nat_eq q.0 11) (nat_eq q.1 width) b.1 in
    let p0 : p.0 ≡ 6 = eqb-true _ _ a.0 in
    let p1 : p.1 ≡ 5 = eqb-true _ _ b.0 in
    let q0 : q.0 ≡ 11 = eqb-true _ _ c.0 in
    let q1 : q.1 ≡ width = eqb-true _ _ c.1 in
    let s : 32 - (11 + width) ≡ 21 - width = omega arith in
    (rw (p0, p1) refl, rw (q0, q1, s) refl)

special_word : (w : ℕ) → special_of (w / 2 ^ 11 % 2 ^ 10) ≡ spr_of w
special_word w = omega arith

count_word : (w : ℕ) → w / 2 ^ 21 % 2 ^ 5 / 4 % 2 ≡ bo2_of w
count_word w = omega arith

-- a word meets a rule exactly if its first two fields do
holds_word : (c : Rule) (w : ℕ) (ps : List (ℕ × ℕ)) (zs : List ℕ) → placed_for c ps ≡ true → allowed c w ≡ holds c (map (at_place w) ps ++ zs)
unfolding placed_for holds
holds_word Any w ps zs h = refl
holds_word LoadUpdate w ps zs h = let t = first_two 5 w ps zs h in rw (t.0, t.1) refl
holds_word StoreUpdate w ps zs h = let t = first_two 5 w ps zs h in rw t.1 refl
holds_word LoadMultiple w ps zs h = let t = first_two 5 w ps zs h in rw (t.0, t.1) refl
holds_word SpecialRegister w ps zs h = let t = first_two 10 w ps zs h in rw (t.1, special_word w) refl
holds_word NoCount w ps zs h = let t = first_two 5 w ps zs h in rw (t.0, count_word w) refl

-- ---- fields
-- values outside the limits aren't an instruction's fields
pub unfit : (row : Row) (fs : List ℕ) → length fs ≡ 6 → are_within (limits_of (named_as row)) fs ≡ false → false ≡ are_fields row fs
unfolding are_fields
unfit row fs six f = rw (eq-eqb (length fs) 6 six, fit-within row fs six, f) refl

-- values within the limits are an instruction's fields exactly if they meet its rule
pub fitting : (row : Row) (fs : List ℕ) → length fs ≡ 6 → are_within (limits_of (named_as row)) fs ≡ true → holds (form_of row).rule fs ≡ are_fields row fs
unfolding are_fields word_with
fitting row fs six f =
    let h : fit (form_of row).pieces fs ≡ true = fit-within row fs six ∙ f in
    let w = joined (form_of row).pieces fs in
    let there = form-test (λ (g : Form). placed_for g.rule (field_places g.pieces)) placed row in
    let met = holds_word (form_of row).rule w (field_places (form_of row).pieces) (replicate (6 - fields (form_of row).pieces) 0) there in
    let same : holds (form_of row).rule fs ≡ allowed (form_of row).rule w = ap (holds (form_of row).rule) (joined_fields row fs six h) ∙ sym met in
    rw (eq-eqb (length fs) 6 six, h) same
