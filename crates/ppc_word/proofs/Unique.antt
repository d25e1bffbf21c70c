-- Two instructions with the same word are the same.
use Rattle.std.proofs.Common.{◌≡◌, ℕ, ◌^◌, ◌<◌, true, ◌&&◌, nat_eq, ◌-◌, ◌%◌, List, [], ◌∷◌, ◌++◌, length, replicate, length-append, eq-eqb, IsTrue, refl, sym, ap, ◌∙◌, subst, arith, eqb-true, ◌⊎◌, inl, inr}
use Rattle.std.proofs.Props.{props}
use Rattle.std.proofs.lemmas.Bool.{and_parts, cases_order}
use Rattle.ppc_word.specs.declared.row.Row.{Row}
use Rattle.ppc_word.specs.declared.row.TheConstants.{ROWS}
use Rattle.ppc_word.specs.declared.insn.Insn.{Insn}
use Rattle.ppc_word.specs.declared.piece.Piece.{Piece}
use Rattle.ppc_word.specs.declared.piece.Piece.TheVariants.{Fixed, Field}
use Rattle.std.proofs.lemmas.List.{length-replicate}
use Rattle.ppc_word.specs.Words.{bits, fit, joined, meets, parts, fields}
use Rattle.ppc_word.specs.Rules.{allowed}
use Rattle.ppc_word.specs.Table.{number, form_at, form_of}
use Rattle.ppc_word.specs.Rows.{is_word_of, are_fields, word_with}
use Rattle.ppc_word.specs.Insn.{word_of}
use Rattle.ppc_word.proofs.Read.{whole-parts}
use Rattle.ppc_word.proofs.Digits.{joined-one, meets-joined, fit-parts, joined-after, joined-parts}
use Rattle.ppc_word.proofs.Whole.{number-below, number-one, whole-at, one_place}

insn_one : (i j : Insn) → i.row ≡ j.row → i.fields ≡ j.fields → i ≡ j
insn_one i j e f =
    let P : Row → List ℕ → Type 0 = λ r fs. (q : IsTrue (are_fields r fs)) → i ≡ record { row = r; fields = fs; in_table = q } in
    let one : IsProp (IsTrue (are_fields i.row i.fields)) = hlevel props in
    let here : P i.row i.fields = λ q. ap (λ (z : IsTrue (are_fields i.row i.fields)). record { row = i.row; fields = i.fields; in_table = z }) (one i.in_table q) in
    subst (λ fs. P j.row fs) f (subst (λ r. P r i.fields) e here) j.in_table

pub fields-parts : (row : Row) (fs : List ℕ) → IsTrue (are_fields row fs) → (length fs ≡ 6) × IsTrue (fit (form_of row).pieces fs) × IsTrue (allowed (form_of row).rule (word_with row fs))
unfolding are_fields
fields-parts row fs h =
    let a = and_parts (nat_eq (length fs) 6 && fit (form_of row).pieces fs) (allowed (form_of row).rule (word_with row fs)) h in
    let b = and_parts (nat_eq (length fs) 6) (fit (form_of row).pieces fs) a.0 in (eqb-true _ _ b.0, b.1, a.1)

-- the word of an instruction matches its row's form
pub meets-word : (i : Insn) (n : ℕ) → word_of i ≡ n → meets (form_of i.row).pieces n ≡ true
unfolding word_with
meets-word i n e =
    let t = whole-parts (form_of i.row).pieces (whole-at (number i.row) (number-below i.row)) in
    let f = fields-parts i.row i.fields i.in_table in
    meets-joined (form_of i.row).pieces i.fields n 0 t.2 f.1 (sym e ∙ omega arith)

same_row : (i j : Insn) (n : ℕ) → word_of i ≡ n → word_of j ≡ n → (number i.row ≡ number j.row) ⊎ ((number i.row < number j.row) ⊎ (number j.row < number i.row)) → number i.row ≡ number j.row
same_row i j n p q (inl e) = e
same_row i j n p q (inr (inl lt)) = absurd (one_place (number i.row) (number j.row) n lt (number-below j.row) (meets-word i n p) (meets-word j n q))
same_row i j n p q (inr (inr lt)) = absurd (one_place (number j.row) (number i.row) n lt (number-below i.row) (meets-word j n q) (meets-word i n p))

pub insn-word_one : (i j : Insn) → word_of i ≡ word_of j → i ≡ j
unfolding word_with
insn-word_one i j e =
    let r = number-one i.row j.row (same_row i j (word_of j) e refl (cases_order (number i.row) (number j.row))) in
    let t = whole-parts (form_of j.row).pieces (whole-at (number j.row) (number-below j.row)) in
    let f = fields-parts i.row i.fields i.in_table in
    let f' = rw r at f in
    let g = fields-parts j.row j.fields j.in_table in
    let e' : joined (form_of j.row).pieces i.fields ≡ joined (form_of j.row).pieces j.fields = ap (λ s. joined (form_of s).pieces i.fields) (sym r) ∙ e in
    insn_one i j r (joined-one (form_of j.row).pieces i.fields j.fields t.2 f'.1 g.1 (f.0 ∙ sym g.0) e')

length-parts : (ps : List Piece) (n : ℕ) → length (parts ps n) ≡ fields ps
length-parts [] n = refl
length-parts (Fixed w v ∷ ps) n = length-parts ps n
length-parts (Field w ∷ ps) n = let r = length-parts ps n in omega arith

-- the word matches the form at k, and these are its fields by that form
abbrev pub IsReading : ℕ → ℕ → List ℕ → Type 0
IsReading k word fs = (meets (form_at k).pieces word ≡ true) × (fs ≡ parts (form_at k).pieces word ++ replicate (6 - fields (form_at k).pieces) 0)

reading-six : (k word : ℕ) (fs : List ℕ) → k < ROWS → IsReading k word fs → length fs ≡ 6
reading-six k word fs h r =
    let t = (whole-parts (form_at k).pieces (whole-at k h)).1 in
    ap length r.1 ∙ length-append (parts (form_at k).pieces word) (replicate (6 - fields (form_at k).pieces) 0) ∙ omega (arith, length-parts (form_at k).pieces word, length-replicate {A = ℕ} (6 - fields (form_at k).pieces) 0)

reading-fit : (k word : ℕ) (fs : List ℕ) → IsReading k word fs → fit (form_at k).pieces fs ≡ true
reading-fit k word fs r = ap (fit (form_at k).pieces) r.1 ∙ fit-parts (form_at k).pieces word (6 - fields (form_at k).pieces)

reading-word : (k word : ℕ) (fs : List ℕ) → k < ROWS → word < 2 ^ 32 → IsReading k word fs → joined (form_at k).pieces fs ≡ word
reading-word k word fs h lt r =
    let t = (whole-parts (form_at k).pieces (whole-at k h)).0 in
    let e : word % 2 ^ bits (form_at k).pieces ≡ word = rw t (omega arith) in
    ap (joined (form_at k).pieces) r.1 ∙ joined-after (form_at k).pieces word (replicate (6 - fields (form_at k).pieces) 0) ∙ joined-parts (form_at k).pieces word r.0 ∙ e

pub reading-made : (k word : ℕ) (fs : List ℕ) (row : Row) → k < ROWS → word < 2 ^ 32 → number row ≡ k → IsReading k word fs → word_with row fs ≡ word
unfolding word_with
reading-made k word fs row h lt e r = rw e (reading-word k word fs h lt r)

-- if such a word meets the rule, they are an instruction's fields
pub reading-fields : (k word : ℕ) (fs : List ℕ) (row : Row) → k < ROWS → word < 2 ^ 32 → number row ≡ k → IsReading k word fs → allowed (form_at k).rule word ≡ true → IsTrue (are_fields row fs)
unfolding are_fields
reading-fields k word fs row h lt e r a =
    rw (reading-made k word fs row h lt e r) (rw (e, eq-eqb _ _ (reading-six k word fs h r), reading-fit k word fs r, a) refl)

-- the word of an instruction belongs to its form
pub insn-word : (i : Insn) (w : ℕ) → word_of i ≡ w → is_word_of (form_at (number i.row)) w ≡ true
unfolding is_word_of
insn-word i w e =
    let m = meets-word i w e in
    let f = fields-parts i.row i.fields i.in_table in
    let a : allowed (form_of i.row).rule w ≡ true = ap (allowed (form_of i.row).rule) (sym e) ∙ f.2 in
    rw (m, a) refl
