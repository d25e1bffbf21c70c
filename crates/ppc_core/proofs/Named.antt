-- Execution reads the fields of an instruction's word as the instruction's fields.
use Rattle.std.proofs.Common.{◌≡◌, ℕ, zero, suc, ◌+◌, ◌-◌, ◌*◌, ◌/◌, ◌%◌, ◌^◌, ◌<◌, ◌≤◌, Bool, true, false, cond, ◌&&◌, nat_eq, List, [], ◌∷◌, ◌++◌, replicate, refl, sym, ap, subst, ◌∙◌, arith, eqb-true}
use Rattle.std.specs.Prelude.{map}
use Rattle.std.proofs.lemmas.Bool.{and_parts}
use Rattle.std.specs.List.{list_all}
use Rattle.std.proofs.lemmas.Nat.{field_of, shr-shr}
use Rattle.std.proofs.Math.Pow.{mod-mod-pow}
use Rattle.ppc_word.specs.declared.insn.Insn.{Insn}
use Rattle.ppc_word.specs.Table.{table, form_of}
use Rattle.ppc_word.specs.Insn.{word_of}
use Rattle.ppc_word.specs.Words.{fields, all_zero, field_places}
use Rattle.ppc_word.proofs.Placed.{at_place, insn-placed, form-test}
use Rattle.ppc_core.specs.Words.{bits}
use Rattle.ppc_core.specs.Fields.{rt, ra, rb, ui, high_ui, si, mb, me, oe, rc, bf, bfa, spr, li, bd, aa, lk}
use Rattle.ppc_core.specs.Names.{FieldName, RT, RS, RA, RB, TO, BO, BI, BT, BA, BB, SH, MB, ME, BF, BFA, SI, UI, D, BD, LI, FXM, SPR, AA, LK, OE, Rc, place_of, bit_of, IsRead, AreRead}
use Rattle.ppc_core.proofs.Bits.{field-bit, one-bit}

bit-read : (w first width k : ℕ) → k < width → first + width ≤ 32 → bits w (first + k) (first + k) ≡ bit_of width (at_place w (first, width)) k
bit-read w first width k lt le =
    let e : (32 - (first + width)) + (width - 1 - k) ≡ 31 - (first + k) = omega arith in
    one-bit w (first + k)
    ∙ ap (λ j. w / 2 ^ j % 2) (sym e)
    ∙ sym (field-bit w (32 - (first + width)) width (width - 1 - k) (omega arith))

-- the halves of SPR, swapped
spr-read : (w : ℕ) → spr w ≡ at_place w (11, 10) % 2 ^ 5 * 2 ^ 5 + at_place w (11, 10) / 2 ^ 5
unfolding spr
spr-read w =
    let low = mod-mod-pow (w / 2 ^ 11) 5 5 in
    let high = field_of (w / 2 ^ 11) 5 5 ∙ ap (λ n. n % 2 ^ 5) (shr-shr w 11 5) in
    ap (λ n. n * 2 ^ 5 + w / 2 ^ 16 % 2 ^ 5) (sym low) ∙ ap (λ n. w / 2 ^ 11 % 2 ^ 10 % 2 ^ 5 * 2 ^ 5 + n) (sym high)

-- a field is read as the number at its place
read-at : (n : FieldName) (w : ℕ) → IsRead n (at_place w (place_of n)) w
unfolding rt ra rb ui high_ui si mb me oe rc bf bfa spr li bd aa lk
read-at RT w = refl
read-at RS w = refl
read-at RA w = refl
read-at RB w = refl
read-at TO w = λ k lt. bit-read w 6 5 k lt (omega arith)
read-at BO w = λ k lt. bit-read w 6 5 k lt (omega arith)
read-at BI w = refl
read-at BT w = refl
read-at BA w = refl
read-at BB w = refl
read-at SH w = refl
read-at MB w = refl
read-at ME w = refl
read-at BF w = refl
read-at BFA w = refl
read-at SI w = (refl, refl)
read-at UI w = (refl, refl)
read-at D w = refl
read-at BD w = refl
read-at LI w = refl
read-at FXM w = λ k lt. bit-read w 12 8 k lt (omega arith)
read-at SPR w = spr-read w
read-at AA w = refl
read-at LK w = refl
read-at OE w = refl
read-at Rc w = refl

abbrev names : List FieldName
names = RT ∷ RA ∷ RB ∷ MB ∷ ME ∷ BF ∷ BFA ∷ SI ∷ BD ∷ LI ∷ FXM ∷ SPR ∷ AA ∷ LK ∷ OE ∷ []

-- one of these names has this place
abbrev is_named : List FieldName → ℕ × ℕ → Bool
is_named [] p = false
is_named (n ∷ ns) p = cond (nat_eq (place_of n).0 p.0 && nat_eq (place_of n).1 p.1) true (is_named ns p)

named-name : (ns : List FieldName) (p : ℕ × ℕ) → is_named ns p ≡ true → (n : FieldName) × (place_of n ≡ p)
named-name [] p h = absurd (cc)
named-name (n ∷ ns) p h = go (nat_eq (place_of n).0 p.0 && nat_eq (place_of n).1 p.1) refl h (named-name ns p) where
  go : (t : Bool) → (nat_eq (place_of n).0 p.0 && nat_eq (place_of n).1 p.1) ≡ t → cond t true (is_named ns p) ≡ true → (is_named ns p ≡ true → (m : FieldName) × (place_of m ≡ p)) → (m : FieldName) × (place_of m ≡ p)
  go true e h later =
      let b = and_parts (nat_eq (place_of n).0 p.0) (nat_eq (place_of n).1 p.1) e in
      (n, ap (λ k. (k, (place_of n).1)) (eqb-true _ _ b.0) ∙ ap (λ k. (p.0, k)) (eqb-true _ _ b.1))
  go false e h later = later h

abbrev are_named : List (ℕ × ℕ) → Bool
are_named ps = list_all (is_named names) ps

all_named : list_all (λ f. are_named (field_places f.pieces)) table ≡ true
unfolding table
all_named = refl

zeros-zero : (k : ℕ) → all_zero (replicate k 0) ≡ true
zeros-zero zero = refl
zeros-zero (suc k) = zeros-zero k

placed-read : (ps : List (ℕ × ℕ)) (w k : ℕ) → are_named ps ≡ true → AreRead ps (map (at_place w) ps ++ replicate k 0) w
placed-read [] w k h = zeros-zero k
placed-read (p ∷ ps) w k h =
    let b = and_parts (is_named names p) (are_named ps) h in
    (named-name names p b.0, (λ n e. subst (λ q. IsRead n (at_place w q) w) e (read-at n w)), placed-read ps w k b.1)

pub word-read : (i : Insn) → AreRead (field_places (form_of i.row).pieces) i.fields (word_of i)
word-read i =
    let ps = field_places (form_of i.row).pieces in
    subst (λ fs. AreRead ps fs (word_of i)) (sym (insn-placed i))
    (placed-read ps (word_of i) (6 - fields (form_of i.row).pieces) (form-test (λ f. are_named (field_places f.pieces)) all_named i.row))
