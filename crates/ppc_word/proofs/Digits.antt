-- A word and its fields determine each other, for every form.
use Rattle.std.proofs.Common.{◌≡◌, ℕ, zero, suc, ◌+◌, ◌*◌, ◌/◌, ◌%◌, ◌^◌, ◌<◌, true, ◌&&◌, nat_eq, nat_lt, List, [], ◌∷◌, ◌++◌, length, replicate, refl, sym, ap, ◌∙◌, arith, eqb-true, lit<, add_assoc}
use Rattle.std.proofs.lemmas.Bool.{and_parts, ltb-true, lt-ltb, eq-eqb}
use Rattle.std.proofs.lemmas.Nat.{mod-pow-add, pow-add, shr_high, mod_low, pow_pos, mul-add-lt, mod_below, same_from_place}
use Rattle.std.proofs.Math.Nat.{mul_comm, mul_assoc, add-mul, add_left_cancel}
use Rattle.ppc_word.specs.declared.piece.Piece.{Piece}
use Rattle.ppc_word.specs.declared.piece.Piece.TheVariants.{Fixed, Field}
use Rattle.ppc_word.specs.Words.{bits, joined, all_zero, fit, parts, meets, sound}

spread : (h w k x j : ℕ) → h * 2 ^ (w + k) + (x * 2 ^ k + j) ≡ (h * 2 ^ w + x) * 2 ^ k + j
spread h w k x j =
    rw (pow-add 2 w k, ← mul_assoc h (2 ^ w) (2 ^ k), add-mul (h * 2 ^ w) x (2 ^ k)) (sym (add_assoc (h * 2 ^ w * 2 ^ k) (x * 2 ^ k) j))

all_zero-replicate : (k : ℕ) → all_zero (replicate k 0) ≡ true
all_zero-replicate zero = refl
all_zero-replicate (suc k) = all_zero-replicate k

all_zero-one : (fs gs : List ℕ) → all_zero fs ≡ true → all_zero gs ≡ true → length fs ≡ length gs → fs ≡ gs
all_zero-one [] [] f g l = refl
all_zero-one [] (y ∷ gs) f g l = absurd (omega arith)
all_zero-one (x ∷ fs) [] f g l = absurd (omega arith)
all_zero-one (x ∷ fs) (y ∷ gs) f g l =
    let b = and_parts (nat_eq x 0) (all_zero fs) f in
    let d = and_parts (nat_eq y 0) (all_zero gs) g in
    let r = all_zero-one fs gs b.1 d.1 (omega arith) in
    let p : x ≡ 0 = eqb-true _ _ b.0 in
    let q : y ≡ 0 = eqb-true _ _ d.0 in cc

-- the fields of a word that matches the form give the word back
pub joined-parts : (ps : List Piece) (n : ℕ) → meets ps n ≡ true → joined ps (parts ps n) ≡ n % 2 ^ bits ps
joined-parts [] n h = omega arith
joined-parts (Fixed w v ∷ ps) n h =
    let b = and_parts (nat_eq (n / 2 ^ bits ps % 2 ^ w) v) (meets ps n) h in
    let e : n / 2 ^ bits ps % 2 ^ w ≡ v = eqb-true _ _ b.0 in
    let r = joined-parts ps n b.1 in
    rw (mod-pow-add n w (bits ps)) (rw (e, r) refl)
joined-parts (Field w ∷ ps) n h =
    let r = joined-parts ps n h in
    rw (mod-pow-add n w (bits ps)) (rw r refl)

-- the number that fields form is below a power of 2
pub joined-lt : (ps : List Piece) (fs : List ℕ) → sound ps ≡ true → fit ps fs ≡ true → joined ps fs < 2 ^ bits ps
joined-lt [] fs s f = lit< tt
joined-lt (Fixed w v ∷ ps) fs s f =
    let b = and_parts (nat_lt v (2 ^ w)) (sound ps) s in
    let lt : v < 2 ^ w = ltb-true _ _ b.0 in
    let r = joined-lt ps fs b.1 f in
    rw (pow-add 2 w (bits ps), mul_comm (2 ^ w) (2 ^ bits ps)) (mul-add-lt v (2 ^ bits ps) (joined ps fs) (2 ^ w) lt r)
joined-lt (Field w ∷ ps) [] s f = cc
joined-lt (Field w ∷ ps) (x ∷ fs) s f =
    let b = and_parts (nat_lt x (2 ^ w)) (fit ps fs) f in
    let lt : x < 2 ^ w = ltb-true _ _ b.0 in
    let r = joined-lt ps fs s b.1 in
    rw (pow-add 2 w (bits ps), mul_comm (2 ^ w) (2 ^ bits ps)) (mul-add-lt x (2 ^ bits ps) (joined ps fs) (2 ^ w) lt r)

-- a word formed from fields has the fixed values, whatever is above it
pub meets-joined : (ps : List Piece) (fs : List ℕ) (n h : ℕ) → sound ps ≡ true → fit ps fs ≡ true → n ≡ h * 2 ^ bits ps + joined ps fs → meets ps n ≡ true
meets-joined [] fs n h s f e = refl
meets-joined (Fixed w v ∷ ps) fs n h s f e =
    let b = and_parts (nat_lt v (2 ^ w)) (sound ps) s in
    let lt : v < 2 ^ w = ltb-true _ _ b.0 in
    let r = joined-lt ps fs b.1 f in
    let e' : n ≡ (h * 2 ^ w + v) * 2 ^ bits ps + joined ps fs = e ∙ spread h w (bits ps) v (joined ps fs) in
    let q : n / 2 ^ bits ps ≡ h * 2 ^ w + v = ap (λ m. m / 2 ^ bits ps) e' ∙ shr_high (h * 2 ^ w + v) (bits ps) (joined ps fs) r in
    let m : n / 2 ^ bits ps % 2 ^ w ≡ v = ap (λ m. m % 2 ^ w) q ∙ mod_low h w v lt in
    ap (λ t. t && meets ps n) (eq-eqb _ _ m) ∙ meets-joined ps fs n (h * 2 ^ w + v) b.1 f e'
meets-joined (Field w ∷ ps) [] n h s f e = cc
meets-joined (Field w ∷ ps) (x ∷ fs) n h s f e =
    let b = and_parts (nat_lt x (2 ^ w)) (fit ps fs) f in
    meets-joined ps fs n (h * 2 ^ w + x) s b.1 (e ∙ spread h w (bits ps) x (joined ps fs))

-- the numbers in the places of the fields are fields
pub fit-parts : (ps : List Piece) (n k : ℕ) → fit ps (parts ps n ++ replicate k 0) ≡ true
fit-parts [] n k = all_zero-replicate k
fit-parts (Fixed w v ∷ ps) n k = fit-parts ps n k
fit-parts (Field w ∷ ps) n k =
    ap (λ t. t && fit ps (parts ps n ++ replicate k 0)) (lt-ltb (n / 2 ^ bits ps % 2 ^ w) (2 ^ w) (mod_below (n / 2 ^ bits ps) (2 ^ w) (pow_pos w))) ∙ fit-parts ps n k

-- numbers after the last field change nothing
pub joined-after : (ps : List Piece) (n : ℕ) (fs : List ℕ) → joined ps (parts ps n ++ fs) ≡ joined ps (parts ps n)
joined-after [] n fs = refl
joined-after (Fixed w v ∷ ps) n fs = ap (λ m. v * 2 ^ bits ps + m) (joined-after ps n fs)
joined-after (Field w ∷ ps) n fs = ap (λ m. n / 2 ^ bits ps % 2 ^ w * 2 ^ bits ps + m) (joined-after ps n fs)

-- a word has one list of fields
pub joined-one : (ps : List Piece) (fs gs : List ℕ) → sound ps ≡ true → fit ps fs ≡ true → fit ps gs ≡ true → length fs ≡ length gs → joined ps fs ≡ joined ps gs → fs ≡ gs
joined-one [] fs gs s f g l e = all_zero-one fs gs f g l
joined-one (Fixed w v ∷ ps) fs gs s f g l e =
    let b = and_parts (nat_lt v (2 ^ w)) (sound ps) s in
    joined-one ps fs gs b.1 f g l (add_left_cancel (v * 2 ^ bits ps) e)
joined-one (Field w ∷ ps) [] gs s f g l e = cc
joined-one (Field w ∷ ps) (x ∷ fs) [] s f g l e = cc
joined-one (Field w ∷ ps) (x ∷ fs) (y ∷ gs) s f g l e =
    let b = and_parts (nat_lt x (2 ^ w)) (fit ps fs) f in
    let d = and_parts (nat_lt y (2 ^ w)) (fit ps gs) g in
    let p = same_from_place x (joined ps fs) y (joined ps gs) (2 ^ bits ps) (joined-lt ps fs s b.1) (joined-lt ps gs s d.1) e in
    let r = joined-one ps fs gs s b.1 d.1 (omega arith) p.1 in cc
