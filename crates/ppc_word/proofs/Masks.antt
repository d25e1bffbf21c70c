-- Two forms with different fixed values in a shared bit have no word in common.
use Rattle.std.proofs.Common.{◌≡◌, ℕ, zero, suc, ◌+◌, ◌-◌, ◌*◌, ◌/◌, ◌%◌, ◌^◌, ◌<◌, Bool, true, ◌&&◌, not, nat_eq, nat_lt, List, [], ◌∷◌, length, get_or, refl, sym, ap, ◌∙◌, arith, eqb-true, eq-eqb, bit_and, lit<}
use Rattle.std.specs.List.{list_all}
use Rattle.std.specs.Int.Bits.{and_zero_r}
use Rattle.std.proofs.lemmas.Bool.{and_parts, ltb-true}
use Rattle.std.proofs.lemmas.Nat.{and_block, and_mask, and_assoc, and_comm, and_le_l, same_from_place, mod-pow-add, mod_below, pow_pos, pow-add, mul-add-lt}
use Rattle.std.proofs.Math.Nat.{mul_comm, mod-eq_of_lt}
use Rattle.ppc_word.specs.declared.piece.Piece.{Piece}
use Rattle.ppc_word.specs.declared.piece.Piece.TheVariants.{Fixed, Field}
use Rattle.ppc_word.specs.Words.{bits, meets, sound}
use Rattle.ppc_word.specs.Patterns.{mask, held}

mask-lt : (ps : List Piece) → mask ps < 2 ^ bits ps
unfolding mask
mask-lt [] = lit< tt
mask-lt (Fixed w v ∷ ps) =
    let p = pow_pos w in
    let lt : 2 ^ w - 1 < 2 ^ w = omega arith in
    rw (pow-add 2 w (bits ps), mul_comm (2 ^ w) (2 ^ bits ps)) (mul-add-lt (2 ^ w - 1) (2 ^ bits ps) (mask ps) (2 ^ w) lt (mask-lt ps))
mask-lt (Field w ∷ ps) =
    let p = pow_pos w in
    let lt : 0 < 2 ^ w = omega arith in
    rw (pow-add 2 w (bits ps), mul_comm (2 ^ w) (2 ^ bits ps)) (mul-add-lt 0 (2 ^ bits ps) (mask ps) (2 ^ w) lt (mask-lt ps))

mod_twice : (n w : ℕ) → n % 2 ^ w % 2 ^ w ≡ n % 2 ^ w
mod_twice n w = let l = mod_below n (2 ^ w) (pow_pos w) in mod-eq_of_lt l

pub held-meets : (ps : List Piece) (n : ℕ) → meets ps n ≡ true → bit_and (n % 2 ^ bits ps) (mask ps) ≡ held ps
unfolding mask held
held-meets [] n h = and_zero_r (n % 1)
held-meets (Fixed w v ∷ ps) n h =
    let b = and_parts (nat_eq (n / 2 ^ bits ps % 2 ^ w) v) (meets ps n) h in
    let e : n / 2 ^ bits ps % 2 ^ w ≡ v = eqb-true _ _ b.0 in
    let r = held-meets ps n b.1 in
    let l = mod_below n (2 ^ bits ps) (pow_pos (bits ps)) in
    let top : bit_and v (2 ^ w - 1) ≡ v = and_mask v w ∙ ap (λ m. m % 2 ^ w) (sym e) ∙ mod_twice (n / 2 ^ bits ps) w ∙ e in
    rw (mod-pow-add n w (bits ps), e, and_block (bits ps) v (2 ^ w - 1) (n % 2 ^ bits ps) (mask ps) l (mask-lt ps), top, r) refl
held-meets (Field w ∷ ps) n h =
    let r = held-meets ps n h in
    let l = mod_below n (2 ^ bits ps) (pow_pos (bits ps)) in
    rw (mod-pow-add n w (bits ps), and_block (bits ps) (n / 2 ^ bits ps % 2 ^ w) 0 (n % 2 ^ bits ps) (mask ps) l (mask-lt ps), and_zero_r (n / 2 ^ bits ps % 2 ^ w), r) refl

held-lt : (ps : List Piece) → sound ps ≡ true → held ps < 2 ^ bits ps
unfolding held
held-lt [] s = lit< tt
held-lt (Fixed w v ∷ ps) s =
    let b = and_parts (nat_lt v (2 ^ w)) (sound ps) s in
    let lt : v < 2 ^ w = ltb-true _ _ b.0 in
    rw (pow-add 2 w (bits ps), mul_comm (2 ^ w) (2 ^ bits ps)) (mul-add-lt v (2 ^ bits ps) (held ps) (2 ^ w) lt (held-lt ps b.1))
held-lt (Field w ∷ ps) s =
    let p = pow_pos w in
    let lt : 0 < 2 ^ w = omega arith in
    rw (pow-add 2 w (bits ps), mul_comm (2 ^ w) (2 ^ bits ps)) (mul-add-lt 0 (2 ^ bits ps) (held ps) (2 ^ w) lt (held-lt ps s))

and-lt : (a b k : ℕ) → a < k → bit_and a b < k
and-lt a b k h = omega (arith, and_le_l a b)

-- a word with the fixed values matches the form
pub meets-held : (ps : List Piece) (n : ℕ) → sound ps ≡ true → bit_and (n % 2 ^ bits ps) (mask ps) ≡ held ps → meets ps n ≡ true
unfolding mask held
meets-held [] n s h = refl
meets-held (Fixed w v ∷ ps) n s h =
    let b = and_parts (nat_lt v (2 ^ w)) (sound ps) s in
    let l = mod_below n (2 ^ bits ps) (pow_pos (bits ps)) in
    let x = n / 2 ^ bits ps % 2 ^ w in
    let top : bit_and x (2 ^ w - 1) ≡ x = and_mask x w ∙ mod_twice (n / 2 ^ bits ps) w in
    let h' : bit_and x (2 ^ w - 1) * 2 ^ bits ps + bit_and (n % 2 ^ bits ps) (mask ps) ≡ v * 2 ^ bits ps + held ps = sym (and_block (bits ps) x (2 ^ w - 1) (n % 2 ^ bits ps) (mask ps) l (mask-lt ps)) ∙ ap (λ m. bit_and m (mask (Fixed w v ∷ ps))) (sym (mod-pow-add n w (bits ps))) ∙ h in
    let q = same_from_place _ _ _ _ (2 ^ bits ps) (and-lt (n % 2 ^ bits ps) (mask ps) (2 ^ bits ps) l) (held-lt ps b.1) h' in
    let e : x ≡ v = sym top ∙ q.0 in
    rw (eq-eqb _ _ e) (meets-held ps n b.1 q.1)
meets-held (Field w ∷ ps) n s h =
    let l = mod_below n (2 ^ bits ps) (pow_pos (bits ps)) in
    let x = n / 2 ^ bits ps % 2 ^ w in
    let h' : bit_and x 0 * 2 ^ bits ps + bit_and (n % 2 ^ bits ps) (mask ps) ≡ 0 * 2 ^ bits ps + held ps = sym (and_block (bits ps) x 0 (n % 2 ^ bits ps) (mask ps) l (mask-lt ps)) ∙ ap (λ m. bit_and m (mask (Field w ∷ ps))) (sym (mod-pow-add n w (bits ps))) ∙ h in
    let q = same_from_place _ _ _ _ (2 ^ bits ps) (and-lt (n % 2 ^ bits ps) (mask ps) (2 ^ bits ps) l) (held-lt ps s) h' in
    meets-held ps n s q.1

-- two forms differ in a bit that both fix
unfoldable pub apart : ℕ × ℕ → ℕ × ℕ → Bool
apart k l = not (nat_eq (bit_and k.1 l.0) (bit_and l.1 k.0))

abbrev pub key : List Piece → ℕ × ℕ
key ps = (mask ps, held ps)

-- each two of them do
unfoldable pub all_apart : List (ℕ × ℕ) → Bool
all_apart [] = true
all_apart (k ∷ ks) = list_all (apart k) ks && all_apart ks

pub list_all-at : {X : Type 0} (p : X → Bool) (xs : List X) (i : ℕ) (d : X) → list_all p xs ≡ true → i < length xs → p (get_or xs i d) ≡ true
list_all-at p [] i d h lt = absurd (omega arith)
list_all-at p (x ∷ xs) zero d h lt = (and_parts (p x) (list_all p xs) h).0
list_all-at p (x ∷ xs) (suc i) d h lt = list_all-at p xs i d (and_parts (p x) (list_all p xs) h).1 (omega arith)

pub all_apart-at : (ks : List (ℕ × ℕ)) (i j : ℕ) (d : ℕ × ℕ) → all_apart ks ≡ true → i < j → j < length ks → apart (get_or ks i d) (get_or ks j d) ≡ true
unfolding all_apart
all_apart-at [] i j d h lt le = absurd (omega arith)
all_apart-at (k ∷ ks) i zero d h lt le = absurd (omega arith)
all_apart-at (k ∷ ks) zero (suc j) d h lt le = list_all-at (apart k) ks j d (and_parts (list_all (apart k) ks) (all_apart ks) h).0 (omega arith)
all_apart-at (k ∷ ks) (suc i) (suc j) d h lt le = all_apart-at ks i j d (and_parts (list_all (apart k) ks) (all_apart ks) h).1 (omega arith) (omega arith)

-- no number has the values of both
pub not-apart : (n m v m' v' : ℕ) → bit_and n m ≡ v → bit_and n m' ≡ v' → apart (m, v) (m', v') ≡ true → ⊥
unfolding apart
not-apart n m v m' v' p q h =
    let e : bit_and v m' ≡ bit_and v' m =
    ap (λ x. bit_and x m') (sym p) ∙ and_assoc m' n m ∙ ap (bit_and n) (and_comm m m') ∙ sym (and_assoc m n m') ∙ ap (λ x. bit_and x m) q in
    let t = eq-eqb _ _ e in
    let u = ap not t in cc
