-- The index leads to the only form that can match a word.
use Rattle.std.proofs.Common.{◌≡◌, ℕ, zero, suc, ◌+◌, ◌/◌, ◌%◌, ◌^◌, ◌<◌, Bool, true, false, cond, ◌&&◌, ◌||◌, nat_eq, nat_lt, List, [], ◌∷◌, length, get_or, refl, ◌∙◌, arith, eqb-true, eq-eqb, zero-add}
use Rattle.std.proofs.lemmas.Bool.{and_parts, ltb-true}
use Rattle.ppc_word.specs.declared.row.TheConstants.{ROWS}
use Rattle.ppc_word.specs.declared.piece.Piece.{Piece}
use Rattle.ppc_word.specs.declared.piece.Piece.TheVariants.{Fixed, Field}
use Rattle.ppc_word.specs.Words.{bits, meets}
use Rattle.ppc_word.specs.Table.{table, form_at}
use Rattle.ppc_word.specs.Patterns.{mask, held}
use Rattle.ppc_word.specs.Places.{by_opcode, by_19, by_31}
use Rattle.ppc_word.proofs.Masks.{key, apart, not-apart, held-meets}
use Rattle.ppc_word.proofs.Whole.{keys, length-keys, key-at, held-at}

-- the words for an entry, as a form; the entries for opcodes 19 and 31 aren't used
abbrev pub words_of_opcode : ℕ → List Piece
words_of_opcode n = Fixed 6 (cond (nat_eq n 19 || nat_eq n 31) 0 n) ∷ Field 26 ∷ []

abbrev pub words_of_19 : ℕ → List Piece
words_of_19 n = Fixed 6 19 ∷ Field 15 ∷ Fixed 6 n ∷ Field 5 ∷ []

abbrev pub words_of_31 : ℕ → List Piece
words_of_31 n = Fixed 6 31 ∷ Field 15 ∷ Fixed 10 n ∷ Field 1 ∷ []

length-opcode : length by_opcode ≡ 64
unfolding by_opcode
length-opcode = refl

length-19 : length by_19 ≡ 64
unfolding by_19
length-19 = refl

length-31 : length by_31 ≡ 1024
unfolding by_31
length-31 = refl

-- each form but that at i differs from it in a bit that both fix
unfoldable only : ℕ × ℕ → ℕ → ℕ → List (ℕ × ℕ) → Bool
only s i k [] = true
only s i k (l ∷ ls) = (nat_eq i k || apart s l) && only s i (suc k) ls

unfoldable leads : (ℕ → List Piece) → ℕ → List ℕ → List (ℕ × ℕ) → Bool
leads f n [] ks = true
leads f n (i ∷ is) ks = nat_lt i ROWS && (only (key (f n)) i 0 ks && leads f (suc n) is ks)

opcodes_lead : leads words_of_opcode 0 by_opcode keys ≡ true
unfolding leads only apart mask held keys table by_opcode
opcodes_lead = refl

nineteens_lead : leads words_of_19 0 by_19 keys ≡ true
unfolding leads only apart mask held keys table by_19
nineteens_lead = refl

thirty_ones_lead : leads words_of_31 0 by_31 keys ≡ true
unfolding leads only apart mask held keys table by_31
thirty_ones_lead = refl

only-at : (s : ℕ × ℕ) (i k : ℕ) (ls : List (ℕ × ℕ)) (j : ℕ) (d : ℕ × ℕ) → only s i k ls ≡ true → j < length ls → (apart s (get_or ls j d) ≡ true → ⊥) → i ≡ k + j
unfolding only
only-at s i k [] j d h lt n = absurd (omega arith)
only-at s i k (l ∷ ls) zero d h lt n =
    let b = and_parts (nat_eq i k || apart s l) (only s i (suc k) ls) h in
    go (nat_eq i k) refl b.0 where
      go : (t : Bool) → nat_eq i k ≡ t → (t || apart s l) ≡ true → i ≡ k + 0
      go true e q = eqb-true _ _ e ∙ omega arith
      go false e q = absurd (n q)
only-at s i k (l ∷ ls) (suc j) d h lt n =
    let b = and_parts (nat_eq i k || apart s l) (only s i (suc k) ls) h in
    only-at s i (suc k) ls j d b.1 (omega arith) n ∙ omega arith

leads-at : (f : ℕ → List Piece) (n : ℕ) (is : List ℕ) (ks : List (ℕ × ℕ)) (m j : ℕ) (d : ℕ × ℕ) → leads f n is ks ≡ true → m < length is → j < length ks → (apart (key (f (n + m))) (get_or ks j d) ≡ true → ⊥) → get_or is m 0 ≡ j
unfolding leads
leads-at f n [] ks m j d h lt le differs = absurd (omega arith)
leads-at f n (i ∷ is) ks zero j d h lt le differs =
    let b = and_parts (nat_lt i ROWS) (only (key (f n)) i 0 ks && leads f (suc n) is ks) h in
    let c = and_parts (only (key (f n)) i 0 ks) (leads f (suc n) is ks) b.1 in
    let e : n + 0 ≡ n = omega arith in
    let others : apart (key (f n)) (get_or ks j d) ≡ true → ⊥ = λ q. differs (rw e q) in
    only-at (key (f n)) i 0 ks j d c.0 le others ∙ zero-add j
leads-at f n (i ∷ is) ks (suc m) j d h lt le differs =
    let b = and_parts (nat_lt i ROWS) (only (key (f n)) i 0 ks && leads f (suc n) is ks) h in
    let c = and_parts (only (key (f n)) i 0 ks) (leads f (suc n) is ks) b.1 in
    let e : n + suc m ≡ suc n + m = omega arith in
    let others : apart (key (f (suc n + m))) (get_or ks j d) ≡ true → ⊥ = λ q. differs (rw e q) in
    leads-at f (suc n) is ks m j d c.1 (omega arith) le others

leads-below : (f : ℕ → List Piece) (n : ℕ) (is : List ℕ) (ks : List (ℕ × ℕ)) (m : ℕ) → leads f n is ks ≡ true → m < length is → get_or is m 0 < ROWS
unfolding leads
leads-below f n [] ks m h lt = absurd (omega arith)
leads-below f n (i ∷ is) ks zero h lt =
    ltb-true _ _ (and_parts (nat_lt i ROWS) (only (key (f n)) i 0 ks && leads f (suc n) is ks) h).0
leads-below f n (i ∷ is) ks (suc m) h lt =
    let b = and_parts (nat_lt i ROWS) (only (key (f n)) i 0 ks && leads f (suc n) is ks) h in
    leads-below f (suc n) is ks m (and_parts (only (key (f n)) i 0 ks) (leads f (suc n) is ks) b.1).1 (omega arith)

-- no word matches two forms that are apart
both : (ps : List Piece) (k w : ℕ) → k < ROWS → bits ps ≡ 32 → meets ps w ≡ true → meets (form_at k).pieces w ≡ true → apart (key ps) (get_or keys k (0, 0)) ≡ true → ⊥
both ps k w h b p q a =
    let e = held-meets ps w p in
    let e' = rw b at e in
    let a' = rw (key-at k (0, 0) h) at a in
    not-apart (w % 2 ^ 32) (mask ps) (held ps) (mask (form_at k).pieces) (held (form_at k).pieces) e' (held-at k w h q) a'

led : (f : ℕ → List Piece) (is : List ℕ) (m k w : ℕ) → leads f 0 is keys ≡ true → m < length is → bits (f m) ≡ 32 → meets (f m) w ≡ true → k < ROWS → meets (form_at k).pieces w ≡ true → get_or is m 0 ≡ k
led f is m k w h lt b p q r =
    let e : 0 + m ≡ m = omega arith in
    leads-at f 0 is keys m k (0, 0) h lt (omega (arith, length-keys)) (λ a. both (f m) k w q b p r (let a' = rw e at a in a'))

-- the place by each part of the index
abbrev pub Leads : ℕ → ℕ → Type 0
Leads place w = (place < ROWS) × ((k : ℕ) → k < ROWS → meets (form_at k).pieces w ≡ true → place ≡ k)

pub led-31 : (w : ℕ) → w / 2 ^ 26 % 2 ^ 6 ≡ 31 → Leads (get_or by_31 (w / 2 ^ 1 % 2 ^ 10) 0) w
led-31 w s =
    let p : meets (words_of_31 (w / 2 ^ 1 % 2 ^ 10)) w ≡ true = rw (s, eq-eqb _ _ refl) refl in
    let b : w / 2 ^ 1 % 2 ^ 10 < length by_31 = omega (arith, length-31) in
    (leads-below words_of_31 0 by_31 keys (w / 2 ^ 1 % 2 ^ 10) thirty_ones_lead b, λ k h m. led words_of_31 by_31 (w / 2 ^ 1 % 2 ^ 10) k w thirty_ones_lead b refl p h m)

pub led-19 : (w : ℕ) → w / 2 ^ 26 % 2 ^ 6 ≡ 19 → Leads (get_or by_19 (w / 2 ^ 5 % 2 ^ 6) 0) w
led-19 w s =
    let p : meets (words_of_19 (w / 2 ^ 5 % 2 ^ 6)) w ≡ true = rw (s, eq-eqb _ _ refl) refl in
    let b : w / 2 ^ 5 % 2 ^ 6 < length by_19 = omega (arith, length-19) in
    (leads-below words_of_19 0 by_19 keys (w / 2 ^ 5 % 2 ^ 6) nineteens_lead b, λ k h m. led words_of_19 by_19 (w / 2 ^ 5 % 2 ^ 6) k w nineteens_lead b refl p h m)

opened : (n : ℕ) → (n ≡ 19 → ⊥) → (n ≡ 31 → ⊥) → cond (nat_eq n 19 || nat_eq n 31) 0 n ≡ n
opened n p q = go (nat_eq n 19) (nat_eq n 31) refl refl where
  go : (s t : Bool) → nat_eq n 19 ≡ s → nat_eq n 31 ≡ t → cond (s || t) 0 n ≡ n
  go true t a b = absurd (p (eqb-true _ _ a))
  go false true a b = absurd (q (eqb-true _ _ b))
  go false false a b = refl

pub led-opcode : (w : ℕ) → (w / 2 ^ 26 % 2 ^ 6 ≡ 19 → ⊥) → (w / 2 ^ 26 % 2 ^ 6 ≡ 31 → ⊥) → Leads (get_or by_opcode (w / 2 ^ 26 % 2 ^ 6) 0) w
led-opcode w x y =
    let n = w / 2 ^ 26 % 2 ^ 6 in
    let p : meets (words_of_opcode n) w ≡ true = rw (opened n x y, eq-eqb _ _ refl) refl in
    let b : n < length by_opcode = omega (arith, length-opcode) in
    (leads-below words_of_opcode 0 by_opcode keys n opcodes_lead b, λ k h m. led words_of_opcode by_opcode n k w opcodes_lead b refl p h m)
