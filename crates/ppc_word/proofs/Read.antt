-- The invariants of the loops over a form's pieces.
use Rattle.std.proofs.Common.{◌≡◌, ℕ, zero, suc, ◌+◌, ◌-◌, ◌*◌, ◌/◌, ◌%◌, ◌^◌, ◌<◌, ◌≤◌, true, ◌&&◌, nat_eq, nat_le, List, [], ◌∷◌, ◌++◌, length, get_or, take, drop, set, replicate, IsTrue, refl, sym, ap, ◌∙◌, arith, add-one, drop-cons, eqb-true, leb-true, append_assoc}
use Rattle.std.proofs.lemmas.Bool.{and_parts}
use Rattle.std.proofs.lemmas.Grind.{common_steps}
use Rattle.std.proofs.lemmas.List.{length-set, drop-set-lt, drop-replicate, drop-drop}
use Rattle.std.proofs.Math.Seq.{take-suc-set}
use Rattle.ppc_word.specs.declared.piece.Piece.{Piece}
use Rattle.ppc_word.specs.declared.piece.Piece.TheVariants.{Fixed, Field}
use Rattle.ppc_word.specs.Words.{bits, joined, parts, fields, whole, sound, fit}
use Rattle.ppc_word.proofs.Digits.{joined-lt}

-- the first k pieces are read, and their fields come first
pub record IsReadTo (ps : List Piece) (word k rest count : ℕ) (found : List ℕ) : Type 0 where
  pub place : rest ≡ bits (drop k ps)
  pub counted : count + fields (drop k ps) ≡ fields ps
  pub size : length found ≡ 6
  pub prefix : take count found ++ parts (drop k ps) word ≡ parts ps word
  pub after : drop count found ≡ replicate (6 - count) 0

-- the first k pieces are written
pub record IsWrittenTo (ps : List Piece) (values : List ℕ) (k rest count word : ℕ) : Type 0 where
  pub place : rest ≡ bits (drop k ps)
  pub counted : count + fields (drop k ps) ≡ fields ps
  pub sum : word + joined (drop k ps) (drop count values) ≡ joined ps values

-- the piece at k comes before those after it
pub piece_at : (ps : List Piece) (k : ℕ) (d p : Piece) → k < length ps → get_or ps k d ≡ p → drop k ps ≡ p ∷ drop (k + 1) ps
piece_at ps k d p lt e = rw (add-one, drop-cons ps k d lt, e) refl

pub bits-drop-le : (k : ℕ) (ps : List Piece) → bits (drop k ps) ≤ bits ps
bits-drop-le zero ps = omega arith
bits-drop-le (suc k) [] = omega arith
bits-drop-le (suc k) (Fixed w v ∷ ps) = omega (arith, bits-drop-le k ps)
bits-drop-le (suc k) (Field w ∷ ps) = omega (arith, bits-drop-le k ps)

pub whole-parts : (ps : List Piece) → IsTrue (whole ps) → (bits ps ≡ 32) × (fields ps ≤ 6) × (sound ps ≡ true)
whole-parts ps h =
    let a = and_parts (nat_eq (bits ps) 32 && nat_le (fields ps) 6) (sound ps) h in
    let b = and_parts (nat_eq (bits ps) 32) (nat_le (fields ps) 6) a.0 in (eqb-true _ _ b.0, leb-true _ _ b.1, a.1)

pub fixed_step : (ps : List Piece) (word k rest count : ℕ) (found : List ℕ) (w v : ℕ) → drop k ps ≡ Fixed w v ∷ drop (k + 1) ps → IsReadTo ps word k rest count found → IsReadTo ps word (k + 1) (rest - w) count found
fixed_step ps word k rest count found w v e i =
    let b = ap bits e in
    let place : rest - w ≡ bits (drop (k + 1) ps) = omega (arith, i.place) in
    record {
      place = place;
      counted = ap (λ n. count + n) (sym (ap fields e)) ∙ i.counted;
      size = i.size;
      prefix = ap (λ ns. take count found ++ ns) (sym (ap (λ qs. parts qs word) e)) ∙ i.prefix;
      after = i.after;
    }

rest_after : (found : List ℕ) (count : ℕ) → drop count found ≡ replicate (6 - count) 0 → drop (count + 1) found ≡ replicate (6 - (count + 1)) 0
rest_after found count h = grind (arith, common_steps, drop-drop {A = ℕ} 1 count found, drop-replicate {X = ℕ} 1 (6 - count) 0)

pub field_step : (ps : List Piece) (word k rest count : ℕ) (found : List ℕ) (w : ℕ) → drop k ps ≡ Field w ∷ drop (k + 1) ps → IsReadTo ps word k rest count found → fields ps ≤ 6 → IsReadTo ps word (k + 1) (rest - w) (count + 1) (set found count (word / 2 ^ (rest - w) % 2 ^ w))
field_step ps word k rest count found w e i le =
    let b = ap bits e in
    let f = ap fields e in
    let place : rest - w ≡ bits (drop (k + 1) ps) = omega (arith, i.place) in
    let x = word / 2 ^ (rest - w) % 2 ^ w in
    let lt : count < length found = omega (arith, i.size, i.counted) in
    record {
      place = place;
      counted = omega (arith, i.counted);
      size = length-set found count x ∙ i.size;
      prefix =
          rw (add-one, take-suc-set found count x lt, append_assoc (take count found) (x ∷ []) (parts (drop (k + 1) ps) word))
          (ap (λ ns. take count found ++ ns) (ap (λ n. word / 2 ^ n % 2 ^ w ∷ parts (drop (k + 1) ps) word) place ∙ sym (ap (λ qs. parts qs word) e)) ∙ i.prefix);
      after =
          drop-set-lt (count + 1) found count x (omega arith) ∙ rest_after found count i.after;
    }

-- no piece is wider than the word
pub piece_fits : (ps : List Piece) (k : ℕ) (p : Piece) → IsTrue (whole ps) → drop k ps ≡ p ∷ drop (k + 1) ps → bits (p ∷ drop (k + 1) ps) ≤ 32
piece_fits ps k p h e = let b = ap bits e in omega (arith, bits-drop-le k ps, (whole-parts ps h).0)

-- the next step writes no number outside the word, and keeps the loop's invariant
pub fixed_written : (ps : List Piece) (values : List ℕ) (k rest count word w v : ℕ) → IsTrue (whole ps) → IsTrue (fit ps values) → drop k ps ≡ Fixed w v ∷ drop (k + 1) ps → IsWrittenTo ps values k rest count word → (rest - w ≤ 32) × (word + v * 2 ^ (rest - w) < 2 ^ 32) × IsWrittenTo ps values (k + 1) (rest - w) count (word + v * 2 ^ (rest - w))
fixed_written ps values k rest count word w v h f e i =
    let b = ap bits e in
    let t = whole-parts ps h in
    let total = joined-lt ps values t.2 f in
    let total' = rw t.0 at total in
    let place : rest - w ≡ bits (drop (k + 1) ps) = omega (arith, i.place) in
    let s : word + (v * 2 ^ bits (drop (k + 1) ps) + joined (drop (k + 1) ps) (drop count values)) ≡ joined ps values = ap (λ n. word + n) (sym (ap (λ qs. joined qs (drop count values)) e)) ∙ i.sum in
    let small : rest - w ≤ 32 = omega (arith, i.place, bits-drop-le k ps, t.0) in
    let below : word + v * 2 ^ (rest - w) < 2 ^ 32 = rw place (omega arith) in
    let counted : count + fields (drop (k + 1) ps) ≡ fields ps = ap (λ n. count + n) (sym (ap fields e)) ∙ i.counted in
    (small, below, record { place = place; counted = counted; sum = rw place (omega arith) })

pub field_written : (ps : List Piece) (values : List ℕ) (k rest count word w : ℕ) → length values ≡ 6 → IsTrue (whole ps) → IsTrue (fit ps values) → drop k ps ≡ Field w ∷ drop (k + 1) ps → IsWrittenTo ps values k rest count word → (rest - w ≤ 32) × (word + get_or values count 0 * 2 ^ (rest - w) < 2 ^ 32) × IsWrittenTo ps values (k + 1) (rest - w) (count + 1) (word + get_or values count 0 * 2 ^ (rest - w))
field_written ps values k rest count word w six h f e i =
    let b = ap bits e in
    let fs = ap fields e in
    let t = whole-parts ps h in
    let total = joined-lt ps values t.2 f in
    let total' = rw t.0 at total in
    let place : rest - w ≡ bits (drop (k + 1) ps) = omega (arith, i.place) in
    let lt : count < length values = omega (arith, i.counted, t.1) in
    let d : drop count values ≡ get_or values count 0 ∷ drop (count + 1) values = rw (add-one, drop-cons values count 0 lt) refl in
    let s : word + (get_or values count 0 * 2 ^ bits (drop (k + 1) ps) + joined (drop (k + 1) ps) (drop (count + 1) values)) ≡ joined ps values = ap (λ n. word + n) (sym (ap (λ qs. joined qs (drop count values)) e ∙ ap (λ xs. joined (Field w ∷ drop (k + 1) ps) xs) d)) ∙ i.sum in
    let small : rest - w ≤ 32 = omega (arith, i.place, bits-drop-le k ps, t.0) in
    let below : word + get_or values count 0 * 2 ^ (rest - w) < 2 ^ 32 = rw place (omega arith) in
    let counted : (count + 1) + fields (drop (k + 1) ps) ≡ fields ps = omega (arith, i.counted) in
    (small, below, record { place = place; counted = counted; sum = rw place (omega arith) })

pub written-lt : (ps : List Piece) (values : List ℕ) → IsTrue (whole ps) → IsTrue (fit ps values) → joined ps values < 2 ^ 32
written-lt ps values h f =
    let t = whole-parts ps h in
    let below = joined-lt ps values t.2 f in rw t.0 at below
