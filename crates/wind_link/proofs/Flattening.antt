-- Segments written in order over zeros are the flat image.
use Rattle.std.proofs.Common.{◌≡◌, ℕ, zero, suc, ◌+◌, ◌-◌, ◌≤◌, ◌<◌, ◌⊎◌, inl, inr, true, false, cond, List, [], ◌∷◌, ◌++◌, length, map, get_or, take, drop, replicate, refl, sym, ap, ◌∙◌, arith}
use Rattle.std.specs.List.{range_with_len}
use Rattle.std.proofs.lemmas.List.{nil_from_length, take-append-drop, places, ext_get_or, append_assoc, append-nil}
use Rattle.std.proofs.lemmas.List.FromFn.{length-map-range_with_len, get_or-map-range_with_len}
use Rattle.std.proofs.lemmas.Bool.Decides.{leb_tells}
use Rattle.std.proofs.Math.Path.{fun_ext}
use Rattle.wind_link.specs.Flat.{Segment, covers, byte_over, byte_at, lowest, highest, flat}
use Rattle.wind_link.specs.Steps.{IsInside, with_one, with_all}

-- each segment that has bytes is inside the n bytes from `low` on
abbrev pub AllInside : ℕ → ℕ → List Segment → Type 0
AllInside low n [] = Unit {0}
AllInside low n (s ∷ ss) = IsInside low n (length s.1) s.0 × AllInside low n ss

-- an empty segment changes nothing
one_empty : (low : ℕ) (bytes : List ℕ) (s : Segment) → length s.1 ≡ 0 → with_one low bytes s ≡ bytes
unfolding with_one
one_empty low bytes s h =
    let k = s.0 - low in
    ap (λ xs. take k bytes ++ (xs ++ drop (k + length s.1) bytes)) (nil_from_length s.1 h)
    ∙ ap (λ n. take k bytes ++ drop n bytes) (let same : k + length s.1 ≡ k = omega (arith, h) in same)
    ∙ take-append-drop k bytes

length-one : (low : ℕ) (bytes : List ℕ) (s : Segment) → IsInside low (length bytes) (length s.1) s.0 → 0 < length s.1 → length (with_one low bytes s) ≡ length bytes
unfolding with_one
length-one low bytes s h some = let (a, b) = h some in grind (arith, places)

one_before : (low : ℕ) (bytes : List ℕ) (s : Segment) (k : ℕ) → low ≤ s.0 → s.0 + length s.1 ≤ low + length bytes → low + k < s.0 → get_or (with_one low bytes s) k 0 ≡ get_or bytes k 0
unfolding with_one
one_before low bytes s k a b h = grind (arith, places)

one_after : (low : ℕ) (bytes : List ℕ) (s : Segment) (k : ℕ) → low ≤ s.0 → s.0 + length s.1 ≤ low + length bytes → s.0 + length s.1 ≤ low + k → get_or (with_one low bytes s) k 0 ≡ get_or bytes k 0
unfolding with_one
one_after low bytes s k a b h = grind (arith, places)

one_within : (low : ℕ) (bytes : List ℕ) (s : Segment) (k : ℕ) → low ≤ s.0 → s.0 + length s.1 ≤ low + length bytes → s.0 ≤ low + k → low + k < s.0 + length s.1 → get_or (with_one low bytes s) k 0 ≡ get_or s.1 (low + k - s.0) 0
unfolding with_one
one_within low bytes s k a b h i = grind (arith, places)

pub over-append : (ss ts : List Segment) (byte a : ℕ) → byte_over byte (ss ++ ts) a ≡ byte_over (byte_over byte ss a) ts a
over-append [] ts byte a = refl
over-append (s ∷ ss) ts byte a = over-append ss ts _ a

covers_within : (s : Segment) (a : ℕ) → s.0 ≤ a → a < s.0 + length s.1 → covers s a ≡ true
covers_within s a h i = grind (arith, leb_tells)

covers_before : (s : Segment) (a : ℕ) → a < s.0 → covers s a ≡ false
covers_before s a h = grind (arith, leb_tells)

covers_after : (s : Segment) (a : ℕ) → s.0 + length s.1 ≤ a → covers s a ≡ false
covers_after s a h = grind (arith, leb_tells)

-- the byte after one segment more
byte_more : (ss : List Segment) (s : Segment) (a : ℕ) → byte_at (ss ++ s ∷ []) a ≡ cond (covers s a) (get_or s.1 (a - s.0) 0) (byte_at ss a)
byte_more ss s a = over-append ss (s ∷ []) 0 a

byte_more_within : (ss : List Segment) (s : Segment) (a : ℕ) → s.0 ≤ a → a < s.0 + length s.1 → byte_at (ss ++ s ∷ []) a ≡ get_or s.1 (a - s.0) 0
byte_more_within ss s a h i = byte_more ss s a ∙ ap (λ b. cond b (get_or s.1 (a - s.0) 0) (byte_at ss a)) (covers_within s a h i)

byte_more_outside : (ss : List Segment) (s : Segment) (a : ℕ) → covers s a ≡ false → byte_at (ss ++ s ∷ []) a ≡ byte_at ss a
byte_more_outside ss s a h = byte_more ss s a ∙ ap (λ b. cond b (get_or s.1 (a - s.0) 0) (byte_at ss a)) h

zero_or : (n : ℕ) → (n ≡ 0) ⊎ (0 < n)
zero_or zero = inl refl
zero_or (suc n) = inr (omega arith)

pub below_or : (a b : ℕ) → (a < b) ⊎ (b ≤ a)
below_or a b = elim (leb_tells b a) [ inl (e, h) ↦ inr h | inr (e, h) ↦ inl h ]

-- the n bytes from `low` on, with these segments
abbrev bytes_of : ℕ → ℕ → List Segment → List ℕ
bytes_of low n ss = map (byte_at ss) (range_with_len low n)

at_index : (low n : ℕ) (ss : List Segment) (k : ℕ) → k < n → get_or (bytes_of low n ss) k 0 ≡ byte_at ss (low + k)
at_index low n ss k h = get_or-map-range_with_len (byte_at ss) low n k (low + k) 0 h refl

byte_one : (low n : ℕ) (ss : List Segment) (s : Segment) (k : ℕ) → low ≤ s.0 → s.0 + length s.1 ≤ low + n → k < n
    → get_or (with_one low (bytes_of low n ss) s) k 0 ≡ byte_at (ss ++ s ∷ []) (low + k)
byte_one low n ss s k a b h =
    let size = length-map-range_with_len (byte_at ss) low n in
    let fits : s.0 + length s.1 ≤ low + length (bytes_of low n ss) = omega (arith, size, b) in
    elim (below_or (low + k) s.0) [
      | inl before ↦ one_before low (bytes_of low n ss) s k a fits before ∙ at_index low n ss k h ∙ sym (byte_more_outside ss s (low + k) (covers_before s (low + k) before))
      | inr from ↦ elim (below_or (low + k) (s.0 + length s.1)) [
        | inl within ↦ one_within low (bytes_of low n ss) s k a fits from within ∙ sym (byte_more_within ss s (low + k) from within)
        | inr after ↦ one_after low (bytes_of low n ss) s k a fits after ∙ at_index low n ss k h ∙ sym (byte_more_outside ss s (low + k) (covers_after s (low + k) after))
      ]
    ]

nowhere : (s : Segment) (a : ℕ) → length s.1 ≡ 0 → covers s a ≡ false
nowhere s a e = elim (below_or a s.0) [ inl h ↦ covers_before s a h | inr h ↦ covers_after s a (omega arith) ]

one_more : (low n : ℕ) (ss : List Segment) (s : Segment) → IsInside low n (length s.1) s.0 → with_one low (bytes_of low n ss) s ≡ bytes_of low n (ss ++ s ∷ [])
one_more low n ss s inside =
    let size = length-map-range_with_len (byte_at ss) low n in
    let size_more = length-map-range_with_len (byte_at (ss ++ s ∷ [])) low n in
    elim (zero_or (length s.1)) [
      | inl none ↦ one_empty low (bytes_of low n ss) s none ∙ ap (λ f. map f (range_with_len low n)) (fun_ext (λ a. sym (byte_more_outside ss s a (nowhere s a none))))
      | inr some ↦
          let (a, b) = inside some in
          let fits : IsInside low (length (bytes_of low n ss)) (length s.1) s.0 = λ h. (a, omega (arith, size, b)) in
          let same = length-one low (bytes_of low n ss) s fits some in
          ext_get_or 0 (with_one low (bytes_of low n ss) s) (bytes_of low n (ss ++ s ∷ [])) (same ∙ (size ∙ sym size_more))
          (λ k h.
          (let within : k < n = omega (arith, same, size, h) in
          byte_one low n ss s k a b within ∙ sym (at_index low n (ss ++ s ∷ []) k within)))
    ]

over_all : (low n : ℕ) (ss ts : List Segment) → AllInside low n ts → with_all low (bytes_of low n ss) ts ≡ bytes_of low n (ss ++ ts)
over_all low n ss [] h = ap (bytes_of low n) (sym (append-nil ss))
over_all low n ss (t ∷ ts) (one, rest) =
    ap (λ b. with_all low b ts) (one_more low n ss t one)
    ∙ over_all low n (ss ++ t ∷ []) ts rest
    ∙ ap (bytes_of low n) (append_assoc ss (t ∷ []) ts)

all_zero : (low n : ℕ) → replicate n 0 ≡ bytes_of low n []
all_zero low zero = refl
all_zero low (suc n) = ap (λ bs. 0 ∷ bs) (all_zero (low + 1) n)

pub flattened : (low n : ℕ) (ss : List Segment) → low ≡ lowest ss → n ≡ highest ss - lowest ss → AllInside low n ss → with_all low (replicate n 0) ss ≡ flat ss
unfolding flat
flattened low n ss l e h =
    ap (λ b. with_all low b ss) (all_zero low n)
    ∙ over_all low n [] ss h
    ∙ ap (λ x. map (byte_at ss) (range_with_len x n)) l
    ∙ ap (λ x. map (byte_at ss) (range_with_len (lowest ss) x)) e
