-- No segment covers an address of an earlier one.
use Rattle.std.proofs.Common.{◌≡◌, ℕ, suc, ◌+◌, ◌-◌, ◌≤◌, ◌<◌, ◌⊎◌, inl, inr, true, false, cond, eqb, leb, List, [], ◌∷◌, ◌++◌, length, get_or, refl, sym, ap, ◌∙◌, subst, arith}
use Rattle.std.proofs.lemmas.Bool.{and_parts, eqb-true, leb-true}
use Rattle.std.proofs.lemmas.Bool.Decides.{leb_tells}
use Rattle.std.proofs.lemmas.List.{append_assoc}
use Rattle.mem_partition.specs.declared.block.Block.{Block}
use Rattle.mem_partition.specs.declared.block.Class.TheVariants.{Kernel}
use Rattle.mem_partition.specs.Place.{is_apart, meets_none}
use Rattle.module_image.specs.declared.segments.Need.{Need}
use Rattle.module_image.specs.Image.{Images}
use Rattle.module_image.specs.Link.{Load}
use Rattle.module_image.specs.Needs.{needs_of}
use Rattle.wind_link.specs.Flat.{Segment, segments, covers, byte_over, byte_at}
use Rattle.wind_link.specs.Placing.{is_placed, with_segment, with_text, with_data, with_module}
use Rattle.wind_link.proofs.Extents.{AreSized}
use Rattle.wind_link.proofs.Flattening.{over-append}
use Rattle.wind_link.proofs.Placement.{fit, AllPlaced}

-- the address is in one of the blocks
abbrev pub IsTaken : ℕ → List Block → Type 0
IsTaken a [] = ⊥
IsTaken a (b ∷ bs) = ((b.addr ≤ a) × (a < b.addr + b.size)) ⊎ IsTaken a bs

taken_left : (a : ℕ) (bs cs : List Block) → IsTaken a bs → IsTaken a (bs ++ cs)
taken_left a [] cs h = absurd h
taken_left a (b ∷ bs) cs (inl h) = inl h
taken_left a (b ∷ bs) cs (inr h) = inr (taken_left a bs cs h)

taken_right : (a : ℕ) (bs cs : List Block) → IsTaken a cs → IsTaken a (bs ++ cs)
taken_right a [] cs h = h
taken_right a (b ∷ bs) cs h = inr (taken_right a bs cs h)

still_taken : (a : ℕ) (taken : List Block) (n : Need) (at : ℕ) → IsTaken a taken → IsTaken a (with_segment taken n at)
still_taken a taken n at h =
    elim (eqb n.size 0) as (λ b. IsTaken a (cond b taken (taken ++ record { addr = at; size = n.size; class = Kernel } ∷ []))) [
      | true ↦ h
      | false ↦ taken_left a taken (record { addr = at; size = n.size; class = Kernel } ∷ []) h
    ]

now_taken : (a : ℕ) (taken : List Block) (n : Need) (at : ℕ) → at ≤ a → a < at + n.size → IsTaken a (with_segment taken n at)
now_taken a taken n at h i =
    elim (eqb n.size 0) as (λ b. eqb n.size 0 ≡ b → IsTaken a (cond b taken (taken ++ record { addr = at; size = n.size; class = Kernel } ∷ []))) [
      | true ↦ λ e. (let none = eqb-true n.size 0 e in absurd (omega arith))
      | false ↦ λ e. taken_right a taken (record { addr = at; size = n.size; class = Kernel } ∷ []) (inl (h, i))
    ] refl

apart_one : (a size at : ℕ) (b : Block) → is_apart size at b ≡ true → b.addr ≤ a → a < b.addr + b.size → at ≤ a → a < at + size → ⊥
apart_one a size at b h i j k l = grind (arith, leb_tells)

none_met : (a size at : ℕ) (taken : List Block) → meets_none taken size at ≡ true → IsTaken a taken → at ≤ a → a < at + size → ⊥
none_met a size at [] h t k l = t
none_met a size at (b ∷ bs) h (inl (i, j)) k l = apart_one a size at b (and_parts (is_apart size at b) (meets_none bs size at) h).0 i j k l
none_met a size at (b ∷ bs) h (inr t) k l = none_met a size at bs (and_parts (is_apart size at b) (meets_none bs size at) h).1 t k l

covered : (s : Segment) (a : ℕ) → covers s a ≡ true → (s.0 ≤ a) × (a < s.0 + length s.1)
covered s a h = let both = and_parts (leb s.0 a) (leb (suc a) (s.0 + length s.1)) h in (leb-true s.0 a both.0, leb-true (suc a) (s.0 + length s.1) both.1)

-- a segment that is rightly placed covers no taken address
uncovered : (a : ℕ) (taken : List Block) (n : Need) (at : ℕ) (bytes : List ℕ) → length bytes ≡ n.size → is_placed taken n at ≡ true → IsTaken a taken → covers (at, bytes) a ≡ false
uncovered a taken n at bytes e p t =
    elim (covers (at, bytes) a) as (λ b. covers (at, bytes) a ≡ b → b ≡ false) [
      | true ↦ λ c. absurd (
          let (low, high) = covered (at, bytes) a c in
          elim (fit taken n at p) [
            | inl none ↦ absurd (omega arith)
            | inr f ↦ none_met a n.size at taken f.apart t low (omega arith)
          ])
      | false ↦ λ c. refl
    ] refl

passed : (byte : ℕ) (s : Segment) (ss : List Segment) (a : ℕ) → covers s a ≡ false → byte_over byte (s ∷ ss) a ≡ byte_over byte ss a
passed byte s ss a h = ap (λ b. byte_over (cond b (get_or s.1 (a - s.0) 0) byte) ss a) h

-- so the segments of later modules don't
pub stays_over : (byte a : ℕ) (taken : List Block) (ls : List Load) (is : List Images) → AreSized ls is → AllPlaced taken ls → IsTaken a taken → byte_over byte (segments ls is) a ≡ byte
stays_over byte a taken [] [] s p t = refl
stays_over byte a taken (l ∷ ls) (i ∷ is) (size, sizes) (mine, rest) t =
    let z = needs_of l.body in
    let t1 = still_taken a taken z.text l.at.text t in
    let t2 = still_taken a (with_text taken z l.at) z.«data» l.at.«data» t1 in
    let t3 = still_taken a (with_data taken z l.at) z.bss l.at.bss t2 in
    passed byte (l.at.text, i.text) ((l.at.«data», i.«data») ∷ (l.at.bss, i.bss) ∷ segments ls is) a (uncovered a taken z.text l.at.text i.text size.text mine.text t)
    ∙ passed byte (l.at.«data», i.«data») ((l.at.bss, i.bss) ∷ segments ls is) a (uncovered a (with_text taken z l.at) z.«data» l.at.«data» i.«data» size.«data» mine.«data» t1)
    ∙ passed byte (l.at.bss, i.bss) (segments ls is) a (uncovered a (with_data taken z l.at) z.bss l.at.bss i.bss size.bss mine.bss t2)
    ∙ stays_over byte a (with_module taken z l.at) ls is sizes rest t3
stays_over byte a taken [] (i ∷ is) s p t = absurd s
stays_over byte a taken (l ∷ ls) [] s p t = absurd s

-- each byte of the segments is theirs after all of them, over whatever was there
abbrev pub AllRead : (ℕ → ℕ) → List Segment → Type 0
AllRead f [] = Unit {0}
AllRead f (s ∷ ss) = ((k : ℕ) → k < length s.1 → f (s.0 + k) ≡ get_or s.1 k 0) × AllRead f ss

-- a segment, with those after it
read_one : (before : List Segment) (s : Segment) (after : List Segment) (k : ℕ) → k < length s.1
    → ((byte : ℕ) → byte_over byte after (s.0 + k) ≡ byte) → byte_at (before ++ s ∷ after) (s.0 + k) ≡ get_or s.1 k 0
read_one before s after k h over =
    let c : covers s (s.0 + k) ≡ true = grind (arith, leb_tells) in
    let d : s.0 + k - s.0 ≡ k = omega arith in
    over-append before (s ∷ after) 0 (s.0 + k)
    ∙ ap (λ b. byte_over (cond b (get_or s.1 (s.0 + k - s.0) 0) (byte_over 0 before (s.0 + k))) after (s.0 + k)) c
    ∙ over (get_or s.1 (s.0 + k - s.0) 0)
    ∙ ap (λ x. get_or s.1 x 0) d

cut_after : (f : ℕ → ℕ) (ss ts : List Segment) → AllRead f ss → AllRead f ts → AllRead f (ss ++ ts)
cut_after f [] ts h k = k
cut_after f (s ∷ ss) ts (one, rest) k = (one, cut_after f ss ts rest k)

pub all_read : (before : List Segment) (taken : List Block) (ls : List Load) (is : List Images) → AreSized ls is → AllPlaced taken ls → AllRead (byte_at (before ++ segments ls is)) (segments ls is)
all_read before taken [] [] s p = tt
all_read before taken (l ∷ ls) (i ∷ is) (size, sizes) (mine, rest) =
    let z = needs_of l.body in
    let t : Segment = (l.at.text, i.text) in
    let d : Segment = (l.at.«data», i.«data») in
    let b : Segment = (l.at.bss, i.bss) in
    let later = segments ls is in
    let whole = before ++ t ∷ d ∷ b ∷ later in
    let d_at : (before ++ t ∷ []) ++ d ∷ b ∷ later ≡ whole = append_assoc before (t ∷ []) (d ∷ b ∷ later) in
    let b_at : (before ++ t ∷ d ∷ []) ++ b ∷ later ≡ whole = append_assoc before (t ∷ d ∷ []) (b ∷ later) in
    let rest_at : (before ++ t ∷ d ∷ b ∷ []) ++ later ≡ whole = append_assoc before (t ∷ d ∷ b ∷ []) later in (
      λ k h. read_one before t (d ∷ b ∷ later) k h (λ byte.
          (let a = l.at.text + k in
          let t1 = now_taken a taken z.text l.at.text (omega arith) (omega (arith, size.text, h)) in
          let t2 = still_taken a (with_text taken z l.at) z.«data» l.at.«data» t1 in
          let t3 = still_taken a (with_data taken z l.at) z.bss l.at.bss t2 in
          passed byte d (b ∷ later) a (uncovered a (with_text taken z l.at) z.«data» l.at.«data» i.«data» size.«data» mine.«data» t1)
          ∙ passed byte b later a (uncovered a (with_data taken z l.at) z.bss l.at.bss i.bss size.bss mine.bss t2)
          ∙ stays_over byte a (with_module taken z l.at) ls is sizes rest t3)),
      (
        λ k h. ap (λ ss. byte_at ss (l.at.«data» + k)) (sym d_at) ∙ read_one (before ++ t ∷ []) d (b ∷ later) k h (λ byte.
            (let a = l.at.«data» + k in
            let t2 = now_taken a (with_text taken z l.at) z.«data» l.at.«data» (omega arith) (omega (arith, size.«data», h)) in
            let t3 = still_taken a (with_data taken z l.at) z.bss l.at.bss t2 in
            passed byte b later a (uncovered a (with_data taken z l.at) z.bss l.at.bss i.bss size.bss mine.bss t2)
            ∙ stays_over byte a (with_module taken z l.at) ls is sizes rest t3)),
        (
          λ k h. ap (λ ss. byte_at ss (l.at.bss + k)) (sym b_at) ∙ read_one (before ++ t ∷ d ∷ []) b later k h (λ byte.
              (let a = l.at.bss + k in
              let t3 = now_taken a (with_data taken z l.at) z.bss l.at.bss (omega arith) (omega (arith, size.bss, h)) in
              stays_over byte a (with_module taken z l.at) ls is sizes rest t3)),
          subst (λ ss. AllRead (byte_at ss) later) rest_at (all_read (before ++ t ∷ d ∷ b ∷ []) (with_module taken z l.at) ls is sizes rest),
        ),
      ),
    )
all_read before taken [] (i ∷ is) s p = absurd s
all_read before taken (l ∷ ls) [] s p = absurd s
