-- The blocks that modules take, and how far their segments reach.
use Rattle.std.proofs.Common.{◌≡◌, ℕ, ◌+◌, ◌-◌, ◌^◌, ◌≤◌, true, false, cond, eqb, min, max, List, [], ◌∷◌, ◌++◌, length, refl, sym, ap, ◌∙◌, subst, arith}
use Rattle.std.proofs.lemmas.Bool.{eqb-true}
use Rattle.std.proofs.lemmas.List.{append_assoc, append-nil}
use Rattle.mem_partition.specs.declared.block.Block.{Block}
use Rattle.mem_partition.specs.declared.block.Class.TheVariants.{Kernel}
use Rattle.module_image.specs.declared.segments.Need.{Need}
use Rattle.module_image.specs.declared.segments.Needs.{Needs}
use Rattle.module_image.specs.declared.segments.Places.{Places}
use Rattle.module_image.specs.Image.{Images}
use Rattle.module_image.specs.Laws.{HasSizes}
use Rattle.module_image.specs.Link.{Load}
use Rattle.module_image.specs.Needs.{needs_of}
use Rattle.wind_link.specs.Flat.{Segment, segments, lowest_from, highest_from, lowest, highest}
use Rattle.wind_link.specs.Placing.{with_segment, with_text, with_data, with_module, taken_by}
use Rattle.wind_link.specs.Steps.{low_after, high_after, IsInside, AreInside}
use Rattle.wind_link.proofs.Flattening.{AllInside}

-- ---- blocks
-- the block of a segment; an empty one has none
abbrev pub block_for : ℕ → ℕ → List Block
block_for size at = cond (eqb size 0) [] (record { addr = at; size = size; class = Kernel } ∷ [])

-- the blocks of a module, and of several
abbrev pub blocks_for : Needs → Places → List Block
blocks_for z at = block_for z.text.size at.text ++ (block_for z.«data».size at.«data» ++ block_for z.bss.size at.bss)

abbrev pub new_blocks : List Load → List Block
new_blocks [] = []
new_blocks (l ∷ ls) = blocks_for (needs_of l.body) l.at ++ new_blocks ls

segment_added : (taken : List Block) (n : Need) (at : ℕ) → with_segment taken n at ≡ taken ++ block_for n.size at
segment_added taken n at =
    elim (eqb n.size 0) as (λ b. cond b taken (taken ++ record { addr = at; size = n.size; class = Kernel } ∷ []) ≡ taken ++ cond b [] (record { addr = at; size = n.size; class = Kernel } ∷ [])) [
      | true ↦ sym (append-nil taken)
      | false ↦ refl
    ]

module_added : (taken : List Block) (z : Needs) (at : Places) → with_module taken z at ≡ taken ++ blocks_for z at
module_added taken z at =
    let t = block_for z.text.size at.text in
    let d = block_for z.«data».size at.«data» in
    let b = block_for z.bss.size at.bss in
    segment_added (with_data taken z at) z.bss at.bss
    ∙ ap (λ x. x ++ b) (segment_added (with_text taken z at) z.«data» at.«data» ∙ ap (λ x. x ++ d) (segment_added taken z.text at.text))
    ∙ append_assoc (taken ++ t) d b
    ∙ append_assoc taken t (d ++ b)

pub taken_is : (taken : List Block) (ls : List Load) → taken_by taken ls ≡ taken ++ new_blocks ls
taken_is taken [] = sym (append-nil taken)
taken_is taken (l ∷ ls) =
    taken_is (with_module taken (needs_of l.body) l.at) ls
    ∙ ap (λ x. x ++ new_blocks ls) (module_added taken (needs_of l.body) l.at)
    ∙ append_assoc taken (blocks_for (needs_of l.body) l.at) (new_blocks ls)

-- ---- the least address and the greatest end
low-append : (bs cs : List Block) (low : ℕ) → low_after low (bs ++ cs) ≡ low_after (low_after low bs) cs
low-append [] cs low = refl
low-append (b ∷ bs) cs low = low-append bs cs _

pub high-append : (bs cs : List Block) (high : ℕ) → high_after high (bs ++ cs) ≡ high_after (high_after high bs) cs
high-append [] cs high = refl
high-append (b ∷ bs) cs high = high-append bs cs _

-- images have the sizes that their modules need
abbrev pub AreSized : List Load → List Images → Type 0
AreSized [] [] = Unit {0}
AreSized (l ∷ ls) (i ∷ is) = HasSizes i (needs_of l.body) × AreSized ls is
AreSized _ _ = ⊥

low_one : (low size at : ℕ) (bytes : List ℕ) → length bytes ≡ size → low_after low (block_for size at) ≡ cond (eqb (length bytes) 0) low (min low at)
low_one low size at bytes e =
    elim (eqb size 0) as (λ b. low_after low (cond b [] (record { addr = at; size = size; class = Kernel } ∷ [])) ≡ cond b low (min low at)) [ true ↦ refl | false ↦ refl ]
    ∙ ap (λ n. cond (eqb n 0) low (min low at)) (sym e)

high_one : (high size at : ℕ) (bytes : List ℕ) → length bytes ≡ size → high_after high (block_for size at) ≡ cond (eqb (length bytes) 0) high (max high (at + length bytes))
high_one high size at bytes e =
    elim (eqb size 0) as (λ b. high_after high (cond b [] (record { addr = at; size = size; class = Kernel } ∷ [])) ≡ cond b high (max high (at + size))) [ true ↦ refl | false ↦ refl ]
    ∙ ap (λ n. cond (eqb n 0) high (max high (at + n))) (sym e)

-- a bound of blocks in order is that of their segments, if it is so for each segment alone
module _ (over : ℕ → List Block → ℕ) (from : ℕ → List Segment → ℕ) (step : ℕ → Segment → ℕ) (none : (n : ℕ) → over n [] ≡ n)
    (joined : (bs cs : List Block) (n : ℕ) → over n (bs ++ cs) ≡ over (over n bs) cs) (ended : (n : ℕ) → from n [] ≡ n)
    (next : (n : ℕ) (s : Segment) (ss : List Segment) → from n (s ∷ ss) ≡ from (step n s) ss)
    (one : (n size at : ℕ) (bytes : List ℕ) → length bytes ≡ size → over n (block_for size at) ≡ step n (at, bytes)) where
  bounds : (ls : List Load) (is : List Images) (n : ℕ) → AreSized ls is → over n (new_blocks ls) ≡ from n (segments ls is)
  bounds [] [] n h = none n ∙ sym (ended n)
  bounds (l ∷ ls) (i ∷ is) n (sizes, rest) =
      let z = needs_of l.body in
      let t = block_for z.text.size l.at.text in
      let d = block_for z.«data».size l.at.«data» in
      let b = block_for z.bss.size l.at.bss in
      let nt = step n (l.at.text, i.text) in
      let nd = step nt (l.at.«data», i.«data») in
      joined (blocks_for z l.at) (new_blocks ls) n
      ∙ ap (λ x. over x (new_blocks ls))
      (joined t (d ++ b) n ∙ joined d b (over n t)
      ∙ ap (λ x. over (over x d) b) (one n z.text.size l.at.text i.text sizes.text)
      ∙ ap (λ x. over x b) (one nt z.«data».size l.at.«data» i.«data» sizes.«data»)
      ∙ one nd z.bss.size l.at.bss i.bss sizes.bss)
      ∙ bounds ls is (step nd (l.at.bss, i.bss)) rest
      ∙ sym (next n (l.at.text, i.text) ((l.at.«data», i.«data») ∷ (l.at.bss, i.bss) ∷ segments ls is)
      ∙ next nt (l.at.«data», i.«data») ((l.at.bss, i.bss) ∷ segments ls is)
      ∙ next nd (l.at.bss, i.bss) (segments ls is))
  bounds [] (i ∷ is) n h = absurd h
  bounds (l ∷ ls) [] n h = absurd h

pub lows : (ls : List Load) (is : List Images) (low : ℕ) → AreSized ls is → low_after low (new_blocks ls) ≡ lowest_from low (segments ls is)
lows ls is low h =
    bounds low_after lowest_from (λ n s. cond (eqb (length s.1) 0) n (min n s.0)) (λ n. refl) low-append (λ n. refl) (λ n s ss. refl) low_one ls is low h

pub highs : (ls : List Load) (is : List Images) (high : ℕ) → AreSized ls is → high_after high (new_blocks ls) ≡ highest_from high (segments ls is)
highs ls is high h =
    bounds high_after highest_from (λ n s. cond (eqb (length s.1) 0) n (max n (s.0 + length s.1))) (λ n. refl) high-append (λ n. refl) (λ n s ss. refl) high_one ls is high h

-- ---- blocks lie between them
abbrev pub AllBetween : ℕ → ℕ → List Block → Type 0
AllBetween low high [] = Unit {0}
AllBetween low high (b ∷ bs) = ((low ≤ b.addr) × (b.addr + b.size ≤ high)) × AllBetween low high bs

low_least : (low : ℕ) (bs : List Block) → low_after low bs ≤ low
low_least low [] = omega arith
low_least low (b ∷ bs) = let rest = low_least (min low b.addr) bs in omega arith

high_greatest : (high : ℕ) (bs : List Block) → high ≤ high_after high bs
high_greatest high [] = omega arith
high_greatest high (b ∷ bs) = let rest = high_greatest (max high (b.addr + b.size)) bs in omega arith

pub all_between : (low high : ℕ) (bs : List Block) → AllBetween (low_after low bs) (high_after high bs) bs
all_between low high [] = tt
all_between low high (b ∷ bs) =
    let l = low_least (min low b.addr) bs in
    let h = high_greatest (max high (b.addr + b.size)) bs in
    ((omega arith, omega arith), all_between (min low b.addr) (max high (b.addr + b.size)) bs)

between_parts : (low high : ℕ) (bs cs : List Block) → AllBetween low high (bs ++ cs) → AllBetween low high bs × AllBetween low high cs
between_parts low high [] cs h = (tt, h)
between_parts low high (b ∷ bs) cs (one, rest) = let (left, right) = between_parts low high bs cs rest in ((one, left), right)

inside_one : (low high size at : ℕ) → AllBetween low high (block_for size at) → IsInside low (high - low) size at
inside_one low high size at =
    elim (eqb size 0) as (λ b. eqb size 0 ≡ b → AllBetween low high (cond b [] (record { addr = at; size = size; class = Kernel } ∷ [])) → IsInside low (high - low) size at) [
      | true ↦ λ e h some. let none = eqb-true size 0 e in absurd (omega arith)
      | false ↦ λ e h some. let ((a, b), rest) = h in (a, omega arith)
    ] refl

-- the segments of each module are inside the n bytes from `low` on
abbrev pub LoadsInside : ℕ → ℕ → List Load → Type 0
LoadsInside low n [] = Unit {0}
LoadsInside low n (l ∷ ls) = AreInside low n (needs_of l.body) l.at × LoadsInside low n ls

pub loads_inside : (low high : ℕ) (ls : List Load) → AllBetween low high (new_blocks ls) → LoadsInside low (high - low) ls
loads_inside low high [] h = tt
loads_inside low high (l ∷ ls) h =
    let z = needs_of l.body in
    let (mine, rest) = between_parts low high (blocks_for z l.at) (new_blocks ls) h in
    let (t, db) = between_parts low high (block_for z.text.size l.at.text) (block_for z.«data».size l.at.«data» ++ block_for z.bss.size l.at.bss) mine in
    let (d, b) = between_parts low high (block_for z.«data».size l.at.«data») (block_for z.bss.size l.at.bss) db in (
      record {
        text = inside_one low high z.text.size l.at.text t;
        «data» = inside_one low high z.«data».size l.at.«data» d;
        bss = inside_one low high z.bss.size l.at.bss b;
      },
      loads_inside low high ls rest,
    )

pub all_inside : (low n : ℕ) (ls : List Load) (is : List Images) → AreSized ls is → LoadsInside low n ls → AllInside low n (segments ls is)
all_inside low n [] [] h k = tt
all_inside low n (l ∷ ls) (i ∷ is) (one, rest) (mine, others) = (
  subst (λ x. IsInside low n x l.at.text) (sym one.text) mine.text,
  (
    subst (λ x. IsInside low n x l.at.«data») (sym one.«data») mine.«data»,
    (subst (λ x. IsInside low n x l.at.bss) (sym one.bss) mine.bss, all_inside low n ls is rest others),
  ),
)
all_inside low n [] (i ∷ is) h k = absurd h
all_inside low n (l ∷ ls) [] h k = absurd h

-- the segments are inside the addresses from the least one to the end of the last
pub segments_inside : (ls : List Load) (is : List Images) → AreSized ls is
    → AllInside (lowest (segments ls is)) (highest (segments ls is) - lowest (segments ls is)) (segments ls is)
segments_inside ls is sizes =
    let low = low_after (2 ^ 32) (new_blocks ls) in
    let high = high_after 0 (new_blocks ls) in
    let inside = all_inside low (high - low) ls is sizes (loads_inside low high ls (all_between (2 ^ 32) 0 (new_blocks ls))) in
    subst (λ x. AllInside x (highest (segments ls is) - x) (segments ls is)) (lows ls is (2 ^ 32) sizes)
    (subst (λ x. AllInside low (x - low) (segments ls is)) (highs ls is 0 sizes) inside)
