-- What is known of segments that are rightly placed.
use Rattle.std.proofs.Common.{◌≡◌, ℕ, ◌+◌, ◌^◌, ◌%◌, ◌≤◌, ◌<◌, ◌⊎◌, inl, inr, Bool, true, false, cond, eqb, leb, ◌&&◌, max, List, [], ◌∷◌, ◌++◌, Option, Some, None, map, refl, sym, ap, ◌∙◌, subst, arith}
use Rattle.std.proofs.lemmas.Bool.{and_parts, eqb-true, leb-true}
use Rattle.wind_base.specs.Limits.{pool_start, ram_bytes}
use Rattle.symbol_table.specs.declared.symbol.Symbol.{Symbol}
use Rattle.mem_partition.specs.declared.block.Block.{Block}
use Rattle.mem_partition.specs.declared.block.Class.TheVariants.{Kernel}
use Rattle.mem_partition.specs.Place.{grain, fits, meets_none}
use Rattle.elf_read.specs.declared.module.Sym.{Sym}
use Rattle.elf_read.specs.declared.module.SymPlace.{SymPlace}
use Rattle.elf_read.specs.declared.module.SymPlace.TheVariants.{Undefined, Absolute, Common, Section, Elsewhere}
use Rattle.elf_read.specs.declared.outlines.Shape.{Shape}
use Rattle.elf_read.specs.Outline.{shape_of}
use Rattle.elf_read.specs.declared.module.Module.{Module}
use Rattle.module_image.specs.declared.segments.Need.{Need}
use Rattle.module_image.specs.declared.segments.Needs.{Needs}
use Rattle.module_image.specs.declared.segments.Places.{Places}
use Rattle.module_image.specs.declared.segments.SegmentKind.{SegmentKind}
use Rattle.module_image.specs.declared.segments.SegmentKind.TheVariants.{Text, Data, Bss}
use Rattle.module_image.specs.Layout.{segment_in}
use Rattle.module_image.specs.Needs.{same_segment, align_by, align_after, common_align, needs_of}
use Rattle.module_image.specs.Link.{Load, meaning, link_after}
use Rattle.module_image.specs.Linkable.{IsLinkable}
use Rattle.module_image.proofs.Lengths.{size_by}
use Rattle.wind_link.specs.Placing.{is_placed, with_text, with_data, with_module, wrong_segment, segment_or, wrong_place}
use Rattle.wind_link.specs.Steps.{AreAligned, high_after}
use Rattle.wind_link.proofs.Extents.{AreSized, block_for, blocks_for, new_blocks, high-append}

-- ---- alignments
align_least : (kind : SegmentKind) (align : ℕ) (ss : List Shape) → 1 ≤ align → 1 ≤ align_by kind align ss
align_least kind align [] h = h
align_least kind align (s ∷ ss) h =
    align_least kind (cond (same_segment kind (segment_in s)) (max align s.align) align) ss
    (elim (same_segment kind (segment_in s)) as (λ b. 1 ≤ cond b (max align s.align) align) [ true ↦ omega (arith, h) | false ↦ h ])

common_least : (align : ℕ) (y : Sym) (p : SymPlace) → 1 ≤ align → 1 ≤ align_after align y p
common_least align y Undefined h = h
common_least align y Absolute h = h
common_least align y Common h = omega (arith, h)
common_least align y (Section n) h = h
common_least align y Elsewhere h = h

commons_least : (align : ℕ) (ys : List Sym) → 1 ≤ align → 1 ≤ common_align align ys
commons_least align [] h = h
commons_least align (y ∷ ys) h = commons_least (align_after align y y.place) ys (common_least align y y.place h)

pub aligned : (m : Module) → AreAligned (needs_of m)
unfolding needs_of
aligned m = record {
  text = align_least Text grain (map shape_of m.sections) (omega arith);
  «data» = align_least Data grain (map shape_of m.sections) (omega arith);
  bss = commons_least (align_by Bss grain (map shape_of m.sections)) m.symbols (align_least Bss grain (map shape_of m.sections) (omega arith));
}

pub needs_aligned : (m : Module) (z : Needs) → z ≡ needs_of m → AreAligned z
needs_aligned m z e = subst AreAligned (sym e) (aligned m)

-- ---- places
-- a rightly placed segment that has bytes
pub record IsFit (taken : List Block) (n : Need) (at : ℕ) : Type 0 where
  pub low : pool_start ≤ at
  pub high : at + n.size ≤ ram_bytes
  pub apart : meets_none taken n.size at ≡ true

pub fit : (taken : List Block) (n : Need) (at : ℕ) → is_placed taken n at ≡ true → (n.size ≡ 0) ⊎ IsFit taken n at
fit taken n at =
    elim (eqb n.size 0) as (λ b. eqb n.size 0 ≡ b → cond b (eqb at 0) (leb pool_start at && fits ram_bytes taken n.size n.align at) ≡ true → (n.size ≡ 0) ⊎ IsFit taken n at) [
      | true ↦ λ e h. inl (eqb-true n.size 0 e)
      | false ↦ λ e h.
          let both = and_parts (leb pool_start at) (fits ram_bytes taken n.size n.align at) h in
          let rest = and_parts (eqb (at % n.align) 0) (leb (at + n.size) ram_bytes && meets_none taken n.size at) both.1 in
          let last = and_parts (leb (at + n.size) ram_bytes) (meets_none taken n.size at) rest.1 in
          inr (record { low = leb-true pool_start at both.0; high = leb-true (at + n.size) ram_bytes last.0; apart = last.1 })
    ] refl

pub record ArePlaced (taken : List Block) (z : Needs) (at : Places) : Type 0 where
  pub text : is_placed taken z.text at.text ≡ true
  pub «data» : is_placed (with_text taken z at) z.«data» at.«data» ≡ true
  pub bss : is_placed (with_data taken z at) z.bss at.bss ≡ true

none_wrong : (a b c : Bool) → cond a (cond b (cond c None (Some Bss)) (Some Data)) (Some Text) ≡ None → (a ≡ true) × (b ≡ true) × (c ≡ true)
none_wrong true true true h = (refl, refl, refl)
none_wrong true true false h = absurd (cc)
none_wrong true false c h = absurd (cc)
none_wrong false b c h = absurd (cc)

pub are_placed : (taken : List Block) (z : Needs) (at : Places) → wrong_segment taken z at ≡ None → ArePlaced taken z at
unfolding wrong_segment
are_placed taken z at h =
    let all = none_wrong (is_placed taken z.text at.text) (is_placed (with_text taken z at) z.«data» at.«data») (is_placed (with_data taken z at) z.bss at.bss) h in
    record { text = all.0; «data» = all.1; bss = all.2 }

-- all segments of several modules
abbrev pub AllPlaced : List Block → List Load → Type 0
AllPlaced taken [] = Unit {0}
AllPlaced taken (l ∷ ls) = ArePlaced taken (needs_of l.body) l.at × AllPlaced (with_module taken (needs_of l.body) l.at) ls

none_or : (n : ℕ) (o : Option SegmentKind) (after : Option (ℕ × SegmentKind)) → segment_or n o after ≡ None → (o ≡ None) × (after ≡ None)
none_or n None after h = (refl, h)
none_or n (Some kind) after h = absurd (cc)

pub all_placed : (n : ℕ) (taken : List Block) (ls : List Load) → wrong_place n taken ls ≡ None → AllPlaced taken ls
all_placed n taken [] h = tt
all_placed n taken (l ∷ ls) h =
    let both = none_or n (wrong_segment taken (needs_of l.body) l.at) (wrong_place (n + 1) (with_module taken (needs_of l.body) l.at) ls) h in
    (are_placed taken (needs_of l.body) l.at both.0, all_placed (n + 1) (with_module taken (needs_of l.body) l.at) ls both.1)

-- ---- sizes
short : (taken : List Block) (n : Need) (at : ℕ) → is_placed taken n at ≡ true → n.size ≤ ram_bytes
short taken n at h = elim (fit taken n at h) [ inl e ↦ omega (arith, e) | inr f ↦ (let high = f.high in omega arith) ]

pub total_small : (taken : List Block) (z : Needs) (at : Places) → ArePlaced taken z at → z.text.size + z.«data».size < 2 ^ 32
total_small taken z at p =
    let t = short taken z.text at.text p.text in
    let d = short (with_text taken z at) z.«data» at.«data» p.«data» in
    omega arith

abbrev pub AllLinkable : List Load → Type 0
AllLinkable [] = Unit {0}
AllLinkable (l ∷ ls) = IsLinkable l.body × AllLinkable ls

pub sized : (tab : List Symbol) (earlier : List Load) (taken : List Block) (ls : List Load) → AllLinkable ls → AllPlaced taken ls → AreSized ls (link_after tab earlier ls)
sized tab earlier taken [] k p = tt
sized tab earlier taken (l ∷ ls) (one, others) (mine, rest) = (
  size_by l.body (meaning tab earlier) l.at one (total_small taken (needs_of l.body) l.at mine),
  sized tab (l ∷ earlier) (with_module taken (needs_of l.body) l.at) ls others rest,
)

-- ---- the end
high_one : (high : ℕ) (taken : List Block) (n : Need) (at : ℕ) → high ≤ ram_bytes → is_placed taken n at ≡ true
    → high_after high (cond (eqb n.size 0) [] (record { addr = at; size = n.size; class = Kernel } ∷ [])) ≤ ram_bytes
high_one high taken n at h p =
    elim (eqb n.size 0) as (λ b. eqb n.size 0 ≡ b → high_after high (cond b [] (record { addr = at; size = n.size; class = Kernel } ∷ [])) ≤ ram_bytes) [
      | true ↦ λ e. h
      | false ↦ λ e. elim (fit taken n at p) [
        | inl none ↦ absurd (let same : eqb n.size 0 ≡ true = ap (λ x. eqb x 0) none in cc)
        | inr f ↦ (let end = f.high in omega arith)
      ]
    ] refl

pub high_within : (high : ℕ) (taken : List Block) (ls : List Load) → high ≤ ram_bytes → AllPlaced taken ls → high_after high (new_blocks ls) ≤ ram_bytes
high_within high taken [] h p = h
high_within high taken (l ∷ ls) h (mine, rest) =
    let z = needs_of l.body in
    let t = block_for z.text.size l.at.text in
    let d = block_for z.«data».size l.at.«data» in
    let b = block_for z.bss.size l.at.bss in
    let one = high_one high taken z.text l.at.text h mine.text in
    let two = high_one (high_after high t) (with_text taken z l.at) z.«data» l.at.«data» one mine.«data» in
    let three = high_one (high_after (high_after high t) d) (with_data taken z l.at) z.bss l.at.bss two mine.bss in
    let cut : high_after high (blocks_for z l.at ++ new_blocks ls) ≡ high_after (high_after (high_after (high_after high t) d) b) (new_blocks ls) =
    high-append (blocks_for z l.at) (new_blocks ls) high ∙ ap (λ x. high_after x (new_blocks ls)) (high-append t (d ++ b) high ∙ high-append d b (high_after high t)) in
    subst (λ x. x ≤ ram_bytes) (sym cut) (high_within (high_after (high_after (high_after high t) d) b) (with_module taken z l.at) ls three rest)
