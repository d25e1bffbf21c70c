-- What is known of an object file's module, in terms of its layout.
use Rattle.std.proofs.Common.{◌≡◌, ℕ, ◌<◌, ◌≤◌, Bool, true, false, cond, List, [], map, length, get_or, ap, sym, ◌∙◌, subst, arith}
use Rattle.std.proofs.lemmas.List.{length-map, get_or-map}
use Rattle.elf_read.specs.declared.outlines.Shape.{Shape}
use Rattle.elf_read.specs.Outline.{shape_of}
use Rattle.std.specs.List.{All}
use Rattle.elf_read.specs.declared.module.Body.{Body}
use Rattle.elf_read.specs.declared.module.Body.TheVariants as body
use Rattle.elf_read.specs.declared.module.Module.{Module}
use Rattle.elf_read.specs.declared.module.Sect.{Sect}
use Rattle.elf_read.specs.declared.module.Sym.{Sym}
use Rattle.elf_read.specs.declared.module.SymPlace.{SymPlace}
use Rattle.elf_read.specs.declared.module.SymPlace.TheVariants.{Undefined, Absolute, Common, Section, Elsewhere}
use Rattle.elf_read.specs.Modules.{IsModule, IsPlaced, HoldsBytes, size_of}
use Rattle.elf_read.specs.Rules.{is_alignment}
use Rattle.elf_read.proofs.AlignmentLemmas.{alignment_between}
use Rattle.module_image.specs.declared.segments.SegmentKind.{SegmentKind}
use Rattle.module_image.specs.declared.segments.SegmentKind.TheVariants.{Text, Data, Bss}
use Rattle.module_image.specs.Layout.{segment_by, IsRoom, IsShapeRoom, IsSectRoom, IsCommonRoom, IsSymRoom, most_entries}
use Rattle.module_image.specs.Linkable.{IsLinkable, LinkableLaw}

room : (align size : ℕ) → is_alignment align ≡ true → size ≤ 16777216 → IsRoom align size
room align size h n = let b = alignment_between align h in record { least = b.0; greatest = b.1; short = n }

sects_room : (m : Module) → IsModule m → All IsSectRoom m.sections
sects_room m k i d h = let s = k.sections i d h in room (get_or m.sections i d).align (size_of (get_or m.sections i d).body) s.align s.size

sym_room : (ss : List Sect) (p : SymPlace) (y : Sym) → IsPlaced ss p y.value y.size → IsCommonRoom p y
sym_room ss Undefined y h = tt
sym_room ss Absolute y h = tt
sym_room ss Common y h = room y.value y.size h.0 h.1
sym_room ss (Section n) y h = tt
sym_room ss Elsewhere y h = tt

syms_room : (m : Module) → IsModule m → All IsSymRoom m.symbols
syms_room m k i d h = let y = k.symbols i d h in sym_room m.sections (get_or m.symbols i d).place (get_or m.symbols i d) y.place

pub linkable : LinkableLaw
linkable m k = record {
  few_sections = (let few = k.few_sections in omega arith);
  few_symbols = (let few = k.few_symbols in omega arith);
  few_relocs = (let few = k.few_relocs in omega arith);
  sections = sects_room m k;
  symbols = syms_room m k;
  relocs = k.relocs;
}

abbrev no_sect : Sect
no_sect = record { name = []; flags = 0; align = 1; body = body.Size 0 }

-- what holds of the sections of a linkable module, for their shapes
pub shapes_room : (m : Module) (ss : List Sect) (shapes : List Shape) → IsLinkable m → ss ≡ m.sections → shapes ≡ map shape_of ss → All IsShapeRoom shapes
shapes_room m ss shapes k s e =
    subst (λ (x : List Shape). All IsShapeRoom x) (sym (e ∙ ap (map shape_of) s))
    (λ i d h.
    (let n : i < length m.sections = omega (arith, length-map m.sections shape_of, h) in
    subst (λ x. IsShapeRoom x) (sym (get_or-map shape_of m.sections i no_sect d n)) (k.sections i no_sect n)))

pub few_shapes : (m : Module) (ss : List Sect) (shapes : List Shape) → IsLinkable m → ss ≡ m.sections → shapes ≡ map shape_of ss → length shapes ≤ most_entries
few_shapes m ss shapes k s e =
    let size : length shapes ≡ length m.sections = ap (λ (x : List Shape). length x) (e ∙ ap (map shape_of) s) ∙ length-map m.sections shape_of in
    let few = k.few_sections in
    omega arith

-- a segment that has bytes
abbrev pub HasBytes : SegmentKind → Type 0
HasBytes Bss = ⊥
HasBytes Text = Unit {0}
HasBytes Data = Unit {0}

bytes_by : (b : Bool) → HasBytes (cond b Data Text)
bytes_by true = tt
bytes_by false = tt

-- a section with bytes is in such a segment
pub has_bytes : (b : Body) (flags n : ℕ) → HoldsBytes b n → HasBytes (segment_by b flags)
has_bytes (body.Bytes xs) flags n h = bytes_by _
has_bytes (body.Size k) flags n h = absurd h

pub within_body : (b : Body) (n : ℕ) → HoldsBytes b n → n ≤ size_of b
within_body (body.Bytes xs) n h = h
within_body (body.Size k) n h = absurd h
