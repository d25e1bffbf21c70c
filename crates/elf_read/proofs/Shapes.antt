-- The outline of a file's module, from the shapes of its sections.
use Rattle.std.proofs.Common.{◌≡◌, ℕ, zero, suc, ◌+◌, ◌-◌, List, ◌++◌, map, refl, sym, ap, ap₂, ◌∙◌}
use Rattle.std.proofs.lemmas.List.{map-append}
use Rattle.elf_read.specs.declared.module.Sym.{Sym}
use Rattle.elf_read.specs.declared.outlines.Shape.{Shape}
use Rattle.elf_read.specs.declared.outlines.Outline.{Outline}
use Rattle.elf_read.specs.Contents.{sects_at, syms_at, module_at}
use Rattle.elf_read.specs.Numbered.{gathered}
use Rattle.elf_read.specs.Outline.{shape_of, outline_of}
use Rattle.elf_read.specs.Tables.{header_count, symbol_count}

map_gathered : {X Y : Type 0} (g : X → Y) (f : ℕ → List X) (i n : ℕ) → map g (gathered i n f) ≡ gathered i n (λ k. map g (f k))
map_gathered g f i zero = refl
map_gathered g f i (suc n) = map-append g (f i) (gathered (i + 1) n f) ∙ ap (λ xs. map g (f i) ++ xs) (map_gathered g f (i + 1) n)

outlined : List Shape → List Sym → Outline
outlined xs ys = record { shapes = xs; symbols = ys }

pub outline_is : (bytes : List ℕ) (xs : List Shape) (ys : List Sym) → xs ≡ gathered 0 (header_count bytes) (λ i. map shape_of (sects_at bytes i))
    → ys ≡ gathered 1 (symbol_count bytes - 1) (syms_at bytes) → ◌≡◌ {A = Outline} (record { shapes = xs; symbols = ys }) (outline_of (module_at bytes))
unfolding module_at outlined
outline_is bytes xs ys p q = ap₂ outlined (p ∙ sym (map_gathered shape_of (sects_at bytes) 0 (header_count bytes))) q
