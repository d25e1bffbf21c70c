-- The static image of modules at their places, or the first refusal.
use Rattle.std.specs.Prelude.{◌≡◌, ℕ, ◌+◌, List, [], ◌∷◌, Option, Some, None, Result, Ok, Err}
use Rattle.wind_base.specs.Limits.{gates_start}
use Rattle.wind_base.specs.Gates.{gates}
use Rattle.symbol_table.specs.declared.symbol.Symbol.{Symbol}
use Rattle.reloc_link.specs.declared.patching.RelocErr.{RelocErr}
use Rattle.reloc_link.specs.declared.patching.RelocErr.TheVariants as relocation
use Rattle.module_image.specs.declared.segments.SegmentKind.{SegmentKind}
use Rattle.module_image.specs.Image.{Images}
use Rattle.module_image.specs.Link.{Load, link}
use Rattle.module_image.specs.Opening.{gate_symbols, opening_blocks}
use Rattle.wind_link.specs.declared.linking.LinkErr.{LinkErr}
use Rattle.wind_link.specs.declared.linking.LinkErr.TheVariants as refusal
use Rattle.wind_link.specs.declared.linking.Placed.{Placed}
use Rattle.wind_link.specs.Flat.{segments, flat}
use Rattle.wind_link.specs.Placing.{wrong_place}

-- a placed module as a load
abbrev pub load_of : Placed → Load
load_of p =
    record { body = p.module; mode = p.mode; at = record { text = p.text_at; «data» = p.data_at; bss = p.bss_at } }

-- the symbols before the first module: those of the kernel's calls
abbrev pub opening_symbols : List Symbol
opening_symbols = gate_symbols gates_start gates

-- the number of a refused relocation in its module, counted from 0
abbrev pub number_of : RelocErr → ℕ
number_of (relocation.Range n) = n
number_of (relocation.Unaligned n) = n
number_of (relocation.Unsupported n) = n

-- a refused relocation of the module with number n, or what comes after
abbrev pub relocation_or : ℕ → Option RelocErr → Option LinkErr → Option LinkErr
relocation_or n (Some e) after = Some (refusal.BadReloc n (number_of e) e)
relocation_or n None after = after

-- the first refused relocation of all; the first module has number n
abbrev pub wrong_relocation : ℕ → List Images → Option LinkErr
wrong_relocation n [] = None
wrong_relocation n (i ∷ is) = relocation_or n i.fault (wrong_relocation (n + 1) is)

-- the bytes, unless a relocation is refused
abbrev pub related_or : Option LinkErr → List ℕ → Result (List ℕ) LinkErr
related_or (Some e) bytes = Err e
related_or None bytes = Ok bytes

-- the outcome, unless a segment is wrongly placed
abbrev pub placed_or : Option (ℕ × SegmentKind) → Result (List ℕ) LinkErr → Result (List ℕ) LinkErr
placed_or (Some wrong) outcome = Err (refusal.BadPlace wrong.0 wrong.1)
placed_or None outcome = outcome

-- the images of modules; each module binds to those before it and to the opening symbols
abbrev pub images : List Load → List Images
images ls = link opening_symbols ls

-- the image of modules at right places, or the first refused relocation
unfoldable pub linked : List Load → Result (List ℕ) LinkErr
linked ls = related_or (wrong_relocation 0 (images ls)) (flat (segments ls (images ls)))

-- the image of modules, or the first refusal: places come before relocations
unfoldable pub static_image : List Load → Result (List ℕ) LinkErr
static_image ls = placed_or (wrong_place 0 opening_blocks ls) (linked ls)

-- the outcome's refusal, or that memory ran out
abbrev pub IsRefusal : Result (List ℕ) LinkErr → LinkErr → Type 0
IsRefusal outcome refusal.NoMemory = Unit {0}
IsRefusal outcome e = outcome ≡ Err e
