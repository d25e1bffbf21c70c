-- What is prepared before anything is written is the image.
use Rattle.std.proofs.Common.{◌≡◌, ℕ, ◌+◌, ◌<◌, ◌^◌, List, [], ◌∷◌, length, map, take, drop, replicate, Option, refl, sym, ap, ◌∙◌, arith}
use Rattle.reloc_link.specs.Patched.{Patched}
use Rattle.symbol_table.specs.declared.symbol.Symbol.{Symbol}
use Rattle.elf_read.specs.declared.module.Module.{Module}
use Rattle.elf_read.specs.declared.module.Sym.{Sym}
use Rattle.elf_read.specs.declared.module.Sect.{Sect}
use Rattle.module_image.specs.declared.segments.Ends.{Ends}
use Rattle.module_image.specs.declared.segments.Places.{Places}
use Rattle.module_image.specs.Binding.{bind}
use Rattle.elf_read.specs.declared.outlines.Shape.{Shape}
use Rattle.elf_read.specs.declared.outlines.Outline.{Outline}
use Rattle.elf_read.specs.Outline.{shape_of, outline_of}
use Rattle.module_image.specs.Layout.{addresses, ends_of, ends_by, no_ends, values, commons_end}
use Rattle.module_image.specs.declared.segments.Needs.{Needs}
use Rattle.module_image.specs.Needs.{needs_by, needs_of}
use Rattle.module_image.specs.Image.{Images, image, image_by, cut_at, meanings, meanings_from, patched_of}
use Rattle.module_image.specs.Making.{IsPatched, IsMade}
use Rattle.module_image.proofs.Fitting.{length_addresses, length_values}

pub needs_text : (m : Module) → (needs_of m).text.size ≡ (ends_of m).text
unfolding needs_of
needs_text m = refl

pub needs_data : (m : Module) → (needs_of m).«data».size ≡ (ends_of m).«data»
unfolding needs_of
needs_data m = refl

-- what a module needs is what its outline needs
pub needs_outlined : (m : Module) (o : Outline) → o ≡ outline_of m → needs_by o.shapes o.symbols ≡ needs_of m
unfolding needs_of
needs_outlined m o e = ap (λ (x : Outline). needs_by x.shapes x.symbols) e

pub needs_shaped : (m : Module) (ss : List Sect) (ys : List Sym) (shapes : List Shape) (z : Needs) → ss ≡ m.sections → ys ≡ m.symbols → shapes ≡ map shape_of ss
    → z ≡ needs_by shapes ys → z ≡ needs_of m
unfolding needs_of
needs_shaped m ss ys shapes z s y p e =
    e ∙ (ap (λ (x : List Shape). needs_by x ys) (p ∙ ap (map shape_of) s) ∙ ap (λ (x : List Sym). needs_by (map shape_of m.sections) x) y)

pub image_is : (m : Module) (f : List ℕ → ℕ) (at : Places)
    → image_by m f at ≡ cut_at (ends_of m).text (replicate (commons_end (ends_of m).bss m.symbols) 0) (patched_of m (addresses m at) (meanings m f at))
unfolding image_by
image_is m f at = refl

pub image_bound : (m : Module) (tab : List Symbol) (at : Places) → image m tab at ≡ image_by m (bind tab) at
unfolding image
image_bound m tab at = refl

pub bss_by : (m : Module) (f : List ℕ → ℕ) (at : Places) → (image_by m f at).bss ≡ replicate (needs_of m).bss.size 0
unfolding image_by needs_of
bss_by m f at = refl

pub bss_is : (m : Module) (tab : List Symbol) (at : Places) → (image m tab at).bss ≡ replicate (needs_of m).bss.size 0
bss_is m tab at = ap (λ (i : Images). i.bss) (image_bound m tab at) ∙ bss_by m (bind tab) at

pub ends_room : (m : Module) (ends : Ends) → ends ≡ ends_of m → (needs_of m).text.size + (needs_of m).«data».size < 2 ^ 32 → ends.text + ends.«data» < 2 ^ 32
ends_room m ends same h =
    let t = needs_text m in
    let d = needs_data m in
    let et : ends.text ≡ (ends_of m).text = ap (λ (x : Ends). x.text) same in
    let ed : ends.«data» ≡ (ends_of m).«data» = ap (λ (x : Ends). x.«data») same in
    omega arith

pub ends_are : (m : Module) (ss : List Sect) (shapes : List Shape) (ends : Ends) → ss ≡ m.sections → shapes ≡ map shape_of ss → ends ≡ ends_by no_ends shapes → ends ≡ ends_of m
ends_are m ss shapes ends s p e = e ∙ ap (ends_by no_ends) (p ∙ ap (map shape_of) s)

same_made : (m : Module) (f : List ℕ → ℕ) (at : Places) (own means : List ℕ) → own ≡ addresses m at → means ≡ meanings m f at
    → patched_of m own means ≡ patched_of m (addresses m at) (meanings m f at)
same_made m f at own means o n = ap (λ x. patched_of m x means) o ∙ ap (patched_of m (addresses m at)) n

pub fault_by : (m : Module) (f : List ℕ → ℕ) (at : Places) (own means : List ℕ) → own ≡ addresses m at → means ≡ meanings m f at
    → (image_by m f at).fault ≡ (patched_of m own means).fault
fault_by m f at own means o n =
    ap (λ (i : Images). i.fault) (image_is m f at) ∙ sym (ap (λ (p : Patched). p.fault) (same_made m f at own means o n))

-- what a call gave for the symbols
pub means_are : (m : Module) (f : List ℕ → ℕ) (at : Places) (ys : List Sym) (vs : List (Option ℕ)) (means : List ℕ) → ys ≡ m.symbols → vs ≡ values m at
    → means ≡ 0 ∷ meanings_from f ys vs → means ≡ meanings m f at
means_are m f at ys vs means y v n = n ∙ (ap (λ x. 0 ∷ meanings_from f x vs) y ∙ ap (λ x. 0 ∷ meanings_from f m.symbols x) v)

pub made_by : (m : Module) (f : List ℕ → ℕ) (at : Places) (ends : Ends) (own means bytes : List ℕ) → ends ≡ ends_of m → own ≡ addresses m at → means ≡ meanings m f at
    → IsPatched (patched_of m own means) (ends.text + ends.«data») bytes → IsMade (image_by m f at) (needs_of m) bytes
made_by m f at ends own means bytes e o n p =
    let same = image_is m f at in
    let cut = needs_text m in
    let rest = needs_data m in
    let et : ends.text ≡ (ends_of m).text = ap (λ (x : Ends). x.text) e in
    let ed : ends.«data» ≡ (ends_of m).«data» = ap (λ (x : Ends). x.«data») e in
    let size = p.size in
    let image : bytes ≡ (patched_of m (addresses m at) (meanings m f at)).image = p.image ∙ ap (λ (q : Patched). q.image) (same_made m f at own means o n) in
    record {
      text = ap (λ (i : Images). i.text) same ∙ ap (take (ends_of m).text) (sym image) ∙ ap (λ x. take x bytes) (sym cut);
      «data» = ap (λ (i : Images). i.«data») same ∙ ap (drop (ends_of m).text) (sym image) ∙ ap (λ x. drop x bytes) (sym cut);
      fault = fault_by m f at own means o n ∙ p.fault;
      size = omega arith;
    }

pub length_own : (m : Module) (at : Places) → length (addresses m at) ≡ length m.sections
unfolding addresses
length_own m at = length_addresses at no_ends m.sections

pub length_valued : (m : Module) (at : Places) → length (values m at) ≡ length m.symbols
unfolding values
length_valued m at = length_values (addresses m at) at m.symbols (ends_of m).bss

pub length_means : (f : List ℕ → ℕ) (ys : List Sym) (vs : List (Option ℕ)) → length ys ≡ length vs → length (meanings_from f ys vs) ≡ length ys
length_means f [] vs e = refl
length_means f (y ∷ ys) [] e = absurd (omega arith)
length_means f (y ∷ ys) (v ∷ vs) e = let rest = length_means f ys vs (omega arith) in omega arith

pub length_meanings : (m : Module) (f : List ℕ → ℕ) (at : Places) → length (meanings m f at) ≡ length m.symbols + 1
length_meanings m f at =
    let n = length_means f m.symbols (values m at) (sym (length_valued m at)) in
    omega arith
