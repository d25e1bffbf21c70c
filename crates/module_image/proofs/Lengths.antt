-- An image has as many bytes as its module needs.
use Rattle.std.proofs.Common.{◌≡◌, ℕ, ◌+◌, ◌<◌, ◌^◌, List, length, map, take, drop, sym, ap, ◌∙◌, subst, arith}
use Rattle.std.proofs.lemmas.List.{length-take, length-drop, length-replicate}
use Rattle.reloc_link.proofs.Writing.{length-patched}
use Rattle.elf_read.specs.declared.module.Module.{Module}
use Rattle.module_image.specs.Linkable.{IsLinkable}
use Rattle.module_image.specs.declared.segments.Places.{Places}
use Rattle.module_image.specs.Binding.{bind}
use Rattle.module_image.specs.Layout.{addresses, addresses_from, ends_of, no_ends}
use Rattle.module_image.specs.Needs.{needs_of}
use Rattle.module_image.specs.Image.{Images, image_by, laid_both, binding_of, joined, meanings, patched_of}
use Rattle.module_image.specs.Laws.{HasSizes, SizeLaw}
use Rattle.module_image.proofs.Fitting.{ready_at, length-flat}
use Rattle.module_image.proofs.Made.{needs_text, needs_data, image_is, image_bound, bss_by, length_own, length_meanings}

length_patched_of : (m : Module) (own means : List ℕ) → IsLinkable m → (ends_of m).text + (ends_of m).«data» < 2 ^ 32 → length own ≡ length m.sections → length means ≡ length m.symbols + 1
    → length (patched_of m own means).image ≡ (ends_of m).text + (ends_of m).«data»
unfolding patched_of addresses
length_patched_of m own means k total o n =
    length-patched 0 (laid_both m) (map (binding_of (addresses_from (joined (ends_of m)) no_ends m.sections) own means) m.relocs)
    ((ends_of m).text + (ends_of m).«data») (length-flat m k) ((ready_at m own means k total o n).lies)

-- the image of a module has the sizes that it needs, whatever undefined names mean
pub size_by : (m : Module) (f : List ℕ → ℕ) (at : Places) → IsLinkable m → (needs_of m).text.size + (needs_of m).«data».size < 2 ^ 32 → HasSizes (image_by m f at) (needs_of m)
size_by m f at k total =
    let nt = needs_text m in
    let nd = needs_data m in
    let means = meanings m f at in
    let all = length_patched_of m (addresses m at) means k (omega arith) (length_own m at) (length_meanings m f at) in
    let done = (patched_of m (addresses m at) means).image in
    let t = length-take (ends_of m).text done in
    let v = length-drop (ends_of m).text done in
    let t_is : length (image_by m f at).text ≡ length (take (ends_of m).text done) = ap (λ (i : Images). length i.text) (image_is m f at) in
    let v_is : length (image_by m f at).«data» ≡ length (drop (ends_of m).text done) = ap (λ (i : Images). length i.«data») (image_is m f at) in
    record {
      text = omega arith;
      «data» = omega arith;
      bss = ap length (bss_by m f at) ∙ length-replicate (needs_of m).bss.size 0;
    }

pub size_law : SizeLaw
size_law m tab at k total = subst (λ i. HasSizes i (needs_of m)) (sym (image_bound m tab at)) (size_by m (bind tab) at k total)
