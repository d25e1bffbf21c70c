use Rattle.std.proofs.Common.{ℕ, List, length, sym, ap, ◌∙◌, subst}
use Rattle.module_image.specs.Image.{image_by}
use Rattle.module_image.specs.Layout.{values}
use Rattle.module_image.specs.declared.segments.Places.{Places}
use Rattle.module_image.specs.Making.{IsMade}
use Rattle.module_image.specs.Needs.{needs_of}
use Rattle.module_image.proofs.Made.{length_valued}
use Rattle.wind_link.specs.Linking.{load_of}
use Rattle.wind_link.specs.Steps.{with_all, cut_segments}
use Rattle.wind_link.specs.Values.{entry_of, value_of}
use Rattle.wind_link.proofs.Joining.{told_is, cut_is}
use Rattle.wind_link.proofs.linking.link_module.Goals as goal

pub add_symbols-requires : goal.add_symbols-requires
add_symbols-requires c =
    ap length c.as_slice-symbols.ensures ∙ sym (ap length (c.deref-2.ensures.value ∙ c.in-Ok-locate.ensures.values) ∙ length_valued c.args.placed.now.module c.places-at.result)

pub returns-in-Ok-add_symbols-clause-image : goal.returns-in-Ok-add_symbols-clause-image
returns-in-Ok-add_symbols-clause-image c =
    let m = c.args.placed.now.module in
    let at = (load_of c.args.placed.now).at in
    let f = value_of c.args.values.now in
    let made : IsMade (image_by m f at) (needs_of m) c.deref.result.now =
    subst (λ (b : List ℕ). IsMade (image_by m f at) (needs_of m) b) (sym c.deref.ensures.value) c.in_ok-bytes.ensures.made in
    c.put_segments.ensures.image
    ∙ ap (λ (a : Places). with_all c.args.low c.args.image.now (cut_segments c.in-Ok.needs a c.deref.result.now)) c.places-at.ensures
    ∙ ap (with_all c.args.low c.args.image.now) (cut_is m f c.in-Ok.needs at c.deref.result.now c.in-Ok.ensures made)

pub returns-in-Ok-add_symbols-clause-entries : goal.returns-in-Ok-add_symbols-clause-entries
returns-in-Ok-add_symbols-clause-entries c = λ q.
    let m = c.args.placed.now.module in
    let l = load_of c.args.placed.now in
    c.in-Ok-add_symbols.ensures m.sections q
    ∙ told_is l c.as_slice-symbols.result.now c.deref-2.result.now q (entry_of c.args.values.now q) c.as_slice-symbols.ensures
    (c.deref-2.ensures.value ∙ c.in-Ok-locate.ensures.values ∙ ap (values m) c.places-at.ensures)
