use Rattle.std.proofs.Common.{◌≡◌, List, refl, sym, ap, ap₂, ◌∙◌, subst}
use Rattle.std.specs.List.{All}
use Rattle.elf_read.specs.declared.module.Module.{Module}
use Rattle.elf_read.specs.declared.module.Sym.{Sym}
use Rattle.elf_read.specs.declared.outlines.Outline.{Outline}
use Rattle.elf_read.specs.Contents.{module_at}
use Rattle.module_image.specs.Layout.{IsSymRoom}
use Rattle.module_image.specs.Linkable.{IsLinkable}
use Rattle.module_image.specs.Needs.{needs_by, needs_of}
use Rattle.module_image.specs.declared.segments.Needs.{Needs}
use Rattle.module_image.proofs.Known.{linkable, shapes_room}
use Rattle.module_image.proofs.Made.{needs_outlined}
use Rattle.wind_link.specs.Placing.{with_module, wrong_segment}
use Rattle.wind_link.proofs.Fetching.{object_refused, place_refused}
use Rattle.wind_link.proofs.Placement.{needs_aligned}
use Rattle.wind_link.proofs.files.placed_module.Goals as goal
use Rattle.wind_link.proofs.files.placed_module.Goals.{After-measure-needs}

pub returns-in-Err-clause-refused : goal.returns-in-Err-clause-refused
returns-in-Err-clause-refused c = object_refused c.args.bytes.now c.args.taken.now.items c.args.line c.args.at c.in-Err.end c.in-Err.ensures.refused

pub measure-needs-requires-clause-sections : goal.measure-needs-requires-clause-sections
measure-needs-requires-clause-sections c =
    let m = module_at c.args.bytes.now in
    shapes_room m m.sections c.as_slice.result.now (linkable m c.in-Ok.ensures.known) refl (c.as_slice.ensures ∙ ap (λ (o : Outline). o.shapes) c.in-Ok.ensures.outline)

pub measure-needs-requires-clause-symbols : goal.measure-needs-requires-clause-symbols
measure-needs-requires-clause-symbols c =
    subst (λ (ys : List Sym). All IsSymRoom ys) (sym (c.as_slice-2.ensures ∙ ap (λ (o : Outline). o.symbols) c.in-Ok.ensures.outline))
    ((linkable (module_at c.args.bytes.now) c.in-Ok.ensures.known).symbols)

-- the outline gives what the module needs
needs_is : (c : After-measure-needs) → c.measure-needs.result ≡ needs_of (module_at c.args.bytes.now)
needs_is c =
    c.measure-needs.ensures ∙ (ap₂ needs_by c.as_slice.ensures c.as_slice-2.ensures ∙ needs_outlined (module_at c.args.bytes.now) c.in-Ok.outline c.in-Ok.ensures.outline)

pub place-requires : goal.place-requires
place-requires c = needs_aligned (module_at c.args.bytes.now) c.measure-needs.result (needs_is (goal.at.place-requires c).After-measure-needs)

pub returns-in-Err-place-clause-refused : goal.returns-in-Err-place-clause-refused
returns-in-Err-place-clause-refused c =
    place_refused c.args.bytes.now c.args.taken.now.items c.args.line c.args.at c.measure-needs.result (module_at c.args.bytes.now) c.in-Err-place.end
    (needs_is (goal.at.returns-in-Err-place-clause-refused c).After-measure-needs) (record { passes = c.in-Ok.ensures.passes; holds = refl }) c.in-Err-place.ensures.wrong

pub returns-in-Ok-fill-clause-module : goal.returns-in-Ok-fill-clause-module
returns-in-Ok-fill-clause-module c = record { passes = c.in-Ok.ensures.passes; holds = c.in-Ok-fill.ensures }

pub returns-in-Ok-fill-clause-linkable : goal.returns-in-Ok-fill-clause-linkable
returns-in-Ok-fill-clause-linkable c = subst (λ (m : Module). IsLinkable m) (sym c.in-Ok-fill.ensures) (linkable (module_at c.args.bytes.now) c.in-Ok.ensures.known)

pub returns-in-Ok-fill-clause-placed : goal.returns-in-Ok-fill-clause-placed
returns-in-Ok-fill-clause-placed c =
    ap (λ (z : Needs). wrong_segment c.args.taken.now.items z c.args.at) (ap needs_of c.in-Ok-fill.ensures ∙ sym (needs_is (goal.at.returns-in-Ok-fill-clause-placed c).After-measure-needs))
    ∙ c.in-Ok-place.ensures.placed

pub returns-in-Ok-fill-clause-taken : goal.returns-in-Ok-fill-clause-taken
returns-in-Ok-fill-clause-taken c =
    c.in-Ok-place.ensures.taken
    ∙ ap (λ (z : Needs). with_module c.args.taken.now.items z c.args.at) (needs_is (goal.at.returns-in-Ok-fill-clause-taken c).After-measure-needs ∙ sym (ap needs_of c.in-Ok-fill.ensures))
