use Rattle.std.proofs.Common.{◌≡◌, List, refl, sym, ap, ap₂, ◌∙◌, subst}
use Rattle.std.specs.Prelude.{ℕ}
use Rattle.std.specs.List.{All}
use Rattle.elf_read.specs.declared.module.Sym.{Sym}
use Rattle.elf_read.specs.declared.outlines.Outline.{Outline}
use Rattle.elf_read.specs.Contents.{module_at}
use Rattle.module_image.specs.Layout.{IsSymRoom}
use Rattle.module_image.specs.Exports.{export_count}
use Rattle.module_image.specs.Needs.{needs_by, needs_of}
use Rattle.module_image.proofs.Known.{linkable, shapes_room}
use Rattle.module_image.proofs.Made.{needs_outlined}
use Rattle.module_loader.specs.declared.module.LoadErr.TheVariants.{Part}
use Rattle.module_loader.specs.contracts.modules.Modules.{the_view}
use Rattle.module_loader.specs.Modules.{LoadedModules}
use Rattle.module_loader.specs.Loading.{LoaderState, file_verdict, IsVerdict, ReachesRelocations}
use Rattle.module_loader.specs.Steps.{state_of}
use Rattle.module_loader.proofs.Files.{counts_refused, blocks_refused, file_reaches}
use Rattle.module_loader.proofs.modules.Modules.check_file.Goals as goal
use Rattle.module_loader.proofs.modules.Modules.check_file.Goals.{After-check_counts}

pub measure-needs-requires-clause-sections : goal.measure-needs-requires-clause-sections
measure-needs-requires-clause-sections c =
    let m = module_at c.args.file.now in
    shapes_room m m.sections c.as_slice.result.now (linkable m c.in_ok-outline.ensures.known) refl (c.as_slice.ensures ∙ ap (λ (o : Outline). o.shapes) c.in_ok-outline.ensures.outline)

pub measure-needs-requires-clause-symbols : goal.measure-needs-requires-clause-symbols
measure-needs-requires-clause-symbols c =
    subst (λ (ys : List Sym). All IsSymRoom ys) (sym (c.as_slice-2.ensures ∙ ap (λ (o : Outline). o.symbols) c.in_ok-outline.ensures.outline))
    ((linkable (module_at c.args.file.now) c.in_ok-outline.ensures.known).symbols)

-- the state before the call, with any RAM
abbrev state : After-check_counts → LoadedModules → List ℕ → LoaderState
state c modules ram = state_of c.args.kern.now c.args.syms.now.list modules c.args.part.now ram

-- what the outline says of the module's symbols, and of its segments
added_is : (c : After-check_counts) → c.count_added-added.result ≡ export_count c.args.mode (module_at c.args.file.now).symbols
added_is c = c.count_added-added.ensures ∙ ap (export_count c.args.mode) (c.as_slice-3.ensures ∙ ap (λ (o : Outline). o.symbols) c.in_ok-outline.ensures.outline)

needs_is : (c : After-check_counts) → c.measure-needs.result ≡ needs_of (module_at c.args.file.now)
needs_is c =
    c.measure-needs.ensures ∙ (ap₂ needs_by c.as_slice.ensures c.as_slice-2.ensures ∙ needs_outlined (module_at c.args.file.now) c.in_ok-outline.outline c.in_ok-outline.ensures.outline)

pub returns-in-Err-clause-refused : goal.returns-in-Err-clause-refused
returns-in-Err-clause-refused c ram =
    let k = (goal.at.returns-in-Err-clause-refused c).After-check_counts in
    subst (λ (ms : LoadedModules). IsVerdict (file_verdict (state k ms ram) c.args.file.now c.args.mode) c.in-Err.e) c.self.view_is
    (counts_refused (state k (the_view c.self.inside) ram) c.args.file.now c.args.mode c.count_added-added.result c.in-Err.e
    (record { passes = c.in_ok-outline.ensures.passes; holds = refl }) (added_is k) c.in-Err.ensures.refused)

pub returns-in-Err-check_blocks-clause-refused : goal.returns-in-Err-check_blocks-clause-refused
returns-in-Err-check_blocks-clause-refused c ram =
    let k = (goal.at.returns-in-Err-check_blocks-clause-refused c).After-check_counts in
    subst (λ (ms : LoadedModules). IsVerdict (file_verdict (state k ms ram) c.args.file.now c.args.mode) (Part c.in-Err-check_blocks.e)) c.self.view_is
    (blocks_refused (state k (the_view c.self.inside) ram) c.args.file.now c.args.mode c.count_added-added.result c.measure-needs.result c.in-Err-check_blocks.e
    (record { passes = c.in_ok-outline.ensures.passes; holds = refl }) (added_is k) (needs_is k) c.in_default.ensures.none c.in-Err-check_blocks.ensures.refused)

pub returns-in-Ok-clause-passed : goal.returns-in-Ok-clause-passed
returns-in-Ok-clause-passed c ram =
    let k = (goal.at.returns-in-Ok-clause-passed c).After-check_counts in
    subst (λ (ms : LoadedModules). ReachesRelocations (file_verdict (state k ms ram) c.args.file.now c.args.mode)) c.self.view_is
    (file_reaches (state k (the_view c.self.inside) ram) c.args.file.now c.args.mode c.count_added-added.result c.measure-needs.result
    (record { passes = c.in_ok-outline.ensures.passes; holds = refl }) (added_is k) (needs_is k) c.in_default.ensures.none c.in-Ok.ensures.placed)
