use Rattle.std.proofs.Common.{◌==◌, ◌&&◌, Bool, ap, sym, ◌∙◌, length}
use Rattle.std.specs.Prelude.{option_copied}
use Rattle.id_table.specs.Rows.{object_of}
use Rattle.module_loader.specs.declared.module.LoadedModule.{LoadedModule}
use Rattle.trace_coverage.specs.Covered.{CoveredState, text_start, text_words}
use Rattle.trace_coverage.proofs.Rows.{of_id, passes}
use Rattle.trace_coverage.proofs.table.is_live.Goals as goal

abbrev has_text : CoveredState → LoadedModule → Bool
has_text m l = text_start l == m.start && text_words l == length m.executed

pub returns-in-Some : goal.returns-in-Some
returns-in-Some c =
    let m = c.args.covered.now in
    let rows = c.args.modules.now.rows in
    c.has_text_of.ensures
    ∙ ap (passes (has_text m)) (sym (ap option_copied c.in-Some.is) ∙ c.get-2.ensures)
    ∙ ap (λ i. passes (has_text m) (object_of rows i)) (c.get.ensures.same ∙ c.id-id.ensures)
    ∙ sym (of_id rows m.id (has_text m) c.facts.ensures.rising)

pub returns-in-None : goal.returns-in-None
returns-in-None c =
    let m = c.args.covered.now in
    let rows = c.args.modules.now.rows in
    ap (passes (has_text m)) (sym (ap option_copied c.in-None.is) ∙ c.get-2.ensures)
    ∙ ap (λ i. passes (has_text m) (object_of rows i)) (c.get.ensures.same ∙ c.id-id.ensures)
    ∙ sym (of_id rows m.id (has_text m) c.facts.ensures.rising)
