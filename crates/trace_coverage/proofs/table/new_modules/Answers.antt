use Rattle.std.proofs.Common.{ℕ, Bool, ◌++◌, ◌∷◌, [], Some, ap, sym, ◌∙◌, map, not, arith}
use Rattle.std.specs.List.{filter}
use Rattle.std.specs.Prelude.{option_copied}
use Rattle.id_table.specs.Rows.{ids}
use Rattle.trace_coverage.proofs.Walking.{all_above, found_above, is_there, next_rows, no_rows, rows_above}
use Rattle.module_loader.specs.declared.module.LoadedModule.{LoadedModule}
use Rattle.trace_coverage.specs.Covered.{is_among, unexecuted}
use Rattle.trace_coverage.proofs.Rows.{no_row, one_row}
use Rattle.trace_coverage.proofs.table.new_modules.Goals as goal

-- all modules are above 0
pub loop-id-init : goal.loop-id-init
loop-id-init c =
    let rows = c.args.modules.now.rows in
    let test : ℕ × LoadedModule → Bool = λ r. not (is_among c.args.list.now r) in
    ap (λ vs. vs ++ map unexecuted (filter test (rows_above 0 rows))) c.new-new.ensures.items
    ∙ ap (λ rs. map unexecuted (filter test rs)) (all_above 0 rows (λ j d less. (c.facts.ensures.ranged j d less).0))

pub loop-id-smaller : goal.loop-id-smaller
loop-id-smaller c =
    let rows = c.args.modules.now.rows in
    let up = found_above c.loop-id.last (ids rows) c.get-last.result (sym c.next_after.ensures ∙ c.in-Some.is ∙ ap Some (sym c.get-last.ensures.same)) in
    omega (arith, up, c.get-last.ensures.greatest)

-- the next one is a module
pub unreachable-requires : goal.unreachable-requires
unreachable-requires c =
    is_there c.args.modules.now.rows c.loop-id.last c.get-last.result (sym c.next_after.ensures ∙ c.in-Some.is ∙ ap Some (sym c.get-last.ensures.same)) (sym c.get.ensures ∙ ap option_copied c.in_default-get.is)

pub loop-id-preserved : goal.loop-id-preserved
loop-id-preserved c =
    let rows = c.args.modules.now.rows in
    let test : ℕ × LoadedModule → Bool = λ r. not (is_among c.args.list.now r) in
    let id = c.get-last.result in
    let m = c.in-Some-get.module.now in
    one_row unexecuted test c.loop-id.new.items c.add_if_new.new.new.items (map unexecuted (filter test rows)) (rows_above c.loop-id.last rows) (rows_above id rows) (id, m)
    (next_rows rows c.loop-id.last id m c.facts.ensures.rising (sym c.next_after.ensures ∙ c.in-Some.is ∙ ap Some (sym c.get-last.ensures.same)) (sym c.get.ensures ∙ ap option_copied c.in-Some-get.is))
    c.loop-id.invariant
    (c.in_ok-add_if_new.ensures ∙ ap (λ i. c.loop-id.new.items ++ map unexecuted (filter test ((i, m) ∷ []))) (sym c.get-last.ensures.same))

pub returns : goal.returns
returns c =
    let rows = c.args.modules.now.rows in
    let test : ℕ × LoadedModule → Bool = λ r. not (is_among c.args.list.now r) in
    no_row unexecuted test c.loop-id.new.items (map unexecuted (filter test rows)) (rows_above c.loop-id.last rows)
    (no_rows rows c.loop-id.last (sym c.next_after.ensures ∙ c.in_default.is)) c.loop-id.invariant
