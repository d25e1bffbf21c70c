use Rattle.std.proofs.Common.{◌++◌, ◌∷◌, [], Some, ap, sym, ◌∙◌, map, arith}
use Rattle.std.specs.Prelude.{option_copied}
use Rattle.id_table.specs.Rows.{ids}
use Rattle.serde_json.specs.Data.{array}
use Rattle.serde_json.specs.View.{items_of}
use Rattle.trace_state.specs.Held.{items_in}
use Rattle.trace_state.specs.Modules.{module_data}
use Rattle.trace_state.proofs.Rows.{all_above, found_above, is_there, next_rows, no_more, no_rows, one_more, rows_above}
use Rattle.trace_state.proofs.modules.modules.Goals as goal

-- all modules are above 0
pub loop-id-init : goal.loop-id-init
loop-id-init c =
    let rows = c.args.modules.now.rows in
    ap (λ ds. ds ++ map (λ r. module_data r.0 r.1) (rows_above 0 rows)) c.new-items.ensures
    ∙ ap (map (λ r. module_data r.0 r.1)) (all_above 0 rows (λ j d less. (c.facts.ensures.ranged j d less).0))

pub loop-id-smaller : goal.loop-id-smaller
loop-id-smaller c =
    let rows = c.args.modules.now.rows in
    let up = found_above c.loop-id.last (ids rows) c.get-last.result (sym c.next_after.ensures ∙ c.in-Some.is ∙ ap Some (sym c.get-last.ensures.same)) in
    omega (arith, up, c.get-last.ensures.greatest)

-- the next one is a module
pub unreachable-requires : goal.unreachable-requires
unreachable-requires c =
    is_there c.args.modules.now.rows c.loop-id.last c.get-last.result (sym c.next_after.ensures ∙ c.in-Some.is ∙ ap Some (sym c.get-last.ensures.same)) (sym c.get.ensures ∙ ap option_copied c.in_default-get.is)

pub loop-id-preserved : goal.loop-id-preserved
loop-id-preserved c =
    let rows = c.args.modules.now.rows in
    let id = c.get-last.result in
    let m = c.in-Some-get.module.now in
    let items = items_in c.loop-id.items in
    one_more (λ r. module_data r.0 r.1) items (items_in c.add.new.self) (map (λ r. module_data r.0 r.1) rows) (rows_above c.loop-id.last rows) (rows_above id rows) (id, m)
    (next_rows rows c.loop-id.last id m c.facts.ensures.rising (sym c.next_after.ensures ∙ c.in-Some.is ∙ ap Some (sym c.get-last.ensures.same)) (sym c.get.ensures ∙ ap option_copied c.in-Some-get.is))
    c.loop-id.invariant
    (c.in_ok-add.ensures ∙ ap (λ d. items ++ d ∷ []) c.in_ok-module_value.ensures)

pub returns : goal.returns
returns c =
    let rows = c.args.modules.now.rows in
    c.finish.ensures ∙ ap (λ ds. array (items_of ds))
    (no_more (λ r. module_data r.0 r.1) (items_in c.loop-id.items) (map (λ r. module_data r.0 r.1) rows) (rows_above c.loop-id.last rows)
    (no_rows rows c.loop-id.last (sym c.next_after.ensures ∙ c.in_default.is)) c.loop-id.invariant)
