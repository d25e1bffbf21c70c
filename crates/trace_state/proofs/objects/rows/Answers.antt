use Rattle.std.proofs.Common.{◌<◌, ◌≤◌, ◌++◌, ◌∷◌, [], length, map, ap, ◌∙◌, arith}
use Rattle.serde_json.specs.Data.{array}
use Rattle.serde_json.specs.View.{items_of}
use Rattle.board_reading.proofs.Collecting.{all_items, next_item}
use Rattle.trace_state.specs.Held.{items_in}
use Rattle.trace_state.proofs.Rows.{row_at}
use Rattle.trace_state.proofs.objects.rows.Goals as goal

-- one more object is an item
pub loop-place-preserved : goal.loop-place-preserved
loop-place-preserved g c =
    let rows = c.args.table.now.rows in
    let place = c.loop-place.place in
    let less : place < length rows = omega (arith, c.len-place-end.ensures, c.loop-place-test.true) in
    let object = c.value_at.result.now in
    let items = items_in c.loop-place.items in
    next_item (λ r. g.T.Shown.data_of r.0 r.1) items (items_in c.add.new.self) (map (λ r. g.T.Shown.data_of r.0 r.1) rows) rows place (c.id_at.result, object)
    less (row_at rows place c.id_at.result object less c.id_at.ensures c.value_at.ensures) c.loop-place.invariant
    (c.in_ok-add.ensures ∙ ap (λ d. items ++ d ∷ []) (c.in_ok-to_json.ensures ∙ ap (λ n. g.T.Shown.data_of n object) c.get-id.ensures.same))

pub returns : goal.returns
returns g c =
    let rows = c.args.table.now.rows in
    let end : length rows ≤ c.loop-place.place = omega (arith, c.len-place-end.ensures, c.loop-place-test.false) in
    c.finish.ensures ∙ ap (λ ds. array (items_of ds))
    (all_items (λ r. g.T.Shown.data_of r.0 r.1) (items_in c.loop-place.items) (map (λ r. g.T.Shown.data_of r.0 r.1) rows) rows c.loop-place.place end c.loop-place.invariant)
