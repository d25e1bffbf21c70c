use Rattle.std.proofs.Common.{◌<◌, ◌≤◌, length, ap, ◌∙◌, ◌++◌, ◌∷◌, [], map, arith}
use Rattle.std.proofs.lemmas.List.{length-map}
use Rattle.id_table.specs.Rows.{objects}
use Rattle.board_changes.specs.Views.{view_of_watchdog}
use Rattle.board_reading.proofs.Collecting.{next_item, all_items}
use Rattle.board_reading.proofs.snapshot.take_watchdogs.Goals as goal

pub loop-place-preserved : goal.loop-place-preserved
loop-place-preserved c =
    let ws = objects c.args.watchdogs.now.rows in
    let within : c.loop-place.place < length ws = simp length-map (omega (arith, c.len-place-end.ensures, c.loop-place-test.true)) in
    next_item view_of_watchdog c.loop-place.views.items c.add.new.list.items (map view_of_watchdog ws) ws c.loop-place.place c.value_at.result.now
    within c.value_at.ensures c.loop-place.invariant
    (c.in_ok-add.ensures ∙ ap (λ v. c.loop-place.views.items ++ v ∷ []) c.watchdog_view.ensures)

pub returns : goal.returns
returns c =
    let ws = objects c.args.watchdogs.now.rows in
    let end : length ws ≤ c.loop-place.place = simp length-map (omega (arith, c.len-place-end.ensures, c.loop-place-test.false)) in
    all_items view_of_watchdog c.loop-place.views.items (map view_of_watchdog ws) ws c.loop-place.place end c.loop-place.invariant
