use Rattle.std.proofs.Common.{◌<◌, ◌≤◌, ◌++◌, ◌∷◌, [], length, map, ap, ◌∙◌, arith}
use Rattle.serde_json.specs.Data.{array}
use Rattle.serde_json.specs.View.{items_of}
use Rattle.board_reading.proofs.Collecting.{all_items, next_item}
use Rattle.trace_state.specs.Held.{items_in}
use Rattle.trace_state.specs.Tasks.{task_data}
use Rattle.trace_state.proofs.tasks.tasks.Goals as goal

-- one more task is an item
pub loop-place-preserved : goal.loop-place-preserved
loop-place-preserved g c =
    let f = task_data c.args.world.now.objects in
    let ts = c.args.world.now.kern.tasks in
    let place = c.loop-place.place in
    let less : place < length ts = omega (arith, c.live-place-end.ensures, c.loop-place-test.true) in
    let items = items_in c.loop-place.items in
    next_item f items (items_in c.add.new.self) (map f ts) ts place c.task_at.result.now less c.task_at.ensures c.loop-place.invariant
    (c.in_ok-add.ensures ∙ ap (λ d. items ++ d ∷ []) c.in_ok-task_value.ensures)

pub returns : goal.returns
returns g c =
    let f = task_data c.args.world.now.objects in
    let ts = c.args.world.now.kern.tasks in
    let end : length ts ≤ c.loop-place.place = omega (arith, c.live-place-end.ensures, c.loop-place-test.false) in
    c.finish.ensures ∙ ap (λ ds. array (items_of ds)) (all_items f (items_in c.loop-place.items) (map f ts) ts c.loop-place.place end c.loop-place.invariant)
