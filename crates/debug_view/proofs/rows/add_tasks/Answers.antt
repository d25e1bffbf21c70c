use Rattle.std.proofs.Common.{◌<◌, ◌≤◌, ◌++◌, length, map, arith}
use Rattle.debug_texts.specs.Lists.{thread_rows}
use Rattle.debug_view.specs.Rows.{task_row}
use Rattle.debug_view.proofs.Listed.{all_rows, next_row}
use Rattle.debug_view.proofs.rows.add_tasks.Goals as goal

pub loop-place-preserved : goal.loop-place-preserved
loop-place-preserved c =
    let f = task_row c.args.phase c.args.objects.now in
    let ts = c.args.kern.now.tasks in
    let place = c.loop-place.place in
    let less : place < length ts = omega (arith, c.live-place-end.ensures, c.loop-place-test.true) in
    next_row f c.loop-place.text.items c.add_task.new.text.items (c.args.text.now.items ++ thread_rows (map f ts)) ts place c.task_at.result.now less c.task_at.ensures
    c.loop-place.invariant c.in_ok-add_task.ensures

pub returns : goal.returns
returns c =
    let f = task_row c.args.phase c.args.objects.now in
    let ts = c.args.kern.now.tasks in
    let end : length ts ≤ c.loop-place.place = omega (arith, c.live-place-end.ensures, c.loop-place-test.false) in
    all_rows f c.loop-place.text.items (c.args.text.now.items ++ thread_rows (map f ts)) ts c.loop-place.place end c.loop-place.invariant
