use Rattle.std.proofs.Common.{◌≡◌, ◌<◌, length, arith}
use Rattle.std.specs.Prelude.{slice_index_or}
use Rattle.text_show.specs.Tasks.{task_row, has_priority}
use Rattle.text_show.proofs.Order.{place_more}
use Rattle.text_show.proofs.Sorted.{low_more}
use Rattle.text_show.proofs.tasks.add_of_priority.Goals as goal

pub loop-place-preserved : goal.loop-place-preserved
loop-place-preserved c =
    let tasks = c.args.kern.now.tasks in
    let place = c.loop-place.place in
    let task = c.task_at.result.now in
    let below : place < length tasks = omega (arith, c.loop-place-test.true, c.live-place-end.ensures) in
    let at : task ≡ slice_index_or tasks place task = c.task_at.ensures in (
      place_more (task_row c.args.kern.now.tick) (has_priority c.args.pri) tasks place task c.args.page.now.items
          c.loop-place.page.items _ below at c.loop-place.invariant.0
          (rw c.ticks.ensures at c.in_ok-add_at.ensures.rows),
      low_more tasks place task below at c.loop-place.invariant.1 c.in_ok-add_at.ensures.low,
    )
