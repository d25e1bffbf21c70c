use Rattle.std.proofs.Common.{◌<◌, length, arith}
use Rattle.board_trace.specs.Snapshots.{view_in}
use Rattle.board_reading.proofs.Collecting.{one_placed, all_placed}
use Rattle.board_reading.proofs.snapshot.take_tasks.Goals as goal

pub loop-place-preserved : goal.loop-place-preserved
loop-place-preserved c =
    let ts = c.args.kern.now.tasks in
    let place = c.loop-place.place in
    let old = c.loop-place.views.items in
    let t = c.task_at.result.now in
    let less : place < length ts = omega (arith, c.live-place-end.ensures, c.loop-place-test.true) in (
      one_placed (view_in c.args.objects.now) old c.put_view.new.views.items ts place t less c.task_at.ensures c.loop-place.invariant.0
          c.in_ok-put_view.ensures.put,
      omega (arith, c.in_ok-put_view.ensures.len),
      omega (arith, c.in_ok-put_view.ensures.len, c.loop-place.invariant.2, less),
    )

pub returns : goal.returns
returns c =
    all_placed (view_in c.args.objects.now) c.loop-place.views.items c.args.kern.now.tasks c.loop-place.place
    (omega (arith, c.live-place-end.ensures, c.loop-place-test.false)) c.loop-place.invariant.2 c.loop-place.invariant.0
