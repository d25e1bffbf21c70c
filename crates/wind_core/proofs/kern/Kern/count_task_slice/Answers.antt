use Rattle.std.proofs.Common.{ap, ◌∙◌}
use Rattle.wind_core.proofs.Writes.{object_lives}
use Rattle.wind_core.proofs.Mending.{sliced_keeps}
use Rattle.wind_core.proofs.Ticks.{sliced_is, object_ready, ready_lives}
use Rattle.wind_core.specs.State.{task_of}
use Rattle.wind_core.specs.Notes.{marks}
use Rattle.wind_core.proofs.Noting.{marks_counted, noted_same}
use Rattle.wind_core.proofs.kern.Kern.count_task_slice.Goals as goal

pub object_mut-task-requires : goal.object_mut-task-requires
object_mut-task-requires c = object_lives c.self.inside c.args.self.now c.args.who c.self.invariant.0 c.self.view_is (ready_lives (task_of c.args.self.now.tasks c.args.who) c.requires.ready)

pub invariant_of-self : goal.invariant_of-self
invariant_of-self c = let k = c.self.inside in
    let x = c.object_mut-task.result.now in (
      sliced_keeps k c.args.who c.count_slice_tick-over.new.next_since x c.count_slice_tick-over.new.task c.rotate_over.new.ready c.count_slice_tick-over.result c.self.invariant.0 c.object_mut-task.ensures.value
          (object_ready k c.args.self.now c.args.who x c.self.invariant.0 c.self.view_is c.requires.ready c.object_mut-task.ensures.value)
          c.count_slice_tick-over.ensures.task c.count_slice_tick-over.ensures.next c.count_slice_tick-over.ensures.over c.rotate_over.ensures,
      noted_same c.self.inside c.self.inside.all_normal c.self.inside.none_holds c.args.who c.object_mut-task.result.now c.count_slice_tick-over.new.task c.self.invariant.0 c.object_mut-task.ensures.value c.self.invariant.1 (ap marks c.count_slice_tick-over.ensures.task ∙ marks_counted c.self.inside.slice c.self.inside.next_since c.object_mut-task.result.now),
    )

pub returns : goal.returns
returns c =
    sliced_is c.self.inside c.args.self.now c.args.who c.count_slice_tick-over.new.next_since c.object_mut-task.result.now c.count_slice_tick-over.new.task c.self.invariant.0 c.self.view_is c.object_mut-task.ensures.value
    c.if-not-is_free.ensures c.count_slice_tick-over.ensures.task c.count_slice_tick-over.ensures.next
