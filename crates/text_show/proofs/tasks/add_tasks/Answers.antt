use Rattle.std.proofs.Common.{◌≡◌, ◌++◌, ◌<◌, ap, sym, ◌∙◌, arith}
use Rattle.std.specs.List.{flat_map}
use Rattle.text_show.specs.Tasks.{task_row, from_priority}
use Rattle.text_show.proofs.Order.{priority_more, priorities_end}
use Rattle.text_show.proofs.Sorted.{by_order}
use Rattle.text_show.proofs.tasks.add_tasks.Goals as goal

pub loop-pri-preserved : goal.loop-pri-preserved
loop-pri-preserved c = (
  priority_more (task_row c.args.kern.now.tick) c.args.kern.now.tasks c.loop-pri.pri _ c.loop-pri.page.items _ c.loop-pri-test.true c.loop-pri.invariant.0 c.in_ok-add_of_priority.ensures.rows,
  (λ some. c.in_ok-add_of_priority.ensures.low),
)

pub returns : goal.returns
returns c =
    let row = task_row c.args.kern.now.tick in
    let tasks = c.args.kern.now.tasks in
    let last : c.loop-pri.pri ≡ 256 = omega (arith, c.loop-pri-test.false, c.loop-pri.auto.pri-end) in
    let some : 0 < c.loop-pri.pri = omega arith in
    priorities_end row tasks c.loop-pri.pri (c.args.page.now.items ++ flat_map row (from_priority 256 0 tasks)) c.loop-pri.page.items last c.loop-pri.invariant.0
    ∙ ap (λ ts. c.args.page.now.items ++ flat_map row ts) (sym (by_order tasks c.facts.ensures.rising (c.loop-pri.invariant.1 some)))
