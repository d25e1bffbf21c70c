use Rattle.std.proofs.Common.{◌<◌, ◌≤◌, ◌++◌, ◌∷◌, [], length, map, ap, ap₂, arith, ◌∙◌}
use Rattle.kernel_world.specs.State.{WorldState}
use Rattle.trace_session.specs.Counters.{queue_counts}
use Rattle.trace_session.proofs.QueueRows.{all_of, one_more, row_at}
use Rattle.trace_session.proofs.numbers.take_counts.Goals as goal

-- one more queue is counted
pub loop-place-preserved : goal.loop-place-preserved
loop-place-preserved g c =
    let rows = c.table-queues.result.now.rows in
    let place = c.loop-place.place in
    let less : place < length rows = omega (arith, c.len-place-end.ensures, c.loop-place-test.true) in
    let queue = c.value_at.result.now in
    one_more _ c.loop-place.counts.items c.add_count.new.counts.items rows place (c.id_at.result, queue) less
    (row_at rows place c.id_at.result queue less c.id_at.ensures c.value_at.ensures) c.loop-place.invariant
    (c.in_ok-add_count.ensures ∙ ap₂ (λ id n. c.loop-place.counts.items ++ record { queue = id; messages = n } ∷ []) c.get.ensures.same c.count.ensures)

pub returns : goal.returns
returns g c =
    let rows = c.table-queues.result.now.rows in
    let end : length rows ≤ c.loop-place.place = omega (arith, c.len-place-end.ensures, c.loop-place-test.false) in
    all_of _ c.loop-place.counts.items rows c.loop-place.place end c.loop-place.invariant
    ∙ ap (map _) c.table-queues.ensures
    ∙ ap (λ (w : WorldState). queue_counts w) c.world.ensures
