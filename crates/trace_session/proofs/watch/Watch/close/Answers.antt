use Rattle.std.proofs.Common.{[], ap, subst, sym, ◌++◌, ◌∙◌}
use Rattle.board_changes.specs.Spans.{SpanState, closed}
use Rattle.trace_summary.specs.Keeping.{KeepsTimes}
use Rattle.trace_summary.specs.declared.times.LongestTimes.{LongestTimes}
use Rattle.trace_session.specs.Watches.{lists_in}
use Rattle.trace_session.specs.Watching.{WatchState}
use Rattle.trace_session.proofs.watch.Watch.close.Goals as goal

pub returns : goal.returns
returns c =
    let mid = c.end.new.self in
    let new = c.keep_ended.new.self in
    let time = c.args.time in
    λ w kept.
    let spans = c.in_ok-end.ensures.spans ∙ ap (λ (x : WatchState). closed x.spans time) kept.going in
    let others = c.in_ok-end.ensures.uninterrupted ∙ ap (λ (x : WatchState). closed x.uninterrupted time) kept.going in
    let times : KeepsTimes mid.times (lists_in w) = subst (λ (t : LongestTimes). KeepsTimes t (lists_in w)) (sym c.in_ok-end.ensures.times) kept.times in
    let ended = c.in_ok-keep_ended.ensures.times (lists_in w) times in
    let first = subst (λ (x : SpanState). KeepsTimes new.times (record { all = w.spans.done ++ x.done; uninterrupted = w.uninterrupted.done ++ mid.uninterrupted.done })) spans ended in
    subst (λ (x : SpanState). KeepsTimes new.times (record { all = w.spans.done ++ (closed (record { going = w.spans.going; done = [] }) time).done; uninterrupted = w.uninterrupted.done ++ x.done })) others first
