use Rattle.std.proofs.Common.{◌≡◌, ap, subst, sym, ◌++◌, ◌∙◌}
use Rattle.wind_session.specs.BoardPlayerSeen.{board_by}
use Rattle.trace_summary.specs.Keeping.{KeepsTimes}
use Rattle.trace_summary.specs.declared.times.LongestTimes.{LongestTimes}
use Rattle.trace_session.specs.Watches.{emptied, lists_in, watch_state}
use Rattle.trace_session.specs.Watching.{WatchState, watched}
use Rattle.trace_session.proofs.watch.Watch.look.Goals as goal

pub returns : goal.returns
returns g c =
    let s = board_by (λ d. (goal.Device-dyn g (d.vtable, d.value)).kind_of d.value) (λ d. (goal.Device-dyn g (d.vtable, d.value)).words_of d.value) c.args.board.now in
    let mid = c.observe.new.self in
    let new = c.keep_ended.new.self in
    λ w kept.
    let seen : watch_state mid ≡ watched (emptied w) s = c.in_ok-observe.ensures.state ∙ ap (λ x. watched x s) kept.going in
    let times : KeepsTimes mid.times (lists_in w) = subst (λ (t : LongestTimes). KeepsTimes t (lists_in w)) (sym c.in_ok-observe.ensures.times) kept.times in
    record {
      going = c.in_ok-keep_ended.ensures.state ∙ ap emptied seen;
      times = subst (λ (x : WatchState). KeepsTimes new.times (record { all = w.spans.done ++ x.spans.done; uninterrupted = w.uninterrupted.done ++ x.uninterrupted.done })) seen (c.in_ok-keep_ended.ensures.times (lists_in w) times);
    }
