use Rattle.std.proofs.Common.{List, subst, ◌++◌}
use Rattle.board_changes.specs.declared.spans.Span.{Span}
use Rattle.trace_summary.specs.Keeping.{KeepsTimes}
use Rattle.trace_session.proofs.watch.Watch.keep_ended.Goals as goal

-- the spans that have ended were added
pub returns-clause-times : goal.returns-clause-times
returns-clause-times c =
    let new = c.add_uninterrupted.new.self in
    let old = c.args.self.now in
    λ older kept.
    let added = c.in_ok-add_uninterrupted.ensures _ (c.in_ok-add.ensures older kept) in
    subst (λ (x : List Span). KeepsTimes new (record { all = older.all ++ x; uninterrupted = older.uninterrupted ++ old.uninterrupted.done })) c.done.ensures
    (subst (λ (x : List Span). KeepsTimes new (record { all = older.all ++ c.done.result.now; uninterrupted = older.uninterrupted ++ x })) c.done-2.ensures added)
