use Rattle.std.proofs.Common.{ap, subst, ◌∙◌}
use Rattle.wind_session.specs.BoardPlayerSeen.{board_by}
use Rattle.board_trace.specs.Runs.{lines_of}
use Rattle.board_trace.specs.Snapshots.{snapshot_of}
use Rattle.board_trace.specs.declared.moment.BeforeStep.{BeforeStep}
use Rattle.trace_summary.specs.Summaries.{tally_of}
use Rattle.trace_session.specs.Watches.{KeepsWatch}
use Rattle.trace_session.specs.Watching.{watched_after, watched_by}
use Rattle.trace_session.proofs.Counting.{all_now}
use Rattle.trace_session.proofs.Watched.{watched_now}
use Rattle.trace_session.proofs.summary.CounterTeller.tell.Goals as goal

pub returns-clause-tells : goal.returns-clause-tells
returns-clause-tells g c =
    let state = board_by (λ d. (goal.Device-dyn g (d.vtable, d.value)).kind_of d.value) (λ d. (goal.Device-dyn g (d.vtable, d.value)).words_of d.value) in
    let new = state c.args.board.now in
    λ done first said next s u i is ready on holds. (
      holds.0,
      c.in_ok-add_step.ensures.tally (next i) u (snapshot_of s.world).tasks (lines_of said s i) is ready on.replied holds.1
          ∙ ap (tally_of (snapshot_of s.world).tasks) (all_now said next s u _ _ i on),
      subst (KeepsWatch c.add_step.new.self.watch) (ap (λ (b : BeforeStep). watched_by b (watched_after said s i) new) is ∙ watched_now said next s u new _ i on)
          (c.in_ok-add_step.ensures.watch (watched_after said s i) holds.2),
    )
