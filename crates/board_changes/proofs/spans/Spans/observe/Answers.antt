use Rattle.std.proofs.Common.{ap, sym, ◌∙◌}
use Rattle.board_changes.specs.Spans.{SpanState, all_kept}
use Rattle.board_changes.proofs.Keeping.{nothing_observed}
use Rattle.board_changes.proofs.spans.Spans.observe.Goals as goal

pub returns-then-are_kept : goal.returns-then-are_kept
returns-then-are_kept c =
    nothing_observed c.args.runner c.args.time c.args.self.now c.args.views.now
    (ap (λ (s : SpanState). all_kept c.args.runner 0 s.going c.args.views.now) (sym c.self.view_is)
    ∙ ap (λ os. all_kept c.args.runner 0 os c.args.views.now) (sym c.deref.ensures.value) ∙ c.are_kept.ensures c.if-are_kept.true)
