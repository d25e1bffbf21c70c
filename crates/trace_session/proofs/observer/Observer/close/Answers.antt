use Rattle.std.proofs.Common.{ap, refl, ◌∙◌}
use Rattle.board_changes.specs.Spans.{closed}
use Rattle.trace_session.specs.Choice.{choice_state}
use Rattle.trace_session.proofs.Picturing.{areas_kept, on_both}
use Rattle.trace_session.proofs.observer.Observer.close.Goals as goal

-- all spans have ended
pub returns-clause-picture : goal.returns-clause-picture
returns-clause-picture g c =
    let old = c.args.self.now.spans in
    on_both c.keep_areas.result _ _ _
    (areas_kept (choice_state c.args.self.now.choice.now) old c.close-2.new.self c.keep_areas.new.self.spans c.args.self.now.areas c.keep_areas.new.self.areas
    (λ spans. closed spans _) (λ x y same. refl) (λ x. refl) (c.in_ok-close-2.ensures ∙ ap (closed old) c.time-end.ensures))
    c.keep_areas.ensures.spans c.keep_areas.ensures.areas
