use Rattle.wind_session.specs.BoardPlayerSeen.{board_by}
use Rattle.trace_session.specs.Choice.{choice_state}
use Rattle.trace_session.proofs.Picturing.{observed_kept, on_both}
use Rattle.trace_session.proofs.observer.Observer.look_at_tasks.Goals as goal

-- the spans that ended at this moment leave their areas
pub returns-clause-picture : goal.returns-clause-picture
returns-clause-picture g c =
    let new = board_by (λ d. (goal.Device-dyn g (d.vtable, d.value)).kind_of d.value) (λ d. (goal.Device-dyn g (d.vtable, d.value)).words_of d.value) c.args.board.now in
    on_both c.keep_areas.result _ _ _
    (observed_kept (choice_state c.args.self.now.choice.now) new c.args.self.now.spans c.observe.new.spans c.keep_areas.new.self.spans c.args.self.now.areas c.keep_areas.new.self.areas c.in_ok-observe.ensures)
    c.keep_areas.ensures.spans c.keep_areas.ensures.areas
