use Rattle.std.proofs.Common.{refl, sym, ◌∙◌}
use Rattle.wind_session.specs.BoardPlayerSeen.{board_by}
use Rattle.trace_session.specs.Choice.{choice_state}
use Rattle.trace_session.proofs.Picturing.{begins, inside, on_one, passed}
use Rattle.trace_session.proofs.observer.Observer.look.Goals as goal

-- the step is shown
pub returns-then-has_step-clause-picture : goal.returns-then-has_step-clause-picture
returns-then-has_step-clause-picture g c =
    let new = board_by (λ d. (goal.Device-dyn g (d.vtable, d.value)).kind_of d.value) (λ d. (goal.Device-dyn g (d.vtable, d.value)).words_of d.value) c.args.board.now in
    let choice = choice_state c.args.self.now.choice.now in
    let step = c.args.before_step.now in
    on_one c.look_in.result _ _
    (inside choice c.args.self.now.spans c.look_in.new.self.spans c.args.self.now.areas c.look_in.new.self.areas step new (sym c.has_step.ensures ∙ c.if-has_step.true))
    c.look_in.ensures.picture

-- the next one is the first that is shown
pub returns-then-is_next-clause-picture : goal.returns-then-is_next-clause-picture
returns-then-is_next-clause-picture g c =
    let new = board_by (λ d. (goal.Device-dyn g (d.vtable, d.value)).kind_of d.value) (λ d. (goal.Device-dyn g (d.vtable, d.value)).words_of d.value) c.args.board.now in
    let choice = choice_state c.args.self.now.choice.now in
    let step = c.args.before_step.now in
    on_one c.open.result _ _
    (begins choice c.args.self.now.spans c.open.new.self.spans c.args.self.now.areas c.open.new.self.areas step new (sym c.has_step.ensures ∙ c.if-has_step.false) (sym c.has_step-is_next.ensures ∙ c.if-is_next.true))
    c.open.ensures.picture

pub returns-clause-picture : goal.returns-clause-picture
returns-clause-picture g c =
    let new = board_by (λ d. (goal.Device-dyn g (d.vtable, d.value)).kind_of d.value) (λ d. (goal.Device-dyn g (d.vtable, d.value)).words_of d.value) c.args.board.now in
    let choice = choice_state c.args.self.now.choice.now in
    let step = c.args.before_step.now in
    passed choice c.args.self.now.spans c.args.self.now.spans c.args.self.now.areas c.args.self.now.areas step new (sym c.has_step.ensures ∙ c.if-has_step.false) (sym c.has_step-is_next.ensures ∙ c.if-is_next.false) refl refl
