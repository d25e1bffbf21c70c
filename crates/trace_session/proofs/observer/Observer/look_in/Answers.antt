use Rattle.std.proofs.Common.{Bor, subst, sym, ◌∙◌}
use Rattle.std.specs.Prelude.{OnOk}
use Rattle.wind_session.specs.BoardPlayerSeen.{board_by}
use Rattle.board_changes.specs.Spans.{closed}
use Rattle.trace_session.specs.Choice.{choice_state}
use Rattle.trace_session.specs.Shown.{Carries}
use Rattle.trace_session.specs.declared.choice.Choice.{Choice}
use Rattle.trace_session.proofs.Picturing.{goes_on, last_closed, on_one}
use Rattle.trace_session.proofs.observer.Observer.look_in.Goals as goal

pub returns-then-goes_on-clause-picture : goal.returns-then-goes_on-clause-picture
returns-then-goes_on-clause-picture g c =
    let new = board_by (λ d. (goal.Device-dyn g (d.vtable, d.value)).kind_of d.value) (λ d. (goal.Device-dyn g (d.vtable, d.value)).words_of d.value) c.args.board.now in
    let choice = choice_state c.args.self.now.choice.now in
    let step = c.args.before_step.now in
    goes_on choice c.args.self.now.spans c.look_at.new.self.spans c.args.self.now.areas c.look_at.new.self.areas step new (sym c.requires ∙ c.if-goes_on.true) c.in_ok-look_at.ensures.picture

-- the last step that is shown
pub returns-clause-picture : goal.returns-clause-picture
returns-clause-picture g c =
    let new = board_by (λ d. (goal.Device-dyn g (d.vtable, d.value)).kind_of d.value) (λ d. (goal.Device-dyn g (d.vtable, d.value)).words_of d.value) c.args.board.now in
    let choice = choice_state c.args.self.now.choice.now in
    let step = c.args.before_step.now in
    let closes =
    subst (λ (x : Bor Choice). OnOk c.close.result (Carries (choice_state x.now) c.look_at.new.self.spans c.look_at.new.self.areas c.close.new.self.spans c.close.new.self.areas (λ spans. closed spans new.time)))
    c.in_ok-look_at.ensures.choice c.close.ensures.picture in
    on_one c.close.result _ _
    (last_closed choice c.args.self.now.spans c.close.new.self.spans c.args.self.now.areas c.close.new.self.areas step new c.look_at.new.self.spans c.look_at.new.self.areas (sym c.requires ∙ c.if-goes_on.false) c.in_ok-look_at.ensures.picture)
    closes
