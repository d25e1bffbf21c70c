use Rattle.std.proofs.Common.{◌≡◌, true, false, ap, refl, sym, ◌∙◌}
use Rattle.wind_session.specs.BoardPlayerSeen.{board_by}
use Rattle.board_trace.specs.Steps.{is_instruction}
use Rattle.trace_session.specs.Choice.{choice_state}
use Rattle.trace_session.proofs.Picturing.{looked, skipped}
use Rattle.trace_session.proofs.observer.Observer.look_at.Goals as goal

-- an instruction leaves the spans as they are
pub returns-then-is_instruction-clause-picture : goal.returns-then-is_instruction-clause-picture
returns-then-is_instruction-clause-picture g c =
    let new = board_by (λ d. (goal.Device-dyn g (d.vtable, d.value)).kind_of d.value) (λ d. (goal.Device-dyn g (d.vtable, d.value)).words_of d.value) c.args.board.now in
    let choice = choice_state c.args.self.now.choice.now in
    let step = c.args.before_step.now in
    let instruction : is_instruction step new.world.output ≡ true = ap (is_instruction step) (sym c.output.ensures) ∙ sym c.is_instruction.ensures ∙ c.if-is_instruction.true in
    skipped choice c.args.self.now.spans c.args.self.now.spans c.args.self.now.areas c.args.self.now.areas step new instruction refl refl

pub returns-clause-picture : goal.returns-clause-picture
returns-clause-picture g c =
    let new = board_by (λ d. (goal.Device-dyn g (d.vtable, d.value)).kind_of d.value) (λ d. (goal.Device-dyn g (d.vtable, d.value)).words_of d.value) c.args.board.now in
    let choice = choice_state c.args.self.now.choice.now in
    let step = c.args.before_step.now in
    let instruction : is_instruction step new.world.output ≡ false = ap (is_instruction step) (sym c.output.ensures) ∙ sym c.is_instruction.ensures ∙ c.if-is_instruction.false in
    looked choice c.args.self.now.spans c.look_at_tasks.new.self.spans c.args.self.now.areas c.look_at_tasks.new.self.areas step new instruction c.in_ok-look_at_tasks.ensures.picture
