use Rattle.std.proofs.Common.{if◌then◌else◌, sym, ap, subst, ◌∙◌}
use Rattle.wind_session.specs.BoardPlayerSeen.{board_by}
use Rattle.board_trace.specs.Steps.{is_instruction}
use Rattle.trace_session.specs.Watches.{KeepsWatch}
use Rattle.trace_session.specs.Watching.{watched}
use Rattle.trace_session.proofs.counter.Counter.look.Goals as goal

-- an instruction leaves them as they are
pub returns-then-is_instruction-clause-watch : goal.returns-then-is_instruction-clause-watch
returns-then-is_instruction-clause-watch g c =
    let s = board_by (λ d. (goal.Device-dyn g (d.vtable, d.value)).kind_of d.value) (λ d. (goal.Device-dyn g (d.vtable, d.value)).words_of d.value) c.args.board.now in
    let is = ap (is_instruction c.args.before_step.now) (sym c.output.ensures) ∙ sym c.is_instruction.ensures ∙ c.if-is_instruction.true in
    λ w kept. subst (λ b. KeepsWatch c.args.self.now.watch (if b then w else watched w s)) (sym is) kept

pub returns-clause-watch : goal.returns-clause-watch
returns-clause-watch g c =
    let s = board_by (λ d. (goal.Device-dyn g (d.vtable, d.value)).kind_of d.value) (λ d. (goal.Device-dyn g (d.vtable, d.value)).words_of d.value) c.args.board.now in
    let is = ap (is_instruction c.args.before_step.now) (sym c.output.ensures) ∙ sym c.is_instruction.ensures ∙ c.if-is_instruction.false in
    λ w kept. subst (λ b. KeepsWatch c.look.new.self (if b then w else watched w s)) (sym is) (c.in_ok-look.ensures w kept)
