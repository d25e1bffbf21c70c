use Rattle.std.proofs.Common.{refl, sym, subst}
use Rattle.wind_core.specs.State.{Lives}
use Rattle.wind_core.specs.Moves.{past_gate}
use Rattle.task_block.specs.declared.task.Task.{Task}
use Rattle.live_loading.proofs.Going.{lives_changed}
use Rattle.live_loading.proofs.outcome.refuse.Goals as goal

pub set_errno-requires : goal.set_errno-requires
set_errno-requires g c =
    let who = c.shell-who.result in
    lives_changed c.args.w.now.kern _ who who past_gate (λ t. refl) c.leave_gate.ensures (subst (λ n. Lives c.args.w.now.kern n) (sym c.shell-who.ensures) c.requires.live)

pub answer-requires : goal.answer-requires
answer-requires g c =
    let who = c.shell-who.result in
    let at : Lives c.args.w.now.kern who = subst (λ n. Lives c.args.w.now.kern n) (sym c.shell-who.ensures) c.requires.live in
    let left : Lives c.leave_gate.new.self who = lives_changed c.args.w.now.kern _ who who past_gate (λ t. refl) c.leave_gate.ensures at in
    lives_changed c.leave_gate.new.self _ who who (λ (t : Task). record t { errno = c.number.result }) (λ t. refl) c.set_errno.ensures left
