use Rattle.std.proofs.Common.{refl, sym, subst}
use Rattle.wind_core.specs.State.{Lives}
use Rattle.wind_core.specs.Moves.{past_gate}
use Rattle.live_loading.proofs.Going.{lives_changed}
use Rattle.live_loading.proofs.outcome.accept.Goals as goal

pub answer-requires : goal.answer-requires
answer-requires g c =
    let who = c.shell-who.result in
    lives_changed c.args.w.now.kern _ who who past_gate (λ t. refl) c.leave_gate.ensures (subst (λ n. Lives c.args.w.now.kern n) (sym c.shell-who.ensures) c.requires.live)
