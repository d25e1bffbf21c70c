-- A statement that came to a call begins it.
use Rattle.std.proofs.Common.{◌≡◌, ℕ, List, ◌∷◌, Option, Some, sym, ap, ◌∙◌}
use Rattle.shell_eval.specs.Pending.{Pending}
use Rattle.shell_eval.specs.Evaluate.{evaluate}
use Rattle.shell_eval.specs.Moved.{came}
use Rattle.shell_eval.specs.declared.went.Went.{Went}
use Rattle.shell_eval.specs.declared.went.Went.TheVariants as went
use Rattle.live_loading.specs.KernelWorldState.{WorldState}
use Rattle.wind_machine.specs.Part.{part_of}
use Rattle.wind_machine.specs.Shell.{eval_state, with_eval, calling, evaluated_part, eval_part}
use Rattle.wind_machine.specs.declared.phase.Phase.TheVariants as phases

pub call_begun : (trees after : List (Option Pending)) (p q : Pending) (w mid new : WorldState) (callee : ℕ) (words : List ℕ) (came_by : Went)
    → Some p ∷ after ≡ trees → came_by ≡ went.Call callee words → came came_by (eval_state mid) q ≡ evaluate (eval_state w) p
    → with_eval w (eval_state mid) ≡ mid → new ≡ calling mid callee words
    → part_of (record { phase = phases.Call; trees = Some q ∷ after }) new ≡ eval_part trees w
call_begun trees after p q w mid new callee words came_by begun call made rest called =
    ap (part_of (record { phase = phases.Call; trees = Some q ∷ after })) (called ∙ ap (λ v. calling v callee words) (sym rest))
    ∙ ap (λ e. evaluated_part e after w) (ap (λ v. came v (eval_state mid) q) (sym call) ∙ made)
    ∙ ap (λ ts. eval_part ts w) begun
