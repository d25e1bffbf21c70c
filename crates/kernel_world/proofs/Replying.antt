-- What holds when a caller goes on after its gate and is answered.
use Rattle.std.proofs.Common.{◌≡◌, ℕ, None, Some, IfSome, true, false, cond, eqb, refl, sym, ap, ◌∙◌, subst}
use Rattle.std.specs.Option.{option_map}
use Rattle.wind_base.specs.Errno.{errno_number}
use Rattle.wind_base.specs.declared.gate.Gate.{Gate}
use Rattle.task_block.specs.Standing.{is_ready}
use Rattle.wind_core.specs.State.{task_of}
use Rattle.wind_core.specs.Moves.{past_gate}
use Rattle.wind_core.specs.Move as moves
use Rattle.wind_core.specs.declared.settings.Setting.TheVariants as settings
use Rattle.wind_core.proofs.Unwritten.{task_of-change}
use Rattle.sem_mutex.specs.TaskSafetySafety.{safe_of}
use Rattle.kernel_world.specs.State.{WorldState}
use Rattle.kernel_world.specs.Actors.{MayCall}
use Rattle.kernel_world.specs.Replies.{with_errno, left_gate, with_answer, replied, past_gate as level_past, in_r3}
use Rattle.kernel_world.specs.Allowed.{refusal_word}
use Rattle.kernel_world.specs.Kept.{IsWorld, Within}
use Rattle.kernel_world.specs.declared.actor.Actor.{Actor}
use Rattle.kernel_world.specs.declared.actor.Actor.TheVariants.{Task, Interrupt}
use Rattle.kernel_world.specs.declared.reply.Reply.{Reply}
use Rattle.kernel_world.specs.declared.reply.Reply.TheVariants.{Answer, Refusal, Later, Gone}
use Rattle.kernel_world.proofs.Goes.{goes-move}
use Rattle.kernel_world.proofs.ObjectMoves.{objects-move}
use Rattle.kernel_world.proofs.Advancing.{Advances, advances_on, at_routine, stays, by_kern, errno_advances}
use Rattle.kernel_world.proofs.Living.{ready_free}

-- a caller that goes on after its gate is as safe as before
pub safe_left : (w : WorldState) (a : Actor) (id : ℕ) → safe_of (task_of (left_gate w a).kern.tasks id) ≡ safe_of (task_of w.kern.tasks id)
safe_left w (Task who) id =
    ap safe_of (task_of-change w.kern.tasks who id past_gate (λ t. refl))
    ∙ elim (task_of w.kern.tasks id) as (λ o. safe_of (option_map (λ t. cond (eqb t.id who) (past_gate t) t) o) ≡ safe_of o) [
      | None ↦ refl
      | Some t ↦ elim (eqb t.id who) as (λ b. (cond b (past_gate t) t).safe ≡ t.safe) [ true ↦ refl | false ↦ refl ]
    ]
safe_left w Interrupt id = refl

-- and is ready then too
pub may_left : (w : WorldState) (a : Actor) → MayCall w.kern a → MayCall (left_gate w a).kern a
may_left w (Task who) may =
    subst (λ o. IfSome o (λ t. is_ready t ≡ true)) (sym (task_of-change w.kern.tasks who who past_gate (λ t. refl)))
    (elim (task_of w.kern.tasks who) as (λ o. IfSome o (λ t. is_ready t ≡ true) → IfSome (option_map (λ t. cond (eqb t.id who) (past_gate t) t) o) (λ t. is_ready t ≡ true)) [
      | None ↦ λ h. tt
      | Some t ↦ λ h. elim (eqb t.id who) as (λ b. is_ready (cond b (past_gate t) t) ≡ true) [ true ↦ h | false ↦ h ]
    ] may)
may_left w Interrupt may = may

module _ (w : WorldState) (kept : IsWorld w) (n : ℕ) (within : Within n w) where
  pub left_advances : (a : Actor) → MayCall w.kern a → Advances w (left_gate w a) n 0 0
  left_advances (Task who) may = by_kern w kept _ n 0 (goes-move w.kern n kept.kern within.0 (moves.Set who settings.PastGate) tt) (objects-move w.kern w.objects kept.kern kept.objects (moves.Set who settings.PastGate) (tt, ready_free w.kern who may, tt, tt)) within.1
  left_advances Interrupt may = at_routine w kept n within level_past

  answer_advances : (a : Actor) (value : ℕ) → Advances w (with_answer w a value) n 0 0
  answer_advances (Task who) value = by_kern w kept _ n 0 (goes-move w.kern n kept.kern within.0 (moves.Set who (settings.Answer value)) tt) (objects-move w.kern w.objects kept.kern kept.objects (moves.Set who (settings.Answer value)) (tt, tt, tt, tt)) within.1
  answer_advances Interrupt value = at_routine w kept n within (in_r3 value)

pub replied_advances : (w : WorldState) → IsWorld w → (n : ℕ) → Within n w → (g : Gate) (a : Actor) (r : Reply) → Advances w (replied g w a r) n 0 0
replied_advances w kept n within g a (Answer value) = answer_advances w kept n within a value
replied_advances w kept n within g a (Refusal e) =
    let set = errno_advances w kept n within a (errno_number e) in
    let v = with_errno w a (errno_number e) in
    advances_on w v (with_answer v a (refusal_word g)) n n 0 0 0 0 set (answer_advances v set.kept n set.within a (refusal_word g))
replied_advances w kept n within g a Later = stays w kept n within
replied_advances w kept n within g a Gone = stays w kept n within
