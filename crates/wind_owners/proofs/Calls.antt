-- A kernel call changes the owner of no mutex, except of the one that it names.
use Rattle.std.proofs.Common.{◌≡◌, ℕ, List, Option, None, Some, refl, ap, ◌∙◌}
use Rattle.wind_base.specs.declared.gate.Gate.{Gate}
use Rattle.kernel_world.specs.State.{WorldState}
use Rattle.kernel_world.specs.Actors.{caller_words}
use Rattle.kernel_world.specs.CallWords.{call_by, call_of}
use Rattle.kernel_world.specs.Replies.{left_gate, replied}
use Rattle.kernel_world.specs.declared.objects.Objects.{Objects}
use Rattle.kernel_world.specs.declared.actor.Actor.{Actor}
use Rattle.kernel_world.specs.declared.actor.Actor.TheVariants.{Task as by_task, Interrupt}
use Rattle.kernel_world.specs.declared.reply.Reply.{Reply}
use Rattle.kernel_world.specs.declared.reply.Reply.TheVariants.{Answer, Refusal, Later, Gone}
use Rattle.call_rows.specs.Unless.{unless}
use Rattle.wind_machine.specs.KernelCallsCalls.{allowed_row, call, declined, made, refusal_before, row_of}
use Rattle.wind_machine.specs.Processor.{called, without_own}
use Rattle.board_trace.specs.Mutexes.{mutex_named, owner_in}
use Rattle.wind_owners.proofs.Lists.{owner_among}
use Rattle.wind_owners.proofs.Rows.{row_keeps}

-- the caller leaves its gate, is answered, and loses its reservation, which changes no object
left_objects : (w : WorldState) (a : Actor) → (left_gate w a).objects ≡ w.objects
left_objects w (by_task who) = refl
left_objects w Interrupt = refl

answered_objects : (g : Gate) (w : WorldState) (a : Actor) (reply : Reply) → (replied g w a reply).objects ≡ w.objects
answered_objects g w (by_task who) (Answer value) = refl
answered_objects g w (by_task who) (Refusal e) = refl
answered_objects g w Interrupt (Answer value) = refl
answered_objects g w Interrupt (Refusal e) = refl
answered_objects g w a Later = refl
answered_objects g w a Gone = refl

own_objects : (w : WorldState) (a : Actor) → (without_own w a).objects ≡ w.objects
own_objects w (by_task who) = refl
own_objects w Interrupt = refl

module _ (id : ℕ) where
  -- a refused call changes nothing
  allowed_keeps : (w : WorldState) (ram r : List ℕ) (a : Actor) (g : Gate) → (mutex_named (call_of g ram r) ≡ Some id → ⊥)
      → owner_in (allowed_row g (call_of g ram r) w a).world id ≡ owner_in w id
  allowed_keeps w ram r a g other =
      elim (refusal_before g a) as (λ o. owner_in (unless o (declined w) (row_of (call_of g ram r) w a)).world id ≡ owner_in w id) [
        | None ↦ row_keeps id w ram r a g other
        | Some e ↦ refl
      ]

  pub call_keeps : (w : WorldState) (a : Actor) (g : Gate) → (mutex_named (call_by g w a) ≡ Some id → ⊥) → owner_in (called g w a) id ≡ owner_in w id
  call_keeps w a g other =
      let owner : Objects → Option ℕ = λ o. owner_among id o.mutexes.rows in
      let row = made g w a in
      ap owner (own_objects (call g w a) a) ∙ ap owner (answered_objects g row.world a row.reply)
      ∙ allowed_keeps (left_gate w a) w.ram (caller_words w a) a g other ∙ ap owner (left_objects w a)
