-- What holds of each happening of a step, part by part.
use Rattle.std.proofs.Common.{ℕ, Bool, true, false, cond, List, [], ◌∷◌, ◌++◌, map, Option, None, Some}
use Rattle.tick_file.specs.declared.event.Event.TheVariants.{Tick, Rx, Irq}
use Rattle.kernel_world.specs.declared.actor.Actor.{Actor}
use Rattle.kernel_world.specs.declared.actor.Actor.TheVariants.{Task as by_task}
use Rattle.kernel_world.specs.declared.call.Call.{Call}
use Rattle.kernel_world.specs.declared.call.Call.TheVariants as calls
use Rattle.kernel_world.specs.declared.reply.Reply.{Reply}
use Rattle.kernel_world.specs.declared.reply.Reply.TheVariants.{Answer, Refusal, Later, Gone}
use Rattle.wind_machine.specs.declared.next.Next.{Next}
use Rattle.wind_machine.specs.declared.next.Next.TheVariants.{Deliver, Come, Arrive, Routine, Act, Load, Jump, Over}
use Rattle.board_changes.specs.declared.change.Change.{Change}
use Rattle.board_trace.specs.Causes.{cause_of}
use Rattle.board_trace.specs.Level.{is_exception, exception_told, is_abort, faults, routine_ends, may_begin, begins, routines}
use Rattle.board_trace.specs.Messages.{served_in, sent_to, then_queued, messages_of, messages_by, messages}
use Rattle.board_trace.specs.Outside.{from_outside, is_last, switches}
use Rattle.board_trace.specs.Owners.{freed, owned, owners_at, same_owner}
use Rattle.board_trace.specs.Steps.{called, causes, has_written, instruction_of, writes}
use Rattle.board_trace.specs.Views.{SnapshotState}
use Rattle.board_trace.specs.declared.messages.QueueSide.TheVariants.{Receivers, Senders}
use Rattle.board_trace.specs.declared.cause.Cause.{Cause}
use Rattle.board_trace.specs.declared.moment.BeforeStep.{BeforeStep}
use Rattle.board_trace.specs.declared.moment.Level.{Level}
use Rattle.board_trace.specs.declared.moment.AfterStep.{AfterStep}
use Rattle.board_trace.specs.declared.happening.Happening.{Happening}
use Rattle.board_trace.specs.declared.happening.Happening.TheVariants as told

-- P holds of each happening that isn't a call, an exception, a change, or an owner got or lost
pub record HoldsElse (P : Happening → Type 0) : Type 0 where
  pub tick : (tick : ℕ) → P (told.Tick tick)
  pub arrival : (count : ℕ) → P (told.Arrival count)
  pub interrupt : (slot : ℕ) → P (told.Interrupt slot)
  pub delivery : (slot : ℕ) → P (told.Delivery slot)
  pub jump : (time : ℕ) → P (told.Jump time)
  pub file : (name : List ℕ) → P (told.File name)
  pub runs : (who : ℕ) (last : Option ℕ) → P (told.Runs who last)
  pub abort : P told.Abort
  pub queued : (queue : ℕ) (sender : Actor) → P (told.Queued queue sender)
  pub handed : (queue : ℕ) (sender : Actor) (receiver : ℕ) → P (told.HandedOver queue sender receiver)
  pub taken : (queue : ℕ) (receiver : Actor) → P (told.Taken queue receiver)
  pub ends : P told.RoutineEnds
  pub begins : (entry param : ℕ) → P (told.RoutineBegins entry param)
  pub writes : (who : Option Actor) (bytes : List ℕ) → P (told.Writes who bytes)
  pub instructions : (who : Actor) (count : ℕ) → P (told.Instructions who count)

module _ (P : Happening → Type 0) where
  -- it holds of each of these
  abbrev pub Each : List Happening → Type 0
  Each [] = Unit {0}
  Each (h ∷ hs) = P h × Each hs

  pub each_both : (xs ys : List Happening) → Each xs → Each ys → Each (xs ++ ys)
  each_both [] ys a b = b
  each_both (x ∷ xs) ys a b = (a.0, each_both xs ys a.1 b)

  -- it holds of exceptions
  abbrev pub Raised : Type 0
  Raised = (who : Actor) (at : ℕ) (cause : Cause) → P (told.Exception who at cause)

  each_if : (b : Bool) (h : Happening) → P h → Each (cond b (h ∷ []) [])
  each_if true h is = (is, tt)
  each_if false h is = tt

  -- changes
  pub each_change : ((c : Change) → P (told.Changed c)) → (cs : List Change) → Each (map told.Changed cs)
  each_change is [] = tt
  each_change is (c ∷ cs) = (is c, each_change is cs)

  -- a call
  pub each_call : ((who : Actor) (c : Call) (r : Reply) → P (told.Called who c r)) → (who : Option Actor) (c : Option Call) (r : Option Reply) → Each (called who c r)
  each_call is (Some who) (Some c) (Some r) = (is who c r, tt)
  each_call is (Some who) (Some c) None = tt
  each_call is (Some who) None r = tt
  each_call is None c r = tt

  -- owners of mutexes
  module _ (owned_is : (mutex owner : ℕ) → P (told.Owned mutex owner)) (freed_is : (mutex owner : ℕ) → P (told.Freed mutex owner)) where
    each_freed : (mutex : ℕ) (o : Option ℕ) → Each (freed mutex o)
    each_freed mutex None = tt
    each_freed mutex (Some owner) = (freed_is mutex owner, tt)

    each_owned : (mutex : ℕ) (o : Option ℕ) → Each (owned mutex o)
    each_owned mutex None = tt
    each_owned mutex (Some owner) = (owned_is mutex owner, tt)

    pub each_owner : (mutex before after : Option ℕ) → Each (owners_at mutex before after)
    each_owner None before after = tt
    each_owner (Some mutex) before after =
        elim (same_owner before after) as (λ b. Each (cond b [] (freed mutex before ++ owned mutex after))) [
          | true ↦ tt
          | false ↦ each_both (freed mutex before) (owned mutex after) (each_freed mutex before) (each_owned mutex after)
        ]

  module _ (is : HoldsElse P) where
    pub each_outside : (n : Next) (c : BeforeStep) (r : AfterStep) → Each (from_outside n c r)
    each_outside (Deliver slot) c r = (is.delivery slot, tt)
    each_outside (Come Tick) c r = (is.tick r.tick, tt)
    each_outside (Come (Rx n)) c r = (is.arrival _, tt)
    each_outside (Come (Irq slot)) c r = (is.interrupt slot, tt)
    each_outside Arrive c r = (is.arrival _, tt)
    each_outside (Load name) c r = (is.file name, tt)
    each_outside (Jump time) c r = (is.jump time, tt)
    each_outside Routine c r = tt
    each_outside (Act who) c r = tt
    each_outside Over c r = tt

    pub each_switch : (last now : Option ℕ) → Each (switches last now)
    each_switch last None = tt
    each_switch last (Some who) = elim (is_last last who) as (λ b. Each (cond b [] (told.Runs who last ∷ []))) [ true ↦ tt | false ↦ (is.runs who last, tt) ]

    exceptions : Raised → (c : BeforeStep) (written : List ℕ) (who : Option Actor) (at : Option ℕ) (b : Bool) → Each (cond b (exception_told c written who at) [])
    exceptions raised c written (Some who) (Some at) true = (raised who at (cause_of written at c.word c.target), tt)
    exceptions raised c written (Some who) None true = tt
    exceptions raised c written None at true = tt
    exceptions raised c written who at false = tt

    pub each_fault : Raised → (c : BeforeStep) (r : AfterStep) (written : List ℕ) (e : Bool) → Each (faults c r written e)
    each_fault raised c r written e = each_both (cond e (exception_told c written c.actor c.at) []) (cond (is_abort c r e) (told.Abort ∷ []) []) (exceptions raised c written c.actor c.at e) (each_if (is_abort c r e) told.Abort is.abort)

    sent : (sender : Actor) (queue : ℕ) (o : Option ℕ) → Each (sent_to sender queue o)
    sent sender queue None = (is.queued queue sender, tt)
    sent sender queue (Some receiver) = (is.handed queue sender receiver, tt)

    queued_then : (queue : ℕ) (o : Option ℕ) → Each (then_queued queue o)
    queued_then queue None = tt
    queued_then queue (Some sender) = (is.queued queue (by_task sender), tt)

    accepted : (who : Actor) (c : Call) (cs : List Change) → Each (messages_of who c cs)
    accepted who (calls.MsgQSend id buffer count timeout priority) cs = sent who id (served_in cs Receivers id)
    accepted who (calls.MsgQReceive id buffer count timeout) cs = (is.taken id who, queued_then id (served_in cs Senders id))
    accepted who c cs = tt

    by_call : (who : Option Actor) (c : Option Call) (r : Option Reply) (cs : List Change) → Each (messages_by who c r cs)
    by_call (Some who) (Some c) (Some (Answer value)) cs = accepted who c cs
    by_call (Some who) (Some c) (Some (Refusal e)) cs = tt
    by_call (Some who) (Some c) (Some Later) cs = tt
    by_call (Some who) (Some c) (Some Gone) cs = tt
    by_call (Some who) (Some c) None cs = tt
    by_call (Some who) None r cs = tt
    by_call None c r cs = tt

    pub each_message : (c : BeforeStep) (r : Option Reply) (cs : List Change) → Each (messages c r cs)
    each_message c r cs = by_call c.actor c.call r cs

    begun : (b : Bool) (level : Option Level) → Each (begins b level)
    begun false level = tt
    begun true None = tt
    begun true (Some l) = (is.begins l.pc l.param, tt)

    pub each_routine : (c : BeforeStep) (r : AfterStep) (wrote : Bool) → Each (routines c r wrote)
    each_routine c r wrote =
        each_both (cond (routine_ends c wrote) (told.RoutineEnds ∷ []) []) (begins (may_begin c.next (routine_ends c wrote)) r.level)
        (each_if (routine_ends c wrote) told.RoutineEnds is.ends) (begun (may_begin c.next (routine_ends c wrote)) r.level)

    pub each_write : (who : Option Actor) (bytes : List ℕ) → Each (writes who bytes)
    each_write who [] = tt
    each_write who (b ∷ bs) = (is.writes who (b ∷ bs), tt)

    pub each_instruction : (who : Option Actor) → Each (instruction_of who)
    each_instruction None = tt
    each_instruction (Some who) = (is.instructions who 1, tt)

    -- what makes a step and how it goes
    pub each_cause : ((who : Actor) (c : Call) (r : Reply) → P (told.Called who c r)) → Raised → (c : BeforeStep) (before after : SnapshotState) (r : AfterStep) (written : List ℕ) → Each (causes c before after r written)
    each_cause calls raised c before after r written =
        let ends = faults c r written (is_exception c (has_written written)) in
        let call = called c.actor c.call r.reply in
        each_both (from_outside c.next c r) (switches before.last after.last ++ (call ++ ends)) (each_outside c.next c r)
        (each_both (switches before.last after.last) (call ++ ends) (each_switch before.last after.last)
        (each_both call ends (each_call calls c.actor c.call r.reply) (each_fault raised c r written (is_exception c (has_written written)))))
