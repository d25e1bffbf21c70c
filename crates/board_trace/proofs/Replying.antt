-- The call that a step tells, and its reply.
use Rattle.std.proofs.Common.{◌≡◌, ℕ, true, false, cond, eqb, List, [], ◌∷◌, ◌++◌, map, Option, None, Some, IsSome, refl, sym, ap, ap₂, ◌∙◌, subst, append_assoc}
use Rattle.std.specs.Prelude.{◌&&◌, ◌||◌, not, is_some, is_none}
use Rattle.std.proofs.lemmas.Bool.{eqb-true}
use Rattle.std.proofs.lemmas.List.{append-nil}
use Rattle.wind_base.specs.declared.gate.Gate.{Gate}
use Rattle.wind_base.specs.declared.gate.Gate.TheVariants as gates
use Rattle.id_table.specs.Idents.{shell_id}
use Rattle.kernel_world.specs.State.{WorldState}
use Rattle.kernel_world.specs.Allowed.{is_call}
use Rattle.kernel_world.specs.Actors.{caller_words}
use Rattle.kernel_world.specs.CallWords.{call_of}
use Rattle.kernel_world.specs.declared.actor.Actor.{Actor}
use Rattle.kernel_world.specs.declared.actor.Actor.TheVariants.{Task as by_task, Interrupt}
use Rattle.kernel_world.specs.declared.call.Call.{Call}
use Rattle.kernel_world.specs.declared.reply.Reply.{Reply}
use Rattle.wind_machine.specs.LiveLoadingSaid.{FileSaid}
use Rattle.wind_machine.specs.KernelCallsCalls.{made}
use Rattle.wind_machine.specs.State.{State}
use Rattle.wind_machine.specs.Processor.{gate_under, is_return, regs_of}
use Rattle.wind_machine.specs.Events.{cleared, unreserved_world}
use Rattle.wind_machine.specs.ActorSteps.{at_step_start}
use Rattle.wind_machine.specs.Next.{next}
use Rattle.wind_machine.specs.Machine.{actor_of, file_of, file_asked}
use Rattle.wind_machine.specs.Replies.{reply_at, actor_reply, task_reply, shell_reply, reply_after, step_reply}
use Rattle.wind_machine.specs.declared.next.Next.{Next}
use Rattle.wind_machine.specs.declared.next.Next.TheVariants.{Deliver, Come, Arrive, Routine, Act, Load, Jump, Over}
use Rattle.wind_machine.specs.declared.phase.Phase.{Phase}
use Rattle.wind_machine.specs.declared.phase.Phase.TheVariants as phases
use Rattle.wind_machine.proofs.Asking.{own_gate, shells, at_load}
use Rattle.board_trace.proofs.Parts.{Each, HoldsElse, each_change, each_fault, each_instruction, each_message, each_outside, each_owner, each_routine, each_switch, each_write}
use Rattle.board_trace.specs.Mutexes.{mutex_named}
use Rattle.board_trace.specs.Before.{before_step, is_calling, counter_at, gate_there, call_there}
use Rattle.board_trace.specs.Laws.{reply_in, replies_in, listed, ReplyLaw}
use Rattle.board_trace.specs.Level.{is_exception, faults, routines}
use Rattle.board_trace.specs.Messages.{messages}
use Rattle.board_trace.specs.Outside.{from_outside, switches}
use Rattle.board_trace.specs.Owners.{owners}
use Rattle.board_trace.specs.Snapshots.{after_step, snapshot_of}
use Rattle.board_trace.specs.Steps.{changes, called, has_written, writes, is_instruction, instruction_of, causes, effects, step_happenings, happenings_from, happenings}
use Rattle.board_trace.specs.Views.{SnapshotState}
use Rattle.board_trace.specs.declared.moment.BeforeStep.{BeforeStep}
use Rattle.board_trace.specs.declared.moment.AfterStep.{AfterStep}
use Rattle.board_trace.specs.declared.happening.Happening.{Happening}
use Rattle.board_trace.specs.declared.happening.Happening.TheVariants as told

-- ---- what has no line of a call
abbrev Quiet : List Happening → Type 0
Quiet hs = replies_in hs ≡ []

joined : (xs ys : List Happening) → replies_in (xs ++ ys) ≡ replies_in xs ++ replies_in ys
joined [] ys = refl
joined (x ∷ xs) ys = ap (λ rs. reply_in x ++ rs) (joined xs ys) ∙ sym (append_assoc (reply_in x) (replies_in xs) (replies_in ys))

-- a part without one may be left out
after_quiet : (xs ys : List Happening) (rs : List Reply) → Quiet xs → replies_in ys ≡ rs → replies_in (xs ++ ys) ≡ rs
after_quiet xs ys rs quiet tells = joined xs ys ∙ ap (λ q. q ++ replies_in ys) quiet ∙ tells

abbrev IsNoCall : Happening → Type 0
IsNoCall h = reply_in h ≡ []

no_calls : HoldsElse IsNoCall
no_calls = record {
  tick = λ tick. refl;
  arrival = λ count. refl;
  interrupt = λ slot. refl;
  delivery = λ slot. refl;
  jump = λ time. refl;
  file = λ name. refl;
  runs = λ who last. refl;
  abort = refl;
  queued = λ queue sender. refl;
  handed = λ queue sender receiver. refl;
  taken = λ queue receiver. refl;
  ends = refl;
  begins = λ entry param. refl;
  writes = λ who bytes. refl;
  instructions = λ who count. refl;
}

quiet_by : (hs : List Happening) → Each IsNoCall hs → Quiet hs
quiet_by [] each = refl
quiet_by (h ∷ hs) each = ap (λ rs. rs ++ replies_in hs) each.0 ∙ quiet_by hs each.1

-- ---- what tells a call
called_told : (who : Option Actor) (c : Option Call) (r : Option Reply) → IsSome who → IsSome c → replies_in (called who c r) ≡ listed r
called_told (Some who) (Some c) (Some r) here there = refl
called_told (Some who) (Some c) None here there = refl
called_told (Some who) None r here there = absurd (cc)
called_told None c r here there = absurd (cc)

none_told : (who : Option Actor) (c : Option Call) → replies_in (called who c None) ≡ []
none_told (Some who) (Some c) = refl
none_told (Some who) None = refl
none_told None c = refl

module _ (c : BeforeStep) (before after : SnapshotState) (r : AfterStep) (written : List ℕ) where
  effects_quiet : Quiet (effects c before after r written)
  effects_quiet =
      let cs = changes c.next r.tick before after in
      after_quiet (owners c r) _ [] (quiet_by (owners c r) (each_owner IsNoCall (λ mutex owner. refl) (λ mutex owner. refl) (mutex_named c.call) c.owner r.owner))
      (after_quiet (messages c r.reply cs) _ [] (quiet_by (messages c r.reply cs) (each_message IsNoCall no_calls c r.reply cs))
      (after_quiet (map told.Changed cs) _ [] (quiet_by (map told.Changed cs) (each_change IsNoCall (λ x. refl) cs))
      (after_quiet (routines c r (has_written written)) (writes c.actor written) []
      (quiet_by (routines c r (has_written written)) (each_routine IsNoCall no_calls c r (has_written written)))
      (quiet_by (writes c.actor written) (each_write IsNoCall no_calls c.actor written)))))

  step_tells : (rs : List Reply) → replies_in (called c.actor c.call r.reply) ≡ rs → replies_in (step_happenings c before after r written) ≡ rs
  step_tells rs tells =
      let ends = faults c r written (is_exception c (has_written written)) in
      let call = called c.actor c.call r.reply in
      let rest : replies_in (call ++ ends) ≡ rs = joined call ends ∙ ap₂ (λ p q. p ++ q) tells (quiet_by ends (each_fault IsNoCall no_calls (λ who at cause. refl) c r written (is_exception c (has_written written)))) ∙ append-nil rs in
      let all : replies_in (causes c before after r written) ≡ rs =
      after_quiet (from_outside c.next c r) _ rs (quiet_by (from_outside c.next c r) (each_outside IsNoCall no_calls c.next c r))
      (after_quiet (switches before.last after.last) (call ++ ends) rs (quiet_by (switches before.last after.last) (each_switch IsNoCall no_calls before.last after.last)) rest) in
      joined (causes c before after r written) (effects c before after r written) ∙ ap₂ (λ p q. p ++ q) all effects_quiet ∙ append-nil rs

  -- a step without a call tells none
  tells_none : r.reply ≡ None → Quiet (happenings_from c before after r written)
  tells_none none =
      elim (is_instruction c written) as (λ b. Quiet (cond b (switches before.last after.last ++ instruction_of c.actor) (step_happenings c before after r written))) [
        | true ↦ after_quiet (switches before.last after.last) (instruction_of c.actor) [] (quiet_by (switches before.last after.last) (each_switch IsNoCall no_calls before.last after.last)) (quiet_by (instruction_of c.actor) (each_instruction IsNoCall no_calls c.actor))
        | false ↦ step_tells [] (ap (λ o. replies_in (called c.actor c.call o)) none ∙ none_told c.actor c.call)
      ]

  -- a step at a gate isn't an instruction
  at_gate : IsSome c.gate → is_instruction c written ≡ false
  at_gate there = elim c.gate as (λ g. IsSome g → (is_some c.at && (is_none g && not (has_written written))) ≡ false) [
    | None ↦ λ no. absurd (cc)
    | Some g ↦ λ yes. elim (is_some c.at) as (λ b. (b && false) ≡ false) [ true ↦ refl | false ↦ refl ]
  ] there

  tells_reply : IsSome c.actor → IsSome c.gate → IsSome c.call → replies_in (happenings_from c before after r written) ≡ listed r.reply
  tells_reply who gate call =
      ap (λ b. replies_in (cond b (switches before.last after.last ++ instruction_of c.actor) (step_happenings c before after r written))) (at_gate gate)
      ∙ step_tells (listed r.reply) (called_told c.actor c.call r.reply who call)

-- ---- a step with a reply is at the gate of a call
-- what makes the step is at a gate, and the gate has a call
record AtCall (s : State) (n : Next) : Type 0 where
  who : IsSome (actor_of n)
  gate : IsSome (gate_there s.world (counter_at s.shell.phase s.world (actor_of n)))
  call : IsSome (call_there s.world (actor_of n) (gate_there s.world (counter_at s.shell.phase s.world (actor_of n))))

has_call : (g : Gate) (ram words : List ℕ) → is_call g ≡ true → IsSome (call_of g ram words)
has_call gates.TaskReturn ram words e = absurd (cc)
has_call gates.ShellReturn ram words e = absurd (cc)
has_call gates.InterruptReturn ram words e = absurd (cc)
has_call g ram words e = refl

-- the gate at which there is a reply
record ReplyGate (o : Option Gate) : Type 0 where
  gate : Gate
  here : o ≡ Some gate
  is : is_call gate ≡ true

reply_gate : (o : Option Gate) (w : WorldState) (who : Actor) (r : Reply) → reply_at o w who ≡ Some r → ReplyGate o
reply_gate None w who r e = absurd (cc)
reply_gate (Some g) w who r e =
    elim (is_return g who) as (λ b. cond b None (cond (is_call g) (Some (made g w who).reply) None) ≡ Some r → ReplyGate (Some g)) [
      | true ↦ λ q. absurd (cc)
      | false ↦ λ q. elim (is_call g) as (λ b. is_call g ≡ b → cond b (Some (made g w who).reply) None ≡ Some r → ReplyGate (Some g)) [
        | true ↦ λ is p. record { gate = g; here = refl; is = is }
        | false ↦ λ is p. absurd (cc)
      ] refl q
    ] e

actor_gate : (w : WorldState) (who : Actor) (r : Reply) → actor_reply w who ≡ Some r → ReplyGate (gate_under w who)
unfolding actor_reply
actor_gate w who r e = reply_gate (gate_under w who) w who r e

-- an actor that makes calls, at that gate
placed : (s : State) (n : Next) (who : Actor) → actor_of n ≡ Some who → gate_there s.world (counter_at s.shell.phase s.world (Some who)) ≡ gate_under s.world who → ReplyGate (gate_under s.world who) → AtCall s n
placed s n who acts there g =
    let at : gate_there s.world (counter_at s.shell.phase s.world (actor_of n)) ≡ Some g.gate = ap (λ a. gate_there s.world (counter_at s.shell.phase s.world a)) acts ∙ there ∙ g.here in
    record {
      who = subst IsSome (sym acts) refl;
      gate = subst IsSome (sym at) refl;
      call = subst IsSome (sym (ap₂ (λ a o. call_there s.world a o) acts at)) (has_call g.gate s.world.ram (caller_words s.world who) g.is);
    }

task_gate : (s : State) (who : ℕ) (r : Reply) → task_reply s who ≡ Some r → ReplyGate (gate_under s.world (by_task who))
task_gate s who r e = subst ReplyGate (own_gate s.world who) (actor_gate (at_step_start s.world who) (by_task who) r e)

-- the shell's task makes calls only in phase Call
shell_calls : (p : Phase) (s : State) (r : Reply) → shell_reply p s ≡ Some r → (p ≡ phases.Call) × (task_reply s shell_id ≡ Some r)
shell_calls phases.Call s r e = (refl, e)
shell_calls phases.Prompt s r e = absurd (cc)
shell_calls phases.Read s r e = absurd (cc)
shell_calls phases.Eval s r e = absurd (cc)

shell_placed : (s : State) (n : Next) → actor_of n ≡ Some (by_task shell_id) → s.shell.phase ≡ phases.Call → ReplyGate (gate_under s.world (by_task shell_id)) → AtCall s n
shell_placed s n acts calling g = placed s n (by_task shell_id) acts (ap (λ p. gate_there s.world (counter_at p s.world (Some (by_task shell_id)))) calling) g

acting : (s : State) (who : ℕ) (r : Reply) → cond (eqb who shell_id) (shell_reply s.shell.phase s) (task_reply s who) ≡ Some r → AtCall s (Act who)
acting s who r e =
    elim (eqb who shell_id) as (λ b. eqb who shell_id ≡ b → cond b (shell_reply s.shell.phase s) (task_reply s who) ≡ Some r → AtCall s (Act who)) [
      | true ↦ λ own q.
          let in_call = shell_calls s.shell.phase s r q in
          shell_placed s (Act who) (ap (λ id. Some (by_task id)) (eqb-true who shell_id own)) in_call.0 (task_gate s shell_id r in_call.1)
      | false ↦ λ other q.
          placed s (Act who) (by_task who) refl (ap (λ b. gate_there s.world (cond (not b || is_calling s.shell.phase) (Some (regs_of s.world (by_task who)).pc) None)) other) (task_gate s who r q)
    ] refl e

loading : (s : State) (name : List ℕ) → Load name ≡ next s → AtCall s (Load name)
unfolding file_asked
loading s name is =
    let asks : file_asked s ≡ Some name = ap file_of (sym is) in
    let at = at_load s.shell.phase s.world name (shells s name asks).file in
    shell_placed s (Load name) refl at.phase (record { gate = gates.Ld; here = at.gate; is = refl })

at_call : (said : FileSaid) (s : State) (n : Next) (r : Reply) → n ≡ next s → reply_after said s n ≡ Some r → AtCall s n
at_call said s Routine r is e = placed s Routine Interrupt refl refl (actor_gate (cleared (unreserved_world s.world)) Interrupt r e)
at_call said s (Act who) r is e = acting s who r e
at_call said s (Load name) r is e = loading s name is
at_call said s (Deliver i) r is e = absurd (cc)
at_call said s (Come event) r is e = absurd (cc)
at_call said s Arrive r is e = absurd (cc)
at_call said s (Jump time) r is e = absurd (cc)
at_call said s Over r is e = absurd (cc)

by_reply : (said : FileSaid) (s t : State) (o : Option Reply) → reply_after said s (next s) ≡ o
    → replies_in (happenings_from (before_step s) (snapshot_of s.world) (snapshot_of t.world) (after_step (before_step s) o t) t.world.output) ≡ listed o
by_reply said s t None e = tells_none (before_step s) (snapshot_of s.world) (snapshot_of t.world) (after_step (before_step s) None t) t.world.output refl
by_reply said s t (Some r) e =
    let at = at_call said s (next s) r refl e in
    tells_reply (before_step s) (snapshot_of s.world) (snapshot_of t.world) (after_step (before_step s) (Some r) t) t.world.output at.who at.gate at.call

pub replies_told : ReplyLaw
unfolding happenings step_reply
replies_told said s t = by_reply said s t (reply_after said s (next s)) refl
