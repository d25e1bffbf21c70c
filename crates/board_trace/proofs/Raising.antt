-- The exceptions that the lines of a step tell are the machine's traps.
use Rattle.std.proofs.Common.{◌≡◌, ℕ, Bool, true, false, cond, List, [], ◌∷◌, ◌++◌, map, Option, None, Some, refl, sym, ap, ap₂, ◌∙◌, append_assoc}
use Rattle.std.specs.Prelude.{◌&&◌, is_none, is_some, not}
use Rattle.std.proofs.lemmas.List.{append-nil}
use Rattle.kernel_world.specs.declared.actor.Actor.{Actor}
use Rattle.ppc_core.specs.declared.trap.Trap.{Trap}
use Rattle.wind_machine.specs.Good.{Good}
use Rattle.wind_machine.specs.LiveLoadingSaid.{FileSaid}
use Rattle.wind_machine.specs.Machine.{machine_step, stepping}
use Rattle.wind_machine.specs.Replies.{step_reply}
use Rattle.wind_machine.specs.Silent.{IsInstructionOf}
use Rattle.wind_machine.specs.State.{State}
use Rattle.board_trace.proofs.Parts.{Each, HoldsElse, each_call, each_change, each_instruction, each_message, each_outside, each_owner, each_routine, each_switch, each_write}
use Rattle.board_trace.proofs.Trapping.{Reports, at_is, gate_is, head_text, none_silent, trap_reported, trap_told}
use Rattle.board_trace.specs.Before.{at_of, before_step, call_of, call_there, gate_of, word_of}
use Rattle.board_trace.specs.Level.{exception_told, faults, is_abort, is_exception, routines}
use Rattle.board_trace.specs.Messages.{messages}
use Rattle.board_trace.specs.Mutexes.{mutex_named}
use Rattle.board_trace.specs.Outside.{from_outside, switches}
use Rattle.board_trace.specs.Owners.{owners}
use Rattle.board_trace.specs.Snapshots.{after_step, snapshot_of}
use Rattle.board_trace.specs.Steps.{called, causes, changes, effects, happenings, happenings_from, has_written, instruction_of, is_instruction, step_happenings, writes}
use Rattle.board_trace.specs.Traps.{CauseLaw, exception_by, exception_in, exceptions_in, trap_at, world_at_step}
use Rattle.board_trace.specs.Views.{SnapshotState}
use Rattle.board_trace.specs.declared.moment.AfterStep.{AfterStep}
use Rattle.board_trace.specs.declared.moment.BeforeStep.{BeforeStep}
use Rattle.board_trace.specs.declared.happening.Happening.{Happening}
use Rattle.board_trace.specs.declared.happening.Happening.TheVariants as told

-- ---- what has no exception
joined : (xs ys : List Happening) → exceptions_in (xs ++ ys) ≡ exceptions_in xs ++ exceptions_in ys
joined [] ys = refl
joined (x ∷ xs) ys = ap (λ rs. exception_in x ++ rs) (joined xs ys) ∙ sym (append_assoc (exception_in x) (exceptions_in xs) (exceptions_in ys))

-- a part without one may be left out
after_quiet : (xs ys rs : List Happening) → exceptions_in xs ≡ [] → exceptions_in ys ≡ rs → exceptions_in (xs ++ ys) ≡ rs
after_quiet xs ys rs quiet tells = joined xs ys ∙ ap (λ q. q ++ exceptions_in ys) quiet ∙ tells

abbrev IsNone : Happening → Type 0
IsNone h = exception_in h ≡ []

no_exceptions : HoldsElse IsNone
no_exceptions = record {
  tick = λ tick. refl;
  arrival = λ count. refl;
  interrupt = λ slot. refl;
  delivery = λ slot. refl;
  jump = λ time. refl;
  file = λ name. refl;
  runs = λ who last. refl;
  abort = refl;
  queued = λ queue sender. refl;
  handed = λ queue sender receiver. refl;
  taken = λ queue receiver. refl;
  ends = refl;
  begins = λ entry param. refl;
  writes = λ who bytes. refl;
  instructions = λ who count. refl;
}

quiet_by : (hs : List Happening) → Each IsNone hs → exceptions_in hs ≡ []
quiet_by [] each = refl
quiet_by (h ∷ hs) each = ap (λ rs. rs ++ exceptions_in hs) each.0 ∙ quiet_by hs each.1

-- an abort is no exception
abort_quiet : (b : Bool) → exceptions_in (cond b (told.Abort ∷ []) []) ≡ []
abort_quiet true = refl
abort_quiet false = refl

-- ---- the exceptions of a step
module _ (c : BeforeStep) (before after : SnapshotState) (r : AfterStep) (written : List ℕ) where
  effects_quiet : exceptions_in (effects c before after r written) ≡ []
  effects_quiet =
      let cs = changes c.next r.tick before after in
      after_quiet (owners c r) _ [] (quiet_by (owners c r) (each_owner IsNone (λ mutex owner. refl) (λ mutex owner. refl) (mutex_named c.call) c.owner r.owner))
      (after_quiet (messages c r.reply cs) _ [] (quiet_by (messages c r.reply cs) (each_message IsNone no_exceptions c r.reply cs))
      (after_quiet (map told.Changed cs) _ [] (quiet_by (map told.Changed cs) (each_change IsNone (λ x. refl) cs))
      (after_quiet (routines c r (has_written written)) (writes c.actor written) []
      (quiet_by (routines c r (has_written written)) (each_routine IsNone no_exceptions c r (has_written written)))
      (quiet_by (writes c.actor written) (each_write IsNone no_exceptions c.actor written)))))

  -- the exception's happening, if the step is an exception
  abbrev raised : Bool → List Happening
  raised e = cond e (exception_told c written c.actor c.at) []

  faults_raise : (e : Bool) → exceptions_in (faults c r written e) ≡ exceptions_in (raised e)
  faults_raise e =
      joined (raised e) (cond (is_abort c r e) (told.Abort ∷ []) [])
      ∙ ap (λ rs. exceptions_in (raised e) ++ rs) (abort_quiet (is_abort c r e))
      ∙ append-nil (exceptions_in (raised e))

  step_raises : exceptions_in (step_happenings c before after r written) ≡ exceptions_in (raised (is_exception c (has_written written)))
  step_raises =
      let e = is_exception c (has_written written) in
      let rs = exceptions_in (raised e) in
      let call = called c.actor c.call r.reply in
      let all : exceptions_in (causes c before after r written) ≡ rs =
      after_quiet (from_outside c.next c r) _ rs (quiet_by (from_outside c.next c r) (each_outside IsNone no_exceptions c.next c r))
      (after_quiet (switches before.last after.last) _ rs (quiet_by (switches before.last after.last) (each_switch IsNone no_exceptions before.last after.last))
      (after_quiet call (faults c r written e) rs (quiet_by call (each_call IsNone (λ who x reply. refl) c.actor c.call r.reply)) (faults_raise e))) in
      joined (causes c before after r written) (effects c before after r written) ∙ ap₂ (λ p q. p ++ q) all effects_quiet ∙ append-nil rs

  instruction_quiet : exceptions_in (switches before.last after.last ++ instruction_of c.actor) ≡ []
  instruction_quiet =
      after_quiet (switches before.last after.last) (instruction_of c.actor) [] (quiet_by (switches before.last after.last) (each_switch IsNone no_exceptions before.last after.last))
      (quiet_by (instruction_of c.actor) (each_instruction IsNone no_exceptions c.actor))

  from_either : (b : Bool) (rs : List Happening) → is_instruction c written ≡ b
      → exceptions_in (cond b (switches before.last after.last ++ instruction_of c.actor) (step_happenings c before after r written)) ≡ rs → exceptions_in (happenings_from c before after r written) ≡ rs
  from_either b rs is tells = ap (λ x. exceptions_in (cond x (switches before.last after.last ++ instruction_of c.actor) (step_happenings c before after r written))) is ∙ tells

-- ---- a step that executes a word
module _ (s : State) (who : Actor) (step : IsInstructionOf who s) where
  call_is : call_of s ≡ None
  call_is = ap₂ (call_there s.world) step.comes (gate_is s who step)

  -- it is one instruction unless it writes something; else it is an exception
  as_instruction : (written : List ℕ) (w : Bool) → has_written written ≡ w → is_instruction (before_step s) written ≡ not w
  as_instruction written w is =
      ap (λ x. is_some (at_of s) && (is_none (gate_of s) && not x)) is
      ∙ ap₂ (λ o g. is_some o && (is_none g && not w)) (at_is s who step) (gate_is s who step)

  as_exception : is_exception (before_step s) true ≡ true
  as_exception = ap₂ (λ o k. true && is_some o && is_none k) (at_is s who step) call_is

-- a report isn't empty
has_report : (trap : Trap) (written : List ℕ) → Reports trap written → has_written written ≡ true
has_report trap written reports = ap has_written reports.is

raised_list : (s : State) (who : Actor) (trap : Trap) → exceptions_in (exception_by s who (Some trap)) ≡ exception_by s who (Some trap)
raised_list s who trap = refl

module _ (said : FileSaid) (s t : State) (who : Actor) (good : Good s) (step : IsInstructionOf who s) (made : machine_step said s ≡ Some t) where
  abbrev happened : List Happening
  happened = happenings_from (before_step s) (snapshot_of s.world) (snapshot_of t.world) (after_step (before_step s) (step_reply said s) t) t.world.output

  by_trap : (o : Option Trap) → trap_at (word_of s) (world_at_step s who) who ≡ o → exceptions_in happened ≡ exception_by s who o
  by_trap None none =
      let c = before_step s in
      let r = after_step c (step_reply said s) t in
      let silent : has_written t.world.output ≡ false = ap has_written (none_silent said s t who step made none) in
      from_either c (snapshot_of s.world) (snapshot_of t.world) r t.world.output true [] (as_instruction s who step t.world.output false silent)
      (instruction_quiet c (snapshot_of s.world) (snapshot_of t.world) r t.world.output)
  by_trap (Some trap) traps_so =
      let c = before_step s in
      let r = after_step c (step_reply said s) t in
      let written = t.world.output in
      let reports = trap_reported said s t who trap good step made traps_so in
      let has : has_written written ≡ true = has_report trap written reports in
      from_either c (snapshot_of s.world) (snapshot_of t.world) r written false (exception_by s who (Some trap)) (as_instruction s who step written true has)
      (step_raises c (snapshot_of s.world) (snapshot_of t.world) r written
      ∙ ap (λ w. exceptions_in (raised c (snapshot_of s.world) (snapshot_of t.world) r written (is_exception c w))) has
      ∙ ap (λ e. exceptions_in (raised c (snapshot_of s.world) (snapshot_of t.world) r written e)) (as_exception s who step)
      ∙ ap exceptions_in (trap_told s who trap written step reports)
      ∙ raised_list s who trap)

pub causes_are_traps : CauseLaw
unfolding happenings
causes_are_traps said s t who good step made = by_trap said s t who good step made (trap_at (word_of s) (world_at_step s who) who) refl
