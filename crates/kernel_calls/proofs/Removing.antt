-- What a call does to the device slots and to their interrupts.
use Rattle.std.proofs.Common.{◌≡◌, ◌≢◌, ℕ, ◌<◌, ◌≤◌, Bool, true, false, not, cond, ◌&&◌, List, length, Option, None, Some, refl, sym, ap, ◌∙◌, subst, inl, inr}
use Rattle.std.specs.Prelude.{slice_index, is_some, nat_lt}
use Rattle.std.specs.Option.{option_map}
use Rattle.std.proofs.lemmas.Bool.{and_parts, cases_eq, cases_lt}
use Rattle.std.proofs.lemmas.List.{set_past, get_or_past}
use Rattle.wind_base.specs.Limits.{ok_word}
use Rattle.wind_base.specs.declared.gate.Gate.{Gate}
use Rattle.wind_base.specs.declared.gate.Gate.TheVariants as gates
use Rattle.wind_base.specs.declared.errno.Errno.{Errno}
use Rattle.wind_base.specs.declared.errno.Errno.TheVariants as errors
use Rattle.wind_outside.specs.Devices.{DeviceState}
use Rattle.task_block.specs.declared.task.Task.{Task as TaskRecord}
use Rattle.wind_core.specs.State.{KernState, task_of}
use Rattle.wind_core.specs.Moves.{past_gate, leave_gate, with_answer, answer}
use Rattle.board_bus.specs.Slots.{is_occupied, device_at, without_device}
use Rattle.board_bus.proofs.Removals.{removals}
use Rattle.isr_watch.specs.declared.watchdog.Routine.{Routine}
use Rattle.dev_irq.specs.declared.line.Line.{Line}
use Rattle.dev_irq.specs.State.{idle_line, line_of, pending_of}
use Rattle.dev_irq.specs.Calls.{with_routine, without_routine, with_mark, changed, connected, disconnected, enabled, cleared}
use Rattle.dev_irq.proofs.Counting.{counts}
use Rattle.call_rows.specs.IrqRows.{IrqRow, row_of as irq_row, is_device, on_device}
use Rattle.call_rows.specs.KernelWorldState.{WorldState}
use Rattle.call_rows.specs.KernelWorldActors.{caller_words}
use Rattle.call_rows.specs.KernelWorldCallWords.{call_of}
use Rattle.call_rows.specs.KernelWorldReplies.{left_gate, replied}
use Rattle.call_rows.specs.KernelWorldActor.{Actor}
use Rattle.call_rows.specs.KernelWorldActor.TheVariants.{Task, Interrupt}
use Rattle.call_rows.specs.KernelWorldReply.{Reply}
use Rattle.call_rows.specs.KernelWorldReply.TheVariants.{Answer, Refusal, Later, Gone}
use Rattle.call_rows.proofs.KernelWorldOneTask.{changed_task, other_task}
use Rattle.call_rows.specs.Unless.{unless}
use Rattle.kernel_calls.specs.Calls.{of_irqs, row_of, declined, refusal_before, made, call}
use Rattle.kernel_calls.specs.Removing.{Removes, OnlyRemoves, RemoveLaw, IsNoneBack, NoneBackLaw, is_removed, SlotLaw}

-- ---- lines, of a slot that may not exist
none_changed : (f : Line → Line) (lines : List Line) (n : ℕ) → length lines ≤ n → changed f lines n ≡ lines
none_changed f lines n past = set_past lines n (f (line_of lines n)) past

own_line : (lines : List Line) (n : ℕ) → line_of (cleared lines n) n ≡ idle_line
own_line lines n =
    elim (cases_lt n (length lines)) [
      | inl within ↦ (counts lines n n within).clearing
      | inr past ↦ ap (λ ls. line_of ls n) (none_changed (λ l. idle_line) lines n past) ∙ get_or_past lines n idle_line past
    ]

other_line : (lines : List Line) (n j : ℕ) → j ≢ n → line_of (cleared lines n) j ≡ line_of lines j
other_line lines n j apart =
    elim (cases_lt n (length lines)) [
      | inl within ↦ (counts lines n j within).others (λ l. idle_line) apart
      | inr past ↦ ap (λ ls. line_of ls j) (none_changed (λ l. idle_line) lines n past)
    ]

-- a change that keeps the counts if the line exists keeps them in any case
same_count : (f : Line → Line) (lines : List Line) (n i : ℕ) → (n < length lines → pending_of (changed f lines n) i ≡ pending_of lines i) → pending_of (changed f lines n) i ≡ pending_of lines i
same_count f lines n i same =
    elim (cases_lt n (length lines)) [ inl within ↦ same within | inr past ↦ ap (λ ls. pending_of ls i) (none_changed f lines n past) ]

-- ---- devRemove
-- the kernel after a task's call that answers OK
abbrev answered : KernState → ℕ → KernState
answered k who = answer (leave_gate k who) who ok_word

own_task : (k : KernState) (who : ℕ) → task_of (answered k who).tasks who ≡ option_map (λ t. with_answer ok_word (past_gate t)) (task_of k.tasks who)
own_task k who =
    changed_task (leave_gate k who).tasks who (with_answer ok_word) (λ t. refl)
    ∙ ap (option_map (with_answer ok_word)) (changed_task k.tasks who past_gate (λ t. refl))
    ∙ twice (task_of k.tasks who)
  where
    twice : (o : Option TaskRecord) → option_map (with_answer ok_word) (option_map past_gate o) ≡ option_map (λ t. with_answer ok_word (past_gate t)) o
    twice None = refl
    twice (Some t) = refl

other_tasks : (k : KernState) (who id : ℕ) → id ≢ who → task_of (answered k who).tasks id ≡ task_of k.tasks id
other_tasks k who id other =
    other_task (leave_gate k who).tasks who (with_answer ok_word) (λ t. refl) id other ∙ other_task k.tasks who past_gate (λ t. refl) id other

-- the world after devRemove of slot i by a task, without a device there and with its line cleared
abbrev emptied : WorldState → ℕ → ℕ → WorldState
emptied w who i = record w { kern = answered w.kern who; slots = without_device w.slots i; irqs = cleared w.irqs i }

emptied_alone : (w : WorldState) (who i : ℕ) → OnlyRemoves w (emptied w who i) who i
emptied_alone w who i = record {
  stays = record {
    counters = record { others = other_tasks w.kern who; tick = refl; slice = refl; sinces = refl; last = refl };
    objects = refl;
    watch = refl;
    names = refl;
    int_errno = refl;
    board = refl;
  };
  gone = removals.empty w.slots i;
  slots = λ j apart. removals.others w.slots i j apart;
  line = own_line w.irqs i;
  lines = λ j apart. other_line w.irqs i j apart;
  ram = refl;
  part = refl;
  symbols = refl;
  modules = refl;
  output = refl;
  own = own_task w.kern who;
  ids = refl;
  lent = refl;
}

-- the world after a row of a task's call on interrupts
abbrev rowed : WorldState → ℕ → IrqRow → WorldState
rowed w who r = replied gates.DevRemove (of_irqs (left_gate w (Task who)) r).world (Task who) r.reply

removing : (w : WorldState) (who : ℕ) → let n : ℕ = slice_index (caller_words w (Task who)) 3 in is_device w.slots n ≡ true → call gates.DevRemove w (Task who) ≡ emptied w who n
removing w who device =
    let n : ℕ = slice_index (caller_words w (Task who)) 3 in
    ap (λ b. rowed w who (cond b (irq_row (cleared w.irqs n) (without_device w.slots n) (Answer ok_word)) (irq_row w.irqs w.slots (Refusal errors.ObjIdError)))) device

pub removal : RemoveLaw
removal g w a who i r =
    let n : ℕ = slice_index (caller_words w (Task who)) 3 in
    let device : is_device w.slots n ≡ true = subst (λ m. is_device w.slots m ≡ true) (sym r.slot) r.device in
    let same : call g w a ≡ emptied w who n = ap (λ h. call h w a) r.gate ∙ ap (call gates.DevRemove w) r.caller ∙ removing w who device in
    subst (λ (v : WorldState). OnlyRemoves w v who i) (sym same) (subst (λ m. OnlyRemoves w (emptied w who n) who m) r.slot (emptied_alone w who n))

-- ---- what a row does to slot i
-- the gate and the words of its caller, the slots and the lines before and after
record Stays (g : Gate) (r : List ℕ) (slots new : List (Option DeviceState)) (lines more : List Line) (i : ℕ) : Type 0 where
  removed : (is_occupied slots i && not (is_occupied new i)) ≡ true → (g ≡ gates.DevRemove) × (slice_index r 3 ≡ i) × (is_device slots i ≡ true)
  device : (is_occupied slots i && not (is_occupied new i)) ≡ false → device_at new i ≡ device_at slots i
  count : pending_of more i ≡ cond (is_occupied slots i && not (is_occupied new i)) 0 (pending_of lines i)

none_gone : (b : Bool) → (b && not b) ≡ false
none_gone true = refl
none_gone false = refl

module _ (g : Gate) (r : List ℕ) (slots : List (Option DeviceState)) (lines : List Line) (i : ℕ) where
  -- the device and the count stay
  still : (new : List (Option DeviceState)) (more : List Line) → device_at new i ≡ device_at slots i → pending_of more i ≡ pending_of lines i → Stays g r slots new lines more i
  still new more same counted =
      let none : (is_occupied slots i && not (is_occupied new i)) ≡ false = ap (λ o. is_occupied slots i && not (is_some o)) same ∙ none_gone (is_occupied slots i) in
      record {
        removed = λ e. absurd (cc);
        device = λ e. same;
        count = counted ∙ sym (ap (λ b. cond b 0 (pending_of lines i)) none);
      }

  -- a call on the device of slot n, if there is one
  on : (n : ℕ) (x : IrqRow) → (is_device slots n ≡ true → Stays g r slots x.slots lines x.irqs i) → Stays g r slots (on_device lines slots n x).slots lines (on_device lines slots n x).irqs i
  on n x stays = go (is_device slots n) refl
    where
      none : IrqRow
      none = irq_row lines slots (Refusal errors.ObjIdError)

      go : (b : Bool) → is_device slots n ≡ b → Stays g r slots (cond b x none).slots lines (cond b x none).irqs i
      go true e = stays e
      go false e = still slots lines refl refl

  -- a line changes, and no count
  counted : (n : ℕ) (more : List Line) (reply : Reply) → pending_of more i ≡ pending_of lines i → Stays g r slots (on_device lines slots n (irq_row more slots reply)).slots lines (on_device lines slots n (irq_row more slots reply)).irqs i
  counted n more reply same = on n (irq_row more slots reply) (λ device. still slots more refl same)

-- a device is removed
taken : (r : List ℕ) (slots : List (Option DeviceState)) (lines : List Line) (i : ℕ) → is_device slots (slice_index r 3) ≡ true
    → Stays gates.DevRemove r slots (without_device slots (slice_index r 3)) lines (cleared lines (slice_index r 3)) i
taken r slots lines i device =
    let n : ℕ = slice_index r 3 in
    elim (cases_eq i n) [
      | inr apart ↦ still gates.DevRemove r slots lines i (without_device slots n) (cleared lines n) (removals.others slots n i apart) (ap (λ (l : Line). l.pending) (other_line lines n i apart))
      | inl same ↦
          let there : is_occupied slots n ≡ true = (and_parts (nat_lt n 16) (is_occupied slots n) device).1 in
          let gone : (is_occupied slots n && not (is_occupied (without_device slots n) n)) ≡ true = ap (λ b. b && not (is_occupied (without_device slots n) n)) there ∙ ap not (removals.empty slots n) in
          let own : Stays gates.DevRemove r slots (without_device slots n) lines (cleared lines n) n = record {
            removed = λ e. (refl, refl, device);
            device = λ e. absurd (cc);
            count = ap (λ (l : Line). l.pending) (own_line lines n) ∙ sym (ap (λ b. cond b 0 (pending_of lines n)) gone);
          } in
          subst (Stays gates.DevRemove r slots (without_device slots n) lines (cleared lines n)) (sym same) own
    ]

-- the row of the call at a gate
row_stays : (g : Gate) (ram r : List ℕ) (w : WorldState) (a : Actor) (i : ℕ) → Stays g r w.slots (row_of (call_of g ram r) w a).world.slots w.irqs (row_of (call_of g ram r) w a).world.irqs i
row_stays gates.ErrnoSet ram r w (Task who) i = still gates.ErrnoSet r w.slots w.irqs i w.slots w.irqs refl refl
row_stays gates.ErrnoSet ram r w Interrupt i = still gates.ErrnoSet r w.slots w.irqs i w.slots w.irqs refl refl
row_stays gates.IntConnect ram r w a i =
    let n : ℕ = slice_index r 3 in
    let routine : Routine = record { entry = slice_index r 4; param = slice_index r 5 } in
    counted gates.IntConnect r w.slots w.irqs i n (connected w.irqs n routine) _ (same_count (with_routine routine) w.irqs n i (λ within. (counts w.irqs n i within).connecting routine))
row_stays gates.IntDisconnect ram r w a i =
    let n : ℕ = slice_index r 3 in
    counted gates.IntDisconnect r w.slots w.irqs i n (disconnected w.irqs n (slice_index r 4)) _ (same_count (without_routine (slice_index r 4)) w.irqs n i (λ within. (counts w.irqs n i within).disconnecting (slice_index r 4)))
row_stays gates.IntEnable ram r w a i =
    let n : ℕ = slice_index r 3 in
    counted gates.IntEnable r w.slots w.irqs i n (enabled w.irqs n true) _ (same_count (with_mark true) w.irqs n i (λ within. (counts w.irqs n i within).enabling true))
row_stays gates.IntDisable ram r w a i =
    let n : ℕ = slice_index r 3 in
    counted gates.IntDisable r w.slots w.irqs i n (enabled w.irqs n false) _ (same_count (with_mark false) w.irqs n i (λ within. (counts w.irqs n i within).enabling false))
row_stays gates.IntPending ram r w a i = counted gates.IntPending r w.slots w.irqs i (slice_index r 3) w.irqs _ refl
row_stays gates.DevRemove ram r w a i =
    let n : ℕ = slice_index r 3 in
    on gates.DevRemove r w.slots w.irqs i n (irq_row (cleared w.irqs n) (without_device w.slots n) (Answer ok_word)) (taken r w.slots w.irqs i)
row_stays g ram r w a i = still g r w.slots w.irqs i w.slots w.irqs refl refl

unless_stays : (o : Option Errno) (g : Gate) (ram r : List ℕ) (w : WorldState) (a : Actor) (i : ℕ)
    → Stays g r w.slots (unless o (declined w) (row_of (call_of g ram r) w a)).world.slots w.irqs (unless o (declined w) (row_of (call_of g ram r) w a)).world.irqs i
unless_stays (Some e) g ram r w a i = still g r w.slots w.irqs i w.slots w.irqs refl refl
unless_stays None g ram r w a i = row_stays g ram r w a i

made_stays : (g : Gate) (w : WorldState) (a : Actor) (i : ℕ) → Stays g (caller_words w a) w.slots (made g w a).world.slots w.irqs (made g w a).world.irqs i
made_stays g w (Task who) i = unless_stays (refusal_before g (Task who)) g w.ram (caller_words w (Task who)) (left_gate w (Task who)) (Task who) i
made_stays g w Interrupt i = unless_stays (refusal_before g Interrupt) g w.ram (caller_words w Interrupt) (left_gate w Interrupt) Interrupt i

-- an answer changes no slot and no line
same_devices : (g : Gate) (w : WorldState) (a : Actor) (r : Reply) → ((replied g w a r).slots ≡ w.slots) × ((replied g w a r).irqs ≡ w.irqs)
same_devices g w (Task who) (Answer value) = (refl, refl)
same_devices g w (Task who) (Refusal e) = (refl, refl)
same_devices g w Interrupt (Answer value) = (refl, refl)
same_devices g w Interrupt (Refusal e) = (refl, refl)
same_devices g w a Later = (refl, refl)
same_devices g w a Gone = (refl, refl)

call_stays : (g : Gate) (w : WorldState) (a : Actor) (i : ℕ) → Stays g (caller_words w a) w.slots (call g w a).slots w.irqs (call g w a).irqs i
call_stays g w a i =
    let m = made g w a in
    subst (λ slots. Stays g (caller_words w a) w.slots slots w.irqs (call g w a).irqs i) (sym (same_devices g m.world a m.reply).0)
    (subst (λ lines. Stays g (caller_words w a) w.slots m.world.slots w.irqs lines i) (sym (same_devices g m.world a m.reply).1) (made_stays g w a i))

-- ---- every call
-- an interrupt routine's devRemove is refused
no_routine : (g : Gate) (w : WorldState) (i : ℕ) → g ≡ gates.DevRemove → is_removed w (call g w Interrupt) i ≡ true → ⊥
no_routine g w i same gone =
    let here : (is_occupied w.slots i && not (is_occupied w.slots i)) ≡ true = subst (λ h. is_removed w (call h w Interrupt) i ≡ true) same gone in
    let none = none_gone (is_occupied w.slots i) in
    absurd (cc)

removes : (g : Gate) (w : WorldState) (a : Actor) (i : ℕ) → is_removed w (call g w a) i ≡ true → (who : ℕ) × Removes g w a who i
removes g w (Task who) i gone =
    let by = (call_stays g w (Task who) i).removed gone in
    (who, record { gate = by.0; caller = refl; slot = by.1; device = by.2 })
removes g w Interrupt i gone = absurd (no_routine g w i ((call_stays g w Interrupt i).removed gone).0 gone)

pub slot_law : SlotLaw
slot_law g w a i =
    let stays = call_stays g w a i in
    record { removed = removes g w a i; device = stays.device; count = stays.count }

pub none_back : NoneBackLaw
none_back g w a i empty =
    let kept : is_removed w (call g w a) i ≡ false = ap (λ b. b && not (is_occupied (call g w a).slots i)) empty in
    ap is_some ((slot_law g w a i).device kept) ∙ empty

-- ---- the world after a call, by its equation
pub removes_after : (g : Gate) (w v : WorldState) (a : Actor) → v ≡ call g w a → (who i : ℕ) → Removes g w a who i → OnlyRemoves w v who i
removes_after g w v a same who i r = subst (λ (u : WorldState). OnlyRemoves w u who i) (sym same) (removal g w a who i r)

pub back_after : (g : Gate) (w v : WorldState) (a : Actor) → v ≡ call g w a → IsNoneBack w v
back_after g w v a same = subst (IsNoneBack w) (sym same) (none_back g w a)
