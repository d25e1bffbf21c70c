-- The interrupts of devices over steps and runs.
use Rattle.std.proofs.Common.{◌≡◌, ℕ, zero, suc, ◌+◌, ◌<◌, ◌≤◌, Bool, true, false, cond, List, map, length, Option, None, Some, IfSome, add-one, refl, sym, ap, ap₂, ◌∙◌, subst, arith, ⊎_elim, get_or, replicate}
use Rattle.std.specs.Prelude.{◌&&◌, nat_lt, unwrap_or}
use Rattle.std.specs.List.{range_with_len}
use Rattle.std.proofs.lemmas.Bool.{and_parts, cases_eq, eq-eqb, ne_eqb}
use Rattle.std.proofs.lemmas.Bool.Decides.{nat_tests}
use Rattle.std.proofs.lemmas.List.{get_or_past}
use Rattle.std.proofs.lemmas.List.FromFn.{get_or-map-range_with_len, length-map-range_with_len}
use Rattle.wind_base.specs.Limits.{most_slots, greatest_word}
use Rattle.wind_base.specs.declared.board_kind.BoardKind.{BoardKind}
use Rattle.wind_base.specs.declared.profile.Profile.{Profile}
use Rattle.wind_outside.specs.Devices.{DeviceState}
use Rattle.tick_file.specs.Schedule.{Timetable, timetable_of}
use Rattle.tick_file.specs.declared.event.Event.{Event}
use Rattle.tick_file.specs.declared.event.Event.TheVariants.{Tick, Rx, Irq}
use Rattle.board_bus.specs.Slots.{is_occupied}
use Rattle.board_bus.proofs.Removals.{removals}
use Rattle.dev_irq.specs.declared.line.Line.{Line}
use Rattle.dev_irq.specs.State.{idle_line, line_of, pending_of, is_waiting, next as next_delivery, IsIrqs}
use Rattle.dev_irq.specs.Calls.{with_one_more, with_one_less, raised}
use Rattle.dev_irq.proofs.Lines.{lines_stay, first_is}
use Rattle.dev_irq.proofs.Counting.{counts}
use Rattle.dev_irq.proofs.Nexts.{nexts}
use Rattle.live_loading.specs.CallRowsIrqRows.{is_device}
use Rattle.live_loading.specs.KernelWorldOpening.{no_irqs, opening_world}
use Rattle.live_loading.specs.KernelWorldActor.TheVariants.{Task as by_task, Interrupt}
use Rattle.live_loading.specs.Said.{FileSaid}
use Rattle.wind_machine.specs.State.{State}
use Rattle.wind_machine.specs.Processor.{bus_of}
use Rattle.wind_machine.specs.Events.{cleared, unreserved_world, without_next, event_step, delivery_step}
use Rattle.wind_machine.specs.ActorSteps.{step_of, routine_step}
use Rattle.wind_machine.specs.Next.{occupied, is_open, due_delivery, next}
use Rattle.wind_machine.specs.Machine.{opening, settled_state, state_after, machine_step}
use Rattle.wind_machine.specs.Run.{Answers, after}
use Rattle.wind_machine.specs.Interrupts.{IsRemoval, pending, raised_by, delivered_by, is_removed, SlotLaw, LinesOpenLaw, LinesLaw, raised_in, delivered_in, NeverRemoved, IsEmptySlot, InterruptLaw}
use Rattle.wind_machine.specs.declared.next.Next.{Next}
use Rattle.wind_machine.specs.declared.next.Next.TheVariants.{Deliver, Come, Arrive, Routine, Act, Load, Jump, Over}
use Rattle.wind_machine.proofs.Order.{by_next, over_alone}
use Rattle.wind_machine.proofs.Steps.{if_settled, if_each}
use Rattle.wind_machine.proofs.Slotted.{slotted, Leaves, left, clash, not_gone, has_line}
use Rattle.wind_machine.proofs.SlotSteps.{removed_in_call, step_passes, routine_step_passes, load_step_leaves}

-- ---- what a step for which this comes next does to slot i
pub record Does (s u : State) (n : Next) (i : ℕ) : Type 0 where
  pub counts : pending u i + delivered_by i n ≡ cond (is_removed s u i) 0 (pending s i + raised_by s i n)
  pub gone : is_occupied s.world.slots i ≡ false → is_occupied u.world.slots i ≡ false
  pub removed : is_removed s u i ≡ true → (who : ℕ) × IsRemoval s n who i

-- and the controller is valid after it
pub record DoesAll (s u : State) (n : Next) : Type 0 where
  pub lines : IsIrqs u.world.irqs
  pub slot : (i : ℕ) → Does s u n i

-- the slot isn't removed
stays : (s u : State) (n : Next) (i : ℕ) → is_occupied u.world.slots i ≡ is_occupied s.world.slots i → pending u i + delivered_by i n ≡ pending s i + raised_by s i n → Does s u n i
stays s u n i same count =
    let none : is_removed s u i ≡ false = not_gone (slotted s.world) (slotted u.world) i same in
    record {
      counts = count ∙ ap (λ b. cond b 0 (pending s i + raised_by s i n)) (sym none);
      gone = λ e. same ∙ e;
      removed = λ yes. absurd (clash (is_removed s u i) yes none);
    }

-- no interrupt is raised or delivered
same_counts : (s u : State) (i : ℕ) → pending u i ≡ cond (is_removed s u i) 0 (pending s i) → pending u i + 0 ≡ cond (is_removed s u i) 0 (pending s i + 0)
same_counts s u i e =
    let plus : pending s i + 0 ≡ pending s i = omega arith in
    let all : pending u i + 0 ≡ pending u i = omega arith in
    all ∙ e ∙ ap (λ n. cond (is_removed s u i) 0 n) (sym plus)

-- nothing happens to any slot, and no interrupt is raised or delivered
leaving : (s u : State) (n : Next) → Leaves (slotted s.world) (slotted u.world) → ((i : ℕ) → raised_by s i n ≡ 0) → ((i : ℕ) → delivered_by i n ≡ 0) → DoesAll s u n
leaving s u n h none_raised none_delivered = record {
  lines = h.lines;
  slot = λ i. stays s u n i (h.places i) (ap₂ (λ a b. a + b) (h.counts i) (none_delivered i) ∙ ap (λ b. pending s i + b) (sym (none_raised i)));
}

-- ---- an event: a device interrupts
module _ (s u : State) (j : ℕ) (is : IsIrqs s.world.irqs) (places : u.world.slots ≡ s.world.slots) where
  occupied_same : (i : ℕ) → is_occupied u.world.slots i ≡ is_occupied s.world.slots i
  occupied_same i = ap (λ slots. is_occupied slots i) places

  other_raises : (i : ℕ) → (j ≡ i → ⊥) → raised_by s i (Come (Irq j)) ≡ 0
  other_raises i apart = ap (λ b. cond (b && (is_device s.world.slots i && nat_lt (pending s i) greatest_word)) 1 0) (ne_eqb j i apart)

  own_raises : (b : Bool) → is_device s.world.slots j ≡ true → nat_lt (pending s j) greatest_word ≡ b → raised_by s j (Come (Irq j)) ≡ cond b 1 0
  own_raises b there e = ap₂ (λ x y. cond (x && y) 1 0) (eq-eqb j j refl) (ap₂ (λ x y. x && y) there e)

  -- the slot of the device
  module _ (there : is_device s.world.slots j ≡ true) (lines : u.world.irqs ≡ raised s.world.irqs j) where
    device_counts : pending u j + 0 ≡ pending s j + raised_by s j (Come (Irq j))
    device_counts =
        let within = has_line s.world.irqs s.world.slots is j there in
        let same : pending u j ≡ pending_of (raised s.world.irqs j) j = ap (λ ls. pending_of ls j) lines in
        elim (nat_lt (pending s j) greatest_word) as (λ b. nat_lt (pending s j) greatest_word ≡ b → pending u j + 0 ≡ pending s j + raised_by s j (Come (Irq j))) [
          | true ↦ λ e.
              let few : pending s j < greatest_word = grind (arith, nat_tests, e) in
              let more = (counts s.world.irqs j j within).raising few in
              let one : raised_by s j (Come (Irq j)) ≡ 1 = own_raises true there e in
              omega (arith, same, more, one)
          | false ↦ λ e.
              let word : pending s j ≤ greatest_word = (is.each j idle_line within).word in
              let full : greatest_word ≤ pending s j = grind (arith, nat_tests, e) in
              let most : pending s j ≡ greatest_word = omega arith in
              let still = (counts s.world.irqs j j within).brimming most in
              let none : raised_by s j (Come (Irq j)) ≡ 0 = own_raises false there e in
              omega (arith, same, still, none)
        ] refl

    raises_all : DoesAll s u (Come (Irq j))
    raises_all = record {
      lines = subst IsIrqs (sym lines) (lines_stay s.world.irqs j is).raising;
      slot = λ i. stays s u (Come (Irq j)) i (occupied_same i)
          (⊎_elim
          (λ (e : j ≡ i). subst (λ k. pending u k + 0 ≡ pending s k + raised_by s k (Come (Irq j))) e device_counts)
          (λ (apart : j ≡ i → ⊥).
          let same : pending u i ≡ pending s i = ap (λ ls. pending_of ls i) lines ∙ ap (λ (l : Line). l.pending) ((counts s.world.irqs j i (has_line s.world.irqs s.world.slots is j there)).others with_one_more (λ e. apart (sym e))) in
          ap₂ (λ a b. a + b) same (sym (other_raises i apart)))
          (cases_eq j i));
    }

  -- the slot is empty
  module _ (empty : is_device s.world.slots j ≡ false) (lines : u.world.irqs ≡ s.world.irqs) where
    none_raised : (i : ℕ) → raised_by s i (Come (Irq j)) ≡ 0
    none_raised i =
        ⊎_elim
        (λ (e : j ≡ i). subst (λ k. raised_by s k (Come (Irq j)) ≡ 0) e (ap₂ (λ a b. cond (a && (b && nat_lt (pending s j) greatest_word)) 1 0) (eq-eqb j j refl) empty))
        (other_raises i)
        (cases_eq j i)

    empty_all : DoesAll s u (Come (Irq j))
    empty_all = leaving s u (Come (Irq j)) (record { places = occupied_same; counts = λ i. ap (λ ls. pending_of ls i) lines; lines = subst IsIrqs (sym lines) is }) none_raised (λ i. refl)

raising : (s : State) (j : ℕ) → IsIrqs s.world.irqs → DoesAll s (event_step s (Irq j)) (Come (Irq j))
raising s j is =
    let w = unreserved_world s.world in
    elim (is_device s.world.slots j) as (λ b. is_device s.world.slots j ≡ b → DoesAll s (record s { schedule = without_next s.schedule; world = cleared (record w { irqs = cond b (raised w.irqs j) w.irqs }); steps = s.steps + 1 }) (Come (Irq j))) [
      | true ↦ λ there. raises_all s (record s { schedule = without_next s.schedule; world = cleared (record w { irqs = raised w.irqs j }); steps = s.steps + 1 }) j is refl there refl
      | false ↦ λ empty. empty_all s (record s { schedule = without_next s.schedule; world = cleared w; steps = s.steps + 1 }) j is refl empty refl
    ] refl

coming : (s : State) (e : Event) → IsIrqs s.world.irqs → DoesAll s (event_step s e) (Come e)
coming s Tick is = leaving s (event_step s Tick) (Come Tick) (left (slotted s.world) is) (λ i. refl) (λ i. refl)
coming s (Rx n) is = leaving s (event_step s (Rx n)) (Come (Rx n)) (left (slotted s.world) is) (λ i. refl) (λ i. refl)
coming s (Irq j) is = raising s j is

-- ---- a delivery
-- an interrupt that is due can be delivered
due_next : (s : State) (j : ℕ) → due_delivery s ≡ Some j → next_delivery (occupied s.world.slots) s.world.irqs ≡ Some j
due_next s j e =
    elim (is_open s) as (λ b. cond b (next_delivery (occupied s.world.slots) s.world.irqs) None ≡ Some j → next_delivery (occupied s.world.slots) s.world.irqs ≡ Some j) [
      | true ↦ λ q. q
      | false ↦ λ q. absurd (cc)
    ] e

some_waits : (l : Line) → is_waiting l ≡ true → 0 < l.pending
some_waits l e = let counted = (and_parts (l.on && nat_lt 0 (length l.routines.items)) (nat_lt 0 l.pending) e).1 in grind (arith, nat_tests, counted)

line_waits : (lines : List Line) (j : ℕ) → is_waiting (line_of lines j) ≡ true → j < length lines
line_waits lines j e =
    elim (nat_lt j (length lines)) as (λ b. nat_lt j (length lines) ≡ b → j < length lines) [
      | true ↦ λ q. grind (arith, nat_tests, q)
      | false ↦ λ q.
          let past : length lines ≤ j = grind (arith, nat_tests, q) in
          absurd (clash (is_waiting (line_of lines j)) e (ap is_waiting (get_or_past lines j idle_line past)))
    ] refl

full_slot : (slots : List (Option DeviceState)) (j : ℕ) → get_or (occupied slots) j false ≡ true → j < most_slots
unfolding occupied
full_slot slots j e =
    elim (nat_lt j 16) as (λ b. nat_lt j 16 ≡ b → j < 16) [
      | true ↦ λ q. grind (arith, nat_tests, q)
      | false ↦ λ q.
          let past : 16 ≤ j = grind (arith, nat_tests, q) in
          let none : get_or (map (is_occupied slots) (range_with_len 0 16)) j false ≡ false =
          get_or_past (map (is_occupied slots) (range_with_len 0 16)) j false (omega (arith, past, length-map-range_with_len (is_occupied slots) 0 16)) in
          absurd (clash (get_or (map (is_occupied slots) (range_with_len 0 16)) j false) e none)
    ] refl

-- the slot of a due interrupt holds a device, and its line is waiting
pub record IsReadyLine (s : State) (j : ℕ) : Type 0 where
  pub slot : j < most_slots
  pub full : get_or (occupied s.world.slots) j false ≡ true
  pub waits : is_waiting (line_of s.world.irqs j) ≡ true
  pub within : j < length s.world.irqs

pub due_line : (s : State) (j : ℕ) → due_delivery s ≡ Some j → IsReadyLine s j
due_line s j due =
    let found = ((nexts (occupied s.world.slots) s.world.irqs).found j (due_next s j due)).0 in
    let both = and_parts (get_or (occupied s.world.slots) j false) (is_waiting (line_of s.world.irqs j)) found in
    record { slot = full_slot s.world.slots j both.0; full = both.0; waits = both.1; within = line_waits s.world.irqs j both.1 }

delivering : (s : State) (j : ℕ) → IsIrqs s.world.irqs → due_delivery s ≡ Some j → DoesAll s (delivery_step s j) (Deliver j)
delivering s j is due =
    let ready = due_line s j due in
    let u = delivery_step s j in
    let own : pending u j + delivered_by j (Deliver j) ≡ pending s j + 0 =
    (let less = (counts s.world.irqs j j ready.within).delivering (some_waits (line_of s.world.irqs j) ready.waits) in
    let one : delivered_by j (Deliver j) ≡ 1 = ap (λ b. cond b 1 0) (eq-eqb j j refl) in
    omega (arith, less, one)) in
    record {
      lines = (lines_stay s.world.irqs j is).delivering;
      slot = λ i. stays s u (Deliver j) i refl
          (⊎_elim
          (λ (e : j ≡ i). subst (λ k. pending u k + delivered_by k (Deliver j) ≡ pending s k + 0) e own)
          (λ (apart : j ≡ i → ⊥).
          let same : pending u i ≡ pending s i = ap (λ (l : Line). l.pending) ((counts s.world.irqs j i ready.within).others with_one_less (λ e. apart (sym e))) in
          ap₂ (λ a b. a + b) same (ap (λ b. cond b 1 0) (ne_eqb j i apart)))
          (cases_eq j i));
    }

-- ---- a task or a routine makes a step
acting : (s : State) (who : ℕ) → IsIrqs s.world.irqs → DoesAll s (step_of s who) (Act who)
acting s who is =
    let h = step_passes s is who in
    let u = step_of s who in
    record {
      lines = h.lines;
      slot = λ i. record {
        counts = same_counts s u i (h.counts i);
        gone = h.gone i;
        removed = λ yes. let r = h.removed i yes in (who, record { acts = refl; calls = removed_in_call s is who i yes; gate = r.2; slot = r.3; device = r.4 });
      };
    }

never_task : (who : ℕ) → Interrupt ≡ by_task who → ⊥
never_task who e = cc

routing : (s : State) → IsIrqs s.world.irqs → DoesAll s (routine_step s) Routine
routing s is =
    let h = routine_step_passes s is in
    let u = routine_step s in
    record {
      lines = h.lines;
      slot = λ i. record { counts = same_counts s u i (h.counts i); gone = h.gone i; removed = λ yes. let r = h.removed i yes in absurd (never_task r.0 r.1) };
    }

-- ---- a step
next_does : (said : FileSaid) (s : State) → IsIrqs s.world.irqs → IfSome (state_after said s (next s)) (λ u. DoesAll s u (next s))
next_does said s is = by_next s (λ n. IfSome (state_after said s n) (λ u. DoesAll s u n)) (record {
  deliver = λ i due. delivering s i is due;
  come = λ held e due. coming s e.event is;
  arrive = λ held quiet due. leaving s _ Arrive (left (slotted s.world) is) (λ i. refl) (λ i. refl);
  routine = λ nothing active. routing s is;
  act = λ left t runs none. acting s t.id is;
  load = λ ready t runs own name found. leaving s _ (Load name) (load_step_leaves s is said name) (λ i. refl) (λ i. refl);
  jump = λ ready nobody e there. leaving s _ (Jump e.time) (left (slotted s.world) is) (λ i. refl) (λ i. refl);
  over = λ ready nobody none. tt;
})

settled_does : (s u : State) (n : Next) → DoesAll s u n → DoesAll s (settled_state u) n
settled_does s u n h = record { lines = h.lines; slot = λ i. record { counts = (h.slot i).counts; gone = (h.slot i).gone; removed = (h.slot i).removed } }

step_does : (said : FileSaid) (s t : State) → IsIrqs s.world.irqs → machine_step said s ≡ Some t → DoesAll s t (next s)
unfolding machine_step
step_does said s t is e =
    subst (λ o. IfSome o (λ u. DoesAll s u (next s))) e
    (if_settled (λ u. DoesAll s u (next s)) (state_after said s (next s))
    (if_each (λ u. DoesAll s u (next s)) (λ u. DoesAll s (settled_state u) (next s)) (λ u. settled_does s u (next s)) (state_after said s (next s)) (next_does said s is)))

pub slot_steps : SlotLaw
slot_steps said s t i is e = let h = (step_does said s t is e).slot i in record { counts = h.counts; gone = h.gone; removed = h.removed }

pub lines_valid : LinesLaw
lines_valid said s t is e = (step_does said s t is e).lines

pub lines_open : LinesOpenLaw
unfolding opening opening_world no_irqs
lines_open console schedule slots profile board = (first_is no_irqs refl).0

-- ---- a run
-- one step on, or the same state if the run is over
onward : (said : FileSaid) (s : State) → IsIrqs s.world.irqs → DoesAll s (unwrap_or (machine_step said s) s) (next s)
onward said s is =
    elim (machine_step said s) as (λ o. machine_step said s ≡ o → DoesAll s (unwrap_or o s) (next s)) [
      | None ↦ λ e. subst (DoesAll s s) (sym ((over_alone said s).0 e)) (leaving s s Over (left (slotted s.world) is) (λ i. refl) (λ i. refl))
      | Some t ↦ λ e. step_does said s t is e
    ] refl

module _ (said : Answers) (s : State) (is : IsIrqs s.world.irqs) (i : ℕ) where
  valid : (k : ℕ) → IsIrqs (after said s k).world.irqs
  valid zero = is
  valid (suc k) = (onward (said k) (after said s k) (valid k)).lines

  goes : (k : ℕ) → Does (after said s k) (after said s (suc k)) (next (after said s k)) i
  goes k = (onward (said k) (after said s k) (valid k)).slot i

  at_most : (k : ℕ) → delivered_in said s i k + pending (after said s k) i ≤ raised_in said s i k + pending s i
  at_most zero = omega arith
  at_most (suc k) =
      let before = at_most k in
      let count = (goes k).counts in
      elim (is_removed (after said s k) (after said s (suc k)) i) as (λ b. pending (after said s (suc k)) i + delivered_by i (next (after said s k)) ≡ cond b 0 (pending (after said s k) i + raised_by (after said s k) i (next (after said s k))) → delivered_in said s i (suc k) + pending (after said s (suc k)) i ≤ raised_in said s i (suc k) + pending s i) [
        | true ↦ λ c. omega (arith, c, before)
        | false ↦ λ c. omega (arith, c, before)
      ] count

  exactly : (k : ℕ) → NeverRemoved said s i k → delivered_in said s i k + pending (after said s k) i ≡ raised_in said s i k + pending s i
  exactly zero never = omega arith
  exactly (suc k) never =
      let before = exactly k (λ j below. never j (omega (arith, below))) in
      let here : is_removed (after said s k) (after said s (suc k)) i ≡ false = subst (λ n. is_removed (after said s k) (after said s n) i ≡ false) (add-one k) (never k (omega arith)) in
      let count = (goes k).counts ∙ ap (λ b. cond b 0 (pending (after said s k) i + raised_by (after said s k) i (next (after said s k)))) here in
      omega (arith, before, count)

  stays_empty : (j k : ℕ) → j ≤ k → is_occupied (after said s j).world.slots i ≡ false → is_occupied (after said s k).world.slots i ≡ false
  stays_empty j zero h e = let first : j ≡ 0 = omega (arith, h) in subst (λ n. is_occupied (after said s n).world.slots i ≡ false) first e
  stays_empty j (suc k) h e =
      ⊎_elim
      (λ (last : j ≡ suc k). subst (λ n. is_occupied (after said s n).world.slots i ≡ false) last e)
      (λ (sooner : j ≡ suc k → ⊥). (goes k).gone (stays_empty j k (omega (arith, h, sooner)) e))
      (cases_eq j (suc k))

-- ---- an empty slot
-- which slots hold devices, slot by slot
pub occupied_at : (slots : List (Option DeviceState)) (i : ℕ) → is_occupied slots i ≡ false → get_or (occupied slots) i false ≡ false
unfolding occupied
occupied_at slots i e =
    elim (nat_lt i 16) as (λ b. nat_lt i 16 ≡ b → get_or (map (is_occupied slots) (range_with_len 0 16)) i false ≡ false) [
      | true ↦ λ q. let within : i < 16 = grind (arith, nat_tests, q) in get_or-map-range_with_len (is_occupied slots) 0 16 i i false within (omega arith) ∙ e
      | false ↦ λ q.
          let past : 16 ≤ i = grind (arith, nat_tests, q) in
          get_or_past (map (is_occupied slots) (range_with_len 0 16)) i false (omega (arith, past, length-map-range_with_len (is_occupied slots) 0 16))
    ] refl

empty_slot : (s : State) (i : ℕ) → is_occupied s.world.slots i ≡ false → IsEmptySlot s i
empty_slot s i e = record {
  empty = e;
  silent = λ due. clash (get_or (occupied s.world.slots) i false) (due_line s i due).full (occupied_at s.world.slots i e);
  faults = λ n at here outside. removals.faults (bus_of s.world) n at outside (ap (is_occupied s.world.slots) here ∙ e);
}

-- ---- every run
none_pending : (console : List ℕ) (schedule : Timetable) (slots : List (Option DeviceState)) (profile : Profile) (board : BoardKind) (i : ℕ) → pending (opening console schedule slots profile board) i ≡ 0
unfolding opening opening_world no_irqs
none_pending console schedule slots profile board i = none_of 16 i where
  none_of : (n j : ℕ) → pending_of (replicate n idle_line) j ≡ 0
  none_of zero j = refl
  none_of (suc n) zero = refl
  none_of (suc n) (suc j) = none_of n j

pub interrupts : InterruptLaw
interrupts said console ticks slots profile board i k =
    let begun = opening console (timetable_of ticks) slots profile board in
    let is : IsIrqs begun.world.irqs = lines_open console (timetable_of ticks) slots profile board in
    let none : pending begun i ≡ 0 = none_pending console (timetable_of ticks) slots profile board i in
    record {
      once = omega (arith, at_most said begun is i k, none);
      all = λ never. omega (arith, exactly said begun is i k never, none);
      gone = λ j within empty. empty_slot (after said begun k) i (stays_empty said begun is i j k within empty);
    }
