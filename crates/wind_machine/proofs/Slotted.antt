-- What kernel calls, loads and stores do to the device slots and their interrupts.
use Rattle.std.proofs.Common.{◌≡◌, ℕ, ◌<◌, Bool, true, false, cond, List, length, Option, None, Some, refl, sym, ap, ◌∙◌, arith}
use Rattle.std.specs.Prelude.{◌&&◌, not, nat_lt, slice_index}
use Rattle.std.proofs.lemmas.Bool.Decides.{nat_tests}
use Rattle.wind_base.specs.declared.errno.Errno.{Errno}
use Rattle.wind_base.specs.declared.errno.Errno.TheVariants as errors
use Rattle.wind_base.specs.declared.gate.Gate.{Gate}
use Rattle.wind_base.specs.declared.gate.Gate.TheVariants as gates
use Rattle.wind_outside.specs.Devices.{DeviceState}
use Rattle.board_mem.specs.Memory.{has, with_number}
use Rattle.board_bus.specs.BusState.{BusState}
use Rattle.board_bus.specs.Slots.{is_occupied, slots_loaded, slots_stored}
use Rattle.board_bus.specs.Access.{board_meaning, loaded_at, stored_at}
use Rattle.board_bus.proofs.Removals.{removals}
use Rattle.dev_irq.specs.declared.line.Line.{Line}
use Rattle.dev_irq.specs.State.{pending_of, IsIrqs}
use Rattle.dev_irq.proofs.Lines.{lines_stay}
use Rattle.live_loading.specs.CallRowsIrqRows.{IrqRow, row_of as irq_row, is_device, on_device}
use Rattle.live_loading.specs.CallRowsWatchRows.{routine_of}
use Rattle.live_loading.specs.KernelWorldState.{WorldState}
use Rattle.live_loading.specs.KernelWorldActors.{caller_words}
use Rattle.live_loading.specs.KernelWorldCallWords.{call_of, call_by}
use Rattle.live_loading.specs.KernelWorldReplies.{left_gate, replied}
use Rattle.live_loading.specs.KernelWorldActor.{Actor}
use Rattle.live_loading.specs.KernelWorldActor.TheVariants.{Task, Interrupt}
use Rattle.live_loading.specs.KernelWorldReply.{Reply}
use Rattle.live_loading.specs.KernelWorldReply.TheVariants.{Answer, Refusal, Later, Gone}
use Rattle.live_loading.specs.CallRowsUnless.{unless}
use Rattle.live_loading.specs.KernelCallsCalls.{row_of, refusal_before, declined, made, call}
use Rattle.live_loading.proofs.KernelCallsRemoving.{slot_law, none_back}
use Rattle.wind_machine.proofs.Executing.{Lasts}

-- the slots of a world, and their lines
pub record Slotted : Type 0 where
  pub slots : List (Option DeviceState)
  pub irqs : List Line

abbrev pub slotted : WorldState → Slotted
slotted w = record { slots = w.slots; irqs = w.irqs }

-- slot i holds a device before, and none after
abbrev pub is_gone : Slotted → Slotted → ℕ → Bool
is_gone p q i = is_occupied p.slots i && not (is_occupied q.slots i)

-- each slot holds a device as before, and as many of its interrupts are pending
pub record Leaves (p q : Slotted) : Type 0 where
  pub places : (i : ℕ) → is_occupied q.slots i ≡ is_occupied p.slots i
  pub counts : (i : ℕ) → pending_of q.irqs i ≡ pending_of p.irqs i
  pub lines : IsIrqs q.irqs

pub left : (p : Slotted) → IsIrqs p.irqs → Leaves p p
left p is = record { places = λ i. refl; counts = λ i. refl; lines = is }

-- a step at a gate, if at one, by a task or routine with these words in its registers: only devRemove of the slot in r3
-- removes a device, and then the count is 0; no empty slot is filled
pub record Passes (o : Option Gate) (a : Actor) (words : List ℕ) (p q : Slotted) : Type 0 where
  pub counts : (i : ℕ) → pending_of q.irqs i ≡ cond (is_gone p q i) 0 (pending_of p.irqs i)
  pub gone : (i : ℕ) → is_occupied p.slots i ≡ false → is_occupied q.slots i ≡ false
  pub removed : (i : ℕ) → is_gone p q i ≡ true → (who : ℕ) × (a ≡ Task who) × (o ≡ Some gates.DevRemove) × (slice_index words 3 ≡ i) × (is_device p.slots i ≡ true)
  pub lines : IsIrqs q.irqs

-- ---- tests
never_both : (b : Bool) → (b && not b) ≡ false
never_both true = refl
never_both false = refl

pub clash : (b : Bool) → b ≡ true → b ≡ false → ⊥
clash b t f = cc

-- a slot isn't removed if it holds a device as before
pub not_gone : (p q : Slotted) (i : ℕ) → is_occupied q.slots i ≡ is_occupied p.slots i → is_gone p q i ≡ false
not_gone p q i same = ap (λ b. is_occupied p.slots i && not b) same ∙ never_both (is_occupied p.slots i)

pub passes_by : (o : Option Gate) (a : Actor) (words : List ℕ) (p q : Slotted) → Leaves p q → Passes o a words p q
passes_by o a words p q h = record {
  counts = λ i. h.counts i ∙ ap (λ b. cond b 0 (pending_of p.irqs i)) (sym (not_gone p q i (h.places i)));
  gone = λ i e. h.places i ∙ e;
  removed = λ i yes. absurd (clash (is_gone p q i) yes (not_gone p q i (h.places i)));
  lines = h.lines;
}

-- ---- a call keeps the controller valid
-- a line that a device has
pub has_line : (irqs : List Line) (slots : List (Option DeviceState)) → IsIrqs irqs → (i : ℕ) → is_device slots i ≡ true → i < length irqs
has_line irqs slots is i e = elim (nat_lt i 16) as (λ b. nat_lt i 16 ≡ b → (b && is_occupied slots i) ≡ true → i < length irqs) [
  | true ↦ λ below there. let within : i < 16 = grind (arith, nat_tests, below) in omega (arith, within, is.all)
  | false ↦ λ past there. absurd (cc)
] refl e

-- the row of a call on a device
on_valid : (irqs : List Line) (slots : List (Option DeviceState)) (i : ℕ) (r : IrqRow) → IsIrqs irqs → IsIrqs r.irqs → IsIrqs (on_device irqs slots i r).irqs
on_valid irqs slots i r is there = elim (is_device slots i) as (λ b. IsIrqs (cond b r (irq_row irqs slots (Refusal errors.ObjIdError))).irqs) [ true ↦ there | false ↦ is ]

row_valid : (g : Gate) (ram r : List ℕ) (w : WorldState) (a : Actor) → IsIrqs w.irqs → IsIrqs (row_of (call_of g ram r) w a).world.irqs
row_valid gates.ErrnoSet ram r w (Task who) is = is
row_valid gates.ErrnoSet ram r w Interrupt is = is
row_valid gates.IntConnect ram r w a is = on_valid w.irqs w.slots (slice_index r 3) _ is ((lines_stay w.irqs (slice_index r 3) is).connecting (routine_of (slice_index r 4) (slice_index r 5)))
row_valid gates.IntDisconnect ram r w a is = on_valid w.irqs w.slots (slice_index r 3) _ is ((lines_stay w.irqs (slice_index r 3) is).disconnecting (slice_index r 4))
row_valid gates.IntEnable ram r w a is = on_valid w.irqs w.slots (slice_index r 3) _ is ((lines_stay w.irqs (slice_index r 3) is).enabling true)
row_valid gates.IntDisable ram r w a is = on_valid w.irqs w.slots (slice_index r 3) _ is ((lines_stay w.irqs (slice_index r 3) is).enabling false)
row_valid gates.IntPending ram r w a is = on_valid w.irqs w.slots (slice_index r 3) _ is is
row_valid gates.DevRemove ram r w a is = on_valid w.irqs w.slots (slice_index r 3) _ is (lines_stay w.irqs (slice_index r 3) is).clearing
row_valid g ram r w a is = is

gate_valid : (w : WorldState) (a : Actor) → IsIrqs w.irqs → IsIrqs (left_gate w a).irqs
gate_valid w (Task who) is = is
gate_valid w Interrupt is = is

replied_valid : (g : Gate) (w : WorldState) (a : Actor) (r : Reply) → IsIrqs w.irqs → IsIrqs (replied g w a r).irqs
replied_valid g w (Task who) (Answer value) is = is
replied_valid g w Interrupt (Answer value) is = is
replied_valid g w (Task who) (Refusal e) is = is
replied_valid g w Interrupt (Refusal e) is = is
replied_valid g w a Later is = is
replied_valid g w a Gone is = is

made_valid : (g : Gate) (w : WorldState) (a : Actor) → IsIrqs w.irqs → IsIrqs (made g w a).world.irqs
made_valid g w a is = go (refusal_before g a) where
  go : (o : Option Errno) → IsIrqs (unless o (declined (left_gate w a)) (row_of (call_by g w a) (left_gate w a) a)).world.irqs
  go None = row_valid g w.ram (caller_words w a) (left_gate w a) a (gate_valid w a is)
  go (Some e) = gate_valid w a is

call_valid : (g : Gate) (w : WorldState) (a : Actor) → IsIrqs w.irqs → IsIrqs (call g w a).irqs
call_valid g w a is = replied_valid g (made g w a).world a (made g w a).reply (made_valid g w a is)

pub call_passes : (g : Gate) (w : WorldState) (a : Actor) → IsIrqs w.irqs → Passes (Some g) a (caller_words w a) (slotted w) (slotted (call g w a))
call_passes g w a is = record {
  counts = λ i. (slot_law g w a i).count;
  gone = λ i. none_back g w a i;
  removed = λ i yes.
      let r = (slot_law g w a i).removed yes in
      (r.0, r.1.caller, ap (λ h. Some h) r.1.gate, ap (λ b. slice_index (caller_words w b) 3) r.1.caller ∙ r.1.slot, r.1.device);
  lines = call_valid g w a is;
}

-- ---- loads and stores
-- the slots of the bus hold devices as these do
abbrev pub HasPlaces : List (Option DeviceState) → BusState → Type 0
HasPlaces slots b = (i : ℕ) → is_occupied b.slots i ≡ is_occupied slots i

pub places_last : (slots : List (Option DeviceState)) → Lasts board_meaning (HasPlaces slots)
places_last slots = record { loads = loads; stores = stores }
  where
    loads : (b : BusState) (k at : ℕ) → HasPlaces slots b → HasPlaces slots (loaded_at b k at)
    loads b k at h = elim (has b.ram at k) as (λ t. HasPlaces slots (cond t b (record b { slots = slots_loaded b.slots k at }))) [ true ↦ h | false ↦ λ i. removals.loading b.slots k at i ∙ h i ]

    stores : (b : BusState) (k at v : ℕ) → HasPlaces slots b → HasPlaces slots (stored_at b k at v)
    stores b k at v h =
        elim (has b.ram at k) as (λ t. HasPlaces slots (cond t (record b { ram = with_number k b.ram at v }) (record b { slots = slots_stored b.slots k at v }))) [ true ↦ h | false ↦ λ i. removals.storing b.slots k at v i ∙ h i ]
