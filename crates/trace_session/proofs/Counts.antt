-- What is told of a step: at most one instruction, and the text that it wrote.
use Rattle.std.proofs.Common.{◌≡◌, ℕ, ◌≤◌, Bool, true, false, not, ◌&&◌, if◌then◌else◌, List, [], ◌∷◌, ◌++◌, map, Option, None, Some, refl, sym, ap, ◌∙◌, append_assoc, arith}
use Rattle.std.specs.Prelude.{is_none, is_some}
use Rattle.std.proofs.lemmas.Bool.{and_parts}
use Rattle.std.proofs.lemmas.List.{append-nil}
use Rattle.std.specs.List.{sum_by}
use Rattle.std.proofs.lemmas.List.Sums.{sum_by-append}
use Rattle.tick_file.specs.declared.event.Event.{Event}
use Rattle.tick_file.specs.declared.event.Event.TheVariants.{Tick, Rx, Irq}
use Rattle.kernel_world.specs.declared.actor.Actor.{Actor}
use Rattle.kernel_world.specs.declared.call.Call.{Call}
use Rattle.kernel_world.specs.declared.call.Call.TheVariants as calls
use Rattle.kernel_world.specs.declared.reply.Reply.{Reply}
use Rattle.kernel_world.specs.declared.reply.Reply.TheVariants.{Answer}
use Rattle.wind_machine.specs.declared.next.Next.{Next}
use Rattle.wind_machine.specs.declared.next.Next.TheVariants.{Deliver, Come, Arrive, Routine, Act, Load, Jump, Over}
use Rattle.board_changes.specs.declared.change.Change.{Change}
use Rattle.board_trace.specs.Level.{begins, exception_told, faults, is_abort, is_exception, may_begin, routine_ends, routines}
use Rattle.board_trace.specs.Messages.{messages, messages_by, messages_of, sent_to, then_queued}
use Rattle.board_trace.specs.Outside.{event_told, from_outside, is_last, switches}
use Rattle.board_trace.specs.Owners.{freed, owned, owners, owners_at, same_owner}
use Rattle.board_trace.specs.Mutexes.{mutex_named}
use Rattle.board_trace.specs.Steps.{called, causes, changes, effects, happenings_from, has_written, instruction_of, is_instruction, step_happenings, writes}
use Rattle.board_trace.specs.Views.{SnapshotState}
use Rattle.board_trace.specs.declared.moment.AfterStep.{AfterStep}
use Rattle.board_trace.specs.declared.moment.BeforeStep.{BeforeStep}
use Rattle.board_trace.specs.declared.moment.Level.{Level}
use Rattle.board_trace.specs.declared.happening.Happening.{Happening}
use Rattle.board_trace.specs.declared.happening.Happening.TheVariants as told
use Rattle.trace_text.specs.Pages.{count_of}
use Rattle.trace_session.specs.Laws.{written_by}

-- how many instructions are told
abbrev told_of : List Happening → ℕ
told_of hs = sum_by count_of hs

-- the texts that are told, one after another
abbrev pub texts_of : List Happening → List ℕ
texts_of [] = []
texts_of (h ∷ hs) = written_by h ++ texts_of hs

texts-append : (hs gs : List Happening) → texts_of (hs ++ gs) ≡ texts_of hs ++ texts_of gs
texts-append [] gs = refl
texts-append (h ∷ hs) gs = ap (λ bytes. written_by h ++ bytes) (texts-append hs gs) ∙ sym (append_assoc (written_by h) (texts_of hs) (texts_of gs))

-- ---- lists with no instruction
-- and with this text
abbrev OnlyText : List ℕ → List Happening → Type 0
OnlyText text hs = (told_of hs ≡ 0) × (texts_of hs ≡ text)

abbrev Neither : List Happening → Type 0
Neither hs = OnlyText [] hs

no_text : (hs gs : List Happening) → texts_of hs ≡ [] → texts_of (hs ++ gs) ≡ texts_of gs
no_text hs gs h = texts-append hs gs ∙ ap (λ bytes. bytes ++ texts_of gs) h

then_text : (text : List ℕ) (hs gs : List Happening) → Neither hs → OnlyText text gs → OnlyText text (hs ++ gs)
then_text text hs gs h g = (omega (arith, sum_by-append count_of hs gs, h.0, g.0), no_text hs gs h.1 ∙ g.1)

both_none : (hs gs : List Happening) → Neither hs → Neither gs → Neither (hs ++ gs)
both_none = then_text []

if_none : (b : Bool) (hs gs : List Happening) → Neither hs → Neither gs → Neither (if b then hs else gs)
if_none true hs gs h g = h
if_none false hs gs h g = g

event_none : (e : Event) (c : BeforeStep) (r : AfterStep) → Neither (event_told e c r ∷ [])
event_none Tick c r = (refl, refl)
event_none (Rx n) c r = (refl, refl)
event_none (Irq slot) c r = (refl, refl)

outside_none : (n : Next) (c : BeforeStep) (r : AfterStep) → Neither (from_outside n c r)
outside_none (Deliver slot) c r = (refl, refl)
outside_none (Come e) c r = event_none e c r
outside_none Arrive c r = (refl, refl)
outside_none (Load name) c r = (refl, refl)
outside_none (Jump time) c r = (refl, refl)
outside_none Routine c r = (refl, refl)
outside_none (Act who) c r = (refl, refl)
outside_none Over c r = (refl, refl)

switches_none : (last now : Option ℕ) → Neither (switches last now)
switches_none last None = (refl, refl)
switches_none last (Some who) = if_none (is_last last who) [] (told.Runs who last ∷ []) (refl, refl) (refl, refl)

called_none : (who : Option Actor) (c : Option Call) (r : Option Reply) → Neither (called who c r)
called_none (Some who) (Some c) (Some r) = (refl, refl)
called_none who c r = (refl, refl)

exception_none : (c : BeforeStep) (written : List ℕ) (who : Option Actor) (at : Option ℕ) → Neither (exception_told c written who at)
exception_none c written (Some who) (Some at) = (refl, refl)
exception_none c written None at = (refl, refl)
exception_none c written (Some who) None = (refl, refl)

faults_none : (c : BeforeStep) (r : AfterStep) (written : List ℕ) (exception : Bool) → Neither (faults c r written exception)
faults_none c r written exception =
    both_none (if exception then exception_told c written c.actor c.at else []) (if is_abort c r exception then told.Abort ∷ [] else [])
    (if_none exception (exception_told c written c.actor c.at) [] (exception_none c written c.actor c.at) (refl, refl)) (if_none (is_abort c r exception) (told.Abort ∷ []) [] (refl, refl) (refl, refl))

freed_none : (mutex : ℕ) (owner : Option ℕ) → Neither (freed mutex owner)
freed_none mutex None = (refl, refl)
freed_none mutex (Some owner) = (refl, refl)

owned_none : (mutex : ℕ) (owner : Option ℕ) → Neither (owned mutex owner)
owned_none mutex None = (refl, refl)
owned_none mutex (Some owner) = (refl, refl)

owners_none : (mutex before after : Option ℕ) → Neither (owners_at mutex before after)
owners_none None before after = (refl, refl)
owners_none (Some mutex) before after =
    if_none (same_owner before after) [] (freed mutex before ++ owned mutex after) (refl, refl) (both_none (freed mutex before) (owned mutex after) (freed_none mutex before) (owned_none mutex after))

sent_none : (sender : Actor) (queue : ℕ) (receiver : Option ℕ) → Neither (sent_to sender queue receiver)
sent_none sender queue None = (refl, refl)
sent_none sender queue (Some receiver) = (refl, refl)

queued_none : (queue : ℕ) (sender : Option ℕ) → Neither (then_queued queue sender)
queued_none queue None = (refl, refl)
queued_none queue (Some sender) = (refl, refl)

messages_of_none : (who : Actor) (c : Call) (cs : List Change) → Neither (messages_of who c cs)
messages_of_none who (calls.MsgQSend id buffer count timeout priority) cs = sent_none who id _
messages_of_none who (calls.MsgQReceive id buffer count timeout) cs = queued_none id _
messages_of_none who c cs = (refl, refl)

messages_none : (who : Option Actor) (c : Option Call) (r : Option Reply) (cs : List Change) → Neither (messages_by who c r cs)
messages_none (Some who) (Some c) (Some (Answer value)) cs = messages_of_none who c cs
messages_none who c r cs = (refl, refl)

changed_none : (cs : List Change) → Neither (map told.Changed cs)
changed_none [] = (refl, refl)
changed_none (c ∷ cs) = changed_none cs

begins_none : (b : Bool) (level : Option Level) → Neither (begins b level)
begins_none false level = (refl, refl)
begins_none true None = (refl, refl)
begins_none true (Some l) = (refl, refl)

routines_none : (c : BeforeStep) (r : AfterStep) (wrote : Bool) → Neither (routines c r wrote)
routines_none c r wrote =
    both_none (if routine_ends c wrote then told.RoutineEnds ∷ [] else []) (begins (may_begin c.next (routine_ends c wrote)) r.level)
    (if_none (routine_ends c wrote) (told.RoutineEnds ∷ []) [] (refl, refl) (refl, refl)) (begins_none (may_begin c.next (routine_ends c wrote)) r.level)

writes_told : (who : Option Actor) (written : List ℕ) → OnlyText written (writes who written)
writes_told who [] = (refl, refl)
writes_told who (b ∷ bs) = (refl, append-nil (b ∷ bs))

-- ---- a step
module _ (c : BeforeStep) (before after : SnapshotState) (r : AfterStep) (written : List ℕ) where
  abbrev changed : List Change
  changed = changes c.next r.tick before after

  abbrev wrote : Bool
  wrote = has_written written

  causes_none : Neither (causes c before after r written)
  causes_none =
      both_none (from_outside c.next c r) _ (outside_none c.next c r)
      (both_none (switches before.last after.last) _ (switches_none before.last after.last)
      (both_none (called c.actor c.call r.reply) _ (called_none c.actor c.call r.reply) (faults_none c r written (is_exception c wrote))))

  effects_told : OnlyText written (effects c before after r written)
  effects_told =
      then_text written (owners c r) _ (owners_none (mutex_named c.call) c.owner r.owner)
      (then_text written (messages c r.reply changed) _ (messages_none c.actor c.call r.reply changed)
      (then_text written (map told.Changed changed) _ (changed_none changed)
      (then_text written (routines c r wrote) _ (routines_none c r wrote) (writes_told c.actor written))))

  step_told : OnlyText written (step_happenings c before after r written)
  step_told = then_text written (causes c before after r written) (effects c before after r written) causes_none effects_told

  -- one instruction writes nothing
  instruction_told : (who : Option Actor) → (told_of (instruction_of who) ≤ 1) × (texts_of (instruction_of who) ≡ [])
  instruction_told None = (omega arith, refl)
  instruction_told (Some who) = (omega arith, refl)

  -- a step tells of one instruction at most, and of what it wrote
  abbrev IsTold : List Happening → Type 0
  IsTold hs = (told_of hs ≤ 1) × (texts_of hs ≡ written)

  by_kind : (b : Bool) (hs gs : List Happening) → (b ≡ true → IsTold hs) → OnlyText written gs → IsTold (if b then hs else gs)
  by_kind true hs gs h g = h refl
  by_kind false hs gs h g = (omega (arith, g.0), g.1)

  wrote_nothing : (text : List ℕ) → not (has_written text) ≡ true → text ≡ []
  wrote_nothing [] e = refl
  wrote_nothing (b ∷ bs) e = absurd (cc)

  instruction_is : is_instruction c written ≡ true → IsTold (switches before.last after.last ++ instruction_of c.actor)
  instruction_is e =
      let one = instruction_told c.actor in
      let switched = switches_none before.last after.last in
      let at_no_gate = (and_parts (is_some c.at) (is_none c.gate && not (has_written written)) e).1 in
      let quiet = wrote_nothing written (and_parts (is_none c.gate) (not (has_written written)) at_no_gate).1 in (
        omega (arith, sum_by-append count_of (switches before.last after.last) (instruction_of c.actor), switched.0, one.0),
        no_text (switches before.last after.last) (instruction_of c.actor) switched.1 ∙ one.1 ∙ sym quiet,
      )

  is_told : IsTold (happenings_from c before after r written)
  is_told = by_kind (is_instruction c written) (switches before.last after.last ++ instruction_of c.actor) (step_happenings c before after r written) instruction_is step_told

  pub at_most_one : sum_by count_of (happenings_from c before after r written) ≤ 1
  at_most_one = is_told.0

  pub texts_are : texts_of (happenings_from c before after r written) ≡ written
  texts_are = is_told.1
