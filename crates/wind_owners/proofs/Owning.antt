-- Who owns a mutex after a step follows from who owned it before and the step's lines.
use Rattle.std.proofs.Common.{◌≡◌, ℕ, true, false, cond, eqb, List, [], ◌∷◌, ◌++◌, map, Option, None, Some, refl, sym, ap, ◌∙◌, subst}
use Rattle.std.specs.Prelude.{◌&&◌, ◌||◌, not, is_some, is_none}
use Rattle.std.proofs.lemmas.Bool.{and_parts, eq-eqb, eqb-true, eqb-false, ne_eqb}
use Rattle.std.proofs.lemmas.Option.{same_Some}
use Rattle.wind_base.specs.declared.gate.Gate.{Gate}
use Rattle.kernel_world.specs.State.{WorldState}
use Rattle.kernel_world.specs.Actors.{is_shell}
use Rattle.kernel_world.specs.CallWords.{call_of as call_in}
use Rattle.kernel_world.specs.declared.actor.Actor.{Actor}
use Rattle.kernel_world.specs.declared.actor.Actor.TheVariants.{Task as by_task, Interrupt}
use Rattle.kernel_world.specs.declared.call.Call.{Call}
use Rattle.wind_machine.specs.Machine.{actor_of}
use Rattle.wind_machine.specs.Next.{next}
use Rattle.wind_machine.specs.Processor.{gate_under, regs_of}
use Rattle.wind_machine.specs.Replies.{step_reply}
use Rattle.wind_machine.specs.State.{State}
use Rattle.wind_machine.specs.declared.phase.Phase.{Phase}
use Rattle.wind_machine.specs.declared.phase.Phase.TheVariants as phases
use Rattle.wind_machine.proofs.Asking.{own_gate, own_words}
use Rattle.wind_messages.specs.Messages.{is_at_work, is_call, step_start_world}
use Rattle.wind_owners.specs.Owners.{OwnerLaw, OwnersLaw, call_at, call_by_actor, owner_replayed, owner_then, step_call}
use Rattle.board_trace.specs.Mutexes.{mutex_named, owner_in}
use Rattle.board_trace.specs.Before.{before_step, call_of, call_there, counter_at, counter_of, gate_of, gate_there, is_calling, is_on_processor, owner_at}
use Rattle.board_trace.specs.Owners.{owner_changes, owners, owners_at}
use Rattle.board_trace.specs.Snapshots.{after_step, snapshot_of}
use Rattle.board_trace.specs.Steps.{causes, changes, effects, happenings, has_written, instruction_of, is_instruction, step_happenings, writes}
use Rattle.board_trace.specs.Level.{routines}
use Rattle.board_trace.specs.Messages.{messages}
use Rattle.board_trace.specs.Outside.{switches}
use Rattle.board_trace.specs.Views.{SnapshotState}
use Rattle.board_trace.specs.declared.moment.BeforeStep.{BeforeStep}
use Rattle.board_trace.specs.declared.moment.AfterStep.{AfterStep}
use Rattle.board_trace.specs.declared.happening.Happening.{Happening}
use Rattle.board_trace.specs.declared.happening.Happening.TheVariants as told
use Rattle.board_trace.proofs.Parts.{Each, HoldsElse, each_both, each_cause, each_change, each_instruction, each_message, each_routine, each_switch, each_write}

-- ---- the call that a trace reads before a step is the one that the step makes
calling : (p : Phase) → is_calling p ≡ is_call p
calling phases.Call = refl
calling phases.Prompt = refl
calling phases.Read = refl
calling phases.Eval = refl

at_work : (s : State) (a : Actor) → is_on_processor s.shell.phase a ≡ is_at_work s a
at_work s a =
    let p : Phase = s.shell.phase in
    elim (is_shell a) as (λ b. (not b || is_calling p) ≡ cond b (is_call p) true) [ true ↦ calling p | false ↦ refl ]

call_is : (w : WorldState) (a : Actor) (o : Option Gate) → call_there w (Some a) o ≡ call_at o w a
call_is w a None = refl
call_is w a (Some g) = refl

-- the same call is at each gate in two worlds
own_call : (w v : WorldState) (a : Actor) (o : Option Gate) → ((g : Gate) → call_at (Some g) v a ≡ call_at (Some g) w a) → call_at o v a ≡ call_at o w a
own_call w v a None same = refl
own_call w v a (Some g) same = same g

started : (s : State) (a : Actor) → call_at (gate_under (step_start_world s a) a) (step_start_world s a) a ≡ call_at (gate_under s.world a) s.world a
started s (by_task who) =
    let v = step_start_world s (by_task who) in
    ap (λ o. call_at o v (by_task who)) (own_gate s.world who)
    ∙ own_call s.world v (by_task who) (gate_under s.world (by_task who)) (λ g. ap (λ ws. call_in g s.world.ram ws) (own_words s.world who))
started s Interrupt = own_call s.world (step_start_world s Interrupt) Interrupt (gate_under s.world Interrupt) (λ g. refl)

by_actor : (s : State) (a : Actor) → call_there s.world (Some a) (gate_there s.world (counter_of s.shell.phase s.world a)) ≡ call_by_actor s (Some a)
by_actor s a =
    let call = call_at (gate_under (step_start_world s a) a) (step_start_world s a) a in
    ap (λ b. call_there s.world (Some a) (gate_there s.world (cond b (Some (regs_of s.world a).pc) None))) (at_work s a)
    ∙ elim (is_at_work s a) as (λ b. call_there s.world (Some a) (gate_there s.world (cond b (Some (regs_of s.world a).pc) None)) ≡ cond b call None) [
      | true ↦ call_is s.world a (gate_under s.world a) ∙ sym (started s a)
      | false ↦ refl
    ]

by_option : (s : State) (o : Option Actor) → call_there s.world o (gate_there s.world (counter_at s.shell.phase s.world o)) ≡ call_by_actor s o
by_option s None = refl
by_option s (Some a) = by_actor s a

same_call : (s : State) → call_of s ≡ step_call s
same_call s = by_option s (actor_of (next s))

-- there is no call at no gate
no_call : (w : WorldState) (who : Option Actor) (o : Option Gate) → is_none o ≡ true → call_there w who o ≡ None
no_call w None o none = refl
no_call w (Some a) None none = refl
no_call w (Some a) (Some g) none = absurd (cc)

-- ---- the lines of the owner of one mutex
module _ (id : ℕ) where
  owner_append : (xs ys : List Happening) (o : Option ℕ) → owner_replayed id (xs ++ ys) o ≡ owner_replayed id ys (owner_replayed id xs o)
  owner_append [] ys o = refl
  owner_append (x ∷ xs) ys o = owner_append xs ys (owner_then id x o)

  -- a happening that isn't of this mutex's owner
  abbrev Keeps : Happening → Type 0
  Keeps h = (o : Option ℕ) → owner_then id h o ≡ o

  keeps_else : HoldsElse Keeps
  keeps_else = record {
    tick = λ tick o. refl;
    arrival = λ count o. refl;
    interrupt = λ slot o. refl;
    delivery = λ slot o. refl;
    jump = λ time o. refl;
    file = λ name o. refl;
    runs = λ who last o. refl;
    abort = λ o. refl;
    queued = λ queue sender o. refl;
    handed = λ queue sender receiver o. refl;
    taken = λ queue receiver o. refl;
    ends = λ o. refl;
    begins = λ entry param o. refl;
    writes = λ who bytes o. refl;
    instructions = λ who count o. refl;
  }

  kept_by : (hs : List Happening) → Each Keeps hs → (o : Option ℕ) → owner_replayed id hs o ≡ o
  kept_by [] each o = refl
  kept_by (h ∷ hs) each o = ap (owner_replayed id hs) (each.0 o) ∙ kept_by hs each.1 o

  -- those of another mutex
  other_mutex : (n : ℕ) → (n ≡ id → ⊥) → (before after o : Option ℕ) → owner_replayed id (owner_changes n before after) o ≡ o
  other_mutex n other None None o = refl
  other_mutex n other None (Some b) o = ap (λ t. cond t (Some b) o) (ne_eqb n id other)
  other_mutex n other (Some a) None o = ap (λ t. cond t None o) (ne_eqb n id other)
  other_mutex n other (Some a) (Some b) o =
      elim (eqb a b) as (λ t. owner_replayed id (cond t [] (told.Freed n a ∷ told.Owned n b ∷ [])) o ≡ o) [
        | true ↦ refl
        | false ↦ ap (λ t. cond t (Some b) (cond t None o)) (ne_eqb n id other)
      ]

  -- those of this mutex
  own_mutex : (before after : Option ℕ) → owner_replayed id (owner_changes id before after) before ≡ after
  own_mutex None None = refl
  own_mutex None (Some b) = ap (λ t. cond t (Some b) None) (eq-eqb id id refl)
  own_mutex (Some a) None = ap (λ t. cond t None (Some a)) (eq-eqb id id refl)
  own_mutex (Some a) (Some b) =
      elim (eqb a b) as (λ t. eqb a b ≡ t → owner_replayed id (cond t [] (told.Freed id a ∷ told.Owned id b ∷ [])) (Some a) ≡ Some b) [
        | true ↦ λ e. ap Some (eqb-true a b e)
        | false ↦ λ e. ap (λ t. cond t (Some b) (cond t None (Some a))) (eq-eqb id id refl)
      ] refl

  -- ---- a step
  module _ (w v : WorldState) (m : Option ℕ) (stays : (m ≡ Some id → ⊥) → owner_in v id ≡ owner_in w id) where
    by_name : owner_replayed id (owners_at m (owner_at w m) (owner_at v m)) (owner_in w id) ≡ owner_in v id
    by_name = go m refl where
      go : (n : Option ℕ) → m ≡ n → owner_replayed id (owners_at n (owner_at w n) (owner_at v n)) (owner_in w id) ≡ owner_in v id
      go None e = sym (stays (λ q. cc))
      go (Some n) e =
          elim (eqb n id) as (λ b. eqb n id ≡ b → owner_replayed id (owner_changes n (owner_in w n) (owner_in v n)) (owner_in w id) ≡ owner_in v id) [
            | true ↦ λ b. subst (λ k. owner_replayed id (owner_changes k (owner_in w k) (owner_in v k)) (owner_in w id) ≡ owner_in v id) (sym (eqb-true n id b)) (own_mutex (owner_in w id) (owner_in v id))
            | false ↦ λ b.
                let other : n ≡ id → ⊥ = eqb-false n id b in
                other_mutex n other (owner_in w n) (owner_in v n) (owner_in w id) ∙ sym (stays (λ q. other (same_Some n id (sym e ∙ q))))
          ] refl

  module _ (c : BeforeStep) (before after : SnapshotState) (r : AfterStep) (written : List ℕ) where
    -- only the lines of owners change the owner
    rest_keeps : (o : Option ℕ) → owner_replayed id (step_happenings c before after r written) o ≡ owner_replayed id (owners c r) o
    rest_keeps o =
        let cs = changes c.next r.tick before after in
        let wrote = has_written written in
        let rest = messages c r.reply cs ++ (map told.Changed cs ++ (routines c r wrote ++ writes c.actor written)) in
        let each : Each Keeps rest =
        each_both Keeps (messages c r.reply cs) _ (each_message Keeps keeps_else c r.reply cs)
        (each_both Keeps (map told.Changed cs) _ (each_change Keeps (λ x y. refl) cs)
        (each_both Keeps (routines c r wrote) (writes c.actor written) (each_routine Keeps keeps_else c r wrote) (each_write Keeps keeps_else c.actor written))) in
        owner_append (causes c before after r written) (effects c before after r written) o
        ∙ ap (owner_replayed id (effects c before after r written)) (kept_by (causes c before after r written) (each_cause Keeps keeps_else (λ who call reply x. refl) (λ who at cause x. refl) c before after r written) o)
        ∙ owner_append (owners c r) rest o ∙ kept_by rest each (owner_replayed id (owners c r) o)

    -- an instruction names no mutex
    instruction_keeps : (o : Option ℕ) → owner_replayed id (switches before.last after.last ++ instruction_of c.actor) o ≡ o
    instruction_keeps o =
        kept_by (switches before.last after.last ++ instruction_of c.actor)
        (each_both Keeps (switches before.last after.last) (instruction_of c.actor) (each_switch Keeps keeps_else before.last after.last) (each_instruction Keeps keeps_else c.actor)) o

pub owners_replayed : OwnerLaw → OwnersLaw
unfolding happenings
owners_replayed law said s t id good makes =
    let c = before_step s in
    let r = after_step c (step_reply said s) t in
    let before = snapshot_of s.world in
    let after = snapshot_of t.world in
    let written = t.world.output in
    let owner = owner_in s.world id in
    let stays : (mutex_named (call_of s) ≡ Some id → ⊥) → owner_in t.world id ≡ owner = λ other. law said s t id good makes (λ q. other (ap mutex_named (same_call s) ∙ q)) in
    elim (is_instruction c written) as (λ b. is_instruction c written ≡ b → owner_replayed id (cond b (switches before.last after.last ++ instruction_of c.actor) (step_happenings c before after r written)) owner ≡ owner_in t.world id) [
      | true ↦ λ e.
          let gate = and_parts (is_none c.gate) (not (has_written written)) (and_parts (is_some c.at) (is_none c.gate && not (has_written written)) e).1 in
          let none : mutex_named (call_of s) ≡ None = ap mutex_named (no_call s.world (actor_of (next s)) (gate_of s) gate.0) in
          instruction_keeps id c before after r written owner ∙ sym (stays (λ q. cc))
      | false ↦ λ e. rest_keeps id c before after r written owner ∙ by_name id s.world t.world (mutex_named (call_of s)) stays
    ] refl
