-- What an instruction leaves of the world.
use Rattle.std.proofs.Common.{◌≡◌, ℕ, Option, None, Some, Result, Ok, Err, refl, sym, ap, ◌∙◌, subst}
use Rattle.std.specs.Prelude.{unwrap_or}
use Rattle.std.specs.Option.{option_map}
use Rattle.wind_base.specs.declared.regs.Regs.{Regs}
use Rattle.task_block.specs.declared.task.Task.{Task as TaskRecord}
use Rattle.wind_core.specs.State.{IsKern, task_of}
use Rattle.ppc_core.specs.Instructions.{exec_of}
use Rattle.ppc_core.specs.Outcomes.{Outcome, Done, Trapped, Leaves}
use Rattle.ppc_core.specs.declared.trap.Trap.{Trap}
use Rattle.board_bus.specs.BusState.{BusState}
use Rattle.board_bus.specs.Access.{board_meaning}
use Rattle.live_loading.specs.KernelWorldState.{WorldState}
use Rattle.live_loading.specs.KernelWorldStarting.{no_regs}
use Rattle.live_loading.specs.KernelWorldActors.{Acts, found_regs}
use Rattle.live_loading.specs.KernelWorldActor.{Actor}
use Rattle.live_loading.specs.KernelWorldActor.TheVariants.{Task, Interrupt}
use Rattle.wind_machine.specs.Part.{with_kern}
use Rattle.wind_machine.specs.Processor.{bus_of, regs_of}
use Rattle.wind_machine.proofs.Reserving.{own_regs}
use Rattle.board_actors.specs.Instructions.{executed_to, outcome_kind, word_kind}
use Rattle.board_actors.specs.StepReply.{reply_of}
use Rattle.board_actors.specs.declared.step_kind.StepKind.TheVariants as kinds
use Rattle.board_actors.specs.Running.{IsThere, Ran, OnlyRegs}

module _ (w : WorldState) (is : IsKern w.kern) where
  -- the actor has these registers
  abbrev Has : Actor → Regs → Type 0
  Has who old = found_regs w.kern w.watch.level who ≡ Some old

  same_world : (who : Actor) (old : Regs) → Has who old → executed_to w who old (bus_of w) ≡ w
  same_world Interrupt old e = ap (λ o. record w { watch = record w.watch { level = o } }) (sym e)
  same_world (Task who) old e = by_task (task_of w.kern.tasks who) refl e where
    by_task : (o : Option TaskRecord) → task_of w.kern.tasks who ≡ o → option_map (λ t. t.regs) o ≡ Some old → executed_to w (Task who) old (bus_of w) ≡ w
    by_task None found d = absurd (cc)
    by_task (Some t) found d = let same : t.regs ≡ old = cc in ap (λ r. executed_to w (Task who) r (bus_of w)) (sym same) ∙ ap (λ k. with_kern w k) (own_regs w.kern who t is found)

  by_outcome : (who : Actor) (o : Outcome BusState) (r : Result (Unit {0}) Trap) (old regs : Regs) (bus : BusState) → Has who old → Leaves o old (bus_of w) regs bus r → Ran o r who w (executed_to w who regs bus)
  by_outcome who (Done after b) r old regs bus e l = (l.0, ap (λ x. executed_to w who x bus) l.1 ∙ ap (executed_to w who after) l.2)
  by_outcome who (Trapped trap) r old regs bus e l = (l.0, ap (λ x. executed_to w who x bus) l.1 ∙ ap (executed_to w who old) l.2 ∙ same_world who old e)

  ran_by : (who : Actor) (word : ℕ) (r : Result (Unit {0}) Trap) (old regs : Regs) (bus : BusState) → Has who old → Leaves (exec_of board_meaning old word (bus_of w)) old (bus_of w) regs bus r
      → Ran (exec_of board_meaning (regs_of w who) word (bus_of w)) r who w (executed_to w who regs bus)
  ran_by who word r old regs bus e l =
      let same : regs_of w who ≡ old = ap (λ o. unwrap_or o no_regs) e in
      subst (λ x. Ran (exec_of board_meaning x word (bus_of w)) r who w (executed_to w who regs bus)) (sym same) (by_outcome who (exec_of board_meaning old word (bus_of w)) r old regs bus e l)

  -- the actor is this one
  pub ran_as : (who a : Actor) → who ≡ a → (word : ℕ) (r : Result (Unit {0}) Trap) (old regs : Regs) (bus : BusState) → Has a old → Leaves (exec_of board_meaning old word (bus_of w)) old (bus_of w) regs bus r
      → Ran (exec_of board_meaning (regs_of w who) word (bus_of w)) r who w (executed_to w a regs bus)
  ran_as who a same word r old regs bus e l = subst (λ x. Ran (exec_of board_meaning (regs_of w x) word (bus_of w)) r x w (executed_to w a regs bus)) (sym same) (ran_by a word r old regs bus e l)

-- ---- an instruction without an exception leaves all but the actor's registers and the bus as they were
pub only_regs : (o : Outcome BusState) (r : Result (Unit {0}) Trap) (who : Actor) (old new : WorldState) → Ran o r who old new → r ≡ Ok tt → OnlyRegs old new who
only_regs (Done regs bus) r who old new ran ok = record { regs = regs; bus = bus; world = ran.1 }
only_regs (Trapped trap) r who old new ran ok = absurd (cc)

-- ---- it answers Ok exactly if it is no trap
pub instruction_so : (o : Outcome BusState) (r : Result (Unit {0}) Trap) (who : Actor) (old new : WorldState) → Ran o r who old new → r ≡ Ok tt → outcome_kind o ≡ kinds.Instruction
instruction_so (Done regs bus) r who old new ran ok = refl
instruction_so (Trapped trap) r who old new ran ok = absurd (cc)

pub other_so : (o : Outcome BusState) (r : Result (Unit {0}) Trap) (who : Actor) (old new : WorldState) (trap : Trap) → Ran o r who old new → r ≡ Err trap → outcome_kind o ≡ kinds.Other None
other_so (Done regs bus) r who old new trap ran bad = absurd (cc)
other_so (Trapped other) r who old new trap ran bad = refl

-- ---- an actor that is there is one that acts
pub there_acts : (w : WorldState) (who : Actor) → IsThere w who → Acts w.kern who
there_acts w (Task who) there = there
there_acts w Interrupt there = tt

-- ---- an instruction and an exception have no reply
pub word_reply : (word : Option ℕ) (r : Regs) (b : BusState) → None ≡ reply_of (word_kind word r b)
word_reply None r b = refl
word_reply (Some word) r b = elim (exec_of board_meaning r word b) as (λ o. None ≡ reply_of (outcome_kind o)) [ Done after bus ↦ refl | Trapped trap ↦ refl ]
