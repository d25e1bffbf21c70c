-- A removal of a device changes nothing else.
use Rattle.std.proofs.Common.{◌≡◌, ℕ, true, false, cond, eqb, Some, refl, sym, ap, ◌∙◌}
use Rattle.std.specs.Prelude.{slice_index}
use Rattle.std.specs.Option.{option_map}
use Rattle.wind_base.specs.Gates.{gate_number}
use Rattle.wind_base.specs.declared.gate.Gate.TheVariants as gates
use Rattle.ppc_core.specs.declared.trap.Trap.TheVariants as traps
use Rattle.id_table.specs.Idents.{shell_id}
use Rattle.live_loading.specs.KernelWorldState.{WorldState}
use Rattle.live_loading.specs.KernelWorldAllowed.{is_call}
use Rattle.live_loading.specs.KernelWorldActor.TheVariants.{Task as by_task}
use Rattle.live_loading.specs.KernelCallsCalls.{call}
use Rattle.live_loading.proofs.KernelCallsRemoving.{removal}
use Rattle.wind_machine.specs.State.{ShellState}
use Rattle.wind_machine.specs.Part.{part_of}
use Rattle.wind_machine.specs.Processor.{is_return, return_part, trapped, called, gate_part, part_at, gate_under, actor_part}
use Rattle.wind_machine.specs.ActorSteps.{at_step_start, stepped, step_of}
use Rattle.wind_machine.specs.Machine.{settled_state, state_after, machine_step}
use Rattle.wind_machine.specs.Interrupts.{RemovalLaw}
use Rattle.wind_machine.proofs.Asking.{own_gate, own_words, as_task}

-- no task returns at the gate of devRemove
not_return : (who : ℕ) → is_return gates.DevRemove (by_task who) ≡ false
not_return who = elim (eqb who shell_id) as (λ b. eqb (gate_number gates.DevRemove) (gate_number (cond b gates.ShellReturn gates.TaskReturn)) ≡ false) [ true ↦ refl | false ↦ refl ]

at_gate : (shell : ShellState) (w : WorldState) (who : ℕ) → gate_part gates.DevRemove shell w (by_task who) ≡ part_of shell (called gates.DevRemove w (by_task who))
at_gate shell w who = ap (λ b. cond b (return_part shell w (by_task who)) (cond (is_call gates.DevRemove) (part_of shell (called gates.DevRemove w (by_task who))) (trapped traps.Access shell w (by_task who)))) (not_return who)

calling : (shell : ShellState) (w : WorldState) (who : ℕ) → gate_under w (by_task who) ≡ Some gates.DevRemove → actor_part shell w (by_task who) ≡ part_of shell (called gates.DevRemove w (by_task who))
unfolding actor_part
calling shell w who there = ap (λ o. part_at o shell w (by_task who)) there ∙ at_gate shell w who

pub removals_alone : RemovalLaw
unfolding machine_step
removals_alone said s t who i r made =
    let w = at_step_start s.world who in
    let there = own_gate s.world who ∙ r.gate in
    let slot = ap (λ words. slice_index words 3) (own_words s.world who) ∙ r.slot in
    let by = as_task s who r.calls ∙ ap (stepped s who) (calling s.shell w who there) in
    let same : Some t ≡ Some (settled_state (step_of s who)) = sym made ∙ ap (λ n. option_map settled_state (state_after said s n)) r.acts in
    let next : t ≡ settled_state (step_of s who) = cc in
    record {
      left = call gates.DevRemove w (by_task who);
      only = removal gates.DevRemove w (by_task who) who i (record { gate = refl; caller = refl; slot = slot; device = r.device });
      step = next ∙ ap settled_state by;
    }
