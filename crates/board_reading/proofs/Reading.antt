-- What is read of a state before its next step.
use Rattle.std.proofs.Common.{◌≡◌, ℕ, ◌+◌, Bool, List, Option, length, refl}
use Rattle.wind_base.specs.declared.gate.Gate.{Gate}
use Rattle.kernel_world.specs.State.{WorldState}
use Rattle.kernel_world.specs.declared.actor.Actor.{Actor}
use Rattle.kernel_world.specs.declared.call.Call.{Call}
use Rattle.board_trace.specs.WindMachineState.{State}
use Rattle.board_trace.specs.WindMachineNext.{next}
use Rattle.board_trace.specs.WindMachineMachine.{actor_of}
use Rattle.board_trace.specs.WindMachineNextType.{Next}
use Rattle.board_trace.specs.WindMachinePhase.{Phase}
use Rattle.board_trace.specs.Causes.{target_of, word_there}
use Rattle.board_trace.specs.Before.{before_step, call_there, counter_at, gate_there, has_interrupt_key, owner_named}

-- each part is read of the state, or of the parts before it
pub all_read : (s : State) (n : Next) (w : WorldState) (p q : Phase) (who : Option Actor) (at : Option ℕ) (gate : Option Gate) (call : Option Call) (word target : Option ℕ) (owner : Option ℕ) (time steps : ℕ) (left : List ℕ) (key : Bool)
    → n ≡ next s → w ≡ s.world → p ≡ s.shell.phase → who ≡ actor_of n → at ≡ counter_at p w (actor_of n) → gate ≡ gate_there w at → call ≡ call_there w (actor_of n) gate → word ≡ word_there w at gate → target ≡ target_of w (actor_of n) word → owner ≡ owner_named w call
    → time ≡ s.time → steps ≡ s.steps → q ≡ s.shell.phase → left ≡ s.left → key ≡ has_interrupt_key (next s) s.left
    → record { next = n; actor = who; at = at; gate = gate; call = call; word = word; target = target; owner = owner; time = time; step = steps + 1; phase = q; left = length left; interrupt_key = key } ≡ before_step s
all_read s n w p q who at gate call word target owner time steps left key en ew ep ewho eat egate ecall eword etarget eowner etime esteps eq eleft ekey =
    rw (eowner, etarget, eword, ecall, egate, eat, ewho, ep, ew, en, etime, esteps, eq, eleft, ekey) refl
