-- A step of an actor, by its program counter.
use Rattle.std.proofs.Common.{◌≡◌, ℕ, Option, None, Some, refl, sym, ap, ◌∙◌}
use Rattle.wind_base.specs.Boards.{board_rules}
use Rattle.wind_base.specs.Gates.{gate_at}
use Rattle.wind_base.specs.declared.gate.Gate.{Gate}
use Rattle.wind_base.specs.declared.regs.Regs.{Regs}
use Rattle.board_bus.specs.BusState.{BusState}
use Rattle.board_bus.specs.Access.{fetched}
use Rattle.live_loading.specs.KernelWorldState.{WorldState}
use Rattle.live_loading.specs.KernelWorldActor.{Actor}
use Rattle.live_loading.specs.KernelWorldActor.TheVariants.{Task as by_task}
use Rattle.live_loading.specs.KernelWorldReply.{Reply}
use Rattle.wind_machine.specs.State.{ShellState, State}
use Rattle.wind_machine.specs.Part.{part_of}
use Rattle.wind_machine.specs.ActorSteps.{at_step_start, stepped, task_step}
use Rattle.wind_machine.specs.Processor.{bus_of, regs_of, gate_under, gate_part, executed, word_part, part_at, actor_part}
use Rattle.wind_machine.specs.Replies.{actor_reply, reply_at, task_reply}
use Rattle.board_actors.specs.Instructions.{Executes, executed_to}
use Rattle.board_player.specs.Moves.{noted_step}

module _ (shell : ShellState) (w : WorldState) (who : Actor) (at : ℕ) (here : at ≡ (regs_of w who).pc) where
  under : gate_under w who ≡ gate_at (board_rules w.board).gates_start at
  under = ap (gate_at (board_rules w.board).gates_start) (sym here)

  pub by_gate : (g : Gate) → gate_at (board_rules w.board).gates_start at ≡ Some g → actor_part shell w who ≡ gate_part g shell w who
  unfolding actor_part
  by_gate g e = ap (λ o. part_at o shell w who) (under ∙ e)

  pub by_word : gate_at (board_rules w.board).gates_start at ≡ None → actor_part shell w who ≡ word_part (fetched (bus_of w) at) shell w who
  unfolding actor_part
  by_word e = ap (λ o. part_at o shell w who) (under ∙ e) ∙ ap (λ pc. word_part (fetched (bus_of w) pc) shell w who) (sym here)

-- an instruction without an exception gives the actor other registers, and the bus another state
pub by_instruction : (shell : ShellState) (w : WorldState) (who : Actor) (r : Regs) (b : BusState) → Executes (board_rules w.board).gates_start (regs_of w who) (bus_of w) r b
    → actor_part shell w who ≡ part_of shell (executed_to w who r b)
by_instruction shell w who r b ex =
    by_word shell w who (regs_of w who).pc refl ex.no_gate
    ∙ ap (λ o. word_part o shell w who) ex.there
    ∙ ap (λ o. executed o shell w who) ex.done

-- the gate at an address is the same in the world of the step
turned_gate : (s : State) (who at : ℕ) (v : WorldState) → v ≡ at_step_start s.world who → gate_at (board_rules v.board).gates_start at ≡ gate_at (board_rules s.world.board).gates_start at
turned_gate s who at v said_no = ap (λ (u : WorldState). gate_at (board_rules u.board).gates_start at) said_no

-- the step that the code has made
pub word_stepped : (s : State) (who at : ℕ) (v x : WorldState) (shell : ShellState) → v ≡ at_step_start s.world who → part_of shell x ≡ word_part (fetched (bus_of v) at) s.shell v (by_task who)
    → at ≡ (regs_of v (by_task who)).pc → gate_at (board_rules s.world.board).gates_start at ≡ None → noted_step (record s { shell = shell; world = x }) who ≡ task_step s who
word_stepped s who at v x shell said_no made here none = ap (stepped s who) (made ∙ sym (by_word s.shell v (by_task who) at here (turned_gate s who at v said_no ∙ none)) ∙ ap (λ u. actor_part s.shell u (by_task who)) said_no)

pub gate_stepped : (s : State) (who at : ℕ) (g : Gate) (v x : WorldState) (shell : ShellState) → v ≡ at_step_start s.world who → part_of shell x ≡ gate_part g s.shell v (by_task who)
    → at ≡ (regs_of v (by_task who)).pc → gate_at (board_rules s.world.board).gates_start at ≡ Some g → noted_step (record s { shell = shell; world = x }) who ≡ task_step s who
gate_stepped s who at g v x shell said_no made here some = ap (stepped s who) (made ∙ sym (by_gate s.shell v (by_task who) at here g (turned_gate s who at v said_no ∙ some)) ∙ ap (λ u. actor_part s.shell u (by_task who)) said_no)

-- ---- the reply of the step that the code has made
reply_here : (w : WorldState) (who : Actor) (at : ℕ) (o : Option Gate) → at ≡ (regs_of w who).pc → gate_at (board_rules w.board).gates_start at ≡ o → actor_reply w who ≡ reply_at o w who
unfolding actor_reply
reply_here w who at o here there = ap (λ p. reply_at p w who) (ap (gate_at (board_rules w.board).gates_start) (sym here) ∙ there)

pub replied : (s : State) (who at : ℕ) (o : Option Gate) (v : WorldState) (r : Option Reply) → v ≡ at_step_start s.world who → r ≡ reply_at o v (by_task who)
    → at ≡ (regs_of v (by_task who)).pc → gate_at (board_rules s.world.board).gates_start at ≡ o → r ≡ task_reply s who
replied s who at o v r began made here there =
    made ∙ sym (reply_here v (by_task who) at o here (turned_gate s who at v began ∙ there)) ∙ ap (λ u. actor_reply u (by_task who)) began
