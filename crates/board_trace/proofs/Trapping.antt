-- What a step writes that executes a word: the report of its trap, or nothing.
use Rattle.std.proofs.Common.{◌≡◌, ℕ, Bool, true, false, cond, eqb, List, [], ◌∷◌, ◌++◌, Option, None, Some, refl, sym, ap, ap₂, subst, ◌∙◌, append_assoc, length, take, length-append, le-leb, arith}
use Rattle.std.specs.Prelude.{◌&&◌, ◌||◌, codes, if◌then◌else◌, nat_le, not, unwrap_or}
use Rattle.std.specs.Option.{option_map}
use Rattle.std.specs.Str.{bytes_eq}
use Rattle.std.proofs.Math.Seq.{take-append_seam}
use Rattle.std.proofs.lemmas.Slice.Eq.{bytes_eq-Decides}
use Rattle.id_table.proofs.Records.{found_in}
use Rattle.id_table.specs.Idents.{shell_id}
use Rattle.task_block.specs.declared.task.Task.{Task}
use Rattle.wind_base.specs.declared.regs.Regs.{Regs}
use Rattle.wind_core.specs.Moves.{suspend}
use Rattle.wind_core.specs.Orders.{running}
use Rattle.wind_core.specs.State.{task_id, task_of}
use Rattle.wind_core.proofs.Lawful.{runner_may}
use Rattle.ppc_core.specs.Outcomes.{Outcome, Done, Trapped}
use Rattle.ppc_core.specs.Instructions.{exec_of}
use Rattle.ppc_core.specs.declared.trap.Trap.{Trap}
use Rattle.ppc_core.specs.declared.trap.Trap.TheVariants as traps
use Rattle.board_bus.specs.Access.{board_meaning, fetched}
use Rattle.board_bus.specs.BusState.{BusState}
use Rattle.kernel_world.specs.Actors.{is_shell}
use Rattle.kernel_world.specs.Starting.{no_regs}
use Rattle.kernel_world.specs.State.{WorldState}
use Rattle.kernel_world.specs.declared.actor.Actor.{Actor}
use Rattle.kernel_world.specs.declared.actor.Actor.TheVariants.{Task as by_task, Interrupt}
use Rattle.wind_machine.specs.ActorSteps.{IsOnProcessor, routine_step, step_of}
use Rattle.wind_machine.specs.Good.{Good}
use Rattle.wind_machine.specs.LiveLoadingSaid.{FileSaid}
use Rattle.wind_machine.specs.Machine.{actor_of, file_asked, file_of, machine_step, settled_state, state_after, stepping}
use Rattle.wind_machine.specs.Next.{next}
use Rattle.wind_machine.specs.Part.{Part, part_of, with_kern, writing}
use Rattle.wind_machine.specs.Processor.{actor_part, bus_of, executed, gate_under, part_at, regs_of, trap_text, trapped, word_part}
use Rattle.wind_machine.specs.Shell.{at_prompt}
use Rattle.wind_machine.specs.Silent.{IsInstructionOf}
use Rattle.wind_machine.specs.State.{ShellState, State}
use Rattle.wind_machine.specs.Task.{aborted}
use Rattle.wind_machine.specs.Text.{cause_text, exception_text, kind_text, level_text, place_text, routine_text}
use Rattle.wind_machine.specs.declared.next.Next.{Next}
use Rattle.wind_machine.specs.declared.next.Next.TheVariants.{Deliver, Come, Arrive, Routine, Act, Load, Jump, Over}
use Rattle.wind_machine.specs.declared.phase.Phase.{Phase}
use Rattle.wind_machine.specs.declared.phase.Phase.TheVariants as phases
use Rattle.wind_machine.proofs.Asking.{as_task, asks_at_gate, own_gate}
use Rattle.wind_machine.proofs.Free.{own_found}
use Rattle.wind_machine.proofs.Order.{by_next}
use Rattle.board_trace.specs.Before.{at_of, before_step, counter_at, gate_of, gate_there, is_calling, word_of}
use Rattle.board_trace.specs.Causes.{begins_with, cause_of, target_of, word_there}
use Rattle.board_trace.specs.Level.{exception_told}
use Rattle.board_trace.specs.Traps.{cause_by, exception_by, trap_at, trap_of, world_at_step}
use Rattle.board_trace.specs.declared.cause.Cause.{Cause}
use Rattle.board_trace.specs.declared.cause.Cause.TheVariants as causes
use Rattle.board_trace.specs.declared.happening.Happening.TheVariants as told

-- ---- the text that reports a trap
begins : (word rest : List ℕ) → begins_with word (word ++ rest) ≡ true
begins word rest =
    ap₂ (λ a b. a && b)
    (le-leb (length word) (length (word ++ rest)) (omega (arith, length-append word rest)))
    ((bytes_eq-Decides (take (length word) (word ++ rest)) word).1 (take-append_seam word rest))

begins_not : (word text : List ℕ) → bytes_eq (take (length word) text) word ≡ false → begins_with word text ≡ false
begins_not word text other =
    ap (λ b. nat_le (length word) (length text) && b) other ∙ elim (nat_le (length word) (length text)) as (λ b. (b && false) ≡ false) [ true ↦ refl | false ↦ refl ]

-- a report of a trap, up to the name of who causes it
abbrev pub head_text : Trap → List ℕ
head_text trap = codes "\nexception " ++ kind_text trap ++ codes " in "

-- one test after another, each for one word; none of them for a system call
abbrev cause_by_tests : Bool → Bool → Bool → Bool → ℕ → Option ℕ → Option ℕ → Cause
cause_by_tests access alignment illegal trap at word target =
    if access then causes.Access (unwrap_or target at)
    else if alignment then causes.Alignment (unwrap_or target at)
    else if illegal then causes.Illegal (unwrap_or word 0)
    else if trap then causes.Trap
    else causes.SystemCall

module _ (rest : List ℕ) (at : ℕ) (word target : Option ℕ) where
  no_access : (text : List ℕ) → bytes_eq (take 17 text) (codes "\nexception access") ≡ false → begins_with (codes "\nexception access") text ≡ false
  no_access text other = begins_not (codes "\nexception access") text other

  no_alignment : (text : List ℕ) → bytes_eq (take 20 text) (codes "\nexception alignment") ≡ false → begins_with (codes "\nexception alignment") text ≡ false
  no_alignment text other = begins_not (codes "\nexception alignment") text other

  no_illegal : (text : List ℕ) → bytes_eq (take 18 text) (codes "\nexception illegal") ≡ false → begins_with (codes "\nexception illegal") text ≡ false
  no_illegal text other = begins_not (codes "\nexception illegal") text other

  no_trap : (text : List ℕ) → bytes_eq (take 15 text) (codes "\nexception trap") ≡ false → begins_with (codes "\nexception trap") text ≡ false
  no_trap text other = begins_not (codes "\nexception trap") text other

  cause_read : (trap : Trap) → cause_of (head_text trap ++ rest) at word target ≡ cause_by trap at word target
  cause_read traps.Access =
      let text = head_text traps.Access ++ rest in
      ap (λ a. cause_by_tests a (begins_with (codes "\nexception alignment") text) (begins_with (codes "\nexception illegal") text) (begins_with (codes "\nexception trap") text) at word target)
      (begins (codes "\nexception access") (codes " in " ++ rest))
  cause_read traps.Align =
      let text = head_text traps.Align ++ rest in
      ap₂ (λ a b. cause_by_tests a b (begins_with (codes "\nexception illegal") text) (begins_with (codes "\nexception trap") text) at word target)
      (no_access text refl) (begins (codes "\nexception alignment") (codes " in " ++ rest))
  cause_read traps.Illegal =
      let text = head_text traps.Illegal ++ rest in
      ap₂ (λ a b. cause_by_tests a b (begins_with (codes "\nexception illegal") text) (begins_with (codes "\nexception trap") text) at word target)
      (no_access text refl) (no_alignment text refl)
      ∙ ap (λ c. cause_by_tests false false c (begins_with (codes "\nexception trap") text) at word target) (begins (codes "\nexception illegal") (codes " in " ++ rest))
  cause_read traps.TrapInsn =
      let text = head_text traps.TrapInsn ++ rest in
      ap₂ (λ a b. cause_by_tests a b (begins_with (codes "\nexception illegal") text) (begins_with (codes "\nexception trap") text) at word target)
      (no_access text refl) (no_alignment text refl)
      ∙ ap₂ (λ c d. cause_by_tests false false c d at word target) (no_illegal text refl) (begins (codes "\nexception trap") (codes " in " ++ rest))
  cause_read traps.Sysc =
      let text = head_text traps.Sysc ++ rest in
      ap₂ (λ a b. cause_by_tests a b (begins_with (codes "\nexception illegal") text) (begins_with (codes "\nexception trap") text) at word target)
      (no_access text refl) (no_alignment text refl)
      ∙ ap₂ (λ c d. cause_by_tests false false c d at word target) (no_illegal text refl) (no_trap text refl)

-- a report begins so
pub record Reports (trap : Trap) (text : List ℕ) : Type 0 where
  pub rest : List ℕ
  pub is : text ≡ head_text trap ++ rest

reported_cause : (trap : Trap) (text : List ℕ) (at : ℕ) (word target : Option ℕ) → Reports trap text → cause_of text at word target ≡ cause_by trap at word target
reported_cause trap text at word target r = ap (λ bytes. cause_of bytes at word target) r.is ∙ cause_read r.rest at word target trap

task_report : (trap : Trap) (o : Option Task) (t : Task) → o ≡ Some t → Reports trap (trap_text trap o)
unfolding exception_text cause_text
task_report trap o t is = record {
  rest = t.name ++ place_text t.id t.regs.pc;
  is = ap (trap_text trap) is ∙ append_assoc (head_text trap) t.name (place_text t.id t.regs.pc);
}

routine_report : (trap : Trap) (at : ℕ) → Reports trap (routine_text trap at)
unfolding routine_text cause_text
routine_report trap at = record {
  rest = codes "interrupt" ++ level_text at;
  is = append_assoc (head_text trap) (codes "interrupt") (level_text at);
}

-- ---- what a trap writes
abbrev trapped_in_call : Trap → WorldState → ℕ → Part
trapped_in_call trap w who = part_of at_prompt (writing (with_kern w (aborted w.kern)) (trap_text trap (task_of w.kern.tasks who)))

abbrev trapped_alone : Trap → ShellState → WorldState → ℕ → Part
trapped_alone trap shell w who = part_of shell (writing (with_kern w (suspend w.kern who)) (trap_text trap (task_of w.kern.tasks who)))

-- a task lives
record Living (w : WorldState) (who : ℕ) : Type 0 where
  task : Task
  is : task_of w.kern.tasks who ≡ Some task

trap_reports : (trap : Trap) (shell : ShellState) (w : WorldState) (who : Actor) → w.output ≡ [] → ((id : ℕ) → who ≡ by_task id → Living w id) → Reports trap (trapped trap shell w who).world.output
trap_reports trap shell w (by_task who) empty lives =
    let living = lives who refl in
    let wrote = task_report trap (task_of w.kern.tasks who) living.task living.is in
    record {
      rest = wrote.rest;
      is = elim (eqb who shell_id) as (λ b. (cond b (trapped_in_call trap w who) (trapped_alone trap shell w who)).world.output ≡ head_text trap ++ wrote.rest) [
        | true ↦ ap (λ bytes. bytes ++ trap_text trap (task_of w.kern.tasks who)) empty ∙ wrote.is
        | false ↦ ap (λ bytes. bytes ++ trap_text trap (task_of w.kern.tasks who)) empty ∙ wrote.is
      ];
    }
trap_reports trap shell w Interrupt empty lives =
    let wrote = routine_report trap (regs_of w Interrupt).pc in
    record { rest = wrote.rest; is = ap (λ bytes. bytes ++ routine_text trap (regs_of w Interrupt).pc) empty ∙ wrote.is }

-- ---- a word that traps
some_is : {A : Type 0} (a b : A) → Some a ≡ Some b → a ≡ b
some_is a b e = cc

outcome_traps : (x : Outcome BusState) (shell : ShellState) (w : WorldState) (who : Actor) (trap : Trap) → trap_of x ≡ Some trap → executed x shell w who ≡ trapped trap shell w who
outcome_traps (Done regs bus) shell w who trap e = absurd (cc)
outcome_traps (Trapped other) shell w who trap e = ap (λ x. trapped x shell w who) (some_is other trap e)

word_traps : (word : Option ℕ) (shell : ShellState) (w : WorldState) (who : Actor) (trap : Trap) → trap_at word w who ≡ Some trap → word_part word shell w who ≡ trapped trap shell w who
word_traps None shell w who trap e = ap (λ x. trapped x shell w who) (some_is traps.Access trap e)
word_traps (Some word) shell w who trap e = outcome_traps (exec_of board_meaning (regs_of w who) word (bus_of w)) shell w who trap e

-- ---- the step
-- the task or routine is where it was, at the beginning of its step
same_regs : (s : State) (who : Actor) → regs_of (world_at_step s who) who ≡ regs_of s.world who
same_regs s (by_task who) = ap (λ o. unwrap_or (option_map (λ t. t.regs) o) no_regs) (own_found s.world.kern.tasks who)
same_regs s Interrupt = refl

same_gate : (s : State) (who : Actor) → gate_under (world_at_step s who) who ≡ gate_under s.world who
same_gate s (by_task who) = own_gate s.world who
same_gate s Interrupt = refl

same_bus : (s : State) (who : Actor) → bus_of (world_at_step s who) ≡ bus_of s.world
same_bus s (by_task who) = refl
same_bus s Interrupt = refl

nothing_written : (s : State) (who : Actor) → (world_at_step s who).output ≡ []
nothing_written s (by_task who) = refl
nothing_written s Interrupt = refl

-- the running task lives
runs_living : (s : State) (who : ℕ) (t : Task) → Good s → running s.world.kern ≡ Some t → t.id ≡ who → Living s.world who
runs_living s who t g runs own =
    let is = g.kept.world.kern in
    let P : ℕ → Type 0 = λ id. task_of s.world.kern.tasks id ≡ Some t in
    record { task = t; is = subst P own (found_in task_id s.world.kern.tasks t is.rising (runner_may s.world.kern is t runs).lives) }

-- so does who makes the step, if it is a task
living : (s : State) (who : ℕ) → Good s → stepping s ≡ Some (by_task who) → Living s.world who
living s who g = by_next s (λ n. actor_of n ≡ Some (by_task who) → Living s.world who) (record {
  deliver = λ i due q. absurd (cc);
  come = λ held e due q. absurd (cc);
  arrive = λ held quiet due q. absurd (cc);
  routine = λ nothing active q. absurd (cc);
  act = λ left t runs none q. let own : t.id ≡ who = cc in runs_living s who t g runs own;
  load = λ left t runs own name found q. let same : shell_id ≡ who = cc in runs_living s who t g runs (own ∙ same);
  jump = λ left nobody e there q. absurd (cc);
  over = λ left nobody none q. absurd (cc);
})

living_at_step : (s : State) (who : Actor) (id : ℕ) → Good s → stepping s ≡ Some who → who ≡ by_task id → Living (world_at_step s who) id
living_at_step s who id g comes is =
    let there = living s id g (comes ∙ ap (λ (a : Actor). Some a) is) in
    subst (λ (a : Actor). Living (world_at_step s a) id) (sym is) (record { task = there.task; is = own_found s.world.kern.tasks id ∙ there.is })

-- the address and the word of the step
module _ (s : State) (who : Actor) (step : IsInstructionOf who s) where
  calling : (b : Bool) (p : Phase) → (b ≡ true → p ≡ phases.Call) → (not b || is_calling p) ≡ true
  calling true p h = ap is_calling (h refl)
  calling false p h = refl

  pub at_is : at_of s ≡ Some (regs_of s.world who).pc
  at_is = ap (counter_at s.shell.phase s.world) step.comes ∙ ap (λ b. if b then Some (regs_of s.world who).pc else None) (calling (is_shell who) s.shell.phase step.in_call)

  pub gate_is : gate_of s ≡ None
  gate_is = ap (gate_there s.world) at_is ∙ step.no_gate

  word_is : word_of s ≡ fetched (bus_of s.world) (regs_of s.world who).pc
  word_is = ap₂ (word_there s.world) at_is gate_is

  executes : (shell : ShellState) → actor_part shell (world_at_step s who) who ≡ word_part (word_of s) shell (world_at_step s who) who
  unfolding actor_part
  executes shell =
      let w = world_at_step s who in
      ap (λ g. part_at g shell w who) (same_gate s who ∙ step.no_gate)
      ∙ ap (λ o. word_part o shell w who) (ap₂ (λ (b : BusState) (r : Regs). fetched b r.pc) (same_bus s who) (same_regs s who) ∙ sym word_is)

-- what the step of a task or routine leaves written
abbrev written_by : State → Actor → List ℕ
written_by s who = (actor_part s.shell (world_at_step s who) who).world.output

load_needs : (s : State) (name : List ℕ) → file_of (next s) ≡ Some name → file_asked s ≡ Some name
unfolding file_asked
load_needs s name e = e

after_is : (said : FileSaid) (s t : State) (who : Actor) → IsInstructionOf who s → (n : Next) → n ≡ next s → option_map settled_state (state_after said s n) ≡ Some t → t.world.output ≡ written_by s who
after_is said s t who step (Act id) is e =
    let same : by_task id ≡ who = some_is (by_task id) who (ap actor_of is ∙ step.comes) in
    let calls : IsOnProcessor s.shell.phase (by_task id) = λ own. step.in_call (ap is_shell (sym same) ∙ ap (λ i. eqb i shell_id) own) in
    ap (λ (u : State). u.world.output) (sym (some_is (settled_state (step_of s id)) t e))
    ∙ ap (λ (u : State). u.world.output) (as_task s id calls)
    ∙ ap (written_by s) same
after_is said s t who step Routine is e =
    let same : Interrupt ≡ who = some_is Interrupt who (ap actor_of is ∙ step.comes) in
    ap (λ (u : State). u.world.output) (sym (some_is (settled_state (routine_step s)) t e)) ∙ ap (written_by s) same
after_is said s t who step (Load name) is e =
    let needs : file_asked s ≡ Some name = load_needs s name (ap file_of (sym is)) in
    let none : file_asked s ≡ None = asks_at_gate s who step.comes step.no_gate in
    absurd (cc)
after_is said s t who step (Deliver i) is e = let both : None ≡ Some who = ap actor_of is ∙ step.comes in absurd (cc)
after_is said s t who step (Come event) is e = let both : None ≡ Some who = ap actor_of is ∙ step.comes in absurd (cc)
after_is said s t who step Arrive is e = let both : None ≡ Some who = ap actor_of is ∙ step.comes in absurd (cc)
after_is said s t who step (Jump time) is e = let both : None ≡ Some who = ap actor_of is ∙ step.comes in absurd (cc)
after_is said s t who step Over is e = let both : None ≡ Some who = ap actor_of is ∙ step.comes in absurd (cc)

-- what the step writes is what its word leaves
pub wrote : (said : FileSaid) (s t : State) (who : Actor) → IsInstructionOf who s → machine_step said s ≡ Some t → t.world.output ≡ (word_part (word_of s) s.shell (world_at_step s who) who).world.output
unfolding machine_step
wrote said s t who step made = after_is said s t who step (next s) refl made ∙ ap (λ (p : Part). p.world.output) (executes s who step s.shell)

-- if it traps, it writes the report of its trap
pub trap_reported : (said : FileSaid) (s t : State) (who : Actor) (trap : Trap) → Good s → IsInstructionOf who s → machine_step said s ≡ Some t → trap_at (word_of s) (world_at_step s who) who ≡ Some trap → Reports trap t.world.output
trap_reported said s t who trap good step made traps_so =
    let w = world_at_step s who in
    let reports = trap_reports trap s.shell w who (nothing_written s who) (λ id is. living_at_step s who id good step.comes is) in
    record {
      rest = reports.rest;
      is = wrote said s t who step made ∙ ap (λ (p : Part). p.world.output) (word_traps (word_of s) s.shell w who trap traps_so) ∙ reports.is;
    }

-- the line tells the exception of that trap
pub trap_told : (s : State) (who : Actor) (trap : Trap) (written : List ℕ) → IsInstructionOf who s → Reports trap written → exception_told (before_step s) written (stepping s) (at_of s) ≡ exception_by s who (Some trap)
trap_told s who trap written step reports =
    let pc = (regs_of s.world who).pc in
    let word = word_of s in
    ap₂ (exception_told (before_step s) written) step.comes (at_is s who step)
    ∙ ap (λ a. told.Exception who pc (cause_of written pc word (target_of s.world a word)) ∷ []) step.comes
    ∙ ap (λ x. told.Exception who pc x ∷ []) (reported_cause trap written pc word (target_of s.world (Some who) word) reports)

-- if it doesn't trap, it writes nothing
done_silent : (x : Outcome BusState) (shell : ShellState) (w : WorldState) (who : Actor) → w.output ≡ [] → trap_of x ≡ None → (executed x shell w who).world.output ≡ []
done_silent (Done regs bus) shell w (by_task id) empty e = empty
done_silent (Done regs bus) shell w Interrupt empty e = empty
done_silent (Trapped trap) shell w who empty e = absurd (cc)

word_silent : (word : Option ℕ) (shell : ShellState) (w : WorldState) (who : Actor) → w.output ≡ [] → trap_at word w who ≡ None → (word_part word shell w who).world.output ≡ []
word_silent None shell w who empty e = absurd (cc)
word_silent (Some word) shell w who empty e = done_silent (exec_of board_meaning (regs_of w who) word (bus_of w)) shell w who empty e

pub none_silent : (said : FileSaid) (s t : State) (who : Actor) → IsInstructionOf who s → machine_step said s ≡ Some t → trap_at (word_of s) (world_at_step s who) who ≡ None → t.world.output ≡ []
none_silent said s t who step made none = wrote said s t who step made ∙ word_silent (word_of s) s.shell (world_at_step s who) who (nothing_written s who) none
