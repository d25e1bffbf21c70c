-- A coverage that goes on by instructions that are made at once.
use Rattle.std.proofs.Common.{◌≡◌, ℕ, suc, ◌+◌, ◌<◌, ◌≤◌, Bool, true, false, not, ◌||◌, if◌then◌else◌, List, Option, None, Some, refl, sym, ap, ap₂, subst, ◌∙◌, arith, add-one}
use Rattle.board_bus.specs.Access.{fetched}
use Rattle.kernel_world.specs.Actors.{is_shell}
use Rattle.kernel_world.specs.State.{WorldState}
use Rattle.kernel_world.specs.declared.actor.Actor.{Actor}
use Rattle.kernel_world.specs.declared.actor.Actor.TheVariants.{Task, Interrupt}
use Rattle.wind_machine.specs.LiveLoadingSaid.{Missing}
use Rattle.wind_machine.specs.State.{State}
use Rattle.wind_machine.specs.Processor.{bus_of, regs_of}
use Rattle.wind_machine.specs.Run.{Answers, after}
use Rattle.wind_machine.specs.Silent.{IsInstructionOf, IsSilentStep, SilentLaw, SilentSteps, last_actor}
use Rattle.wind_machine.specs.declared.phase.Phase.{Phase}
use Rattle.wind_machine.specs.declared.phase.Phase.TheVariants as phases
use Rattle.board_player.specs.Bursts.{MovesOnly}
use Rattle.board_trace.specs.Before.{at_of, counter_at, gate_of, gate_there, is_calling, word_of}
use Rattle.board_trace.specs.Causes.{word_there}
use Rattle.trace_coverage.specs.Bursts.{CoversOn}
use Rattle.trace_coverage.specs.Covered.{CoverageState, with_executed}
use Rattle.trace_coverage.specs.Executed.{coverage_after, executed_after, executed_at, instruction_under, is_instruction, modules_after}
use Rattle.trace_coverage.specs.Text.{Holds}
use Rattle.trace_coverage.specs.declared.coverage.Coverage.{Coverage}
use Rattle.trace_coverage.proofs.Settled.{covered_on}

-- ---- the instruction of a silent step
-- the shell's task is on the processor in a call
calling : (b : Bool) (p : Phase) → (b ≡ true → p ≡ phases.Call) → (not b || is_calling p) ≡ true
calling true p h = ap is_calling (h refl)
calling false p h = refl

module _ (who : Actor) (s : State) (is : IsInstructionOf who s) where
  at_is : at_of s ≡ Some (regs_of s.world who).pc
  at_is =
      ap (counter_at s.shell.phase s.world) is.comes
      ∙ ap (λ b. if b then Some (regs_of s.world who).pc else None) (calling (is_shell who) s.shell.phase is.in_call)

  gate_is : gate_of s ≡ None
  gate_is = ap (gate_there s.world) at_is ∙ is.no_gate

  word_is : word_of s ≡ fetched (bus_of s.world) (regs_of s.world who).pc
  word_is = ap₂ (word_there s.world) at_is gate_is

  executes_under : executed_at s ≡ instruction_under s.world who
  executes_under = ap₂ (λ (word at : Option ℕ). if is_instruction word then at else None) word_is at_is

-- ---- silent steps
pub nothing_said : Answers
nothing_said k = Missing

some_is : (a b : Actor) → Some a ≡ Some b → a ≡ b
some_is a b e = cc

-- they are counted
pub burst_counted : SilentLaw → (u t : State) (k : ℕ) → SilentSteps k u t → t.steps ≡ u.steps + k
burst_counted law u t k steps = (law nothing_said u u t 0 k refl steps).counted

-- one is a silent step
one_made : (k : ℕ) (u t : State) → 0 < k → k ≤ 1 → SilentSteps k u t → IsSilentStep u t
one_made k u t some few steps =
    let P : ℕ → Type 0 = λ n. SilentSteps n u t in
    let one : k ≡ 1 = omega (arith, some, few) in
    let x : (v : State) × (v ≡ u) × IsSilentStep v t = subst P one steps in
    subst (λ (v : State). IsSilentStep v t) x.1 x.2

-- one more
pub one_more : (k r n : ℕ) (s u t : State) → 0 < r → r ≤ 1 → k + 1 ≡ n → SilentSteps k s u → SilentSteps r u t → SilentSteps n s t
one_more k r n s u t some few sum first second =
    let P : ℕ → Type 0 = λ m. SilentSteps m s t in
    let all : SilentSteps (suc k) s t = (u, first, one_made r u t some few second) in
    subst P (sym (add-one k) ∙ sum) all

-- the table of modules stays
same_rows : (who : Actor) (w v : WorldState) → MovesOnly who w v → v.modules.rows ≡ w.modules.rows
same_rows (Task id) w v moves = ap (λ (x : WorldState). x.modules.rows) moves.world
same_rows Interrupt w v moves = ap (λ (x : WorldState). x.modules.rows) moves.world

-- ---- the coverage after them
pub covers_none : (c : Coverage) (u : State) (k : ℕ) → k ≡ 0 → CoversOn c c u k
covers_none c u k none given said s i here holds =
    let e : i ≡ i + k = omega (arith, none) in
    subst (λ n. Holds c given (coverage_after said s n)) e holds

-- in two parts
pub covers_both : SilentLaw → (old mid new : Coverage) (u v : State) (k r n : ℕ) → k + r ≡ n → SilentSteps k u v → CoversOn old mid u k → CoversOn mid new v r → CoversOn old new u n
covers_both law old mid new u v k r n sum steps first second given said s i here holds =
    let e : i + k + r ≡ i + n = omega (arith, sum) in
    subst (λ m. Holds new given (coverage_after said s m)) e (second given said s (i + k) (law said s u v i k here steps).state (first given said s i here holds))

-- by one instruction
pub covers_one : SilentLaw → (old new : Coverage) (u t : State) (who : Actor) (at : Option ℕ) (k : ℕ) → 0 < k → k ≤ 1 → SilentSteps k u t → last_actor u.world ≡ Some who
    → MovesOnly who u.world t.world → at ≡ instruction_under u.world who → ((given : List ℕ) (c : CoverageState) → Holds old given c → Holds new given (with_executed at c)) → CoversOn old new u k
covers_one law old new u t who at k some few steps last moves at_is executes given said s i here holds =
    let one : i + k ≡ suc i = omega (arith, some, few) in
    let step = one_made k u t some few steps in
    let same : step.who ≡ who = some_is step.who who (sym step.last ∙ last) in
    let runs : IsInstructionOf who u = subst (λ (a : Actor). IsInstructionOf a u) same step.instruction in
    let address : executed_after said s i ≡ at = ap executed_at (sym here) ∙ executes_under who u runs ∙ sym at_is in
    let next : t ≡ after said s (suc i) = (law said s u t i k here steps).state ∙ ap (after said s) one in
    let table : modules_after said s (suc i) ≡ modules_after said s i =
    ap (λ (v : State). v.world.modules.rows) (sym next)
    ∙ same_rows who u.world t.world moves
    ∙ ap (λ (v : State). v.world.modules.rows) here in
    subst (λ n. Holds new given (coverage_after said s n)) (sym one)
    (subst (Holds new given) (sym (covered_on (modules_after said s) (executed_after said s) i table))
    (subst (λ (o : Option ℕ). Holds new given (with_executed o (coverage_after said s i))) (sym address) (executes given (coverage_after said s i) holds)))
