-- A silent step is one instruction: it is told in one line, which is joined with that of the instructions before it.
use Rattle.std.proofs.Common.{◌≡◌, ℕ, zero, suc, ◌+◌, Bool, true, false, not, ◌||◌, ◌&&◌, if◌then◌else◌, ◌<◌, ◌≤◌, ◌-◌, List, [], ◌∷◌, ◌++◌, map, Option, None, Some, refl, sym, ap, ap₂, ◌∙◌, arith, add-one}
use Rattle.std.specs.Prelude.{cond, is_none, is_some}
use Rattle.std.specs.List.{filter, flat_map}
use Rattle.std.specs.Option.{option_map, unwrap_or}
use Rattle.std.proofs.lemmas.List.{append-nil}
use Rattle.board_trace.specs.Subjects.{subject_actor, subject_of}
use Rattle.std.proofs.lemmas.Bool.{eq-eqb}
use Rattle.kernel_world.specs.Actors.{is_shell}
use Rattle.kernel_world.specs.declared.actor.Actor.{Actor}
use Rattle.kernel_world.specs.declared.actor.Actor.TheVariants.{Task as by_task, Interrupt}
use Rattle.wind_machine.specs.LiveLoadingSaid.{FileSaid}
use Rattle.wind_machine.specs.State.{State}
use Rattle.wind_machine.specs.Replies.{step_reply}
use Rattle.wind_machine.specs.Next.{is_active, next}
use Rattle.wind_machine.specs.Machine.{actor_of}
use Rattle.wind_machine.specs.Processor.{regs_of}
use Rattle.wind_machine.specs.Run.{Answers, after}
use Rattle.wind_machine.specs.Silent.{IsSilentStep, SilentLaw, SilentSteps, last_actor}
use Rattle.wind_machine.specs.declared.phase.Phase.{Phase}
use Rattle.wind_machine.specs.declared.phase.Phase.TheVariants as phases
use Rattle.board_trace.specs.Before.{at_of, before_step, counter_at, gate_of, gate_there, is_calling}
use Rattle.board_trace.specs.Outside.{switches}
use Rattle.board_trace.specs.Runs.{Line, line_in, step_lines, with_line, with_lines}
use Rattle.board_trace.specs.Snapshots.{after_step, snapshot_of}
use Rattle.board_trace.specs.Steps.{happenings, has_written, instruction_of, is_instruction, step_happenings}
use Rattle.board_trace.specs.declared.happening.Happening.{Happening}
use Rattle.board_trace.specs.declared.happening.Happening.TheVariants as told
use Rattle.board_trace.specs.declared.moment.BeforeStep.{BeforeStep}
use Rattle.trace_text.specs.Joining.{JoiningLaw}
use Rattle.wind_session.proofs.Continuing.{burst_counted}
use Rattle.trace_session.specs.Choice.{AreAlike, ChoiceState, chosen, chosen_in, chosen_lines, is_chosen, is_of, is_among, is_step, kind_of, with_if}
use Rattle.trace_session.specs.Chrome.{chart_after, charted, flows_after, going_on, level_after, level_by, flows_by, level_objects, line_objects, number_by, numbered, objects_after, span_objects, step_flows, step_number, step_objects, wait_objects, wait_of}
use Rattle.trace_json.specs.Chrome.{TraceObject}
use Rattle.trace_json.specs.declared.members.EndedWait.{EndedWait}
use Rattle.trace_session.specs.Counters.{counter_objects, counts_in, no_counts, step_counters}
use Rattle.trace_session.specs.Bursts.{SilentLinesLaw, instructions_line, with_instructions}
use Rattle.board_changes.specs.Spans.{SpanState, closed}
use Rattle.trace_session.specs.Spans.{looked_at, looked_by, observed_in, opening_spans, part_after}

-- ---- one silent step
abbrev the_none : List TraceObject
the_none = []

-- no other task runs
no_switch : (last : Option ℕ) → switches last last ≡ []
no_switch None = refl
no_switch (Some who) = ap (λ b. if b then [] else told.Runs who (Some who) ∷ []) (eq-eqb who who refl)

-- the shell's task is on the processor in a call
calling : (b : Bool) (p : Phase) → (b ≡ true → p ≡ phases.Call) → (not b || is_calling p) ≡ true
calling true p h = ap is_calling (h refl)
calling false p h = refl

module _ (s t : State) (step : IsSilentStep s t) where
  at_is : at_of s ≡ Some (regs_of s.world step.who).pc
  at_is =
      ap (counter_at s.shell.phase s.world) step.instruction.comes
      ∙ ap (λ b. if b then Some (regs_of s.world step.who).pc else None) (calling (is_shell step.who) s.shell.phase step.instruction.in_call)

  gate_is : gate_of s ≡ None
  gate_is = ap (gate_there s.world) at_is ∙ step.instruction.no_gate

  pub is_one_instruction : is_instruction (before_step s) t.world.output ≡ true
  is_one_instruction =
      ap (λ o. is_some o && (is_none (gate_of s) && not (has_written t.world.output))) at_is
      ∙ ap (λ o. is_none o && not (has_written t.world.output)) gate_is
      ∙ ap (λ w. not (has_written w)) step.silent

  one_happening : (said : FileSaid) → happenings said s t ≡ told.Instructions step.who 1 ∷ []
  unfolding happenings
  one_happening said =
      ap (λ b. if b then switches s.world.kern.last t.world.kern.last ++ instruction_of (actor_of (next s))
      else step_happenings (before_step s) (snapshot_of s.world) (snapshot_of t.world) (after_step (before_step s) (step_reply said s) t) t.world.output) is_one_instruction
      ∙ ap (λ l. switches s.world.kern.last l ++ instruction_of (actor_of (next s))) step.last_stays
      ∙ ap (λ l. l ++ instruction_of (actor_of (next s))) (no_switch s.world.kern.last)
      ∙ ap instruction_of step.instruction.comes

  one_line : (said : FileSaid) → step_lines said s t ≡ instructions_line s step.who 1 ∷ []
  one_line said = ap (map (line_in s t)) (one_happening said)

-- a routine is active after it exactly if one was before
same_active : (a b : Bool) (x y : Option ℕ) (who : Actor) → (if a then Some Interrupt else option_map (λ id. by_task id) x) ≡ Some who → (if b then Some Interrupt else option_map (λ id. by_task id) y) ≡ Some who → a ≡ b
same_active true true x y who p q = refl
same_active true false x None who p q = absurd (cc)
same_active true false x (Some id) who p q = absurd (cc)
same_active false true None y who p q = absurd (cc)
same_active false true (Some id) y who p q = absurd (cc)
same_active false false x y who p q = refl

active_stays : (s t : State) → IsSilentStep s t → is_active s.world ≡ is_active t.world
active_stays s t step = same_active (is_active s.world) (is_active t.world) s.world.kern.last t.world.kern.last step.who step.last step.goes_on

-- since when a routine is active, in a step of the choice or not
level_is : (a b : Bool) (since : Option ℕ) (time : ℕ) → is_some (if a then (if b then Some (unwrap_or since time) else None) else None) ≡ (a && b)
level_is true true since time = refl
level_is true false since time = refl
level_is false b since time = refl

level_kept : (a b : Bool) (since : Option ℕ) (time : ℕ) → is_some since ≡ (a && b) → (if a then (if b then Some (unwrap_or since time) else None) else None) ≡ since
level_kept true true None time same = absurd (cc)
level_kept true true (Some from) time same = refl
level_kept true false None time same = refl
level_kept true false (Some from) time same = absurd (cc)
level_kept false b None time same = refl
level_kept false b (Some from) time same = absurd (cc)

no_level : (c : ChoiceState) (since : Option ℕ) (time : ℕ) → level_objects c since since time ≡ the_none
no_level c None time = refl
no_level c (Some from) time = refl

-- a line that ends no wait has no flow
none_told : (b : Bool) (waiter : Option EndedWait) → waiter ≡ None → (if b then waiter else None) ≡ None
none_told true waiter none = none
none_told false waiter none = refl

no_flow : (c : ChoiceState) (who : Option Actor) (b : BeforeStep) (to : ℕ) (h : Happening) (n : ℕ) → wait_of h ≡ None → flows_by c who b to (h ∷ []) n ≡ the_none
no_flow c None b to h n none = refl
no_flow c (Some giver) b to h n none = ap (λ w. wait_objects (subject_actor giver) w n b.time to ++ the_none) (none_told (chosen c b.step h) (wait_of h) none)

no_number : (c : ChoiceState) (who : Option Actor) (b : BeforeStep) (h : Happening) (n : ℕ) → wait_of h ≡ None → number_by c who b (h ∷ []) n ≡ n
no_number c None b h n none = refl
no_number c (Some giver) b h n none = ap (λ w. numbered w n) (none_told (chosen c b.step h) (wait_of h) none)

-- ---- many silent steps
-- the same task or routine makes all of them
goes_on : (k : ℕ) (u t : State) (who : Actor) → last_actor u.world ≡ Some who → SilentSteps k u t → last_actor t.world ≡ Some who
goes_on zero u t who last steps = ap (λ (v : State). last_actor v.world) steps ∙ last
goes_on (suc k) u t who last steps = steps.2.goes_on ∙ sym steps.2.last ∙ goes_on k u steps.0 who last steps.1

some_is : (a b : Actor) → Some a ≡ Some b → a ≡ b
some_is a b e = cc

pub made_by : (k : ℕ) (u t : State) → SilentSteps (suc k) u t → (who : Actor) × (last_actor u.world ≡ Some who)
made_by zero u t steps = (steps.2.who, ap (λ (v : State). last_actor v.world) (sym steps.1) ∙ steps.2.last)
made_by (suc k) u t steps = made_by k u steps.0 steps.1

-- the lines with k instructions, if their line is told
abbrev with_either : Bool → ℕ → State → Actor → List Line → List Line
with_either b zero s who lines = lines
with_either b (suc n) s who lines = with_if b (instructions_line s who (suc n)) lines

without : (k : ℕ) (s : State) (who : Actor) (lines : List Line) → with_either false k s who lines ≡ lines
without zero s who lines = refl
without (suc k) s who lines = refl

as_either : (c : ChoiceState) (k : ℕ) (s : State) (who : Actor) (lines : List Line) → with_either (is_chosen c (instructions_line s who 1)) k s who lines ≡ with_instructions c k s who lines
as_either c zero s who lines = refl
as_either c (suc k) s who lines = refl

-- the line of k instructions and that of one more
joined_on : JoiningLaw → (k : ℕ) (u v : State) (who : Actor) (b : Bool) (made : List Line) → SilentSteps k u v
    → with_if b (instructions_line v who 1) (with_either b k u who made) ≡ with_if b (instructions_line u who (suc k)) made
joined_on joins k u v who false made steps = without k u who made
joined_on joins zero u v who true made same = ap (λ (x : State). with_line (instructions_line x who 1) made) same
joined_on joins (suc k) u v who true made steps =
    joins who (suc k) (instructions_line v who 1) (instructions_line u who 1) made
    ∙ ap (λ n. with_line (instructions_line u who n) made) (add-one (suc k))

-- one line that is told or not, after these
with_one : (b : Bool) (l : Line) (made : List Line) → with_lines (cond b (l ∷ []) []) made ≡ with_if b l made
with_one true l made = refl
with_one false l made = refl

module _ (law : SilentLaw) (said : Answers) (s u : State) (i : ℕ) (here : u ≡ after said s i) where
  -- the state after k of them, and after one more
  there : (k : ℕ) (v : State) → SilentSteps k u v → v ≡ after said s (i + k)
  there k v steps = (law said s u v i k here steps).state

  at_end : (k : ℕ) → i + suc k ≡ suc (i + k)
  at_end k = omega arith

  next_there : (k : ℕ) (t : State) → SilentSteps (suc k) u t → t ≡ after said s (suc (i + k))
  next_there k t steps = there (suc k) t steps ∙ ap (after said s) (at_end k)

  module _ (c : ChoiceState) (who : Actor) where
    -- an instruction in the step with this number is told
    abbrev told_at : ℕ → Bool
    told_at step = is_chosen c (record (instructions_line u who 1) { step = step })

    as_first : (k : ℕ) (v : State) → SilentSteps k u v → is_step c (u.steps + k + 1) ≡ is_step c (u.steps + 1) → told_at (v.steps + 1) ≡ told_at (u.steps + 1)
    as_first k v steps alike =
        let counted : v.steps + 1 ≡ u.steps + k + 1 = omega (arith, burst_counted law u v k steps) in
        ap (λ b. b && (is_of c.tasks (subject_of (told.Instructions who 1)) && is_among c.kinds (kind_of (told.Instructions who 1)))) (ap (is_step c) counted ∙ alike)

    lines_on : JoiningLaw → (t : State) (k : ℕ) → last_actor u.world ≡ Some who → SilentSteps k u t → AreAlike c u.steps k → chosen_lines c said s (i + k) ≡ with_either (told_at (u.steps + 1)) k u who (chosen_lines c said s i)
    lines_on joins t zero last steps alike = let end : i + 0 ≡ i = omega arith in ap (chosen_lines c said s) end
    lines_on joins t (suc k) last steps alike =
        let v = steps.0 in
        let n = i + k in
        let below : k < suc k = omega arith in
        let made = chosen_lines c said s n in
        let same : steps.2.who ≡ who = some_is steps.2.who who (sym steps.2.last ∙ goes_on k u v who last steps.1) in
        ap (chosen_lines c said s) (at_end k)
        ∙ ap₂ (λ (a b : State). with_lines (chosen_in c (said n) a b) made) (sym (there k v steps.1)) (sym (next_there k t steps))
        ∙ ap (λ l. with_lines (filter (is_chosen c) l) made) (one_line v t steps.2 (said n))
        ∙ ap (λ w. with_lines (filter (is_chosen c) (instructions_line v w 1 ∷ [])) made) same
        ∙ with_one (told_at (v.steps + 1)) (instructions_line v who 1) made
        ∙ ap (λ b. with_if b (instructions_line v who 1) made) (as_first k v steps.1 (alike k below))
        ∙ ap (with_if (told_at (u.steps + 1)) (instructions_line v who 1)) (lines_on joins v k last steps.1 (λ j h. alike j (omega (arith, h))))
        ∙ joined_on joins k u v who (told_at (u.steps + 1)) (chosen_lines c said s i) steps.1

  -- they leave the spans as they are, if the step after them is like them
  module _ (c : ChoiceState) (m : ℕ) (alike : AreAlike c u.steps m) where
    unchanged : (b : Bool) (v t : State) (part : SpanState) → is_instruction (before_step v) t.world.output ≡ true
        → (if b then (if b then looked_at (before_step v) part t else closed (looked_at (before_step v) part t) t.time) else (if b then opening_spans t else part)) ≡ part
    unchanged true v t part one = ap (λ x. if x then part else observed_in part t) one
    unchanged false v t part one = refl

    -- the next step and the one after it are like the first
    looked_same : (k : ℕ) (v t : State) (part : SpanState) → SilentSteps k u v → IsSilentStep v t → suc k ≤ m - 1 → looked_by c (before_step v) part t ≡ part
    looked_same k v t part steps step few =
        let now : v.steps + 1 ≡ u.steps + k + 1 = omega (arith, burst_counted law u v k steps) in
        let next : v.steps + 1 + 1 ≡ u.steps + suc k + 1 = omega (arith, burst_counted law u v k steps) in
        ap₂ (λ x y. if x then (if y then looked_at (before_step v) part t else closed (looked_at (before_step v) part t) t.time) else (if y then opening_spans t else part))
        (ap (is_step c) now ∙ alike k (omega (arith, few))) (ap (is_step c) next ∙ alike (suc k) (omega (arith, few)))
        ∙ unchanged (is_step c (u.steps + 1)) v t part (is_one_instruction v t step)

    pub part_on : (k : ℕ) (t : State) → SilentSteps k u t → k ≤ m - 1 → part_after c said s (i + k) ≡ part_after c said s i
    part_on zero t steps few = let end : i + 0 ≡ i = omega arith in ap (part_after c said s) end
    part_on (suc k) t steps few =
        let v = steps.0 in
        let part = part_after c said s (i + k) in
        ap (part_after c said s) (at_end k)
        ∙ ap₂ (λ (a b : State). looked_by c (before_step a) part b) (sym (there k v steps.1)) (sym (next_there k t steps))
        ∙ looked_same k v t part steps.1 steps.2 few
        ∙ part_on k v steps.1 (omega (arith, few))

    -- a routine is active as before
    settled : (k : ℕ) → is_some (level_after c said s k) ≡ (is_step c ((after said s k).steps + 1) && is_active (after said s k).world)
    settled zero = level_is (is_step c (s.steps + 1)) (is_active s.world) None s.time
    settled (suc k) = level_is (is_step c ((after said s (suc k)).steps + 1)) (is_active (after said s (suc k)).world) (level_after c said s k) (after said s (suc k)).time

    -- the step after them is like the first of them
    step_alike : (k : ℕ) (v : State) → SilentSteps k u v → k < m → is_step c (v.steps + 1) ≡ is_step c (u.steps + 1)
    step_alike k v steps few =
        let now : v.steps + 1 ≡ u.steps + k + 1 = omega (arith, burst_counted law u v k steps) in
        ap (is_step c) now ∙ alike k few

    level_same : (k : ℕ) (t : State) (steps : SilentSteps (suc k) u t) → suc k ≤ m - 1 → level_by c (level_after c said s (i + k)) t ≡ level_after c said s (i + k)
    level_same k t steps few =
        let v = steps.0 in
        let first = step_alike k v steps.1 (omega (arith, few)) in
        let later = step_alike (suc k) t steps (omega (arith, few)) in
        level_kept (is_step c (t.steps + 1)) (is_active t.world) (level_after c said s (i + k)) t.time
        (settled (i + k)
        ∙ ap (λ (x : State). is_step c (x.steps + 1) && is_active x.world) (sym (there k v steps.1))
        ∙ ap₂ (λ a b. a && b) (first ∙ sym later) (active_stays v t steps.2))

    level_on : (k : ℕ) (t : State) → SilentSteps k u t → k ≤ m - 1 → level_after c said s (i + k) ≡ level_after c said s i
    level_on zero t steps few = let end : i + 0 ≡ i = omega arith in ap (level_after c said s) end
    level_on (suc k) t steps few =
        ap (level_after c said s) (at_end k)
        ∙ ap (level_by c (level_after c said s (i + k))) (sym (next_there k t steps))
        ∙ level_same k t steps few
        ∙ level_on k steps.0 steps.1 (omega (arith, few))

    -- no flow is told
    flows_on : (k : ℕ) (t : State) → SilentSteps k u t → flows_after c said s (i + k) ≡ flows_after c said s i
    flows_on zero t steps = let end : i + 0 ≡ i = omega arith in ap (flows_after c said s) end
    flows_on (suc k) t steps =
        let v = steps.0 in
        let n = i + k in
        ap (flows_after c said s) (at_end k)
        ∙ ap₂ (λ (a b : State). step_number c (before_step a) (happenings (said n) a b) (flows_after c said s n)) (sym (there k v steps.1)) (sym (next_there k t steps))
        ∙ ap (λ hs. step_number c (before_step v) hs (flows_after c said s n)) (one_happening v t steps.2 (said n))
        ∙ no_number c (before_step v).actor (before_step v) (told.Instructions steps.2.who 1) (flows_after c said s n) refl
        ∙ flows_on k v steps.1

    pub charts_on : (k : ℕ) (t : State) → SilentSteps k u t → k ≤ m - 1 → chart_after c said s (i + k) ≡ chart_after c said s i
    charts_on k t steps few =
        ap (λ x. charted x (level_after c said s (i + k)) (flows_after c said s (i + k))) (part_on k t steps few)
        ∙ ap (λ x. charted (part_after c said s i) x (flows_after c said s (i + k))) (level_on k t steps few)
        ∙ ap (charted (part_after c said s i) (level_after c said s i)) (flows_on k t steps)

    -- and they have no objects
    quiet : (b : Bool) (xs ys : List TraceObject) → (if b then (if true then [] else xs) else (if b then ys else [])) ≡ the_none
    quiet true xs ys = refl
    quiet false xs ys = refl

    -- no counter changes
    no_counter : (k : ℕ) (v t : State) → SilentSteps k u v → IsSilentStep v t → suc k ≤ m - 1 → step_counters c (before_step v) (counts_in v) t ≡ the_none
    no_counter k v t steps step few =
        let now : v.steps + 1 ≡ u.steps + k + 1 = omega (arith, burst_counted law u v k steps) in
        let next : v.steps + 1 + 1 ≡ u.steps + suc k + 1 = omega (arith, burst_counted law u v k steps) in
        let some = counter_objects c t.time (counts_in v) (counts_in t) in
        let all = counter_objects c t.time no_counts (counts_in t) in
        ap₂ (λ x y. if x then (if is_instruction (before_step v) t.world.output then [] else some) else (if y then all else []))
        (ap (is_step c) now ∙ alike k (omega (arith, few))) (ap (is_step c) next ∙ alike (suc k) (omega (arith, few)))
        ∙ ap (λ i. if is_step c (u.steps + 1) then (if i then [] else some) else (if is_step c (u.steps + 1) then all else [])) (is_one_instruction v t step)
        ∙ quiet (is_step c (u.steps + 1)) some all

    no_object : (b : Bool) → ([] ++ (if b then [] else [])) ++ [] ≡ the_none
    no_object true = refl
    no_object false = refl

    step_none : (k : ℕ) (t : State) (said_then : FileSaid) (steps : SilentSteps (suc k) u t) → suc k ≤ m - 1 → step_objects c said_then (chart_after c said s (i + k)) steps.0 t ≡ the_none
    step_none k t said_then steps few =
        let v = steps.0 in
        let x = chart_after c said s (i + k) in
        let l = instructions_line v steps.2.who 1 in
        let h = told.Instructions steps.2.who 1 in
        let counters = step_counters c (before_step v) (counts_in v) t in
        ap₂ (λ ls hs. flat_map (line_objects c) ls ++ (step_flows c (before_step v) t.time hs x.flows ++ ((flat_map (span_objects c) (looked_by c (before_step v) (going_on x.spans) t).done ++ level_objects c x.level (level_by c x.level t) t.time) ++ counters))) (one_line v t steps.2 said_then) (one_happening v t steps.2 said_then)
        ∙ ap₂ (λ (a : SpanState) b. flat_map (line_objects c) (l ∷ []) ++ (step_flows c (before_step v) t.time (h ∷ []) x.flows ++ ((flat_map (span_objects c) a.done ++ level_objects c x.level b t.time) ++ counters))) (looked_same k v t (going_on x.spans) steps.1 steps.2 few) (level_same k t steps few)
        ∙ ap₂ (λ a b. a ++ (step_flows c (before_step v) t.time (h ∷ []) x.flows ++ (([] ++ b) ++ counters))) (no_object (is_chosen c l)) (no_level c x.level t.time)
        ∙ ap₂ (λ a b. [] ++ (a ++ (([] ++ []) ++ b))) (no_flow c (before_step v).actor (before_step v) t.time h x.flows refl) (no_counter k v t steps.1 steps.2 few)

    pub objects_on : (k : ℕ) (t : State) → SilentSteps k u t → k ≤ m - 1 → objects_after c said s (i + k) ≡ objects_after c said s i
    objects_on zero t steps few = let end : i + 0 ≡ i = omega arith in ap (objects_after c said s) end
    objects_on (suc k) t steps few =
        let v = steps.0 in
        let n = i + k in
        let x = chart_after c said s n in
        let made = objects_after c said s n in
        ap (objects_after c said s) (at_end k)
        ∙ ap₂ (λ (a b : State). made ++ step_objects c (said n) x a b) (sym (there k v steps.1)) (sym (next_there k t steps))
        ∙ ap (λ ds. made ++ ds) (step_none k t (said n) steps few)
        ∙ append-nil made
        ∙ objects_on k v steps.1 (omega (arith, few))

pub silent_lines : JoiningLaw → SilentLaw → SilentLinesLaw
silent_lines joins law c said s u t who i k here last steps alike = lines_on law said s u i here c who joins t k last steps alike ∙ as_either c k u who (chosen_lines c said s i)
