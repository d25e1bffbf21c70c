-- The spans among the objects of a run, and who ends its waits.
use Rattle.std.proofs.Common.{◌≡◌, ℕ, zero, suc, ◌+◌, ◌<◌, ◌≤◌, Bool, true, false, cond, leb, List, [], ◌∷◌, ◌++◌, Option, None, Some, refl, sym, ap, ap₂, ◌∙◌, append_assoc, arith}
use Rattle.std.specs.Prelude.{◌&&◌, IsSome, codes, if◌then◌else◌, nat_lt}
use Rattle.std.specs.List.{All, Contains, filter, flat_map, list_any}
use Rattle.std.proofs.lemmas.Bool.{leb-false, lt-leb}
use Rattle.std.proofs.lemmas.Grind.{flat_map-append}
use Rattle.std.proofs.lemmas.List.{append-nil}
use Rattle.std.proofs.lemmas.List.Elements.{All-append, All-cons, All-contains_itself, All-head, All-nil, All-tail, All-weaker, filter-append}
use Rattle.kernel_world.specs.declared.actor.Actor.{Actor}
use Rattle.wind_machine.specs.Laws.{CountLaw}
use Rattle.wind_machine.specs.Machine.{machine_step}
use Rattle.wind_machine.specs.State.{State}
use Rattle.wind_machine.specs.Run.{Answers, after}
use Rattle.board_changes.specs.Spans.{SpanState, all_ended, closed}
use Rattle.board_changes.specs.declared.spans.Span.{Span}
use Rattle.board_changes.specs.declared.view.TaskView.{TaskView}
use Rattle.board_trace.specs.Before.{before_step}
use Rattle.board_trace.specs.Runs.{Line, step_lines}
use Rattle.board_trace.specs.Snapshots.{snapshot_of}
use Rattle.board_trace.specs.Steps.{happenings, is_instruction}
use Rattle.board_trace.specs.Subjects.{subject_actor}
use Rattle.board_trace.specs.declared.happening.Happening.{Happening}
use Rattle.board_trace.specs.declared.moment.BeforeStep.{BeforeStep}
use Rattle.board_trace.specs.declared.who.Subject.{Subject}
use Rattle.trace_text.specs.Pages.{is_instructions}
use Rattle.trace_json.specs.Chrome.{TraceObject, FlowFinish, FlowStart, Instant, QueueMessages, ReadyTasks, RoutineSpan, TaskSpan, ThreadName, instant_objects, name_objects, opening_objects, spawned_task, task_objects, thread_objects}
use Rattle.trace_json.specs.declared.members.EndedWait.{EndedWait}
use Rattle.trace_session.specs.ChartLaws.{ChartLaw, EndsWait, IsGiven, span_in, spans_in}
use Rattle.trace_session.specs.Choice.{ChoiceState, chosen, is_chosen, is_step, is_up_to}
use Rattle.trace_session.specs.Chrome.{chart_after, chosen_objects, chosen_wait, ended_in, first_objects, flows_after, flows_by, flows_in, going_on, left_objects, left_spans, level_after, level_by, level_objects, line_objects, next_number, numbered, objects_after, objects_of, span_objects, step_flows, step_objects, tells_level, tells_span, wait_objects, wait_of}
use Rattle.trace_session.specs.Counters.{CountsState, changed_objects, counter_objects, counters_in, counters_outside, counts_in, deleted_objects, first_counters, is_same_count, no_counts, queue_objects, ready_objects, stays_or_is_empty, step_counters, tells_counter, was_number}
use Rattle.trace_session.specs.Spans.{looked_at, no_spans, observed_in, opening_spans, part_after, part_of}
use Rattle.trace_session.specs.declared.choice.Kind.TheVariants as kinds
use Rattle.trace_session.specs.declared.numbers.QueueCount.{QueueCount}
use Rattle.trace_session.proofs.Parting.{counted, up_to_less}

-- ---- objects of which something holds
module _ (P : TraceObject → Type 0) where
  each_all : {X : Type 0} (f : X → List TraceObject) → ((x : X) → All P (f x)) → (xs : List X) → All P (flat_map f xs)
  each_all f all [] = All-nil P
  each_all f all (x ∷ xs) = All-append P (f x) (flat_map f xs) (all x) (each_all f all xs)

  if_all : (b : Bool) (xs ys : List TraceObject) → All P xs → All P ys → All P (if b then xs else ys)
  if_all true xs ys first other = first
  if_all false xs ys first other = other

  one_all : (o : TraceObject) → P o → All P (o ∷ [])
  one_all o holds = All-cons P o [] holds (All-nil P)

  -- it holds of names and instants
  module _ (name : (thread : ℕ) (n : List ℕ) → P (ThreadName thread n)) where
    threads_all : (who : Option ℕ) (n : List ℕ) → All P (thread_objects who n)
    threads_all None n = All-nil P
    threads_all (Some who) n = one_all (ThreadName who n) (name who n)

    opening_all : (tasks : List TaskView) → All P (opening_objects tasks)
    opening_all tasks =
        All-append P (ThreadName 0 (codes "board") ∷ []) (flat_map task_objects tasks) (one_all (ThreadName 0 (codes "board")) (name 0 (codes "board")))
        (each_all task_objects (λ t. one_all (ThreadName t.id t.name) (name t.id t.name)) tasks)

    module _ (instant : (time step : ℕ) (h : Happening) → P (Instant time step h)) where
      line_all : (c : ChoiceState) (l : Line) → All P (line_objects c l)
      line_all c l =
          All-append P (name_objects l.what l.name) (chosen_objects c l) (threads_all (spawned_task l.what) l.name)
          (if_all (is_chosen c l) (instant_objects l.time l.step l.what) []
          (if_all (is_instructions l.what) [] (Instant l.time l.step l.what ∷ []) (All-nil P) (one_all (Instant l.time l.step l.what) (instant l.time l.step l.what))) (All-nil P))

  -- of spans
  module _ (span : (x : Span) → P (TaskSpan x)) where
    spans_all : (c : ChoiceState) (xs : List Span) → All P (flat_map (span_objects c) xs)
    spans_all c xs = each_all (span_objects c) (λ x. if_all (tells_span c x) (TaskSpan x ∷ []) [] (one_all (TaskSpan x) (span x)) (All-nil P)) xs

  -- of the spans of the interrupt level
  module _ (routine : (from to : ℕ) → P (RoutineSpan from to)) where
    level_all : (c : ChoiceState) (since later : Option ℕ) (time : ℕ) → All P (level_objects c since later time)
    level_all c None later time = All-nil P
    level_all c (Some from) None time = if_all (nat_lt from time && tells_level c) (RoutineSpan from time ∷ []) [] (one_all (RoutineSpan from time) (routine from time)) (All-nil P)
    level_all c (Some from) (Some since) time = All-nil P

  -- and of counters
  module _ (ready : (time n : ℕ) → P (ReadyTasks time n)) (messages : (time queue n : ℕ) → P (QueueMessages time queue n)) where
    ready_all : (time : ℕ) (before after : Option ℕ) → All P (ready_objects time before after)
    ready_all time before None = All-nil P
    ready_all time before (Some n) = if_all (was_number before n) [] (ReadyTasks time n ∷ []) (All-nil P) (one_all (ReadyTasks time n) (ready time n))

    changed_all : (time : ℕ) (before : List QueueCount) (q : QueueCount) → All P (changed_objects time before q)
    changed_all time before q =
        if_all (list_any (λ p. is_same_count p q) before) [] (QueueMessages time q.queue q.messages ∷ []) (All-nil P) (one_all (QueueMessages time q.queue q.messages) (messages time q.queue q.messages))

    deleted_all : (time : ℕ) (after : List QueueCount) (p : QueueCount) → All P (deleted_objects time after p)
    deleted_all time after p =
        if_all (stays_or_is_empty after p) [] (QueueMessages time p.queue 0 ∷ []) (All-nil P) (one_all (QueueMessages time p.queue 0) (messages time p.queue 0))

    counters_all : (c : ChoiceState) (time : ℕ) (before after : CountsState) → All P (counter_objects c time before after)
    counters_all c time before after =
        All-append P (if tells_counter c kinds.Runs then ready_objects time before.ready after.ready else []) (if tells_counter c kinds.Messages then queue_objects time before.queues after.queues else [])
        (if_all (tells_counter c kinds.Runs) (ready_objects time before.ready after.ready) [] (ready_all time before.ready after.ready) (All-nil P))
        (if_all (tells_counter c kinds.Messages) (queue_objects time before.queues after.queues) []
        (All-append P (flat_map (changed_objects time before.queues) after.queues) (flat_map (deleted_objects time after.queues) before.queues)
        (each_all (changed_objects time before.queues) (changed_all time before.queues) after.queues)
        (each_all (deleted_objects time after.queues) (deleted_all time after.queues) before.queues)) (All-nil P))

    step_counters_all : (c : ChoiceState) (b : BeforeStep) (before : CountsState) (t : State) → All P (step_counters c b before t)
    step_counters_all c b before t =
        if_all (is_step c b.step) (counters_in c b before t) (counters_outside c b t)
        (if_all (is_instruction b t.world.output) [] (counter_objects c t.time before (counts_in t)) (All-nil P) (counters_all c t.time before (counts_in t)))
        (if_all (is_step c (b.step + 1)) (counter_objects c t.time no_counts (counts_in t)) [] (counters_all c t.time no_counts (counts_in t)) (All-nil P))

    first_all : ((thread : ℕ) (n : List ℕ) → P (ThreadName thread n)) → (c : ChoiceState) (s : State) → All P (first_objects c s)
    first_all name c s =
        All-append P (opening_objects (snapshot_of s.world).tasks) (first_counters c s) (opening_all name (snapshot_of s.world).tasks)
        (if_all (is_step c (s.steps + 1)) (counter_objects c s.time no_counts (counts_in s)) [] (counters_all c s.time no_counts (counts_in s)) (All-nil P))

-- ---- objects without spans of tasks
abbrev the_none : List Span
the_none = []

spans_both : (xs ys : List TraceObject) → spans_in (xs ++ ys) ≡ spans_in xs ++ spans_in ys
spans_both xs ys = flat_map-append span_in xs ys

abbrev HasNoSpan : TraceObject → Type 0
HasNoSpan o = span_in o ≡ the_none

no_spans_in : (xs : List TraceObject) → All HasNoSpan xs → spans_in xs ≡ the_none
no_spans_in [] none = refl
no_spans_in (x ∷ xs) none = ap₂ (λ a b. a ++ b) (All-head HasNoSpan x xs none) (no_spans_in xs (All-tail HasNoSpan x xs none))

flow_none : (giver : Subject) (wait : Option EndedWait) (n from to : ℕ) → All HasNoSpan (wait_objects giver wait n from to)
flow_none giver None n from to = All-nil HasNoSpan
flow_none giver (Some wait) n from to =
    All-cons HasNoSpan (FlowStart (next_number n) from wait.object giver) (FlowFinish (next_number n) to wait.object wait.waiter ∷ []) refl
    (one_all HasNoSpan (FlowFinish (next_number n) to wait.object wait.waiter) refl)

flows_none : (c : ChoiceState) (giver : Subject) (b : BeforeStep) (to : ℕ) (hs : List Happening) (n : ℕ) → All HasNoSpan (flows_in c giver b to hs n)
flows_none c giver b to [] n = All-nil HasNoSpan
flows_none c giver b to (h ∷ hs) n =
    All-append HasNoSpan (wait_objects giver (chosen_wait c b.step h) n b.time to) (flows_in c giver b to hs (numbered (chosen_wait c b.step h) n))
    (flow_none giver (chosen_wait c b.step h) n b.time to) (flows_none c giver b to hs (numbered (chosen_wait c b.step h) n))

step_flows_none : (c : ChoiceState) (who : Option Actor) (b : BeforeStep) (to : ℕ) (hs : List Happening) (n : ℕ) → All HasNoSpan (flows_by c who b to hs n)
step_flows_none c None b to hs n = All-nil HasNoSpan
step_flows_none c (Some who) b to hs n = flows_none c (subject_actor who) b to hs n

level_none : (c : ChoiceState) (since later : Option ℕ) (time : ℕ) → spans_in (level_objects c since later time) ≡ the_none
level_none c since later time = no_spans_in (level_objects c since later time) (level_all HasNoSpan (λ from to. refl) c since later time)

first_none : (c : ChoiceState) (s : State) → spans_in (first_objects c s) ≡ the_none
first_none c s = no_spans_in (first_objects c s) (first_all HasNoSpan (λ time n. refl) (λ time queue n. refl) (λ thread n. refl) c s)

-- ---- spans
one_told : (b : Bool) (span : Span) (rest : List Span) → spans_in (if b then TaskSpan span ∷ [] else []) ++ rest ≡ cond b (span ∷ rest) rest
one_told true span rest = refl
one_told false span rest = refl

spans_told : (c : ChoiceState) (spans : List Span) → spans_in (flat_map (span_objects c) spans) ≡ filter (tells_span c) spans
spans_told c [] = refl
spans_told c (x ∷ xs) =
    spans_both (span_objects c x) (flat_map (span_objects c) xs)
    ∙ ap (λ rest. spans_in (span_objects c x) ++ rest) (spans_told c xs)
    ∙ one_told (tells_span c x) x (filter (tells_span c) xs)

-- the spans of a step are those that end with it
step_spans : (c : ChoiceState) (said : Answers) (s : State) (k : ℕ)
    → spans_in (step_objects c (said k) (chart_after c said s k) (after said s k) (after said s (suc k))) ≡ filter (tells_span c) (ended_in c (part_after c said s k) (after said s k) (after said s (suc k)))
step_spans c said s k =
    let u = after said s k in
    let t = after said s (suc k) in
    let lines = flat_map (line_objects c) (step_lines (said k) u t) in
    let flows = step_flows c (before_step u) t.time (happenings (said k) u t) (flows_after c said s k) in
    let spans = flat_map (span_objects c) (ended_in c (part_after c said s k) u t) in
    let level = level_objects c (level_after c said s k) (level_by c (level_after c said s k) t) t.time in
    let counters = step_counters c (before_step u) (counts_in u) t in
    spans_both lines (flows ++ ((spans ++ level) ++ counters))
    ∙ ap₂ (λ a b. a ++ b) (no_spans_in lines (each_all HasNoSpan (line_objects c) (line_all HasNoSpan (λ thread n. refl) (λ time step h. refl) c) (step_lines (said k) u t))) (spans_both flows ((spans ++ level) ++ counters))
    ∙ ap₂ (λ a b. a ++ b) (no_spans_in flows (step_flows_none c (before_step u).actor (before_step u) t.time (happenings (said k) u t) (flows_after c said s k))) (spans_both (spans ++ level) counters)
    ∙ ap₂ (λ a b. a ++ b) (spans_both spans level) (no_spans_in counters (step_counters_all HasNoSpan (λ time n. refl) (λ time queue n. refl) c (before_step u) (counts_in u) t))
    ∙ append-nil (spans_in spans ++ spans_in level)
    ∙ ap₂ (λ a b. a ++ b) (spans_told c (ended_in c (part_after c said s k) u t)) (level_none c (level_after c said s k) (level_by c (level_after c said s k) t) t.time)
    ∙ append-nil (filter (tells_span c) (ended_in c (part_after c said s k) u t))

-- ---- the spans that have ended
-- those that end later come after them
more_observed : (spans : SpanState) (t : State) → (observed_in spans t).done ≡ spans.done ++ (observed_in (going_on spans) t).done
more_observed spans t = refl

more_looked : (i : Bool) (spans : SpanState) (t : State) → (if i then spans else observed_in spans t).done ≡ spans.done ++ (if i then going_on spans else observed_in (going_on spans) t).done
more_looked true spans t = sym (append-nil spans.done)
more_looked false spans t = refl

more_closed : (i : Bool) (spans : SpanState) (t : State)
    → (closed (if i then spans else observed_in spans t) t.time).done ≡ spans.done ++ (closed (if i then going_on spans else observed_in (going_on spans) t) t.time).done
more_closed true spans t = refl
more_closed false spans t = append_assoc spans.done (observed_in (going_on spans) t).done (all_ended t.time (observed_in spans t).going)

-- in a step that isn't followed by the first of the choice
more_by : (now next i : Bool) (spans : SpanState) (t : State) → (now ≡ false → next ≡ true → spans ≡ no_spans)
    → (if now then (if next then (if i then spans else observed_in spans t) else closed (if i then spans else observed_in spans t) t.time) else (if next then opening_spans t else spans)).done
    ≡ spans.done ++ (if now then (if next then (if i then going_on spans else observed_in (going_on spans) t) else closed (if i then going_on spans else observed_in (going_on spans) t) t.time) else (if next then opening_spans t else going_on spans)).done
more_by true true i spans t first = more_looked i spans t
more_by true false i spans t first = more_closed i spans t
more_by false true i spans t first = ap (λ (x : SpanState). x.done ++ (opening_spans t).done) (sym (first refl refl))
more_by false false i spans t first = sym (append-nil spans.done)

-- none has ended before the first step
first_ended : (c : ChoiceState) (s : State) (b : Bool) → filter (tells_span c) (if b then opening_spans s else no_spans).done ≡ the_none
first_ended c s true = refl
first_ended c s false = refl

and_second : (a b : Bool) → (a && b) ≡ true → b ≡ true
and_second true b e = e
and_second false b e = absurd (cc)

first_false : (a b : Bool) → b ≡ true → (a && b) ≡ false → a ≡ false
first_false true b is e = absurd (let bad : true ≡ false = sym is ∙ e in cc)
first_false false b is e = refl

module _ (law : CountLaw) (c : ChoiceState) (said : Answers) (s : State) (start : s.steps ≡ 0) where
  -- before the first step of the choice there are no spans
  unseen : (k : ℕ) → ((j : ℕ) → j ≤ k → (after said s j).steps ≡ j) → ((j : ℕ) → j ≤ k → is_step c (j + 1) ≡ false) → part_after c said s k ≡ no_spans
  unseen zero numbers none = ap (λ n. if is_step c (n + 1) then opening_spans s else no_spans) start ∙ ap (λ b. if b then opening_spans s else no_spans) (none 0 (omega arith))
  unseen (suc k) numbers none =
      let u = after said s k in
      let t = after said s (suc k) in
      let x = part_after c said s k in
      let now : is_step c (u.steps + 1) ≡ false = ap (λ n. is_step c (n + 1)) (numbers k (omega arith)) ∙ none k (omega arith) in
      let same : u.steps + 1 + 1 ≡ suc k + 1 = omega (arith, numbers k (omega arith)) in
      let next : is_step c (u.steps + 1 + 1) ≡ false = ap (is_step c) same ∙ none (suc k) (omega arith) in
      ap₂ (λ a b. if a then (if b then looked_at (before_step u) x t else closed (looked_at (before_step u) x t) t.time) else (if b then opening_spans t else x)) now next
      ∙ unseen k (λ j up. numbers j (omega (arith, up))) (λ j up. none j (omega (arith, up)))

  -- if a step is the first of the choice, none before it is one
  none_before : (n : ℕ) → is_step c n ≡ false → is_step c (n + 1) ≡ true → (j : ℕ) → j < n → is_step c (j + 1) ≡ false
  none_before n now next j below =
      let up : is_up_to c.last (n + 1) ≡ true = and_second (leb c.first (n + 1)) (is_up_to c.last (n + 1)) next in
      let early : is_up_to c.last n ≡ true = up_to_less c.last n (n + 1) (omega arith) up in
      let late : leb c.first n ≡ false = first_false (leb c.first n) (is_up_to c.last n) early now in
      let less : n < c.first = leb-false c.first n late in
      ap (λ b. b && is_up_to c.last (j + 1)) (lt-leb c.first (j + 1) (omega (arith, less, below)))

  -- the spans among the objects of the first k steps are those that have ended
  objects_spans : (k : ℕ) → ((j : ℕ) → j < k → IsSome (machine_step (said j) (after said s j))) → spans_in (objects_after c said s k) ≡ filter (tells_span c) (part_after c said s k).done
  objects_spans zero made = first_none c s ∙ sym (first_ended c s (is_step c (s.steps + 1)))
  objects_spans (suc k) made =
      let u = after said s k in
      let t = after said s (suc k) in
      let x = part_after c said s k in
      let numbers = counted law said s (suc k) start made in
      let number : u.steps ≡ k = numbers k (omega arith) in
      let before = objects_after c said s k in
      let more : (part_after c said s (suc k)).done ≡ x.done ++ ended_in c x u t =
      more_by (is_step c (u.steps + 1)) (is_step c (u.steps + 1 + 1)) (is_instruction (before_step u) t.world.output) x t
      (λ now next. unseen k (λ j up. numbers j (omega (arith, up))) (λ j up. none_before (u.steps + 1) now next j (omega (arith, up, number)))) in
      spans_both before (step_objects c (said k) (chart_after c said s k) u t)
      ∙ ap₂ (λ a b. a ++ b) (objects_spans k (λ j below. made j (omega (arith, below)))) (step_spans c said s k)
      ∙ sym (filter-append (tells_span c) x.done (ended_in c x u t))
      ∙ ap (filter (tells_span c)) (sym more)

  pub all_spans : (k : ℕ) → ((j : ℕ) → j < k → IsSome (machine_step (said j) (after said s j))) → spans_in (objects_of c said s k) ≡ filter (tells_span c) (part_of c said s k).done
  all_spans k made =
      let x = part_after c said s k in
      let t = after said s k in
      spans_both (objects_after c said s k) (left_objects c (chart_after c said s k) t.time)
      ∙ ap₂ (λ a b. a ++ b) (objects_spans k made)
      (spans_both (flat_map (span_objects c) (left_spans x t.time)) (level_objects c (level_after c said s k) None t.time)
      ∙ ap₂ (λ a b. a ++ b) (spans_told c (left_spans x t.time)) (level_none c (level_after c said s k) None t.time)
      ∙ append-nil (filter (tells_span c) (left_spans x t.time)))
      ∙ sym (filter-append (tells_span c) x.done (left_spans x t.time))

-- ---- who ends waits
-- in a step, at the beginning of a list of happenings or later
module _ (said : Answers) (s : State) (k : ℕ) (who : Actor) (makes : (before_step (after said s k)).actor ≡ Some who) where
  abbrev happened : List Happening
  happened = happenings (said k) (after said s k) (after said s (suc k))

  abbrev Given : TraceObject → Type 0
  Given = IsGiven said s (suc k)

  wait_given : (h : Happening) (to n : ℕ) (wait : Option EndedWait) → Contains happened h → (IsSome wait → wait_of h ≡ wait) → All Given (wait_objects (subject_actor who) wait n (after said s k).time to)
  wait_given h to n None in_step is = All-nil Given
  wait_given h to n (Some wait) in_step is =
      let from = (after said s k).time in
      let ends : EndsWait said s (suc k) from wait.object (subject_actor who) = record {
        j = k;
        below = omega arith;
        begins = refl;
        who = who;
        makes = makes;
        gives = refl;
        wait = wait;
        waits_for = refl;
        happening = h;
        ends = is refl;
        happens = in_step;
      } in
      All-cons Given (FlowStart (next_number n) from wait.object (subject_actor who)) (FlowFinish (next_number n) to wait.object wait.waiter ∷ []) ends
      (one_all Given (FlowFinish (next_number n) to wait.object wait.waiter) tt)

  told_or : (b : Bool) (wait : Option EndedWait) → IsSome (if b then wait else None) → wait ≡ (if b then wait else None)
  told_or true wait some = refl
  told_or false wait some = absurd (cc)

  flows_given : (c : ChoiceState) (to : ℕ) (hs : List Happening) (n : ℕ) → All (Contains happened) hs → All Given (flows_in c (subject_actor who) (before_step (after said s k)) to hs n)
  flows_given c to [] n inside = All-nil Given
  flows_given c to (h ∷ hs) n inside =
      let b = before_step (after said s k) in
      let wait = chosen_wait c b.step h in
      All-append Given (wait_objects (subject_actor who) wait n b.time to) (flows_in c (subject_actor who) b to hs (numbered wait n))
      (wait_given h to n wait (All-head (Contains happened) h hs inside) (told_or (chosen c b.step h) (wait_of h)))
      (flows_given c to hs (numbered wait n) (All-tail (Contains happened) h hs inside))

module _ (c : ChoiceState) (said : Answers) (s : State) where
  step_flows_given : (k : ℕ) (to n : ℕ) (who : Option Actor) → (before_step (after said s k)).actor ≡ who
      → All (IsGiven said s (suc k)) (flows_by c who (before_step (after said s k)) to (happenings (said k) (after said s k) (after said s (suc k))) n)
  step_flows_given k to n None makes = All-nil (IsGiven said s (suc k))
  step_flows_given k to n (Some who) makes =
      let hs = happenings (said k) (after said s k) (after said s (suc k)) in
      flows_given said s k who makes c to hs n (All-contains_itself hs)

  step_given : (k : ℕ) → All (IsGiven said s (suc k)) (step_objects c (said k) (chart_after c said s k) (after said s k) (after said s (suc k)))
  step_given k =
      let u = after said s k in
      let t = after said s (suc k) in
      let P = IsGiven said s (suc k) in
      let lines = flat_map (line_objects c) (step_lines (said k) u t) in
      let flows = step_flows c (before_step u) t.time (happenings (said k) u t) (flows_after c said s k) in
      let spans = flat_map (span_objects c) (ended_in c (part_after c said s k) u t) in
      let level = level_objects c (level_after c said s k) (level_by c (level_after c said s k) t) t.time in
      let counters = step_counters c (before_step u) (counts_in u) t in
      All-append P lines (flows ++ ((spans ++ level) ++ counters)) (each_all P (line_objects c) (line_all P (λ thread n. tt) (λ time step h. tt) c) (step_lines (said k) u t))
      (All-append P flows ((spans ++ level) ++ counters) (step_flows_given k t.time (flows_after c said s k) (before_step u).actor refl)
      (All-append P (spans ++ level) counters
      (All-append P spans level (spans_all P (λ x. tt) c (ended_in c (part_after c said s k) u t)) (level_all P (λ from to. tt) c (level_after c said s k) (level_by c (level_after c said s k) t) t.time))
      (step_counters_all P (λ time n. tt) (λ time queue n. tt) c (before_step u) (counts_in u) t)))

  -- one step more
  later_given : (k : ℕ) (o : TraceObject) → IsGiven said s k o → IsGiven said s (suc k) o
  later_given k (FlowStart number time object giver) given =
      let g : EndsWait said s k time object giver = given in
      record {
        j = g.j;
        below = omega (arith, g.below);
        begins = g.begins;
        who = g.who;
        makes = g.makes;
        gives = g.gives;
        wait = g.wait;
        waits_for = g.waits_for;
        happening = g.happening;
        ends = g.ends;
        happens = g.happens;
      }
  later_given k (ThreadName thread name) given = tt
  later_given k (TaskSpan span) given = tt
  later_given k (RoutineSpan from to) given = tt
  later_given k (Instant time step h) given = tt
  later_given k (FlowFinish number time object waiter) given = tt
  later_given k (ReadyTasks time number) given = tt
  later_given k (QueueMessages time queue number) given = tt

  after_given : (k : ℕ) → All (IsGiven said s k) (objects_after c said s k)
  after_given zero = first_all (IsGiven said s 0) (λ time n. tt) (λ time queue n. tt) (λ thread n. tt) c s
  after_given (suc k) =
      All-append (IsGiven said s (suc k)) (objects_after c said s k) (step_objects c (said k) (chart_after c said s k) (after said s k) (after said s (suc k)))
      (All-weaker (IsGiven said s k) (IsGiven said s (suc k)) (later_given k) (objects_after c said s k) (after_given k)) (step_given k)

  pub all_given : (k : ℕ) → All (IsGiven said s k) (objects_of c said s k)
  all_given k =
      let P = IsGiven said s k in
      let x = part_after c said s k in
      let time = (after said s k).time in
      All-append P (objects_after c said s k) (left_objects c (chart_after c said s k) time) (after_given k)
      (All-append P (flat_map (span_objects c) (left_spans x time)) (level_objects c (level_after c said s k) None time)
      (spans_all P (λ x. tt) c (left_spans x time)) (level_all P (λ from to. tt) c (level_after c said s k) None time))

pub chart_law_of : CountLaw → ChartLaw
chart_law_of law = record {
  spans = λ c said s k start made. all_spans law c said s start k made;
  givers = λ c said s k. all_given c said s k;
}
