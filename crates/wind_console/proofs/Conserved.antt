-- The bytes of the console are conserved along every run of the machine.
use Rattle.std.proofs.Common.{◌≡◌, ◌≢◌, ◌⊎◌, ℕ, zero, suc, ◌≤◌, Bool, true, false, not, ◌&&◌, cond, eqb, List, [], ◌∷◌, ◌++◌, map, length, take, drop, Option, None, Some, refl, sym, ap, ap₂, ◌∙◌, subst, inl, inr, arith, append_assoc, append-nil, length-drop}
use Rattle.std.specs.Prelude.{unwrap_or, nat_lt, All}
use Rattle.std.specs.List.{fold}
use Rattle.std.specs.Option.{option_map}
use Rattle.std.proofs.lemmas.Bool.{and_parts}
use Rattle.std.proofs.lemmas.Bool.Decides.{nat_tests}
use Rattle.std.proofs.lemmas.List.{map-append, nil_from_length, take-append-drop}
use Rattle.std.proofs.lemmas.List.Elements.{All-head}
use Rattle.wind_base.specs.Limits.{longest_chunk}
use Rattle.id_table.specs.Idents.{shell_id}
use Rattle.con_line.specs.State.{ConsoleState, opening_console}
use Rattle.con_line.specs.Lines.{with_end, are_lines, has_line, first_line, line_dropped}
use Rattle.con_line.specs.Laws.{IsLine, joined}
use Rattle.con_line.specs.Fates.{Arrival, Entry, from_file, from_supply, journal_after}
use Rattle.con_line.proofs.Fates.{console_after, all_agree, part_if, part_if-append, all_bytes, all_on}
use Rattle.con_line.proofs.Kept.{by_test}
use Rattle.con_line.proofs.Splitting.{split, first_lines}
use Rattle.tick_file.specs.Schedule.{timetable_of}
use Rattle.tick_file.specs.declared.event.Event.{Event}
use Rattle.tick_file.specs.declared.event.Event.TheVariants.{Tick, Rx, Irq}
use Rattle.wind_machine.specs.LiveLoadingSaid.{FileSaid}
use Rattle.wind_machine.specs.State.{State}
use Rattle.wind_machine.specs.Good.{Good, HasItsLine}
use Rattle.wind_machine.specs.Feed.{first_end, taken_by, is_unended, supplied, chunk, after_chunk, brought}
use Rattle.wind_machine.specs.Events.{Heard, hear, heard_all, heard_from, heard_by, event_step, unreserved_world, without_next}
use Rattle.wind_machine.specs.ActorSteps.{shell_step, task_step}
use Rattle.wind_machine.specs.Task.{waits_for_console}
use Rattle.wind_machine.specs.Next.{is_open, console_is_due, next}
use Rattle.wind_machine.specs.Machine.{opening, settled_state, state_after, machine_step}
use Rattle.wind_machine.specs.Run.{Answers, after}
use Rattle.wind_machine.specs.Laws.{RunLaw}
use Rattle.wind_machine.specs.declared.next.Next.{Next}
use Rattle.wind_machine.specs.declared.next.Next.TheVariants.{Deliver, Come, Arrive, Routine, Act, Load, Jump, Over}
use Rattle.wind_machine.specs.declared.phase.Phase.{Phase}
use Rattle.wind_machine.specs.declared.phase.Phase.TheVariants as phases
use Rattle.wind_machine.proofs.Order.{in_order}
use Rattle.wind_console.specs.Journal.{file_arrivals, supplied_arrivals, arrivals_by, line_in, lines_read_by, journal, lines_read}
use Rattle.wind_console.specs.Laws.{IsConserved, ConsoleLaw}

-- ---- what arrives, as bytes
abbrev pub bytes_of : List Arrival → List ℕ
bytes_of arrivals = map (λ a. a.byte) arrivals

file_bytes : (bytes : List ℕ) → bytes_of (file_arrivals bytes) ≡ bytes
file_bytes [] = refl
file_bytes (b ∷ bytes) = ap (λ bs. b ∷ bs) (file_bytes bytes)

file_part : (bytes : List ℕ) → part_if not (file_arrivals bytes) ≡ bytes
file_part [] = refl
file_part (b ∷ bytes) = ap (λ bs. b ∷ bs) (file_part bytes)

file_supply : (bytes : List ℕ) → part_if (λ b. b) (file_arrivals bytes) ≡ []
file_supply [] = refl
file_supply (b ∷ bytes) = file_supply bytes

supply_bytes : (bytes : List ℕ) → bytes_of (supplied_arrivals bytes) ≡ bytes
supply_bytes [] = refl
supply_bytes (b ∷ bytes) = ap (λ bs. b ∷ bs) (supply_bytes bytes)

supply_part : (bytes : List ℕ) → part_if not (supplied_arrivals bytes) ≡ []
supply_part [] = refl
supply_part (b ∷ bytes) = supply_part bytes

supply_supply : (bytes : List ℕ) → part_if (λ b. b) (supplied_arrivals bytes) ≡ bytes
supply_supply [] = refl
supply_supply (b ∷ bytes) = ap (λ bs. b ∷ bs) (supply_supply bytes)

-- both, one after the other
module _ (bytes more : List ℕ) where
  both_bytes : bytes_of (file_arrivals bytes ++ supplied_arrivals more) ≡ bytes ++ more
  both_bytes = map-append (λ (a : Arrival). a.byte) (file_arrivals bytes) (supplied_arrivals more) ∙ ap₂ (λ x y. x ++ y) (file_bytes bytes) (supply_bytes more)

  both_part : part_if not (file_arrivals bytes ++ supplied_arrivals more) ≡ bytes
  both_part = part_if-append not (file_arrivals bytes) (supplied_arrivals more) ∙ ap₂ (λ x y. x ++ y) (file_part bytes) (supply_part more) ∙ append-nil bytes

  both_supply : part_if (λ b. b) (file_arrivals bytes ++ supplied_arrivals more) ≡ more
  both_supply = part_if-append (λ b. b) (file_arrivals bytes) (supplied_arrivals more) ∙ ap₂ (λ x y. x ++ y) (file_supply bytes) (supply_supply more)

-- ---- the console hears them
all_heard : (h : Heard) (arrivals : List Arrival) → (fold hear h (bytes_of arrivals)).console ≡ console_after h.console arrivals
all_heard h [] = refl
all_heard h (a ∷ more) = all_heard (hear h a.byte) more

heard_console : (s : State) (arrivals : List Arrival) (bytes : List ℕ) → bytes_of arrivals ≡ bytes → (heard_by s bytes).console ≡ console_after s.console arrivals
unfolding heard_all
heard_console s arrivals bytes e =
    let start : Heard = heard_from s.console s.shell s.world.kern [] in
    ap (λ bs. (fold hear start bs).console) (sym e) ∙ all_heard start arrivals

-- ---- the shell reads a line
joined-append : (ls ms : List (List ℕ)) → joined (ls ++ ms) ≡ joined ls ++ joined ms
joined-append [] ms = refl
joined-append (l ∷ ls) ms = ap (λ bs. with_end l ++ bs) (joined-append ls ms) ∙ sym (append_assoc (with_end l) (joined ls) (joined ms))

-- the finished lines are the first, with its end, and the others
first_line_of : (c : ConsoleState) → c.finished ≢ [] → (ls : List (List ℕ)) → All IsLine ls → joined ls ≡ c.finished → c.finished ≡ with_end (first_line c) ++ (line_dropped c).finished
first_line_of c some [] are e = absurd (some (sym e))
first_line_of c some (l ∷ ls) are e =
    let first = first_lines c l ls (All-head IsLine l ls are) (sym e) in
    sym e ∙ ap (λ line. with_end line ++ joined ls) (sym first.0) ∙ ap (λ bs. with_end (first_line c) ++ bs) (sym first.1)

first_taken : (c : ConsoleState) → are_lines 0 c.finished ≡ true → c.finished ≢ [] → c.finished ≡ with_end (first_line c) ++ (line_dropped c).finished
first_taken c are some = let lines = split c.finished are in first_line_of c some lines.0 lines.1 lines.2

-- ---- the newline that is supplied
-- these are the newlines that were supplied, and these bytes are left
abbrev pub AtMostOne : List ℕ → List ℕ → Type 0
AtMostOne newlines left = (newlines ≡ []) ⊎ ((newlines ≡ 10 ∷ []) × (left ≡ []))

none_behind : (n : ℕ) (left : List ℕ) → length left ≤ n → drop n left ≡ []
none_behind n left all = nil_from_length (drop n left) (omega (arith, length-drop n left))

-- none comes, and bytes of the file may
none_more : (n : ℕ) (newlines more left : List ℕ) → more ≡ [] → AtMostOne newlines left → AtMostOne (newlines ++ more) (drop n left)
none_more n newlines more left none is =
    let same : newlines ++ more ≡ newlines = ap (λ bs. newlines ++ bs) none ∙ append-nil newlines in
    elim is [
      | inl e ↦ inl (same ∙ e)
      | inr e ↦ inr (same ∙ e.0, none_behind n left (omega (arith, ap length e.1)))
    ]

-- a chunk that ends without an end of its line takes all that is left
all_taken : (o : Option ℕ) (left : List ℕ) → is_unended o left ≡ true → drop (taken_by o) left ≡ []
all_taken (Some k) left e = absurd (cc)
all_taken None left e =
    by_test (λ t. cond t false true ≡ true → drop longest_chunk left ≡ []) (nat_lt longest_chunk (length left))
    (λ more q. absurd (cc))
    (λ few q. none_behind longest_chunk left (grind (arith, nat_tests, few))) e

-- a chunk, while bytes are left
chunk_one : (newlines left : List ℕ) → left ≢ [] → AtMostOne newlines left → AtMostOne (newlines ++ supplied (is_unended (first_end left) left)) (after_chunk left)
chunk_one newlines left some is =
    let none : newlines ≡ [] = elim is [ inl e ↦ e | inr e ↦ absurd (some e.1) ] in
    by_test (λ t. AtMostOne (newlines ++ supplied t) (after_chunk left)) (is_unended (first_end left) left)
    (λ yes. inr (ap (λ bs. bs ++ 10 ∷ []) none, all_taken (first_end left) left yes))
    (λ no. inl (append-nil newlines ∙ none))

-- the console is due only while bytes are left
some_left : (s : State) → console_is_due s ≡ true → s.left ≢ []
some_left s due nil =
    let waits : Bool = waits_for_console s.world.kern && not (has_line s.console) in
    let demand = (and_parts (is_open s) (s.schedule.on_demand && (not (eqb (length s.left) 0) && waits)) due).1 in
    let left = (and_parts s.schedule.on_demand (not (eqb (length s.left) 0) && waits) demand).1 in
    let some : not (eqb (length s.left) 0) ≡ true = (and_parts (not (eqb (length s.left) 0)) waits left).0 in
    let none : not (eqb (length s.left) 0) ≡ false = ap (λ (bs : List ℕ). not (eqb (length bs) 0)) nil in
    cc

-- ---- what keeps the journal in agreement
module _ (file : List ℕ) (lines : List (List ℕ)) (es : List Entry) (left : List ℕ) (c : ConsoleState) (is : IsConserved file lines es left c) where
  nothing_read : joined lines ≡ joined (lines ++ [])
  nothing_read = ap joined (sym (append-nil lines))

  -- nothing arrives, and no line is read
  stays : IsConserved file (lines ++ []) es left c
  stays = record { arrived = is.arrived; supplied = is.supplied; placed = is.placed ∙ ap (λ bs. bs ++ (c.finished ++ c.edited)) nothing_read }

  -- bytes arrive
  hears : (arrivals : List Arrival) (rest : List ℕ) (d : ConsoleState) → part_if not arrivals ++ rest ≡ left → AtMostOne (from_supply es ++ part_if (λ b. b) arrivals) rest
      → d ≡ console_after c arrivals → IsConserved file (lines ++ []) (journal_after c arrivals es) rest d
  hears arrivals rest d whole one same = record {
    arrived =
        ap (λ bs. bs ++ rest) (all_bytes not c arrivals es)
        ∙ append_assoc (from_file es) (part_if not arrivals) rest
        ∙ ap (λ bs. from_file es ++ bs) whole
        ∙ is.arrived;
    supplied = subst (λ bs. AtMostOne bs rest) (sym (all_bytes (λ b. b) c arrivals es)) one;
    placed =
        all_agree (joined lines) c arrivals es is.placed
        ∙ ap (λ x. joined lines ++ (x.finished ++ x.edited)) (sym same)
        ∙ ap (λ bs. bs ++ (d.finished ++ d.edited)) nothing_read;
  }

  -- the first finished line is read
  reads : are_lines 0 c.finished ≡ true → c.finished ≢ [] → IsConserved file (lines ++ first_line c ∷ []) es left (line_dropped c)
  reads are some =
      let line : List ℕ = with_end (first_line c) in
      let others : List ℕ = (line_dropped c).finished in
      record {
        arrived = is.arrived;
        supplied = is.supplied;
        placed =
            is.placed
            ∙ ap (λ bs. joined lines ++ (bs ++ c.edited)) (first_taken c are some)
            ∙ ap (λ bs. joined lines ++ bs) (append_assoc line others c.edited)
            ∙ sym (append_assoc (joined lines) line (others ++ c.edited))
            ∙ ap (λ bs. (joined lines ++ bs) ++ (others ++ c.edited)) (sym (append-nil line))
            ∙ ap (λ bs. bs ++ (others ++ c.edited)) (sym (joined-append lines (first_line c ∷ [])));
      }

-- ---- a step
module _ (file : List ℕ) (lines : List (List ℕ)) (es : List Entry) (s : State) (g : Good s) (is : IsConserved file lines es s.left s.console) where
  quiet : IsConserved file (lines ++ []) es s.left s.console
  quiet = stays file lines es s.left s.console is

  -- an event
  events : (e : Event) → IsConserved file (lines ++ []) (journal_after s.console (arrivals_by (Come e) s.left) es) (event_step s e).left (event_step s e).console
  events Tick = quiet
  events (Irq slot) = quiet
  events (Rx n) =
      let here : State = record s { schedule = without_next s.schedule; world = unreserved_world s.world } in
      let bytes : List ℕ = take (brought n) s.left in
      hears file lines es s.left s.console is (file_arrivals bytes) (drop (brought n) s.left) (heard_by here bytes).console
      (ap (λ bs. bs ++ drop (brought n) s.left) (file_part bytes) ∙ take-append-drop (brought n) s.left)
      (none_more (brought n) (from_supply es) (part_if (λ b. b) (file_arrivals bytes)) s.left (file_supply bytes) is.supplied)
      (heard_console here (file_arrivals bytes) bytes (file_bytes bytes))

  -- a chunk
  arrives : s.left ≢ [] → IsConserved file (lines ++ []) (journal_after s.console (arrivals_by Arrive s.left) es) (after_chunk s.left) (heard_by s (chunk s.left)).console
  arrives some =
      let n : ℕ = taken_by (first_end s.left) in
      let more : List ℕ = supplied (is_unended (first_end s.left) s.left) in
      let bytes : List ℕ = take n s.left in
      hears file lines es s.left s.console is (file_arrivals bytes ++ supplied_arrivals more) (drop n s.left) (heard_by s (chunk s.left)).console
      (ap (λ bs. bs ++ drop n s.left) (both_part bytes more) ∙ take-append-drop n s.left)
      (subst (λ bs. AtMostOne (from_supply es ++ bs) (drop n s.left)) (sym (both_supply bytes more)) (chunk_one (from_supply es) s.left some is.supplied))
      (heard_console s (file_arrivals bytes ++ supplied_arrivals more) (chunk s.left) (both_bytes bytes more))

  -- the shell's task
  shell_acts : (p : Phase) → HasItsLine p s.console.finished → IsConserved file (lines ++ line_in p s.console) es (shell_step p s).left (shell_step p s).console
  shell_acts phases.Prompt has = quiet
  shell_acts phases.Read has = reads file lines es s.left s.console is g.kept.console.lines (has refl)
  shell_acts phases.Eval has = quiet
  shell_acts phases.Call has = quiet

  -- any task
  acts : (who : ℕ) (b : Bool) → IsConserved file (lines ++ cond b (line_in s.shell.phase s.console) []) es (cond b (shell_step s.shell.phase s) (task_step s who)).left (cond b (shell_step s.shell.phase s) (task_step s who)).console
  acts who true = shell_acts s.shell.phase g.kept.read
  acts who false = quiet

  -- what comes next
  effects : (said : FileSaid) (n : Next) → n ≡ next s → IsConserved file (lines ++ lines_read_by n s.shell.phase s.console) (journal_after s.console (arrivals_by n s.left) es) (unwrap_or (state_after said s n) s).left (unwrap_or (state_after said s n) s).console
  effects said (Deliver i) e = quiet
  effects said (Come event) e = events event
  effects said Arrive e = arrives (some_left s ((in_order s Arrive).1 e).2)
  effects said Routine e = quiet
  effects said (Act who) e = acts who (eqb who shell_id)
  effects said (Load name) e = quiet
  effects said (Jump time) e = quiet
  effects said Over e = quiet

  -- settling priorities touches neither the bytes left nor the console
  settles : (ls : List (List ℕ)) (fs : List Entry) (o : Option State) → IsConserved file ls fs (unwrap_or o s).left (unwrap_or o s).console
      → IsConserved file ls fs (unwrap_or (option_map settled_state o) s).left (unwrap_or (option_map settled_state o) s).console
  settles ls fs None p = p
  settles ls fs (Some u) p = p

  steps : (said : FileSaid) → IsConserved file (lines ++ lines_read_by (next s) s.shell.phase s.console) (journal_after s.console (arrivals_by (next s) s.left) es) (unwrap_or (machine_step said s) s).left (unwrap_or (machine_step said s) s).console
  unfolding machine_step
  steps said = settles _ _ (state_after said s (next s)) (effects said (next s) refl)

-- ---- a run
runs : (said : Answers) (s : State) → s.console ≡ opening_console → ((k : ℕ) → Good (after said s k))
    → (k : ℕ) → IsConserved s.left (lines_read said s k) (journal said s k) (after said s k).left (after said s k).console
runs said s empty good zero = record { arrived = refl; supplied = inl refl; placed = ap (λ c. c.finished ++ c.edited) (sym empty) }
runs said s empty good (suc k) = steps s.left (lines_read said s k) (journal said s k) (after said s k) (good k) (runs said s empty good k) (said k)

pub conserved : RunLaw → ConsoleLaw
unfolding opening
conserved law said console ticks slots profile board k =
    let s : State = opening console (timetable_of ticks) slots profile board in
    record {
      here = runs said s refl (λ j. (law said console ticks slots (record { profile = profile; board = board }) j).kept) k;
      later = all_on (after said s k).console (arrivals_by (next (after said s k)) (after said s k).left) (journal said s k);
    }
