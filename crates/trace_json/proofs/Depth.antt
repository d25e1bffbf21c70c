-- How deep lines and the end of a run nest as JSON.
use Rattle.std.proofs.Common.{◌≡◌, ℕ, suc, ◌≤◌, List, [], ◌∷◌, ◌++◌, Option, None, Some, sym, subst, arith}
use Rattle.wind_base.specs.declared.errno.Errno.{Errno}
use Rattle.wind_base.specs.declared.gate.Gate.{Gate}
use Rattle.kernel_world.specs.CallWords.{gate_of}
use Rattle.kernel_world.specs.declared.call.Call.{Call}
use Rattle.kernel_world.specs.declared.reply.Reply.{Reply}
use Rattle.kernel_world.specs.declared.reply.Reply.TheVariants.{Answer, Refusal, Later, Gone}
use Rattle.call_text.specs.Texts.{words_of}
use Rattle.call_text.specs.declared.word.Word.{Word}
use Rattle.call_text.specs.declared.word.Word.TheVariants.{Number, Hex, Unreadable, Rest}
use Rattle.board_changes.specs.declared.awaited.Awaited.{Awaited}
use Rattle.board_changes.specs.declared.change.Change.{Change}
use Rattle.board_changes.specs.declared.change.Change.TheVariants as changes
use Rattle.board_changes.specs.declared.view.TaskView.{TaskView}
use Rattle.board_trace.specs.Errors.{errno_named}
use Rattle.board_trace.specs.Runs.{Line}
use Rattle.board_trace.specs.Subjects.{subject_of}
use Rattle.board_trace.specs.declared.cause.Cause.{Cause}
use Rattle.board_trace.specs.declared.cause.Cause.TheVariants as causes
use Rattle.board_trace.specs.declared.happening.Happening.{Happening}
use Rattle.board_trace.specs.declared.happening.Happening.TheVariants as told
use Rattle.board_trace.specs.declared.who.Subject.{Subject}
use Rattle.board_trace.specs.declared.who.Subject.TheVariants as subjects
use Rattle.std.specs.Prelude.{codes}
use Rattle.serde_json.specs.Data.{Data, Members, boolean, no_members, depth, members_depth}
use Rattle.serde_json.specs.Read.{max_depth}
use Rattle.trace_text.specs.Forms.{OutcomeState}
use Rattle.trace_state.specs.Json.{list_of, number_of, number_or_null, object_of, text_of, with_all, with_member}
use Rattle.trace_state.specs.Tasks.{awaited_id, wait_data}
use Rattle.trace_state.proofs.Shallow.{list_within, maybe_within, member_within, object_within}
use Rattle.trace_json.specs.Calls.{call_members, reply_members, word_data}
use Rattle.trace_json.specs.Changes.{change_members, error_data}
use Rattle.trace_json.specs.Happenings.{cause_members, event_members, event_word}
use Rattle.trace_json.specs.Lines.{end_data, head_members, line_data, standing_data, subject_members}

-- ---- members
-- no value of these members nests deeper than n
abbrev pub Within : ℕ → List (List ℕ × Data) → Type 0
Within n [] = Unit {0}
Within n (m ∷ ms) = (depth m.1 ≤ n) × Within n ms

pub both : (n : ℕ) (ms ns : List (List ℕ × Data)) → Within n ms → Within n ns → Within n (ms ++ ns)
both n [] ns h g = g
both n (m ∷ ms) ns h g = (h.0, both n ms ns h.1 g)

all_within : (n : ℕ) (ms : List (List ℕ × Data)) (found : Members) → Within n ms → members_depth found ≤ n → members_depth (with_all ms found) ≤ n
all_within n [] found h low = low
all_within n (m ∷ ms) found h low = all_within n ms (with_member m.0 m.1 found) h.1 (member_within m.0 m.1 found n h.0 low)

pub made_within : (n : ℕ) (ms : List (List ℕ × Data)) → Within n ms → depth (object_of ms) ≤ suc n
made_within n ms h = object_within (with_all ms no_members) n (all_within n ms no_members h (omega arith))

-- ---- calls
word_within : (w : Word) → depth (word_data w) ≤ 0
word_within (Number v) = omega arith
word_within (Hex v) = omega arith
word_within Unreadable = omega arith
word_within Rest = omega arith

one : (n : ℕ) → n ≤ 0 → n ≤ 1
one n h = omega (arith, h)

reply_within : (g : Gate) (r : Reply) → Within 1 (reply_members g r)
reply_within g (Answer v) = (omega arith, (one _ (word_within _), tt))
reply_within g (Refusal e) = (omega arith, (one _ (word_within _), (omega arith, tt)))
reply_within g Later = (omega arith, tt)
reply_within g Gone = (omega arith, tt)

call_within : (c : Call) (r : Reply) → Within 1 (call_members c r)
call_within c r = (omega arith, (list_within 0 word_data (words_of c) word_within, reply_within (gate_of c) r))

-- ---- changes
pub wait_within : (o : Option Awaited) → depth (wait_data o) ≤ 1
wait_within None = omega arith
wait_within (Some object) = object_within _ 0 (member_within _ _ _ _ (maybe_within 0 (awaited_id object)) (member_within _ _ _ _ (omega arith) (omega arith)))

error_within : (e : Option Errno) → depth (error_data e) ≤ 1
error_within None = omega arith
error_within (Some e) = omega arith

change_within : (c : Change) → Within 1 (change_members c)
change_within (changes.Spawned who pri) = (omega arith, tt)
change_within (changes.Deleted who) = tt
change_within (changes.Waits who object until) = (wait_within (Some object), (maybe_within 1 until, tt))
change_within (changes.Sleeps who until) = (omega arith, tt)
change_within (changes.Served who object answer) = (wait_within (Some object), (omega arith, tt))
change_within (changes.Failed who object errno) = (wait_within (Some object), (omega arith, (error_within (errno_named errno), tt)))
change_within (changes.GoesOn who object) = (wait_within (Some object), tt)
change_within (changes.Wakes who) = tt
change_within (changes.Suspended who) = tt
change_within (changes.Resumed who) = tt
change_within (changes.Priority who from to inherited) = (omega arith, (omega arith, (omega arith, tt)))
change_within (changes.Normal who to) = (omega arith, tt)
change_within (changes.Yields who) = tt
change_within (changes.Started watchdog due) = (omega arith, (omega arith, tt))
change_within (changes.Fired watchdog) = (omega arith, tt)
change_within (changes.Cancelled watchdog) = (omega arith, tt)
change_within (changes.Loaded id) = (omega arith, tt)
change_within (changes.Unloaded id) = (omega arith, tt)

-- ---- happenings
cause_within : (c : Cause) → Within 1 (cause_members c)
cause_within (causes.Access target) = (omega arith, tt)
cause_within (causes.Alignment target) = (omega arith, tt)
cause_within (causes.Illegal word) = (omega arith, tt)
cause_within causes.Trap = tt
cause_within causes.SystemCall = tt

pub event_within : (h : Happening) → Within 1 (event_members h)
event_within (told.Tick tick) = (omega arith, tt)
event_within (told.Arrival count) = (omega arith, tt)
event_within (told.Interrupt slot) = (omega arith, tt)
event_within (told.Delivery slot) = (omega arith, tt)
event_within (told.Jump time) = (omega arith, tt)
event_within (told.File name) = (omega arith, tt)
event_within (told.Runs who last) = (maybe_within 1 last, tt)
event_within (told.Called who call reply) = call_within call reply
event_within (told.Exception who at cause) = (omega arith, (omega arith, cause_within cause))
event_within told.Abort = tt
event_within (told.Owned mutex owner) = (omega arith, tt)
event_within (told.Freed mutex owner) = (omega arith, tt)
event_within (told.Queued queue sender) = (omega arith, tt)
event_within (told.HandedOver queue sender receiver) = (omega arith, (omega arith, tt))
event_within (told.Taken queue receiver) = (omega arith, tt)
event_within (told.Changed change) = change_within change
event_within told.RoutineEnds = tt
event_within (told.RoutineBegins entry param) = (omega arith, (omega arith, tt))
event_within (told.Writes who bytes) = (omega arith, tt)
event_within (told.Instructions who count) = (omega arith, tt)

-- ---- lines
subject_within : (who : Subject) (name : List ℕ) → Within 1 (subject_members who name)
subject_within subjects.Board name = (omega arith, tt)
subject_within subjects.Interrupt name = (omega arith, tt)
subject_within (subjects.Task id) name = (omega arith, (omega arith, (omega arith, tt)))

-- a line nests two levels deep
line_within : (l : Line) → depth (line_data l) ≤ 2
unfolding line_data
line_within l =
    let rest = both 1 (subject_members (subject_of l.what) l.name) (event_members l.what) (subject_within (subject_of l.what) l.name) (event_within l.what) in
    made_within 1 (head_members l.time l.step (event_word l.what) ++ (subject_members (subject_of l.what) l.name ++ event_members l.what)) (omega arith, (omega arith, (omega arith, rest)))

standing_within : (t : TaskView) → depth (standing_data t) ≤ 2
standing_within t =
    let ms : List (List ℕ × Data) =
    (codes "task", number_of t.id) ∷ (codes "name", text_of t.name) ∷ (codes "wait", wait_data t.wait) ∷ (codes "until", number_or_null t.wake) ∷ (codes "suspended", boolean t.suspended) ∷ [] in
    made_within 1 ms (omega arith, (omega arith, (wait_within t.wait, (maybe_within 1 t.wake, (omega arith, tt)))))

-- the end of a run nests four levels deep
end_within : (e : OutcomeState) → depth (end_data e) ≤ 4
unfolding end_data
end_within e =
    let ms : List (List ℕ × Data) =
    head_members e.time e.step (codes "end") ++ ((codes "how", text_of e.how) ∷ (codes "tasks", list_of standing_data e.tasks) ∷ (codes "left", number_of e.left) ∷ []) in
    made_within 3 ms (omega arith, (omega arith, (omega arith, (omega arith, (list_within 2 standing_data e.tasks standing_within, (omega arith, tt))))))

-- so they can be read back
pub line_shallow : (d : Data) (l : Line) → d ≡ line_data l → depth d ≤ max_depth
line_shallow d l is = let P : Data → Type 0 = λ x. depth x ≤ max_depth in let low = line_within l in subst P (sym is) (omega (arith, low))

pub end_shallow : (d : Data) (e : OutcomeState) → d ≡ end_data e → depth d ≤ max_depth
end_shallow d e is = let P : Data → Type 0 = λ x. depth x ≤ max_depth in let low = end_within e in subst P (sym is) (omega (arith, low))
