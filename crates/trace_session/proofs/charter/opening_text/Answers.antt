use Rattle.std.proofs.Common.{List, ◌++◌, ℕ, Some, ap, ap₂, subst, ◌∙◌}
use Rattle.board_changes.specs.declared.view.TaskView.{TaskView}
use Rattle.wind_session.specs.BoardPlayerSeen.{board_by}
use Rattle.board_trace.specs.Snapshots.{snapshot_of}
use Rattle.trace_text.specs.Forms.{Gained}
use Rattle.trace_json.specs.Chrome.{AreMembers, list_opening, opening_objects}
use Rattle.trace_json.proofs.Gaining.{gained_both}
use Rattle.trace_session.specs.Choice.{choice_state}
use Rattle.trace_session.specs.Counters.{counted, first_counters, ready_in}
use Rattle.trace_session.proofs.charter.opening_text.Goals as goal

pub add_first_counters-requires-clause-counts : goal.add_first_counters-requires-clause-counts
add_first_counters-requires-clause-counts g c =
    ap₂ (λ n queues. counted (Some n) queues) (c.ready_in.ensures ∙ ap ready_in c.requires.tasks) c.requires.queues

-- the list begins with the names of the tasks, and then the counters
pub returns : goal.returns
returns g c =
    let state = board_by (λ d. (goal.Device-dyn g (d.vtable, d.value)).kind_of d.value) (λ d. (goal.Device-dyn g (d.vtable, d.value)).words_of d.value) in
    let first = state c.args.board.now in
    let P : List TaskView → Type 0 = λ tasks. Gained (AreMembers (opening_objects tasks)) c.open_list.new.text.items c.add_opening.new.text.items in
    let Q : List ℕ → Type 0 = λ bytes. Gained (AreMembers (opening_objects (snapshot_of first.world).tasks ++ first_counters (choice_state c.args.choice.now) first)) bytes c.add_first_counters.new.text.items in
    subst Q (c.in_ok-open_list.ensures ∙ ap (λ bytes. bytes ++ list_opening) c.new-text.ensures.items) (gained_both _ _ _ _ _ (subst P c.requires.tasks c.in_ok-add_opening.ensures) c.in_ok-add_first_counters.ensures)
