use Rattle.std.proofs.Common.{◌++◌, ap, sym, ◌∙◌}
use Rattle.std.proofs.lemmas.List.{append-nil}
use Rattle.board_changes.proofs.Quiet.{no_changes}
use Rattle.board_changes.proofs.tasks.add_task_changes.Goals as goal

pub returns-then-are_quiet : goal.returns-then-are_quiet
returns-then-are_quiet c =
    let items = c.args.list.now.items in
    sym (ap (λ cs. items ++ cs) (no_changes c.args.results c.args.before.now c.args.after.now (c.are_quiet.ensures c.if-are_quiet.true)) ∙ append-nil items)
