use Rattle.std.proofs.Common.{ℕ, ap, subst, ◌∙◌}
use Rattle.std.proofs.lemmas.List.{take_rest}
use Rattle.id_table.specs.Records.{of_id}
use Rattle.board_changes.specs.Walks.{HasPassed}
use Rattle.board_changes.proofs.Walking.{found_on}
use Rattle.board_changes.proofs.walk.sought.Goals as goal

pub returns-clause-value : goal.returns-clause-value
returns-clause-value g c =
    let id = g.V.Identified.number in
    let place = c.passed-place.result in
    let has : HasPassed id c.args.list.now place c.args.id =
    subst (λ (n : ℕ). HasPassed id c.args.list.now place n) c.get-2.ensures.same c.passed-place.ensures in
    c.first_of.ensures ∙ ap (λ xs. of_id id xs c.args.id) (take_rest c.args.list.now place)
    ∙ found_on id c.args.list.now c.args.id place has
