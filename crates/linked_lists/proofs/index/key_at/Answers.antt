use Rattle.std.proofs.Common.{ℕ, get_or, Option, Some, ap, ◌∙◌}
use Rattle.id_table.specs.declared.entry.Entry.{Entry}
use Rattle.linked_lists.proofs.Naming.{entry_at}
use Rattle.linked_lists.proofs.index.key_at.Goals as goal

pub returns : goal.returns
returns c =
    let es = c.args.index.now in
    let here = c.in-Some.ensures in
    entry_at es c.args.who c.in-Some.at c.index-index-at.result here c.requires.rising
    ∙ ap {A = ℕ} {B = Option Entry} (λ i. Some (record { id = i; key = (get_or es c.in-Some.at c.index-index-at.result).key })) (here.same c.index-index-at.result)
