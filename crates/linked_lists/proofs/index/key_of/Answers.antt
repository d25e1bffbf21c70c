use Rattle.std.proofs.Common.{ap, ◌∙◌, sym}
use Rattle.std.specs.Option.{option_map}
use Rattle.linked_lists.specs.Named.{key_found}
use Rattle.linked_lists.proofs.Naming.{entry_at}
use Rattle.linked_lists.proofs.index.key_of.Goals as goal

pub returns : goal.returns
returns c =
    let es = c.args.index.now in
    sym (ap (key_found es) c.in_ok-next.was ∙ ap (option_map (λ e. e.key)) (entry_at es c.in_ok-next.field-0 c.in_ok-at.at c.index-index-at.result c.in_ok-at.ensures c.requires))
