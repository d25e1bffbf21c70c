use Rattle.std.proofs.Common.{ap, arith, length}
use Rattle.std.proofs.lemmas.List.{length-map}
use Rattle.linked_lists.specs.Chains.{all_cells}
use Rattle.linked_lists.specs.Named.{named_cell}
use Rattle.linked_lists.proofs.Naming.{named_cells}
use Rattle.linked_lists.proofs.id_lists.IdLists.len.Goals as goal

pub returns : goal.returns
returns g c =
    let cs = c.self.inside.lists.chains in
    omega (arith, ap length c.as_slice.ensures, c.self.invariant.1.count, ap (λ t. length (all_cells t.chains)) c.self.view_is, ap length (named_cells cs), length-map (all_cells cs) named_cell)
