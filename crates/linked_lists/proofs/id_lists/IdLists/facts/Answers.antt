use Rattle.std.proofs.Common.{ap, subst, arith, length, map, ◌<◌}
use Rattle.std.proofs.lemmas.List.{length-map}
use Rattle.linked_lists.specs.Chains.{AreChains, all_cells}
use Rattle.linked_lists.specs.Named.{named_cell}
use Rattle.linked_lists.proofs.Naming.{named_cells}
use Rattle.linked_lists.proofs.Standing.{apart_at}
use Rattle.linked_lists.proofs.id_lists.IdLists.facts.Goals as goal

pub returns : goal.returns
returns g c =
    let cs = c.self.inside.lists.chains in
    subst AreChains c.self.view_is
    (record {
      few = omega (arith, c.facts.ensures.few, ap length (named_cells cs), length-map (all_cells cs) named_cell);
      apart = λ list h.
          let within = subst (λ n. list < n) (length-map cs (map named_cell)) h in
          apart_at cs c.self.inside.index.items list c.self.invariant.1 within (c.facts.ensures.apart list within);
    })
