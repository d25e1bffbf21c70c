use Rattle.std.proofs.Common.{ap, ◌∙◌, arith, replicate, []}
use Rattle.linked_lists.specs.Named.{named, named_chains}
use Rattle.linked_lists.proofs.Naming.{indexed_empty, named_empty, named_alike}
use Rattle.linked_lists.proofs.id_lists.IdLists.reserved.Goals as goal

pub invariant_of-result : goal.invariant_of-result
invariant_of-result g c = (
  omega (arith, c.in_ok-index.ensures.room, ap (λ t. t.room) c.in_ok-lists.ensures),
  rw (c.in_ok-index.ensures.items, c.in_ok-lists.ensures) (indexed_empty c.args.lists),
)

pub returns : goal.returns
returns g c = ap named c.in_ok-lists.ensures ∙ named_alike (named_chains (replicate c.args.lists [])) (replicate c.args.lists []) c.args.n (named_empty c.args.lists)
