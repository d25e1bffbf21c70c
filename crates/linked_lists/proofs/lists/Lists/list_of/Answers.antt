use Rattle.std.proofs.Common.{sym, subst}
use Rattle.std.specs.Prelude.{IsSome}
use Rattle.linked_lists.specs.Chains.{value_of, IsOnlyIn}
use Rattle.linked_lists.specs.Inside.{chains_in}
use Rattle.linked_lists.proofs.Telling.{only_in}
use Rattle.linked_lists.proofs.Nodes.{key_live}
use Rattle.linked_lists.proofs.lists.Lists.list_of.Goals as goal

pub index-requires : goal.index-requires
index-requires g c = key_live c.self.inside.nodes c.self.inside.ends.items c.self.inside.room c.args.key c.args.self.now c.self.invariant c.self.view_is c.requires

pub returns : goal.returns
returns g c =
    subst (λ t. IsOnlyIn t.chains c.args.key c.index.result.now.list) c.self.view_is
    (only_in c.self.inside.nodes c.self.inside.ends.items (chains_in c.self.inside.nodes c.self.inside.ends.items) c.self.inside.room c.args.key c.index.result.now c.self.invariant (subst (λ t. IsSome (value_of t.chains c.args.key)) (sym c.self.view_is) c.requires) c.index.ensures)
