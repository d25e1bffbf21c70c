use Rattle.std.proofs.Common.{subst}
use Rattle.linked_lists.specs.Chains.{NextIs}
use Rattle.linked_lists.specs.Inside.{chains_in}
use Rattle.linked_lists.proofs.Telling.{after_is}
use Rattle.linked_lists.proofs.Nodes.{key_live}
use Rattle.linked_lists.proofs.lists.Lists.next.Goals as goal

pub index-requires : goal.index-requires
index-requires g c = key_live c.self.inside.nodes c.self.inside.ends.items c.self.inside.room c.args.key c.args.self.now c.self.invariant c.self.view_is c.requires

pub returns : goal.returns
returns g c =
    subst (λ t. NextIs t.chains c.args.key c.index.result.now.after) c.self.view_is
    (after_is c.self.inside.nodes c.self.inside.ends.items (chains_in c.self.inside.nodes c.self.inside.ends.items) c.self.inside.room c.args.key c.index.result.now c.self.invariant c.index.ensures)
