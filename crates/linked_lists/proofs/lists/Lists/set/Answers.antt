use Rattle.std.proofs.Common.{ap, ◌∙◌, map, Some}
use Rattle.linked_lists.specs.Chains.{hold, with_value}
use Rattle.linked_lists.specs.Inside.{chains_in, holds, with_node}
use Rattle.linked_lists.proofs.Nodes.{key_live, kept_again, seen_again, set_in}
use Rattle.linked_lists.proofs.lists.Lists.set.Goals as goal

pub index_mut-requires : goal.index_mut-requires
index_mut-requires g c = key_live c.self.inside.nodes c.self.inside.ends.items c.self.inside.room c.args.key c.args.self.now c.self.invariant c.self.view_is c.requires

pub invariant_of-self : goal.invariant_of-self
invariant_of-self g c =
    let k = c.self.inside in
    kept_again (with_node k.nodes c.args.key (holds c.args.value) (Some c.index_mut.result.now)) k.ends.items (map (hold c.args.key c.args.value) (chains_in k.nodes k.ends.items)) k.room
    (set_in k.nodes k.ends.items k.room c.args.key c.args.value c.index_mut.result.now c.self.invariant c.index_mut.ensures.value)

pub returns : goal.returns
returns g c =
    let k = c.self.inside in
    seen_again (with_node k.nodes c.args.key (holds c.args.value) (Some c.index_mut.result.now)) k.ends.items (map (hold c.args.key c.args.value) (chains_in k.nodes k.ends.items)) k.room
    (set_in k.nodes k.ends.items k.room c.args.key c.args.value c.index_mut.result.now c.self.invariant c.index_mut.ensures.value)
    ∙ ap (λ t. with_value t c.args.key c.args.value) c.self.view_is
