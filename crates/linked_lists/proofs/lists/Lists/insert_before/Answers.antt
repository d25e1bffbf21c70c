use Rattle.std.proofs.Common.{ap, ◌∙◌, refl, sym, subst, length, Some, ◌<◌}
use Rattle.std.specs.Prelude.{IsSome}
use Rattle.slab.specs.Slab as slabs
use Rattle.linked_lists.specs.Chains.{value_of, value_in, chain_at}
use Rattle.linked_lists.specs.Inside.{chains_in, key_before, goes_on}
use Rattle.linked_lists.proofs.Keeping.{before_there, value_node, split_next, some_updated, some_aimed, key_is_new, ends_length}
use Rattle.linked_lists.proofs.Nodes.{inserted_in}
use Rattle.linked_lists.proofs.lists.Lists.insert_before.Goals as goal

pub node_before-before-requires : goal.node_before-before-requires
node_before-before-requires g c =
    let k = c.self.inside in
    let cs = chains_in k.nodes k.ends.items in
    let within = subst (λ t. c.args.list < length t.chains) (sym c.self.view_is) c.requires.list in
    let same = ends_length k.nodes k.ends.items cs k.room c.self.invariant in
    record {
      list = subst (λ es. c.args.list < length es) (sym c.deref.ensures.value) (subst (λ n. c.args.list < n) (sym same) within);
      next = λ x e. value_node k.nodes k.ends.items cs k.room c.args.list x c.self.invariant within (subst (λ t. IsSome (value_in (chain_at t.chains c.args.list) x)) (sym c.self.view_is) (c.requires.next x e));
    }

pub link-requires-clause-from : goal.link-requires-clause-from
link-requires-clause-from g c x e =
    let k = c.self.inside in
    let cs = chains_in k.nodes k.ends.items in
    let within = subst (λ t. c.args.list < length t.chains) (sym c.self.view_is) c.requires.list in
    let split = split_next (chain_at cs c.args.list) c.args.next (c.insert_reserved-key.result, c.args.value) (λ j q. subst (λ t. IsSome (value_in (chain_at t.chains c.args.list) j)) (sym c.self.view_is) (c.requires.next j q)) in
    let before_that = sym (ap (λ es. key_before k.nodes es c.args.list c.args.next) c.deref.ensures.value) ∙ sym c.node_before-before.ensures ∙ e in
    some_updated k.nodes c.insert_reserved-key.new.self c.insert_reserved-key.result _ x c.insert_reserved-key.ensures.updates
    (before_there k.nodes k.ends.items cs k.room c.args.list c.args.next (c.insert_reserved-key.result, c.args.value) x c.self.invariant within split before_that)

pub link-requires-2-clause-from : goal.link-requires-2-clause-from
link-requires-2-clause-from g c x e =
    let k = c.self.inside in
    let cs = chains_in k.nodes k.ends.items in
    let within = subst (λ t. c.args.list < length t.chains) (sym c.self.view_is) c.requires.list in
    let there = value_node k.nodes k.ends.items cs k.room c.args.list x c.self.invariant within (subst (λ t. IsSome (value_in (chain_at t.chains c.args.list) x)) (sym c.self.view_is) (c.requires.next x e)) in
    subst (λ n. IsSome (slabs.get n x)) (sym c.link.ensures.nodes)
    (some_aimed c.insert_reserved-key.new.self c.node_before-before.result (goes_on (Some c.insert_reserved-key.result)) x
    (some_updated k.nodes c.insert_reserved-key.new.self c.insert_reserved-key.result _ x c.insert_reserved-key.ensures.updates there))

pub invariant_of-self : goal.invariant_of-self
invariant_of-self g c =
    let k = c.self.inside in
    (inserted_in k.nodes c.insert_reserved-key.new.self c.link-2.new.nodes k.ends.items c.link-2.new.ends.items k.room c.args.list c.insert_reserved-key.result c.args.next c.node_before-before.result c.args.value c.args.self.now
    c.self.invariant c.self.view_is c.requires.list c.requires.next c.requires.room (c.node_before-before.ensures ∙ ap (λ es. key_before k.nodes es c.args.list c.args.next) c.deref.ensures.value) c.insert_reserved-key.ensures.was_vacant c.insert_reserved-key.ensures.updates
    c.insert_reserved-key.ensures.len c.insert_reserved-key.ensures.capacity (rw (c.link-2.ensures.nodes, c.link.ensures.nodes) refl) (rw (c.link-2.ensures.ends, c.link.ensures.ends) refl)).0

pub returns-clause-fresh : goal.returns-clause-fresh
returns-clause-fresh g c =
    let k = c.self.inside in
    sym (ap (λ t. value_of t.chains c.insert_reserved-key.result) c.self.view_is)
    ∙ key_is_new k.nodes k.ends.items (chains_in k.nodes k.ends.items) k.room c.insert_reserved-key.result c.self.invariant c.insert_reserved-key.ensures.was_vacant

pub returns-clause-chains : goal.returns-clause-chains
returns-clause-chains g c =
    let k = c.self.inside in
    (inserted_in k.nodes c.insert_reserved-key.new.self c.link-2.new.nodes k.ends.items c.link-2.new.ends.items k.room c.args.list c.insert_reserved-key.result c.args.next c.node_before-before.result c.args.value c.args.self.now
    c.self.invariant c.self.view_is c.requires.list c.requires.next c.requires.room (c.node_before-before.ensures ∙ ap (λ es. key_before k.nodes es c.args.list c.args.next) c.deref.ensures.value) c.insert_reserved-key.ensures.was_vacant c.insert_reserved-key.ensures.updates
    c.insert_reserved-key.ensures.len c.insert_reserved-key.ensures.capacity (rw (c.link-2.ensures.nodes, c.link.ensures.nodes) refl) (rw (c.link-2.ensures.ends, c.link.ensures.ends) refl)).1
