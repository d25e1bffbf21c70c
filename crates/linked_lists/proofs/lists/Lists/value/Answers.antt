use Rattle.std.proofs.Common.{ap, ◌∙◌, sym, subst, Some}
use Rattle.std.specs.Prelude.{IsSome}
use Rattle.std.proofs.lemmas.Option.{same_Some}
use Rattle.linked_lists.specs.Chains.{value_of, ValueIs}
use Rattle.linked_lists.specs.Inside.{chains_in}
use Rattle.linked_lists.proofs.Telling.{found_at, value_is}
use Rattle.linked_lists.proofs.Nodes.{key_live}
use Rattle.linked_lists.proofs.lists.Lists.value.Goals as goal

pub index-requires : goal.index-requires
index-requires g c = key_live c.self.inside.nodes c.self.inside.ends.items c.self.inside.room c.args.key c.args.self.now c.self.invariant c.self.view_is c.requires

pub returns-clause-value : goal.returns-clause-value
returns-clause-value g c =
    let k = c.self.inside in
    let found = found_at k.nodes k.ends.items (chains_in k.nodes k.ends.items) k.room c.args.key c.self.invariant (subst (λ t. IsSome (value_of t.chains c.args.key)) (sym c.self.view_is) c.requires) in
    sym (ap (λ t. value_of t.chains c.args.key) c.self.view_is) ∙ found.1 ∙ ap (λ n. Some n.value) (same_Some _ _ (sym found.3 ∙ c.index.ensures))

pub returns-clause-same : goal.returns-clause-same
returns-clause-same g c =
    let k = c.self.inside in
    subst (λ t. ValueIs t.chains c.args.key c.index.result.now.value) c.self.view_is
    (value_is k.nodes k.ends.items (chains_in k.nodes k.ends.items) k.room c.args.key c.index.result.now c.self.invariant c.index.ensures)
