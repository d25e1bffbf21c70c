use Rattle.std.proofs.Common.{ap, ◌∙◌, sym}
use Rattle.linked_lists.specs.Chains.{first_key, chain_at}
use Rattle.linked_lists.proofs.Naming.{place_within, first_there, first_named}
use Rattle.linked_lists.proofs.id_lists.IdLists.first.Goals as goal

pub value-requires : goal.value-requires
value-requires g c =
    first_there c.self.inside.lists.chains c.args.list c.in_ok-key.key (place_within c.self.inside.lists c.args.self.now c.args.list c.self.view_is c.requires) (sym c.in_ok-key.ensures)

pub returns : goal.returns
returns g c =
    first_named c.self.inside.lists.chains c.self.inside.index.items c.args.list c.in_ok-key.key c.value.result.now c.self.invariant.1 (place_within c.self.inside.lists c.args.self.now c.args.list c.self.view_is c.requires) (sym c.in_ok-key.ensures) c.value.ensures.value
    ∙ ap (λ t. first_key (chain_at t.chains c.args.list)) c.self.view_is
