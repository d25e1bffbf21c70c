use Rattle.std.proofs.Common.{ap, ◌∙◌, sym, subst, arith, map}
use Rattle.std.specs.Prelude.{IsSome}
use Rattle.linked_lists.specs.Chains.{value_of, hold, with_value}
use Rattle.linked_lists.specs.Named.{named, named_chains, IsIndexed}
use Rattle.id_table.specs.declared.entry.Entry.{Entry}
use Rattle.linked_lists.proofs.Naming.{has_entry, entry_node, cells_alike, named_alike}
use Rattle.linked_lists.proofs.Standing.{indexed_hold, chains_hold}
use Rattle.linked_lists.proofs.id_lists.IdLists.set.Goals as goal

pub key_at-key-requires-clause-there : goal.key_at-key-requires-clause-there
key_at-key-requires-clause-there g c =
    let k = c.self.inside in
    rw c.as_slice.ensures (has_entry k.lists.chains k.index.items c.self.invariant.1 c.args.who (subst (λ t. IsSome (value_of t.chains c.args.who)) (sym c.self.view_is) c.requires))

pub set-requires : goal.set-requires
set-requires g c =
    let e : Entry = record { id = c.args.who; key = c.key_at-key.result } in
    entry_node c.self.inside.lists.chains c.self.inside.index.items c.self.invariant.1 c.args.who e (rw c.as_slice.ensures at c.key_at-key.ensures)

pub invariant_of-self : goal.invariant_of-self
invariant_of-self g c =
    let k = c.self.inside in
    let e : Entry = record { id = c.args.who; key = c.key_at-key.result } in (
      omega (arith, c.self.invariant.0, ap (λ t. t.room) c.set.ensures),
      subst (λ t. IsIndexed t.chains k.index.items) (sym c.set.ensures) (indexed_hold k.lists.chains k.index.items c.args.who c.args.value e c.self.invariant.1 (rw c.as_slice.ensures at c.key_at-key.ensures)),
    )

pub returns : goal.returns
returns g c =
    let k = c.self.inside in
    let key = c.key_at-key.result in
    let alike = cells_alike k.lists.chains k.index.items c.self.invariant.1 c.args.who (record { id = c.args.who; key = key }) (rw c.as_slice.ensures at c.key_at-key.ensures) in
    ap named c.set.ensures
    ∙ named_alike (named_chains (map (hold key (record { who = c.args.who; value = c.args.value })) k.lists.chains)) (map (hold c.args.who c.args.value) (named_chains k.lists.chains)) k.lists.room
    (chains_hold key c.args.who c.args.value k.lists.chains alike)
    ∙ ap (λ t. with_value t c.args.who c.args.value) c.self.view_is
