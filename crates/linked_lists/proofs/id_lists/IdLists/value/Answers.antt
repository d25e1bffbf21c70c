use Rattle.std.proofs.Common.{ap, ◌∙◌, sym, subst, Some}
use Rattle.std.specs.Prelude.{IsSome}
use Rattle.std.proofs.lemmas.Option.{same_Some}
use Rattle.linked_lists.specs.Chains.{value_of}
use Rattle.id_table.specs.declared.entry.Entry.{Entry}
use Rattle.linked_lists.proofs.Naming.{has_entry, entry_node, entry_value}
use Rattle.linked_lists.proofs.id_lists.IdLists.value.Goals as goal

pub key_at-requires-clause-there : goal.key_at-requires-clause-there
key_at-requires-clause-there g c =
    let k = c.self.inside in
    rw c.as_slice.ensures (has_entry k.lists.chains k.index.items c.self.invariant.1 c.args.who (subst (λ t. IsSome (value_of t.chains c.args.who)) (sym c.self.view_is) c.requires))

pub value-requires : goal.value-requires
value-requires g c =
    let e : Entry = record { id = c.args.who; key = c.key_at.result } in
    entry_node c.self.inside.lists.chains c.self.inside.index.items c.self.invariant.1 c.args.who e (rw c.as_slice.ensures at c.key_at.ensures)

pub returns : goal.returns
returns g c =
    let k = c.self.inside in
    let v = entry_value k.lists.chains k.index.items c.self.invariant.1 c.args.who (record { id = c.args.who; key = c.key_at.result }) (rw c.as_slice.ensures at c.key_at.ensures) in
    sym (ap (λ t. value_of t.chains c.args.who) c.self.view_is) ∙ v.2 ∙ ap (λ m. Some m.value) (same_Some _ _ (sym v.1 ∙ c.value.ensures.value))
