use Rattle.std.proofs.Common.{ap, ◌∙◌, sym, subst, arith, length, map, Some, ◌+◌}
use Rattle.linked_lists.specs.Chains.{cell_key, value_of, all_cells, without_cell}
use Rattle.id_table.specs.Entries.{entry_id}
use Rattle.linked_lists.specs.Named.{IsIndexed, named, named_chains}
use Rattle.id_table.specs.Records.{without}
use Rattle.id_table.proofs.Places.{remove_place}
use Rattle.std.proofs.lemmas.List.Edits.{length-remove}
use Rattle.std.proofs.lemmas.Option.{same_Some}
use Rattle.linked_lists.proofs.Naming.{no_value, chains_same, node_there, entry_found, entry_value, cells_alike, indexed_removed, chains_without, named_alike}
use Rattle.linked_lists.proofs.id_lists.IdLists.remove.Goals as goal

pub returns-in_err-at-clause-value : goal.returns-in_err-at-clause-value
returns-in_err-at-clause-value g c =
    let k = c.self.inside in
    c.from_residual.ensures
    ∙ sym (no_value k.lists.chains k.index.items c.self.invariant.1 c.args.who (rw c.as_slice.ensures at c.in_err-at.ensures))
    ∙ ap (λ t. value_of t.chains c.args.who) c.self.view_is

pub returns-in_err-at-clause-chains : goal.returns-in_err-at-clause-chains
returns-in_err-at-clause-chains g c =
    let k = c.self.inside in
    sym c.self.view_is
    ∙ named_alike (named_chains k.lists.chains) (map (λ d. without cell_key d c.args.who) (named_chains k.lists.chains)) k.lists.room
    (sym (chains_same k.lists.chains k.index.items c.self.invariant.1 c.args.who (rw c.as_slice.ensures at c.in_err-at.ensures)))
    ∙ ap (λ t. without_cell t c.args.who) c.self.view_is

pub remove-value-requires : goal.remove-value-requires
remove-value-requires g c = node_there c.self.inside.lists.chains c.self.inside.index.items c.self.invariant.1 c.args.who c.in_ok-at.at c.remove-key.result (rw c.as_slice.ensures at c.in_ok-at.ensures) c.remove-key.ensures.value

pub invariant_of-self : goal.invariant_of-self
invariant_of-self g c =
    let k = c.self.inside in
    let at = rw c.as_slice.ensures at c.in_ok-at.ensures in
    let entry = entry_found k.index.items c.args.who c.in_ok-at.at c.remove-key.result at c.self.invariant.1.rising c.remove-key.ensures.value in
    let rest = c.remove-key.ensures.items ∙ remove_place entry_id k.index.items c.args.who c.in_ok-at.at c.self.invariant.1.rising at in
    let count = ap (λ t. length (all_cells t.chains) + 1) (sym c.remove-value.ensures.chains) ∙ c.remove-value.ensures.count in (
      omega (arith, c.self.invariant.0, c.remove-key.ensures.room, ap (λ t. t.room) c.remove-value.ensures.chains),
      subst (λ t. IsIndexed t.chains c.remove-key.new.self.items) (sym c.remove-value.ensures.chains)
          (indexed_removed k.lists.chains k.index.items c.self.invariant.1 c.args.who c.remove-key.result entry c.remove-key.new.self.items rest (omega (arith, ap length c.remove-key.ensures.items, length-remove k.index.items c.in_ok-at.at at.within)) count),
    )

pub returns-clause-value : goal.returns-clause-value
returns-clause-value g c =
    let k = c.self.inside in
    let entry = entry_found k.index.items c.args.who c.in_ok-at.at c.remove-key.result (rw c.as_slice.ensures at c.in_ok-at.ensures) c.self.invariant.1.rising c.remove-key.ensures.value in
    let v = entry_value k.lists.chains k.index.items c.self.invariant.1 c.args.who c.remove-key.result entry in
    ap (λ m. Some m.value) (same_Some _ _ (sym c.remove-value.ensures.value ∙ v.1)) ∙ sym v.2 ∙ ap (λ t. value_of t.chains c.args.who) c.self.view_is

pub returns-clause-chains : goal.returns-clause-chains
returns-clause-chains g c =
    let k = c.self.inside in
    let entry = entry_found k.index.items c.args.who c.in_ok-at.at c.remove-key.result (rw c.as_slice.ensures at c.in_ok-at.ensures) c.self.invariant.1.rising c.remove-key.ensures.value in
    let alike = cells_alike k.lists.chains k.index.items c.self.invariant.1 c.args.who c.remove-key.result entry in
    ap named c.remove-value.ensures.chains
    ∙ named_alike (named_chains (map (λ d. without cell_key d c.remove-key.result.key) k.lists.chains)) (map (λ d. without cell_key d c.args.who) (named_chains k.lists.chains)) k.lists.room
    (chains_without c.remove-key.result.key c.args.who k.lists.chains alike)
    ∙ ap (λ t. without_cell t c.args.who) c.self.view_is
