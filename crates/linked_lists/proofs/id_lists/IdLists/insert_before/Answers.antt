use Rattle.std.proofs.Common.{ap, ◌∙◌, sym, subst, arith, length, set, Some, ◌≡◌, ℕ}
use Rattle.std.specs.Prelude.{IsSome}
use Rattle.std.proofs.lemmas.List.{length-map}
use Rattle.linked_lists.specs.Chains.{value_of, value_in, chain_at, all_cells, put_before, with_cell}
use Rattle.linked_lists.specs.Named.{IsIndexed, named, named_cell, named_chains, key_found}
use Rattle.linked_lists.specs.declared.id_lists.Member.{Member}
use Rattle.linked_lists.proofs.Keeping.{split_next}
use Rattle.linked_lists.proofs.Naming.{place_within, node_of_next, named_cells, no_entry, parted, entry_placed, indexed_inserted, inserted_chains, named_alike}
use Rattle.linked_lists.proofs.id_lists.IdLists.insert_before.Goals as goal

pub insert_before-key-requires-clause-next : goal.insert_before-key-requires-clause-next
insert_before-key-requires-clause-next g c x e =
    let k = c.self.inside in
    let within = place_within k.lists c.args.self.now c.args.list c.self.view_is c.requires.list in
    let next : (id : ℕ) → c.args.next ≡ Some id → IsSome (value_in (chain_at (named_chains k.lists.chains) c.args.list) id) = λ id q. subst (λ t. IsSome (value_in (chain_at t.chains c.args.list) id)) (sym c.self.view_is) (c.requires.next id q) in
    node_of_next k.lists.chains k.index.items c.self.invariant.1 c.args.next c.args.list within next x (ap (λ es. key_found es c.args.next) (sym c.as_slice.ensures) ∙ sym c.key_of-next.ensures ∙ e)

pub insert_before-key-requires-clause-room : goal.insert_before-key-requires-clause-room
insert_before-key-requires-clause-room g c =
    let cs = c.self.inside.lists.chains in
    omega (arith, c.requires.room, ap (λ t. length (all_cells t.chains)) c.self.view_is, ap (λ t. t.room) c.self.view_is, ap length (named_cells cs), length-map (all_cells cs) named_cell)

pub insert-requires-clause-room : goal.insert-requires-clause-room
insert-requires-clause-room g c =
    let cs = c.self.inside.lists.chains in
    omega (arith, c.self.invariant.0, c.self.invariant.1.count, c.requires.room, ap (λ t. length (all_cells t.chains)) c.self.view_is, ap (λ t. t.room) c.self.view_is, ap length (named_cells cs), length-map (all_cells cs) named_cell)

pub invariant_of-self : goal.invariant_of-self
invariant_of-self g c =
    let k = c.self.inside in
    let cs = k.lists.chains in
    let within = place_within k.lists c.args.self.now c.args.list c.self.view_is c.requires.list in
    let next : (id : ℕ) → c.args.next ≡ Some id → IsSome (value_in (chain_at (named_chains k.lists.chains) c.args.list) id) = λ id q. subst (λ t. IsSome (value_in (chain_at t.chains c.args.list) id)) (sym c.self.view_is) (c.requires.next id q) in
    let key_is = c.key_of-next.ensures ∙ ap (λ es. key_found es c.args.next) c.as_slice.ensures in
    let nodes : (x : ℕ) → c.key_of-next.result ≡ Some x → IsSome (value_in (chain_at cs c.args.list) x) = λ x e. node_of_next cs k.index.items c.self.invariant.1 c.args.next c.args.list within next x (sym key_is ∙ e) in
    let cell : ℕ × Member g.row.T.Denot = (c.insert_before-key.result, record { who = c.args.who; value = c.args.value }) in
    let parts = parted cs c.args.list c.key_of-next.result cell within (split_next (chain_at cs c.args.list) c.key_of-next.result cell nodes) in
    let none = no_entry cs k.index.items c.self.invariant.1 c.args.who (ap (λ t. value_of t.chains c.args.who) c.self.view_is ∙ c.requires.absent) in
    let rank = rw c.as_slice-2.ensures at c.rank_of-rank.ensures in
    let put = entry_placed k.index.items c.insert.new.self.items (record { id = c.args.who; key = c.insert_before-key.result }) c.rank_of-rank.result rank.split rank.within c.insert.ensures.items in (
      omega (arith, c.self.invariant.0, c.insert.ensures.room, ap (λ t. t.room) c.insert_before-key.ensures.chains),
      subst (λ t. IsIndexed t.chains c.insert.new.self.items) (sym c.insert_before-key.ensures.chains)
          (subst (IsIndexed (set cs c.args.list (put_before c.key_of-next.result cell (chain_at cs c.args.list)))) (sym put)
          (indexed_inserted cs k.index.items c.self.invariant.1 (set cs c.args.list (put_before c.key_of-next.result cell (chain_at cs c.args.list))) c.insert_before-key.result c.args.who c.args.value parts c.insert_before-key.ensures.fresh none)),
    )

pub returns : goal.returns
returns g c =
    let k = c.self.inside in
    let cs = k.lists.chains in
    let within = place_within k.lists c.args.self.now c.args.list c.self.view_is c.requires.list in
    let next : (id : ℕ) → c.args.next ≡ Some id → IsSome (value_in (chain_at (named_chains k.lists.chains) c.args.list) id) = λ id q. subst (λ t. IsSome (value_in (chain_at t.chains c.args.list) id)) (sym c.self.view_is) (c.requires.next id q) in
    let key_is = c.key_of-next.ensures ∙ ap (λ es. key_found es c.args.next) c.as_slice.ensures in
    let cell : ℕ × Member g.row.T.Denot = (c.insert_before-key.result, record { who = c.args.who; value = c.args.value }) in
    ap named c.insert_before-key.ensures.chains
    ∙ named_alike (named_chains (set cs c.args.list (put_before c.key_of-next.result cell (chain_at cs c.args.list)))) (set (named_chains cs) c.args.list (put_before c.args.next (c.args.who, c.args.value) (chain_at (named_chains cs) c.args.list))) k.lists.room
    (inserted_chains cs k.index.items c.args.list c.insert_before-key.result c.args.who c.args.value c.key_of-next.result c.args.next c.self.invariant.1 within key_is next)
    ∙ ap (λ t. with_cell t c.args.list c.args.next (c.args.who, c.args.value)) c.self.view_is
