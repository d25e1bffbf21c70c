use Rattle.std.proofs.Common.{get_or, ◌≡◌, None, Some, ap, ◌∙◌, sym}
use Rattle.linked_lists.specs.Chains.{value_of, chain_at}
use Rattle.linked_lists.proofs.Telling.{next_value}
use Rattle.linked_lists.proofs.Naming.{node_there, entry_found, entry_got, entry_value}
use Rattle.linked_lists.proofs.Standing.{no_stand, next_key, next_none, next_named}
use Rattle.linked_lists.proofs.id_lists.IdLists.next.Goals as goal

pub returns-in_err-position-clause-after : goal.returns-in_err-position-clause-after
returns-in_err-position-clause-after g c list prefix back value whole =
    let k = c.self.inside in
    absurd (no_stand k.lists.chains k.index.items c.args.who c.self.invariant.1 (rw c.as_slice-index.ensures at c.in_err-position.ensures) list prefix back value (ap (λ t. chain_at t.chains list) c.self.view_is ∙ whole))

pub next-requires : goal.next-requires
next-requires g c = node_there c.self.inside.lists.chains c.self.inside.index.items c.self.invariant.1 c.args.who c.in_ok-position.position (get_or c.as_slice-index.result.now c.in_ok-position.position c.index-index-position.result) (rw c.as_slice-index.ensures at c.in_ok-position.ensures) (entry_got c.self.inside.index.items c.as_slice-index.result.now c.in_ok-position.position c.index-index-position.result c.as_slice-index.ensures c.index-index-position.is)

pub returns-in_err-next-clause-after : goal.returns-in_err-next-clause-after
returns-in_err-next-clause-after g c list prefix back value whole =
    let k = c.self.inside in
    let entry = entry_found k.index.items c.args.who c.in_ok-position.position (get_or c.as_slice-index.result.now c.in_ok-position.position c.index-index-position.result) (rw c.as_slice-index.ensures at c.in_ok-position.ensures) c.self.invariant.1.rising (entry_got c.self.inside.index.items c.as_slice-index.result.now c.in_ok-position.position c.index-index-position.result c.as_slice-index.ensures c.index-index-position.is) in
    let found = next_key k.lists.chains k.index.items c.args.who (get_or c.as_slice-index.result.now c.in_ok-position.position c.index-index-position.result) c.next.result c.self.invariant.1 entry c.next.ensures list prefix back value (ap (λ t. chain_at t.chains list) c.self.view_is ∙ whole) in
    c.from_residual-in_err-next.ensures ∙ next_none found.0 back (sym c.in_err-next.was ∙ found.1) found.2

pub value-requires : goal.value-requires
value-requires g c =
    let k = c.self.inside in
    let there = node_there k.lists.chains k.index.items c.self.invariant.1 c.args.who c.in_ok-position.position (get_or c.as_slice-index.result.now c.in_ok-position.position c.index-index-position.result) (rw c.as_slice-index.ensures at c.in_ok-position.ensures) (entry_got c.self.inside.index.items c.as_slice-index.result.now c.in_ok-position.position c.index-index-position.result c.as_slice-index.ensures c.index-index-position.is) in
    next_value k.lists.chains (get_or c.as_slice-index.result.now c.in_ok-position.position c.index-index-position.result).key c.in_ok-next.next c.next.result there c.next.ensures c.in_ok-next.was

pub returns-clause-after : goal.returns-clause-after
returns-clause-after g c list prefix back value whole =
    let k = c.self.inside in
    let entry = entry_found k.index.items c.args.who c.in_ok-position.position (get_or c.as_slice-index.result.now c.in_ok-position.position c.index-index-position.result) (rw c.as_slice-index.ensures at c.in_ok-position.ensures) c.self.invariant.1.rising (entry_got c.self.inside.index.items c.as_slice-index.result.now c.in_ok-position.position c.index-index-position.result c.as_slice-index.ensures c.index-index-position.is) in
    let found = next_key k.lists.chains k.index.items c.args.who (get_or c.as_slice-index.result.now c.in_ok-position.position c.index-index-position.result) c.next.result c.self.invariant.1 entry c.next.ensures list prefix back value (ap (λ t. chain_at t.chains list) c.self.view_is ∙ whole) in
    next_named k.lists.chains k.index.items found.0 back c.in_ok-next.next c.value.result.now c.self.invariant.1 (sym c.in_ok-next.was ∙ found.1) found.2 found.3 c.value.ensures.value

pub returns-clause-absent : goal.returns-clause-absent
returns-clause-absent g c none =
    let k = c.self.inside in
    let entry = entry_found k.index.items c.args.who c.in_ok-position.position (get_or c.as_slice-index.result.now c.in_ok-position.position c.index-index-position.result) (rw c.as_slice-index.ensures at c.in_ok-position.ensures) c.self.invariant.1.rising (entry_got c.self.inside.index.items c.as_slice-index.result.now c.in_ok-position.position c.index-index-position.result c.as_slice-index.ensures c.index-index-position.is) in
    let v = entry_value k.lists.chains k.index.items c.self.invariant.1 c.args.who (get_or c.as_slice-index.result.now c.in_ok-position.position c.index-index-position.result) entry in
    let bad : Some v.0.value ≡ None = sym v.2 ∙ (ap (λ t. value_of t.chains c.args.who) c.self.view_is ∙ none) in
    absurd (cc)
