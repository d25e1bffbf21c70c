use Rattle.std.proofs.Common.{ap, ◌∙◌, refl, sym, subst, arith, length, Some, ◌<◌, ◌+◌, ◌≡◌, map}
use Rattle.std.specs.Prelude.{IsSome}
use Rattle.std.proofs.lemmas.Option.{same_Some}
use Rattle.slab.specs.Slab as slabs
use Rattle.id_table.specs.Records.{without}
use Rattle.linked_lists.specs.Chains.{cell_key, value_of, all_cells, without_cell}
use Rattle.linked_lists.specs.Inside.{IsKept, chains_in, goes_on, goes_back}
use Rattle.linked_lists.proofs.Keeping.{some_aimed, length-aim_first, len_aimed}
use Rattle.linked_lists.proofs.Telling.{found_at}
use Rattle.linked_lists.proofs.Nodes.{key_live, kept_again, list_within, neighbours_stay, removed_in, seen_again}
use Rattle.linked_lists.proofs.lists.Lists.remove.Goals as goal

pub remove-list-requires : goal.remove-list-requires
remove-list-requires g c = key_live c.self.inside.nodes c.self.inside.ends.items c.self.inside.room c.args.key c.args.self.now c.self.invariant c.self.view_is c.requires

pub link-requires : goal.link-requires
link-requires g c =
    let k = c.self.inside in
    let beside = neighbours_stay k.nodes c.remove-list.new.self k.ends.items k.room c.args.key c.remove-list.result c.self.invariant (subst (λ t. IsSome (value_of t.chains c.args.key)) (sym c.self.view_is) c.requires)
    c.remove-list.ensures.value c.remove-list.ensures.updates in
    record { list = list_within k.nodes k.ends.items k.room c.args.key c.remove-list.result c.self.invariant (subst (λ t. IsSome (value_of t.chains c.args.key)) (sym c.self.view_is) c.requires) c.remove-list.ensures.value; from = beside.0 }

pub link-requires-2-clause-list : goal.link-requires-2-clause-list
link-requires-2-clause-list g c =
    let k = c.self.inside in
    subst (λ n. c.remove-list.result.list < n)
    (sym (ap length c.link.ensures.ends ∙ length-aim_first k.ends.items c.remove-list.result.list c.remove-list.result.before c.remove-list.result.after))
    (list_within k.nodes k.ends.items k.room c.args.key c.remove-list.result c.self.invariant (subst (λ t. IsSome (value_of t.chains c.args.key)) (sym c.self.view_is) c.requires) c.remove-list.ensures.value)

pub link-requires-2-clause-from : goal.link-requires-2-clause-from
link-requires-2-clause-from g c x e =
    let k = c.self.inside in
    let beside = neighbours_stay k.nodes c.remove-list.new.self k.ends.items k.room c.args.key c.remove-list.result c.self.invariant (subst (λ t. IsSome (value_of t.chains c.args.key)) (sym c.self.view_is) c.requires)
    c.remove-list.ensures.value c.remove-list.ensures.updates in
    subst (λ n. IsSome (slabs.get n x)) (sym c.link.ensures.nodes)
    (some_aimed c.remove-list.new.self c.remove-list.result.before (goes_on c.remove-list.result.after) x (beside.1 x e))

pub invariant_of-self : goal.invariant_of-self
invariant_of-self g c =
    let k = c.self.inside in
    kept_again c.link-2.new.nodes c.link-2.new.ends.items (map (λ d. without cell_key d c.args.key) (chains_in k.nodes k.ends.items)) k.room
    (removed_in k.nodes c.remove-list.new.self c.link-2.new.nodes k.ends.items c.link-2.new.ends.items k.room c.args.key c.remove-list.result c.self.invariant
    (subst (λ t. IsSome (value_of t.chains c.args.key)) (sym c.self.view_is) c.requires) c.remove-list.ensures.value c.remove-list.ensures.updates c.remove-list.ensures.len
    c.remove-list.ensures.capacity (rw (c.link-2.ensures.nodes, c.link.ensures.nodes) refl) (rw (c.link-2.ensures.ends, c.link.ensures.ends) refl))

pub returns : goal.returns
returns g c =
    let k = c.self.inside in
    let cs = chains_in k.nodes k.ends.items in
    let found = found_at k.nodes k.ends.items cs k.room c.args.key c.self.invariant (subst (λ t. IsSome (value_of t.chains c.args.key)) (sym c.self.view_is) c.requires) in
    let new = map (λ d. without cell_key d c.args.key) cs in
    let now : IsKept c.link-2.new.nodes c.link-2.new.ends.items new k.room =
    removed_in k.nodes c.remove-list.new.self c.link-2.new.nodes k.ends.items c.link-2.new.ends.items k.room c.args.key c.remove-list.result c.self.invariant
    (subst (λ t. IsSome (value_of t.chains c.args.key)) (sym c.self.view_is) c.requires) c.remove-list.ensures.value c.remove-list.ensures.updates c.remove-list.ensures.len
    c.remove-list.ensures.capacity (rw (c.link-2.ensures.nodes, c.link.ensures.nodes) refl) (rw (c.link-2.ensures.ends, c.link.ensures.ends) refl) in
    let seen = seen_again c.link-2.new.nodes c.link-2.new.ends.items new k.room now in
    let count : length (all_cells new) + 1 ≡ length (all_cells cs) =
    omega (arith, now.all, c.self.invariant.all, c.remove-list.ensures.len, ap slabs.slab_len c.link-2.ensures.nodes, ap slabs.slab_len c.link.ensures.nodes, len_aimed c.link.new.nodes c.remove-list.result.after (goes_back c.remove-list.result.before), len_aimed c.remove-list.new.self c.remove-list.result.before (goes_on c.remove-list.result.after)) in
    record {
      value = sym (ap (λ t. value_of t.chains c.args.key) c.self.view_is) ∙ found.1 ∙ ap (λ n. Some n.value) (same_Some _ _ (sym found.3 ∙ c.remove-list.ensures.value));
      chains = seen ∙ ap (λ t. without_cell t c.args.key) c.self.view_is;
      count = ap (λ t. length (all_cells t.chains) + 1) seen ∙ count ∙ ap (λ t. length (all_cells t.chains)) c.self.view_is;
    }
