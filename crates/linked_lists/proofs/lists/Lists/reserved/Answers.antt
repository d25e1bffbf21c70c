use Rattle.std.proofs.Common.{sym, subst, replicate, []}
use Rattle.linked_lists.specs.Inside.{IsKept, chains_in}
use Rattle.linked_lists.proofs.Keeping.{kept_view, chains_alike}
use Rattle.linked_lists.proofs.Telling.{kept_empty}
use Rattle.linked_lists.proofs.lists.Lists.reserved.Goals as goal

pub invariant_of-result : goal.invariant_of-result
invariant_of-result g c =
    let kept = kept_empty c.in_ok-nodes.nodes c.in_ok-ends.ends.items c.args.lists c.args.n c.in_ok-nodes.ensures.empty c.in_ok-nodes.ensures.capacity (c.in_ok-ends.ensures.items_if_clones_equal (λ y e. e)) in
    subst (λ cs. IsKept c.in_ok-nodes.nodes c.in_ok-ends.ends.items cs c.args.n)
    (sym (kept_view c.in_ok-nodes.nodes c.in_ok-ends.ends.items (replicate c.args.lists []) c.args.n kept)) kept

pub returns : goal.returns
returns g c =
    let kept = kept_empty c.in_ok-nodes.nodes c.in_ok-ends.ends.items c.args.lists c.args.n c.in_ok-nodes.ensures.empty c.in_ok-nodes.ensures.capacity (c.in_ok-ends.ensures.items_if_clones_equal (λ y e. e)) in
    chains_alike (chains_in c.in_ok-nodes.nodes c.in_ok-ends.ends.items) (replicate c.args.lists []) c.args.n
    (kept_view c.in_ok-nodes.nodes c.in_ok-ends.ends.items (replicate c.args.lists []) c.args.n kept)
