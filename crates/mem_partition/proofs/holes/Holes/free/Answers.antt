use Rattle.std.proofs.Common.{◌≡◌, get_or, None, sym, ap, ◌∙◌, arith}
use Rattle.mem_partition.specs.declared.block.Block.{Block}
use Rattle.mem_partition.specs.Own.{IsOwn}
use Rattle.mem_partition.specs.State.{own_block, after_free}
use Rattle.mem_partition.specs.Holes.{HolesState, with_holes}
use Rattle.mem_partition.specs.contracts.holes.Holes.{the_view}
use Rattle.mem_partition.proofs.Keeping.{place_inside, not_freed}
use Rattle.mem_partition.proofs.Rising.{holes_rise}
use Rattle.mem_partition.proofs.Seeking.{laid_rising}
use Rattle.mem_partition.proofs.Steps.{whole_is, free_holes, free_is_whole, merged_few}
use Rattle.mem_partition.proofs.holes.Holes.free.Goals as goal

pub returns-in_default-clause-after : goal.returns-in_default-clause-after
returns-in_default-clause-after c =
    let none : own_block c.self.inside.blocks.items c.args.addr c.args.class ≡ None = rw c.as_slice.ensures at c.in_default.ensures in
    sym c.self.view_is
    ∙ whole_is (the_view c.self.inside) c.self.invariant.2
    ∙ ap with_holes (sym (not_freed (the_view c.self.inside).part c.args.addr c.args.class none))
    ∙ ap (λ (x : HolesState). with_holes (after_free x.part c.args.addr c.args.class)) c.self.view_is

pub overflow_add-block : goal.overflow_add-block
overflow_add-block c =
    let s = the_view c.self.inside in
    let k = c.in-Some.position in
    let own : IsOwn s.part.blocks c.args.addr c.args.class k = rw c.as_slice.ensures at c.in-Some.ensures in
    let inside = place_inside s.part.start s.part.end s.part.blocks k c.remove-block.result c.self.invariant.2.part.laid own.within in
    let bound = c.self.invariant.2.part.bound in
    let is : c.remove-block.result ≡ get_or s.part.blocks k c.remove-block.result = c.remove-block.ensures.value in
    let addr = ap (λ (b : Block). b.addr) is in
    let size = ap (λ (b : Block). b.size) is in
    omega arith

pub own_position-requires : goal.own_position-requires
own_position-requires c =
    let s = the_view c.self.inside in
    rw c.as_slice.ensures (laid_rising s.part.start s.part.end s.part.blocks c.self.invariant.2.part.laid)

pub merge-requires : goal.merge-requires
merge-requires c =
    let s = the_view c.self.inside in
    let k = c.in-Some.position in
    let own : IsOwn s.part.blocks c.args.addr c.args.class k = rw c.as_slice.ensures at c.in-Some.ensures in
    let few = merged_few s k c.remove-block.result c.self.invariant.2 own.within c.remove-block.ensures.value in
    let spare = c.self.invariant.1 in
    record {
      order = holes_rise s c.self.invariant.2;
      room = omega arith;
    }

pub invariant_of-self : goal.invariant_of-self
invariant_of-self c =
    let s = the_view c.self.inside in
    let k = c.in-Some.position in
    let own : IsOwn s.part.blocks c.args.addr c.args.class k = rw c.as_slice.ensures at c.in-Some.ensures in (
      rw c.remove-block.ensures.room c.self.invariant.0,
      rw c.merge.ensures.capacity c.self.invariant.1,
      free_holes s c.args.addr c.args.class k c.remove-block.result c.remove-block.new.self.items c.merge.new.list.items c.self.invariant.2 own c.remove-block.ensures.value
          c.remove-block.ensures.items c.merge.ensures.items,
    )

pub returns-clause-after : goal.returns-clause-after
returns-clause-after c =
    let s = the_view c.self.inside in
    let k = c.in-Some.position in
    let own : IsOwn s.part.blocks c.args.addr c.args.class k = rw c.as_slice.ensures at c.in-Some.ensures in
    free_is_whole s c.args.addr c.args.class k c.remove-block.result c.remove-block.new.self.items c.merge.new.list.items c.self.invariant.2 own c.remove-block.ensures.value
    c.remove-block.ensures.items c.merge.ensures.items
    ∙ ap (λ (x : HolesState). with_holes (after_free x.part c.args.addr c.args.class)) c.self.view_is
