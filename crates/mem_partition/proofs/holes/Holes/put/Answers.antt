use Rattle.std.proofs.Common.{◌<◌, List, length, sym, ap, ◌∙◌, subst, arith}
use Rattle.mem_partition.specs.declared.block.Block.{Block}
use Rattle.mem_partition.specs.Place.{Lies}
use Rattle.mem_partition.specs.State.{with_block}
use Rattle.mem_partition.specs.Holes.{HolesState, with_holes}
use Rattle.mem_partition.specs.contracts.holes.Holes.{the_view}
use Rattle.mem_partition.proofs.Keeping.{laid_rises}
use Rattle.mem_partition.proofs.Rising.{holes_rise}
use Rattle.mem_partition.proofs.Steps.{holding, whole_is, holes_few, put_holes}
use Rattle.mem_partition.proofs.holes.Holes.put.Goals as goal

pub cut-requires : goal.cut-requires
cut-requires c =
    let s = the_view c.self.inside in
    let room : length s.part.blocks < s.part.room = subst (λ (x : HolesState). length x.part.blocks < x.part.room) (sym c.self.view_is) c.requires.room in
    let few = holes_few s c.self.invariant.2 in
    let spare = c.self.invariant.1 in
    record {
      order = holes_rise s c.self.invariant.2;
      room = omega arith;
    }

pub put_block-requires-clause-order : goal.put_block-requires-clause-order
put_block-requires-clause-order c =
    let s = the_view c.self.inside in
    laid_rises s.part.start s.part.end s.part.blocks c.self.invariant.2.part.laid

pub invariant_of-self : goal.invariant_of-self
invariant_of-self c =
    let s = the_view c.self.inside in
    let room : length s.part.blocks < s.part.room = subst (λ (x : HolesState). length x.part.blocks < x.part.room) (sym c.self.view_is) c.requires.room in
    let lies : Lies s.part.start s.part.end s.part.blocks c.args.block.size c.args.block.addr =
    subst (λ (x : HolesState). Lies x.part.start x.part.end x.part.blocks c.args.block.size c.args.block.addr) (sym c.self.view_is) c.requires.lies in (
      omega (arith, c.put_block.ensures.room, c.self.invariant.0),
      rw c.cut.ensures.capacity c.self.invariant.1,
      put_holes s c.args.block c.put_block.new.blocks.items c.cut.new.list.items c.self.invariant.2 c.requires.some lies room c.put_block.ensures.items c.cut.ensures.items,
    )

pub returns : goal.returns
returns c =
    let s = the_view c.self.inside in
    whole_is (holding s.part c.put_block.new.blocks.items c.cut.new.list.items) (invariant_of-self c).2
    ∙ ap (λ (bs : List Block). with_holes (record s.part { blocks = bs })) c.put_block.ensures.items
    ∙ ap (λ (x : HolesState). with_holes (record x.part { blocks = with_block c.args.block x.part.blocks })) c.self.view_is
