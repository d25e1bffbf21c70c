use Rattle.std.proofs.Common.{◌≡◌, subst, sym, ap, ◌∙◌, arith}
use Rattle.mem_partition.specs.Place.{rounded, Lies}
use Rattle.mem_partition.specs.State.{with_block}
use Rattle.mem_partition.specs.Holes.{with_holes}
use Rattle.mem_partition.proofs.Allocs.{alloc_on_lies, room_of_alloc, refused_is, after_on_is}
use Rattle.mem_partition.proofs.Steps.{whole_is}
use Rattle.mem_partition.proofs.holes.Holes.alloc.Goals as goal

pub overflow_cast-size : goal.overflow_cast-size
overflow_cast-size c =
    let lies = alloc_on_lies c.args.side c.args.self.now.part c.args.n c.args.align c.in-Ok.addr (sym c.in-Ok.ensures.answer) in
    let high = lies.high in
    let bound = c.in-Ok.ensures.sound.part.bound in
    let size : c.round_up-size.result ≡ rounded c.args.n = c.round_up-size.ensures.value in
    omega arith

pub put-requires-clause-lies : goal.put-requires-clause-lies
put-requires-clause-lies c =
    let s = c.args.self.now.part in
    subst (λ n. Lies s.start s.end s.blocks n c.in-Ok.addr) (sym c.round_up-size.ensures.value)
    (alloc_on_lies c.args.side s c.args.n c.args.align c.in-Ok.addr (sym c.in-Ok.ensures.answer))

pub put-requires-clause-room : goal.put-requires-clause-room
put-requires-clause-room c = room_of_alloc c.args.side c.args.self.now.part c.args.n c.args.align c.in-Ok.addr (sym c.in-Ok.ensures.answer)

pub returns-in-Err-clause-after : goal.returns-in-Err-clause-after
returns-in-Err-clause-after c =
    whole_is c.args.self.now c.in-Err.ensures.sound
    ∙ ap with_holes (sym (refused_is c.args.side c.args.self.now.part c.args.n c.args.align c.args.class c.in-Err.refusal (sym c.in-Err.ensures.answer)))

pub returns-in-Ok-clause-after : goal.returns-in-Ok-clause-after
returns-in-Ok-clause-after c =
    let s = c.args.self.now.part in
    let at = c.in-Ok.addr in
    c.put.ensures
    ∙ ap (λ n. with_holes (record s { blocks = with_block (record { addr = at; size = n; class = c.args.class }) s.blocks })) c.round_up-size.ensures.value
    ∙ ap with_holes (sym (after_on_is c.args.side s c.args.n c.args.align at c.args.class (sym c.in-Ok.ensures.answer)))
