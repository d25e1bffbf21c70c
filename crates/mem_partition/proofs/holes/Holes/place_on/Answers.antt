use Rattle.std.proofs.Common.{◌≡◌, ℕ, Option, Some, None, max, sym, ap, ◌∙◌, arith}
use Rattle.std.specs.Prelude.{IfSome}
use Rattle.mem_partition.specs.Place.{fit_on, Lies}
use Rattle.mem_partition.specs.Holes.{HolesState, hole_on}
use Rattle.mem_partition.specs.contracts.holes.Holes.{the_view}
use Rattle.mem_partition.proofs.Places.{fit_lies, hole_place}
use Rattle.mem_partition.proofs.holes.Holes.place_on.Goals as goal

pub returns-clause-value : goal.returns-clause-value
returns-clause-value c =
    let s = the_view c.self.inside in
    let size = c.args.size in
    let align = max c.args.align 16 in
    c.with_room.ensures
    ∙ ap (λ n. hole_on c.args.side size n c.deref.result.now) (c.from.ensures ∙ c.max.ensures)
    ∙ ap (hole_on c.args.side size align) (c.deref.ensures.value ∙ c.self.invariant.2.exact)
    ∙ hole_place c.args.side s.part.start s.part.end s.part.blocks size align (omega arith) c.requires.bytes c.self.invariant.2.part.laid
    ∙ ap (λ (x : HolesState). fit_on c.args.side x.part.start x.part.end x.part.blocks size align) c.self.view_is

pub returns-clause-lies : goal.returns-clause-lies
returns-clause-lies c =
    let s = c.args.self.now.part in
    each c.with_room.result (returns-clause-value c)
  where
    each : (o : Option ℕ) → o ≡ fit_on c.args.side c.args.self.now.part.start c.args.self.now.part.end c.args.self.now.part.blocks c.args.size (max c.args.align 16)
        → IfSome o (λ at. Lies c.args.self.now.part.start c.args.self.now.part.end c.args.self.now.part.blocks c.args.size at)
    each None e = tt
    each (Some at) e = fit_lies c.args.side c.args.self.now.part.start c.args.self.now.part.end c.args.self.now.part.blocks c.args.size (max c.args.align 16) at c.requires.bytes (sym e)
