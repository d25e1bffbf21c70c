use Rattle.std.proofs.Common.{ap, ◌∙◌, arith}
use Rattle.std.specs.Prelude.{vec_capacity}
use Rattle.board_mem.specs.Pages.{PagesState, made_count}
use Rattle.board_mem.proofs.Making.{made_count-made_of, ArePages-stored}
use Rattle.board_mem.proofs.pages.Pages.made.Goals as goal

pub returns-clause-count : goal.returns-clause-count
returns-clause-count c =
    omega (arith, c.self.invariant.0.stored.exact, made_count-made_of c.self.inside.index.items) ∙ ap (λ (s : PagesState). made_count s.made) c.self.view_is

pub returns-clause-sound : goal.returns-clause-sound
returns-clause-sound c =
    rw (← c.self.view_is) (ArePages-stored c.self.inside.size c.self.inside.index.items c.self.inside.store.items (vec_capacity c.self.inside.store) c.self.invariant.0)
