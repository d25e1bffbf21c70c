use Rattle.loader_cases.proofs.Unloading.{kept}
use Rattle.loader_cases.proofs.board.Board.unload.Goals as goal

pub invariant_of-self : goal.invariant_of-self
invariant_of-self c =
    let inside = c.self.inside in
    let made = c.unload.ensures in
    kept c.unload.result inside.kern inside.syms c.unload.new.syms inside.modules c.unload.new.self inside.part c.unload.new.part inside.ram.bytes c.args.id
    c.self.invariant made.live made.modules made.blocks made.unchanged made.held
