use Rattle.shell_eval.proofs.Standing.{waiting, shown_waiting, room_waiting, fills_inside, fills_shown}
use Rattle.shell_eval.proofs.eval.Eval.fill.Goals as goal

pub put-requires : goal.put-requires
put-requires c =
    room_waiting c.self.inside.code c.self.inside.stack
    (waiting c.self.inside.waits c.self.inside.code c.self.inside.stack c.args.self.now c.self.invariant c.self.view_is c.requires)

pub invariant_of-self : goal.invariant_of-self
invariant_of-self c =
    fills_inside c.args.v c.self.inside.code c.self.inside.stack c.put.new.self
    (waiting c.self.inside.waits c.self.inside.code c.self.inside.stack c.args.self.now c.self.invariant c.self.view_is c.requires) c.put.ensures

pub returns : goal.returns
returns c =
    fills_shown c.args.v c.self.inside.code c.self.inside.stack c.put.new.self c.args.self.now
    (waiting c.self.inside.waits c.self.inside.code c.self.inside.stack c.args.self.now c.self.invariant c.self.view_is c.requires)
    (shown_waiting c.self.inside.waits c.self.inside.code c.self.inside.stack c.args.self.now c.self.invariant c.self.view_is c.requires) c.put.ensures
