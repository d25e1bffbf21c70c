use Rattle.std.proofs.Common.{ap, ◌∙◌}
use Rattle.kernel_calls.specs.Calls.{answered}
use Rattle.kernel_calls.proofs.Removing.{removes_after, back_after}
use Rattle.kernel_calls.proofs.Serving.{made_acts, served, served_shell}
use Rattle.kernel_calls.proofs.calls.make_call.Goals as goal

pub reply_to-requires : goal.reply_to-requires
reply_to-requires g c = made_acts c.args.gate _ _ c.args.who.now c.in-Ok.reply c.requires.kept c.requires.free c.requires.early c.in-Ok.ensures.ok c.requires.caller

pub returns-clause-removed : goal.returns-clause-removed
returns-clause-removed g c = removes_after c.args.gate _ _ c.args.who.now (c.reply_to.ensures.world ∙ ap (answered c.args.gate c.args.who.now) c.in-Ok.ensures.ok)

pub returns-clause-back : goal.returns-clause-back
returns-clause-back g c = back_after c.args.gate _ _ c.args.who.now (c.reply_to.ensures.world ∙ ap (answered c.args.gate c.args.who.now) c.in-Ok.ensures.ok)

pub returns-clause-kept : goal.returns-clause-kept
returns-clause-kept g c = served c.args.gate _ _ c.args.who.now c.in-Ok.reply c.requires.kept c.requires.free c.requires.early c.in-Ok.ensures.ok _ c.reply_to.ensures.world

pub returns-clause-shell : goal.returns-clause-shell
returns-clause-shell g c live = served_shell c.args.gate _ _ c.args.who.now c.in-Ok.reply c.requires.kept c.requires.free c.requires.early c.in-Ok.ensures.ok _ c.reply_to.ensures.world live
