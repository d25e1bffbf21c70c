use Rattle.std.proofs.Common.{◌≢◌, sym, subst}
use Rattle.kernel_world.specs.State.{WorldState}
use Rattle.kernel_world.specs.Actors.{Acts}
use Rattle.kernel_world.specs.declared.reply.Reply.TheVariants.{Gone}
use Rattle.kernel_world.proofs.Living.{errno_acts}
use Rattle.kernel_world.proofs.answering.reply_to.Goals as goal

pub give_answer-requires-in-Refusal : goal.give_answer-requires-in-Refusal
give_answer-requires-in-Refusal g c =
    let is = c.in-Refusal.is in
    let stays : c.args.reply.now ≢ Gone = λ gone. cc in
    subst (λ (s : WorldState). Acts s.kern c.args.who.now) (sym c.set_errno.ensures.world) (errno_acts _ c.args.who.now _ (c.requires stays))
