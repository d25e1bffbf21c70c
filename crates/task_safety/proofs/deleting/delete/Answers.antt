use Rattle.std.proofs.Common.{◌≡◌, ℕ, false, true, ap, sym, ◌∙◌}
use Rattle.wind_base.specs.Limits.{wait_forever}
use Rattle.wind_core.specs.State.{KernState}
use Rattle.wind_core.specs.Moves.{set_again, pend}
use Rattle.task_safety.specs.declared.deleting.Deed.{Deed}
use Rattle.task_safety.specs.declared.deleting.Deed.TheVariants.{Removes}
use Rattle.task_safety.specs.Safety.{deletion}
use Rattle.task_safety.specs.Deletion.{is_repeated, asked, after}
use Rattle.task_safety.proofs.Targets.{again_lives, lessen_lives, says}
use Rattle.task_safety.proofs.deleting.delete.Goals as goal

-- the caller's mark, depending on what the call does
marked : (s k : KernState) (caller : ℕ) (d e : Deed) → k ≡ set_again s caller (is_repeated d) → d ≡ e → k ≡ set_again s caller (is_repeated e)
marked s k caller d e is same = is ∙ ap (λ x. set_again s caller (is_repeated x)) same

pub lessen-requires-clause-live : goal.lessen-requires-clause-live
lessen-requires-clause-live c =
    rw (marked c.args.k.now c.mark.new.k c.args.caller c.deed_of-deed.result _ c.mark.ensures c.in-EndsItself.is) (again_lives c.args.k.now c.args.caller c.args.caller false c.requires.live)

pub take_out-requires : goal.take_out-requires
take_out-requires c =
    rw (c.lessen.ensures, marked c.args.k.now c.mark.new.k c.args.caller c.deed_of-deed.result _ c.mark.ensures c.in-EndsItself.is)
    (lessen_lives (asked c.args.k.now c.args.caller) c.args.caller c.in-EndsItself.count c.args.caller (again_lives c.args.k.now c.args.caller c.args.caller false c.requires.live))

pub take_out-requires-in-Removes : goal.take_out-requires-in-Removes
take_out-requires-in-Removes c =
    let who = c.in-Removes.target in
    let said = says c.args.k.now.tasks c.args.caller c.args.target c.deed_of-deed.result (Removes who) c.deed_of-deed.ensures c.in-Removes.is in
    rw (marked c.args.k.now c.mark.new.k c.args.caller c.deed_of-deed.result _ c.mark.ensures c.in-Removes.is) (again_lives c.args.k.now c.args.caller who false said.1)

pub pend-requires-clause-live : goal.pend-requires-clause-live
pend-requires-clause-live c =
    rw (marked c.args.k.now c.mark.new.k c.args.caller c.deed_of-deed.result _ c.mark.ensures c.in-Awaits.is) (again_lives c.args.k.now c.args.caller c.args.caller true c.requires.live)

pub returns-in-Awaits-clause-kern : goal.returns-in-Awaits-clause-kern
returns-in-Awaits-clause-kern c =
    let marks = marked c.args.k.now c.mark.new.k c.args.caller c.deed_of-deed.result _ c.mark.ensures c.in-Awaits.is in
    c.pend.ensures ∙ ap (λ k. pend k c.args.caller (deletion c.in-Awaits.target) false wait_forever) marks
    ∙ ap (after c.args.k.now c.args.caller) (sym c.in-Awaits.is ∙ c.deed_of-deed.ensures)
