use Rattle.std.proofs.Common.{sym, ◌∙◌, subst}
use Rattle.id_table.specs.Records.{Rising}
use Rattle.wind_core.specs.State.{task_id}
use Rattle.wind_core.specs.Orders.{most_urgent}
use Rattle.wind_core.proofs.Ticks.{urgent_kept, urgent_read, none_named}
use Rattle.wind_core.proofs.kern.Kern.most_urgent.Goals as goal

pub returns-in-Some : goal.returns-in-Some
returns-in-Some c =
    let s = c.args.self.now in
    let up = subst (λ s. Rising task_id s.tasks) c.self.view_is c.self.invariant.0.2.rising in
    c.task.ensures ∙ sym (urgent_read s c.in-Some.who up (c.in-Some.ensures ∙ urgent_kept c.self.inside s c.self.invariant.0 c.self.view_is))

pub returns-in-None : goal.returns-in-None
returns-in-None c =
    let s = c.args.self.now in
    sym (none_named (most_urgent s.tasks) (c.in-None.ensures ∙ urgent_kept c.self.inside s c.self.invariant.0 c.self.view_is))
