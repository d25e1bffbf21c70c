use Rattle.std.proofs.Common.{sym, ap, ◌∙◌, subst}
use Rattle.std.specs.Option.{option_map}
use Rattle.id_table.specs.Records.{Rising}
use Rattle.wind_core.specs.State.{task_id}
use Rattle.wind_core.specs.Orders.{first_due}
use Rattle.wind_core.specs.Tick.{late_of}
use Rattle.wind_core.proofs.Ticks.{due_kept, due_read, none_named}
use Rattle.wind_core.proofs.kern.Kern.front_due.Goals as goal

pub returns-in-Some-clause-first : goal.returns-in-Some-clause-first
returns-in-Some-clause-first c =
    let s = c.args.self.now in
    let up = subst (λ s. Rising task_id s.tasks) c.self.view_is c.self.invariant.0.2.rising in
    c.late.ensures
    ∙ ap (option_map late_of) (sym (due_read s c.args.tick c.in-Some.who up (c.in-Some.ensures ∙ due_kept c.self.inside s c.args.tick c.self.invariant.0 c.self.view_is c.requires)))

pub returns-in-None-clause-first : goal.returns-in-None-clause-first
returns-in-None-clause-first c =
    let s = c.args.self.now in
    sym (ap (option_map late_of) (none_named (first_due s.tasks c.args.tick) (c.in-None.ensures ∙ due_kept c.self.inside s c.args.tick c.self.invariant.0 c.self.view_is c.requires)))
