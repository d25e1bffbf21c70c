use Rattle.std.proofs.Common.{ap, ◌∙◌, sym, subst, cond}
use Rattle.std.proofs.lemmas.Bool.{ne_eqb}
use Rattle.id_table.specs.Records.{Rising}
use Rattle.wind_core.specs.State.{task_id}
use Rattle.wind_core.specs.Orders.{running}
use Rattle.wind_core.specs.Tick.{count_slice_of}
use Rattle.wind_core.proofs.Ticks.{runs, runner_ready}
use Rattle.wind_core.proofs.kern.Kern.count_slice.Goals as goal

pub count_task_slice-requires-clause-ready : goal.count_task_slice-requires-clause-ready
count_task_slice-requires-clause-ready c = runner_ready c.args.self.now c.in-Some.who (subst (λ s. Rising task_id s.tasks) c.self.view_is c.self.invariant.0.2.rising) c.in-Some.ensures

pub returns : goal.returns
returns c =
    let s = c.args.self.now in
    let up = subst (λ s. Rising task_id s.tasks) c.self.view_is c.self.invariant.0.2.rising in
    let tick_counted = ne_eqb s.slice 0 (λ e. c.if-self-eq0.false (ap (λ s. s.slice) c.self.view_is ∙ e)) in
    record {
      slice = c.count_task_slice.ensures
          ∙ ap (count_slice_of s) (sym (runs s c.in-Some.who up c.in-Some.ensures))
          ∙ ap (λ b. cond b s (count_slice_of s (running s))) (sym tick_counted);
    }
