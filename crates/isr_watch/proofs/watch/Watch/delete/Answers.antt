use Rattle.std.proofs.Common.{◌≡◌, ℕ, Bool, not, eqb, ap, ◌∙◌, sym, subst, IsSome}
use Rattle.std.proofs.lemmas.List.Elements.{All-filter}
use Rattle.id_table.specs.Rows.{Rows, objects}
use Rattle.id_table.proofs.Owning.{objects-without}
use Rattle.isr_watch.specs.declared.watchdog.Watchdog.{Watchdog}
use Rattle.isr_watch.specs.State.{WatchState, watchdog_id, watchdog_of}
use Rattle.isr_watch.specs.Calls.{delete}
use Rattle.isr_watch.specs.Inside.{DueFrom, NoneBefore, watch_state}
use Rattle.isr_watch.proofs.Writes.{lives_in, deleted_is}
use Rattle.isr_watch.proofs.watch.Watch.delete.Goals as goal

pub invariant_of-self : goal.invariant_of-self
invariant_of-self c =
    let k = c.self.inside in
    let is = c.self.invariant.0 in
    let stays : ℕ × Watchdog → Bool = λ r. not (eqb r.0 c.in-Some.at) in
    let early = subst (NoneBefore k.soonest) (sym (objects-without watchdog_id k.watchdogs.rows c.in-Some.at is.own))
    (All-filter (λ (w : Watchdog). not (eqb w.id c.in-Some.at)) (DueFrom k.soonest) (objects k.watchdogs.rows) is.early) in
    rw c.remove.ensures.rows (record { own = All-filter stays (λ (r : ℕ × Watchdog). r.1.id ≡ r.0) k.watchdogs.rows is.own; room = is.room; early = early; idle = is.idle }, c.self.invariant.1)

pub returns-clause-state : goal.returns-clause-state
returns-clause-state c =
    let k = c.self.inside in
    let at = c.in-Some.at in
    let v = lives_in k.watchdogs.rows at c.self.invariant.0.own (subst (λ (s : WatchState). IsSome (watchdog_of s.watchdogs at)) (sym c.self.view_is) c.in-Some.ensures.1) in
    ap (λ (t : Rows Watchdog). watch_state t.rows k.level k.listed.items k.next_start k.link) c.remove.ensures.rows
    ∙ deleted_is k.watchdogs.rows k.level k.listed.items k.next_start k.link at c.args.id v.0 c.self.invariant.0.own v.1 c.in-Some.ensures.0
    ∙ ap (λ s. delete s c.args.id) c.self.view_is
