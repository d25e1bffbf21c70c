use Rattle.std.proofs.Common.{◌≡◌, ℕ, ap, ◌∙◌, subst, Option, None, IsSome, MatchOption}
use Rattle.id_table.proofs.Owning.{object-record}
use Rattle.isr_watch.specs.declared.watchdog.Watchdog.{Watchdog}
use Rattle.isr_watch.specs.State.{WatchState, watchdog_id, watchdog_of}
use Rattle.isr_watch.proofs.watch.Watch.find.Goals as goal

pub returns : goal.returns
returns c =
    let rs = c.self.inside.watchdogs.rows in
    subst (λ (look : ℕ → Option Watchdog). MatchOption c.find.result (look c.args.number ≡ None) (λ id. (id ≡ c.args.number) × IsSome (look id)))
    (λ i n. (object-record watchdog_id rs n c.self.invariant.0.own ∙ ap (λ (s : WatchState). watchdog_of s.watchdogs n) c.self.view_is) i) c.find.ensures
