use Rattle.std.proofs.Common.{ap, ◌∙◌, sym, map, ◌++◌}
use Rattle.std.proofs.lemmas.List.{append-nil}
use Rattle.id_table.specs.Rows.{objects}
use Rattle.isr_watch.specs.State.{watchdog_routine}
use Rattle.isr_watch.proofs.Stops.{none_stops, none_listed}
use Rattle.isr_watch.proofs.listing.list_since.Goals as goal

pub returns-then-tick-soonest-clause-watchdogs : goal.returns-then-tick-soonest-clause-watchdogs
returns-then-tick-soonest-clause-watchdogs c = sym (none_stops c.args.soonest c.args.tick (objects c.args.watchdogs.now.rows) c.if-tick-soonest.true c.requires.early)

pub returns-then-tick-soonest-clause-listed : goal.returns-then-tick-soonest-clause-listed
returns-then-tick-soonest-clause-listed c =
    let listed = c.args.listed.now.items in
    sym (ap (λ ws. listed ++ map watchdog_routine ws) (none_listed c.args.soonest c.args.tick (objects c.args.watchdogs.now.rows) c.if-tick-soonest.true c.requires.early) ∙ append-nil listed)
