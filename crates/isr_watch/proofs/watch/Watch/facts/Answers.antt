use Rattle.std.proofs.Common.{subst, arith}
use Rattle.std.proofs.lemmas.List.{length-map}
use Rattle.id_table.specs.Rows.{row_object}
use Rattle.isr_watch.specs.State.{IsWatch}
use Rattle.isr_watch.proofs.Writes.{rising_of}
use Rattle.isr_watch.proofs.watch.Watch.facts.Goals as goal

pub returns : goal.returns
returns c =
    let t = c.self.inside.watchdogs in
    let is = c.self.invariant.0 in
    subst IsWatch c.self.view_is
    (record { few = omega (arith, c.facts.ensures.few, is.room, length-map t.rows row_object); rising = rising_of t.rows is.own c.facts.ensures.rising; idle = is.idle })
