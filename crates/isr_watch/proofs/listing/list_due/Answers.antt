use Rattle.std.proofs.Common.{ap, ◌∙◌, ◌++◌, [], ◌∷◌, map, refl, sym, arith, append_assoc}
use Rattle.std.proofs.lemmas.List.{length-map}
use Rattle.id_table.specs.Rows.{row_object, objects, with_object}
use Rattle.isr_watch.specs.State.{watchdog_routine, due_watchdogs}
use Rattle.isr_watch.specs.Calls.{stopped}
use Rattle.isr_watch.proofs.Stops.{iteration, alarm_lives, length-due, done_stop}
use Rattle.isr_watch.proofs.listing.list_due.Goals as goal

pub loop-next-init : goal.loop-next-init
loop-next-init c = record {
  own = c.requires.own;
  room = refl;
  watchdogs = refl;
  listed = refl;
  capacity = refl;
  space = omega (arith, c.requires.room, length-due (objects c.args.watchdogs.now.rows) c.args.tick, length-map c.args.watchdogs.now.rows row_object);
}

pub object_mut-requires : goal.object_mut-requires
object_mut-requires c = alarm_lives c.loop-next.watchdogs c.args.tick c.in-Some.next c.loop-next.invariant.own c.in-Some.ensures.sound.rising c.in-Some.ensures.first

pub loop-next-smaller : goal.loop-next-smaller
loop-next-smaller c =
    let one = iteration c.loop-next.watchdogs c.args.tick c.in-Some.next c.object_mut.result.now c.loop-next.invariant.own c.in-Some.ensures.sound.rising c.in-Some.ensures.first c.object_mut.ensures.value in
    omega (arith, one.fewer)

pub loop-next-preserved : goal.loop-next-preserved
loop-next-preserved c =
    let one = iteration c.loop-next.watchdogs c.args.tick c.in-Some.next c.object_mut.result.now c.loop-next.invariant.own c.in-Some.ensures.sound.rising c.in-Some.ensures.first c.object_mut.ensures.value in
    let rows = with_object c.loop-next.watchdogs.rows c.in-Some.next.id (stopped c.object_mut.result.now) in
    let routines = map watchdog_routine (due_watchdogs (objects rows) c.args.tick) in
    record {
      own = one.own;
      room = c.loop-next.invariant.room;
      watchdogs = one.watchdogs ∙ c.loop-next.invariant.watchdogs;
      listed = ap (λ xs. xs ++ routines) c.push_back_reserved.ensures.items ∙ append_assoc c.loop-next.listed.items (c.in-Some.next.routine ∷ []) routines
          ∙ ap (λ ys. c.loop-next.listed.items ++ ys) one.routines ∙ c.loop-next.invariant.listed;
      capacity = c.push_back_reserved.ensures.capacity ∙ c.loop-next.invariant.capacity;
      space = omega (arith, one.fewer, c.push_back_reserved.ensures.len, c.loop-next.invariant.space);
    }

pub returns-clause-watchdogs : goal.returns-clause-watchdogs
returns-clause-watchdogs c = sym (done_stop (objects c.loop-next.watchdogs.rows) c.args.tick c.in_default.ensures.first) ∙ c.loop-next.invariant.watchdogs
