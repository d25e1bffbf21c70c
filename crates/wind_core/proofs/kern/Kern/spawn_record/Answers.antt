use Rattle.std.proofs.Common.{refl, arith}
use Rattle.wind_core.proofs.Comings.{ids_below, spawned_keeps, new_ready, ready_room}
use Rattle.wind_core.proofs.Noting.{noted_made}
use Rattle.wind_core.proofs.kern.Kern.spawn_record.Goals as goal

pub add-requires-clause-below : goal.add-requires-clause-below
add-requires-clause-below c = ids_below c.self.inside c.self.invariant.0

pub put-requires : goal.put-requires
put-requires c = record {
  absent = new_ready c.self.inside c.in-Ok.id c.self.invariant.0 c.in-Ok.ensures.id.0;
  room = ready_room c.self.inside c.self.invariant.0 (let left = c.in_ok-id.ensures.when.0 refl in omega (arith, left.0, c.self.invariant.0.0));
}

pub invariant_of-self : goal.invariant_of-self
invariant_of-self c =
    let here = c.in_ok-id.ensures.ok in
    let left = c.in_ok-id.ensures.when.0 refl in
    let added = c.in-Ok.ensures in (
      spawned_keeps c.self.inside c.args.task c.made.result c.in_ok-id.id c.in-Ok.id c.add.new.ids c.add.new.self c.put.new.self c.self.invariant.0
          (omega (arith, left.0, c.self.invariant.0.0)) left.1 c.made.ensures here.1 added.rows added.id.0 added.id.1 c.put.ensures,
      noted_made c.self.inside c.self.inside.all_normal c.self.inside.none_holds c.add.new.self c.args.task c.made.result c.in_ok-id.id c.in-Ok.id c.self.inside.next_since c.self.invariant.1 c.made.ensures added.rows,
    )
