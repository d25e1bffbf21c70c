use Rattle.std.proofs.Common.{◌-◌, arith}
use Rattle.module_loader.proofs.Newest.{none_down, found_down}
use Rattle.module_loader.proofs.names.newest_in.Goals as goal

pub returns-then-has_name : goal.returns-then-has_name
returns-then-has_name c =
    found_down c.args.table.now.rows c.args.name.now c.loop-place.place (c.loop-place.place - 1) c.id_at.result c.has_name.result
    (omega (arith, c.loop-place-test.true)) (omega (arith, c.loop-place.auto.place, c.loop-place-test.true, c.len-place.ensures)) c.loop-place.invariant
    c.has_name.ensures c.if-has_name.true c.id_at.ensures

pub loop-place-preserved : goal.loop-place-preserved
loop-place-preserved c =
    none_down c.args.table.now.rows c.args.name.now c.loop-place.place (c.loop-place.place - 1) c.has_name.result
    (omega (arith, c.loop-place-test.true)) (omega (arith, c.loop-place.auto.place, c.loop-place-test.true, c.len-place.ensures)) c.loop-place.invariant
    c.has_name.ensures c.if-has_name.false
