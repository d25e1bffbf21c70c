use Rattle.std.proofs.Common.{◌≡◌, ◌≤◌, length, arith}
use Rattle.text_show.proofs.Cut.{cut_times}
use Rattle.text_show.proofs.text.add_times.Goals as goal

pub returns : goal.returns
returns c =
    let le : length c.args.text.now.items ≤ 4096 = omega (arith, c.len-room.ensures.value, c.len-room.ensures.fits) in
    let end : c.loop.counter ≡ c.min-end.result = omega (arith, c.loop-test.false, c.loop.auto.counter-end) in
    rw (c.loop.invariant, end, c.min-end.ensures, c.len-room.ensures.value) (cut_times 4096 c.args.times c.args.byte c.args.text.now.items le)
