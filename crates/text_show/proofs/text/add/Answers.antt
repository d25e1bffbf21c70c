use Rattle.std.proofs.Common.{◌≤◌, length, arith}
use Rattle.text_show.proofs.Cut.{cut_add}
use Rattle.text_show.proofs.text.add.Goals as goal

pub returns : goal.returns
returns c =
    let le : length c.args.text.now.items ≤ 4096 = omega (arith, c.len-room.ensures.value, c.len-room.ensures.fits) in
    rw (c.push_all.ensures, c.first_bytes.ensures.value, c.len-room.ensures.value) (cut_add 4096 c.args.text.now.items c.args.piece.now le)
