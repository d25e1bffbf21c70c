use Rattle.std.proofs.Common.{◌≡◌, ◌+◌, ◌-◌, ◌*◌, take, drop, ap₂, arith}
use Rattle.board_mem.specs.Code.{page_words}
use Rattle.board_mem.proofs.code.entries_of.Goals as goal

pub returns : goal.returns
returns c =
    let start : (c.args.number - 1) * 1024 ≡ page_words * (c.args.number - 1) = omega arith in
    let count : (c.args.number - 1) * 1024 + 1024 - (c.args.number - 1) * 1024 ≡ page_words = omega arith in
    ap₂ (λ n at. take n (drop at c.args.entries.now)) count start
