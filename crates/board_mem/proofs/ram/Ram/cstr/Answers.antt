use Rattle.std.proofs.Common.{◌++◌, drop, ap, ◌∙◌}
use Rattle.board_mem.proofs.Strings.{take-prefix}
use Rattle.board_mem.proofs.ram.Ram.cstr.Goals as goal

pub returns-clause-bytes : goal.returns-clause-bytes
returns-clause-bytes c =
    let n = c.in_ok-n.n in
    ap (λ bytes. bytes ++ drop n c.args.dst.now) (c.copy_from_slice.ensures.after
    ∙ take-prefix c.args.self.now.bytes c.prefix-count.new.bytes c.args.addr c.prefix-count.result n c.prefix-count.ensures.prefix c.in_ok-n.ensures.within)
