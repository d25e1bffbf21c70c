use Rattle.std.proofs.Common.{◌≡◌, ◌==◌, Some, position, ap, ◌∙◌}
use Rattle.std.specs.Option.{option_map}
use Rattle.board_mem.specs.Memory.{bytes_at, string_length}
use Rattle.board_mem.proofs.Strings.{take-prefix}
use Rattle.board_mem.proofs.ram.Ram.string.Goals as goal

pub returns : goal.returns
returns c =
    let ram = c.args.self.now.bytes in
    let n = c.in_ok-length.length in
    let bytes = take-prefix ram c.prefix-count.new.bytes c.args.addr c.prefix-count.result n c.prefix-count.ensures.prefix c.in_ok-length.ensures.within in
    let found : Some n ≡ string_length ram c.args.addr = c.in_ok-length.ensures.is ∙ ap (position (λ b. b == 0)) c.prefix-count.ensures.prefix in
    ap Some (c.of_prefix.ensures ∙ bytes) ∙ ap (option_map (bytes_at ram c.args.addr)) found
