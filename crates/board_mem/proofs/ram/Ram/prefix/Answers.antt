use Rattle.std.proofs.Common.{◌≡◌, ◌+◌, min, length, take, drop, ap, ◌∙◌, arith}
use Rattle.std.proofs.lemmas.List.{length-drop, length-take, take_at, take_min}
use Rattle.wind_base.specs.Limits.{longest_string}
use Rattle.board_mem.specs.Memory.{bytes_at}
use Rattle.board_mem.specs.Pages.{PagesState}
use Rattle.board_mem.proofs.Moves.{length-bytes_at}
use Rattle.board_mem.proofs.ram.Ram.prefix.Goals as goal

pub returns-clause-prefix : goal.returns-clause-prefix
returns-clause-prefix c =
    let count = c.min-count.result in
    let ram = c.self.inside.pages.bytes in
    let room : length (take count c.args.bytes.now) ≡ count = omega (arith, length-take count c.args.bytes.now) in
    let copied : c.get_across.new.dst ≡ bytes_at ram c.args.addr count = c.get_across.ensures ∙ ap (bytes_at ram c.args.addr) room in
    let size : length c.get_across.new.dst ≡ count = ap length copied ∙ length-bytes_at ram c.args.addr count (omega arith) in
    let all : count ≡ min (longest_string + 1) (length (drop c.args.addr ram)) = omega (arith, length-drop c.args.addr ram) in
    take_at c.get_across.new.dst _ count size ∙ copied ∙ ap (bytes_at ram c.args.addr) all ∙ take_min (longest_string + 1) (drop c.args.addr ram)
    ∙ ap (λ (r : PagesState). bytes_at r.bytes c.args.addr (longest_string + 1)) c.self.view_is
