use Rattle.std.proofs.Common.{ℕ, List, ap, ◌∙◌}
use Rattle.std.proofs.lemmas.List.{take_all}
use Rattle.board_trace.specs.Runs.{Line}
use Rattle.board_trace.specs.declared.happening.Happening.TheVariants as told
use Rattle.trace_text.proofs.page.waiting.Goals as goal

pub returns : goal.returns
returns c =
    let named : List ℕ → Line = λ n. record { time = c.args.time; step = c.args.step; name = n; what = told.Instructions c.args.who c.args.count } in
    ap named (c.cut.ensures.value ∙ take_all 31 c.args.name.now c.requires)
