use Rattle.std.proofs.Common.{sym, ◌∙◌}
use Rattle.std.proofs.lemmas.Result.{on_ok_weaker}
use Rattle.serde_json.specs.View.{view}
use Rattle.trace_state.proofs.Growing.{one_ends}
use Rattle.trace_state.proofs.memory.RamRanges.end.Goals as goal

pub returns : goal.returns
returns c =
    on_ok_weaker c.add.result
    (λ more at r holds. one_ends at c.args.self.now (record { ended = c.add.new.self; last = c.take.new.self }) c.in-Some.range (view c.in_ok-value.field-0) r
    (sym c.take.ensures.value ∙ c.in-Some.is) c.take.ensures.after more (λ x is. c.in_ok-value.ensures at x is) holds)
    c.add.ensures
