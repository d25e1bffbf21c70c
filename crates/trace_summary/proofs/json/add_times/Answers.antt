use Rattle.std.proofs.Common.{ap, ap₂, ◌∙◌}
use Rattle.std.specs.Prelude.{codes}
use Rattle.std.proofs.lemmas.Result.{on_ok_weaker}
use Rattle.trace_state.specs.Json.{number_of, with_member}
use Rattle.trace_summary.specs.Data.{stretch_data}
use Rattle.trace_summary.proofs.json.add_times.Goals as goal

pub returns : goal.returns
returns c =
    on_ok_weaker c.put_stretch-2.result
    (λ is. is
    ∙ ap (with_member (codes "longest_inherited") (stretch_data c.args.times.now.inherited))
    (c.in_ok-put_number.ensures ∙ ap₂ (λ n ms. with_member (codes "longest_response") (number_of n) ms) c.time_shown.ensures c.in_ok-put_stretch.ensures))
    c.put_stretch-2.ensures
