use Rattle.std.proofs.Common.{ap, ap₂, ◌∙◌}
use Rattle.std.specs.Prelude.{codes}
use Rattle.serde_json.specs.Data.{object}
use Rattle.trace_state.specs.Json.{number_of, text_of, with_all, with_member}
use Rattle.trace_summary.specs.Data.{count_members, longest_members}
use Rattle.trace_summary.proofs.json.task_value.Goals as goal

pub returns : goal.returns
returns c =
    let task = c.args.task.now in
    c.finish.ensures
    ∙ ap object
    (c.in_ok-add_longest.ensures
    ∙ ap (with_all (longest_members task.times))
    (c.in_ok-add_counts.ensures
    ∙ ap (with_all (count_members c.args.all task.counts))
    (c.in_ok-put_text.ensures
    ∙ ap₂ (λ b ms. with_member (codes "name") (text_of b) ms) c.bytes.ensures.value
    (c.in_ok-put_number.ensures ∙ ap₂ (λ n ms. with_member (codes "id") (number_of n) ms) c.from.ensures c.new-members.ensures))))
