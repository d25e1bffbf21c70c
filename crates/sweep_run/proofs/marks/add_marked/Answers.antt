use Rattle.std.proofs.Common.{rules, ◌∙◌, ap, take, map}
use Rattle.sweep_run.proofs.MarkLemmas.{marked_step}
use Rattle.sweep_run.proofs.marks.add_marked.Goals as goal

pub loop-rest-preserved : goal.loop-rest-preserved
loop-rest-preserved c =
    marked_step (map (λ m. m.now) c.args.marks.now) c.loop-rest.rest.now c.first_bytes.result.now c.after_line-rest.result.now c.loop-rest.text.items c.add_if_marked.new.text.items (search rules)
    (c.first_bytes.ensures.value ∙ ap (λ n. take n c.loop-rest.rest.now) c.line_len.ensures.exact) c.after_line-rest.ensures.value c.in_ok-add_if_marked.ensures
    ∙ c.loop-rest.invariant
