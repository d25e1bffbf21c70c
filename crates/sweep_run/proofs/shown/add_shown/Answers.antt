use Rattle.std.proofs.Common.{◌∙◌, ◌++◌, List, ℕ, ap, sym}
use Rattle.std.proofs.lemmas.Result.{on_ok_weaker}
use Rattle.sweep_run.proofs.ShownLemmas.{shown_last, shown_step}
use Rattle.sweep_run.proofs.shown.add_shown.Goals as goal

pub loop-length-preserved : goal.loop-length-preserved
loop-length-preserved c = record {
  lines = shown_step c.loop-length.length c.loop-length.rest.now c.first_bytes.result.now c.bytes_after-rest.result.now c.loop-length.text.items c.add_escaped.new.text.items c.add.new.text.items
      c.loop-length.invariant.first c.loop-length-test.true c.first_bytes.ensures.value c.bytes_after-rest.ensures.value c.in_ok-add_escaped.ensures c.in_ok-add.ensures
      ∙ c.loop-length.invariant.lines;
  first = c.line_len-length-in-loop-length.ensures.exact;
}

pub returns : goal.returns
returns c =
    on_ok_weaker c.add_escaped-2.result
    (λ added.
    added
    ∙ ap (λ (v : List ℕ). c.loop-length.text.items ++ v) (sym (shown_last c.loop-length.length c.loop-length.rest.now c.loop-length.invariant.first c.loop-length-test.false))
    ∙ c.loop-length.invariant.lines)
    c.add_escaped-2.ensures
