use Rattle.std.proofs.Common.{◌∙◌, arith}
use Rattle.shell_parse.specs.Trees.{plain_stmt}
use Rattle.shell_eval.specs.Follows.{tree_of}
use Rattle.shell_eval.proofs.Standing.{begins_inside}
use Rattle.shell_eval.proofs.Started.{shows_begun}
use Rattle.shell_eval.proofs.eval.Eval.start.Goals as goal

pub invariant_of-result : goal.invariant_of-result
invariant_of-result c =
    begins_inside (plain_stmt c.args.s.now) c.emit_stmt.new.code c.in_ok-stack.stack c.len-2.result c.in_ok-emit_stmt.ensures c.in_ok-stack.ensures c.len-2.ensures (omega arith)

pub returns : goal.returns
returns c = (λ i. tree_of (c.in_ok-emit_stmt.ensures i) ((c.in_ok-stack.ensures i).list)) ∙ shows_begun (plain_stmt c.args.s.now)
