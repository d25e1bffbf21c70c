use Rattle.std.proofs.Common.{◌≡◌, ◌+◌, ◌*◌, drop}
use Rattle.shell_parse.specs.Trees.{plain_arguments}
use Rattle.shell_eval.specs.Code.{compiled_all}
use Rattle.shell_eval.proofs.compile.+emit.Given as goal

abbrev pub decreases-emit : goal.decreases-emit
decreases-emit l = 3 * goal.size-emit l

abbrev pub decreases-emit_after : goal.decreases-emit_after
decreases-emit_after l = 3 * goal.size-emit_after l + 1

abbrev pub decreases-emit_place : goal.decreases-emit_place
decreases-emit_place l = 3 * goal.size-emit_place l + 1

abbrev pub decreases-emit_all : goal.decreases-emit_all
decreases-emit_all l = 3 * goal.size-emit_all l + 1

abbrev pub decreases-emit_call : goal.decreases-emit_call
decreases-emit_call l = 3 * goal.size-emit_call l + 2

abbrev pub invariant-emit_all-loop-i : goal.invariant-emit_all-loop-i
invariant-emit_all-loop-i l = l.code ≡ compiled_all (plain_arguments (drop l.i l.arguments)) l.fn.code
