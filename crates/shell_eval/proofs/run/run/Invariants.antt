use Rattle.std.proofs.Common.{◌≡◌, ◌≤◌, length}
use Rattle.wind_base.specs.OutBuf.{KeepsSpace}
use Rattle.shell_eval.specs.Seen.{seen_by, SameEnv, SameSize, Ready}
use Rattle.shell_eval.specs.Frames.{Stands}
use Rattle.shell_eval.specs.Follows.{tree_of}
use Rattle.shell_eval.specs.Evaluate.{evaluate}
use Rattle.shell_eval.proofs.run.run.Given as goal

abbrev pub invariant-loop-n : goal.invariant-loop-n
invariant-loop-n g l = record {
  stands : Stands l.code l.stack.list;
  room : length l.code ≤ l.stack.room;
  code : length l.code ≤ length l.initial.code;
  ready : Ready (length l.code) l.env;
  same :
      evaluate (seen_by (λ d. (goal.Device-dyn g (d.vtable, d.value)).kind_of d.value) (λ d. (goal.Device-dyn g (d.vtable, d.value)).words_of d.value) l.initial.env) (tree_of l.initial.code l.initial.stack.list)
      ≡ evaluate (seen_by (λ d. (goal.Device-dyn g (d.vtable, d.value)).kind_of d.value) (λ d. (goal.Device-dyn g (d.vtable, d.value)).words_of d.value) l.env) (tree_of l.code l.stack.list);
  parts : SameEnv l.initial.env l.env;
  sizes : SameSize l.initial.env l.env;
  space : KeepsSpace l.initial.env.out.now l.env.out.now;
}

abbrev pub decreases-loop-n : goal.decreases-loop-n
decreases-loop-n g l = length l.code
