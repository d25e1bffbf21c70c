use Rattle.shell_eval.proofs.Smaller.{smaller, repeats}
use Rattle.shell_eval.proofs.Holes.{begun_whole}
use Rattle.shell_eval.proofs.CallLaws.{steps_leave, calls_leave, fills_holes, ends}
use Rattle.shell_eval.proofs.laws.evaluation_law.Goals as goal

pub returns : goal.returns
returns c = record { smaller = smaller; repeats = repeats; begun = begun_whole; step = steps_leave; call = calls_leave; fill = fills_holes; ends = ends }
