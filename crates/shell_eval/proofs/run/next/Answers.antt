use Rattle.std.proofs.Common.{◌≡◌, List, subst, sym}
use Rattle.shell_eval.specs.declared.code.Op.{Op}
use Rattle.shell_eval.specs.declared.code.Entry.{Entry}
use Rattle.shell_eval.specs.State.{State}
use Rattle.shell_eval.specs.Machine.{Moved, move}
use Rattle.shell_eval.specs.Frames.{Stands}
use Rattle.shell_eval.specs.Follows.{tree_of, Follows}
use Rattle.shell_eval.proofs.Steps.{moves_follow}
use Rattle.shell_eval.proofs.run.next.Goals as goal

along : (m : Moved) (s : State) (c : List Op) (st : List Entry) → m ≡ move s c st → Stands c st → Follows s (tree_of c st) m
along m s c st e h = subst (Follows s (tree_of c st)) (sym e) (moves_follow s c st h)

pub returns-clause-follows : goal.returns-clause-follows
returns-clause-follows g c = along _ _ _ _ c.advance.ensures.moved c.requires.stands
