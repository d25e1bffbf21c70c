use Rattle.std.proofs.Common.{◌≡◌, Bool, ap, ◌∙◌}
use Rattle.std.specs.Prelude.{List}
use Rattle.shell_eval.specs.declared.went.Went.{Went}
use Rattle.shell_eval.specs.declared.code.Op.{Op}
use Rattle.shell_eval.specs.declared.code.Entry.{Entry}
use Rattle.shell_eval.specs.State.{State}
use Rattle.shell_eval.specs.Pending.{Pending}
use Rattle.shell_eval.specs.Evaluate.{evaluate}
use Rattle.shell_eval.specs.Follows.{tree_with_hole}
use Rattle.shell_eval.specs.Moved.{came}
use Rattle.shell_eval.specs.Ran.{is_call}
use Rattle.shell_eval.specs.Inside.{tree_at}
use Rattle.shell_eval.specs.Laws.{holes}
use Rattle.shell_eval.proofs.Standing.{not_waiting, shown_not_waiting, came_at, holes_inside}
use Rattle.shell_eval.proofs.eval.Eval.go.Goals as goal

pub go_on-requires-clause-at : goal.go_on-requires-clause-at
go_on-requires-clause-at g c = not_waiting c.self.inside.waits c.self.inside.code c.self.inside.stack c.args.self.now c.self.invariant c.self.view_is c.requires.waits

joins : (r : Went) (w : Bool) (s t : State) (c : List Op) (st : List Entry) (p q : Pending) → w ≡ is_call r → came r s (tree_with_hole c st) ≡ evaluate t p → p ≡ q → came r s (tree_at w c st) ≡ evaluate t q
joins r w s t c st p q e f h = ap (λ (b : Bool). came r s (tree_at b c st)) e ∙ (came_at r s c st ∙ (f ∙ ap (evaluate t) h))

pub returns-clause-went : goal.returns-clause-went
returns-clause-went g c =
    joins _ _ _ _ _ _ _ _ c.is_call-self-inside.ensures c.in_ok-went.ensures.went
    (shown_not_waiting c.self.inside.waits c.self.inside.code c.self.inside.stack c.args.self.now c.self.invariant c.self.view_is c.requires.waits)

pub returns-clause-holes : goal.returns-clause-holes
returns-clause-holes g c =
    ap (λ (b : Bool). holes (tree_at b c.go_on.new.code c.go_on.new.stack.list)) c.is_call-self-inside.ensures
    ∙ holes_inside (is_call c.in_ok-went.went) c.go_on.new.code c.go_on.new.stack c.in_ok-went.ensures.at
