use Rattle.std.proofs.Common.{sym, ap, ◌∙◌, map}
use Rattle.shell_parse.specs.Trees.{plain_stmt}
use Rattle.wind_machine.specs.State.{ShellState}
use Rattle.board_actors.specs.ShellInside.{trees_of}
use Rattle.board_actors.proofs.Calling.{call_begun}
use Rattle.board_actors.proofs.shell.Shell.evaluate.Goals as goal

pub returns-in-Call-clause-ok : goal.returns-in-Call-clause-ok
returns-in-Call-clause-ok g c =
    call_begun c.args.self.now.trees _ _ c.go.new.eval _ _ _ c.in-Call.callee _ c.in_ok-value.field-0
    (ap (λ o. trees_of o (map plain_stmt c.begin_first.new.stmts.items)) (sym c.in-Some.is) ∙ c.in_ok-begin_first.ensures.trees ∙ ap (λ (s : ShellState). s.trees) c.self.view_is)
    c.in-Call.is c.in_ok-value.ensures.went c.in_ok-value.ensures.rest c.begin_call.ensures.called
