use Rattle.std.proofs.Common.{ap, subst, ◌∙◌}
use Rattle.std.proofs.lemmas.Result.{on_ok_weaker}
use Rattle.board_trace.specs.Runs.{Line}
use Rattle.trace_text.specs.Forms.{Gained}
use Rattle.trace_text.specs.Pages.{PageState, waiting_line}
use Rattle.trace_text.proofs.Growing.{ends_other}
use Rattle.trace_text.proofs.page.Page.add_other.Goals as goal

pub returns-clause-lines : goal.returns-clause-lines
returns-clause-lines g c =
    let l : Line = record { time = c.args.at.time; step = c.args.at.step; name = c.args.name.now; what = c.args.happening.now } in
    on_ok_weaker c.add_line.result
    (λ gained given made ends. ends_other g.F.LineForm.is_line given c.finish.new.self.text c.add_line.new.text.items (waiting_line c.self.inside.growing) l made
    (c.in_ok-finish.ensures.lines given made ends)
    (ap (λ (p : PageState). waiting_line p.growing) c.self.view_is ∙ ap waiting_line c.in_ok-finish.ensures.growing)
    (subst (λ (p : PageState). Gained (g.F.LineForm.is_line l) p.text c.add_line.new.text.items) c.self.view_is gained) c.requires)
    c.add_line.ensures
