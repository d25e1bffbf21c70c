use Rattle.std.proofs.Common.{ap}
use Rattle.std.proofs.lemmas.Result.{err_from_is_err_and}
use Rattle.wind_outside.specs.Counts.{Rose}
use Rattle.wind_session.specs.Plan.{plan_ticks}
use Rattle.wind_session.specs.Words.{command_state}
use Rattle.wind_session.proofs.FetchLemmas.{console_unfound, ticks_unfound, both_found, both_unplayed}
use Rattle.wind_session.proofs.PlanLemmas.{refuses_console, refuses_ticks, refuses_both}
use Rattle.wind_session.proofs.AppendingLemmas.{rose_earlier}
use Rattle.wind_session.proofs.playing.files_of.Goals as goal

pub returns-in_err-console-clause-refused : goal.returns-in_err-console-clause-refused
returns-in_err-console-clause-refused g c =
    let p = err_from_is_err_and c.from_residual.result c.from_residual.ensures.1 in
    rw (p.1, p.2)
    (refuses_console (g.F.Folder.files c.args.folder.now) (command_state c.args.command.now) c.in_err-console.field-0.0
    (Rose (g.F.Folder.faults c.args.folder.now) (g.F.Folder.faults c.fetched.new.folder)) c.in_err-console.ensures.refused)

pub returns-in_err-ticks-clause-refused : goal.returns-in_err-ticks-clause-refused
returns-in_err-ticks-clause-refused g c =
    let p = err_from_is_err_and c.from_residual-in_err-ticks.result c.from_residual-in_err-ticks.ensures.1 in
    rw (p.1, p.2)
    (refuses_ticks (g.F.Folder.files c.args.folder.now) (command_state c.args.command.now) c.in_ok-console.console.items c.in_ok-console.ensures.held c.in_err-ticks.field-0.0
    (Rose (g.F.Folder.faults c.fetched.new.folder) (g.F.Folder.faults c.fetched-2.new.folder))
    (Rose (g.F.Folder.faults c.args.folder.now) (g.F.Folder.faults c.fetched-2.new.folder))
    (rose_earlier _ _ _ c.fetched.ensures.keeps.1 c.fetched-2.ensures.keeps.1)
    (rw c.fetched.ensures.keeps.0 at c.in_err-ticks.ensures.refused))

pub returns-in_err-schedule-clause-refused : goal.returns-in_err-schedule-clause-refused
returns-in_err-schedule-clause-refused g c =
    let p = err_from_is_err_and c.from_residual-in_err-schedule.result c.from_residual-in_err-schedule.ensures.1 in
    let console = c.in_ok-console.console.items in
    rw (p.1, p.2)
    (refuses_both (g.F.Folder.files c.args.folder.now) (command_state c.args.command.now) console c.in_ok-console.ensures.held c.in_err-schedule.field-0.0
    c.in_ok-ticks.ticks.items
    (plan_ticks console c.deref.result.now)
    (Rose (g.F.Folder.faults c.args.folder.now) (g.F.Folder.faults c.fetched-2.new.folder))
    (rw c.fetched.ensures.keeps.0 at c.in_ok-ticks.ensures.held)
    (ap (plan_ticks console) c.deref.ensures.value)
    (c.in_err-schedule.ensures.refused console))

-- ---- the requests
pub returns-in_err-console-clause-without_run : goal.returns-in_err-console-clause-without_run
returns-in_err-console-clause-without_run g c =
    let p = err_from_is_err_and c.from_residual.result c.from_residual.ensures.1 in
    let unfound = c.in_err-console.ensures.unfound in
    rw (p.1, p.2) (console_unfound (command_state c.args.command.now) _ _ _ unfound.0 unfound.1 unfound.2)

pub returns-in_err-ticks-clause-without_run : goal.returns-in_err-ticks-clause-without_run
returns-in_err-ticks-clause-without_run g c =
    let p = err_from_is_err_and c.from_residual-in_err-ticks.result c.from_residual-in_err-ticks.ensures.1 in
    let unfound = c.in_err-ticks.ensures.unfound in
    rw (p.1, p.2) (ticks_unfound (command_state c.args.command.now) _ _ _ c.in_ok-console.ensures.found _ unfound.0 unfound.1 unfound.2)

pub returns-in_err-schedule-clause-without_run : goal.returns-in_err-schedule-clause-without_run
returns-in_err-schedule-clause-without_run g c =
    let p = err_from_is_err_and c.from_residual-in_err-schedule.result c.from_residual-in_err-schedule.ensures.1 in
    rw (p.1, p.2) (both_unplayed (command_state c.args.command.now) _ _ _ c.in_ok-console.ensures.found _ c.in_err-schedule.ensures.after_files c.in_ok-ticks.ensures.found)

pub returns-clause-found : goal.returns-clause-found
returns-clause-found g c = both_found (command_state c.args.command.now) _ _ _ c.in_ok-console.ensures.found c.in_ok-ticks.ensures.found
