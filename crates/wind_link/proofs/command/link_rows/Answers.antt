use Rattle.std.proofs.Common.{map}
use Rattle.wind_outside.specs.Counts.{Rose}
use Rattle.module_image.specs.Opening.{opening_blocks}
use Rattle.wind_link.specs.Rows.{row}
use Rattle.wind_link.specs.Steps.{loads}
use Rattle.wind_link.proofs.Commanding.{rows_done}
use Rattle.wind_link.proofs.Fetching.{all_found}
use Rattle.wind_link.proofs.Rowing.{rows_placed}
use Rattle.wind_link.proofs.command.link_rows.Goals as goal

pub link_to-requires-clause-placed : goal.link_to-requires-clause-placed
link_to-requires-clause-placed g c =
    rows_placed 0 (g.F.Folder.files c.args.folder.now) c.args.names.dir.now opening_blocks (map row c.args.rows.now) (loads c.in-Ok.modules.placed.items) c.in-Ok.ensures.modules

pub returns-in-Ok-clause-requested : goal.returns-in-Ok-clause-requested
returns-in-Ok-clause-requested g c =
    all_found c.args.names.dir.now (map row c.args.rows.now) (g.F.Folder.requests c.args.folder.now) (g.F.Folder.requests c.read_modules.new.folder)
    (g.O.Sink.bytes c.args.out.now) (g.O.Sink.bytes c.link_to.new.out) (Rose (g.O.Sink.faults c.args.out.now) (g.O.Sink.faults c.link_to.new.out)) (loads c.in-Ok.modules.placed.items) c.link_to.result
    c.in-Ok.ensures.found c.link_to.ensures.links

pub returns-in-Ok-clause-told : goal.returns-in-Ok-clause-told
returns-in-Ok-clause-told g c = λ done. record { loads = loads c.in-Ok.modules.placed.items; placed = c.in-Ok.ensures.modules; told = c.link_to.ensures.told done }

pub returns-in-Err-clause-told : goal.returns-in-Err-clause-told
returns-in-Err-clause-told g c = λ done.
    absurd (rows_done (g.F.Folder.files c.args.folder.now) c.args.names.dir.now (map row c.args.rows.now) (record { before = g.F.Folder.faults c.args.folder.now; after = g.F.Folder.faults c.read_modules.new.folder }) c.in-Err.end c.in-Err.ensures.refused done)
