use Rattle.wind_link.specs.Lists.{rows_of}
use Rattle.wind_link.proofs.Fetching.{no_text}
use Rattle.wind_link.proofs.command.link_text.Goals as goal

pub returns-in-Err-NoMemory-clause-requested : goal.returns-in-Err-NoMemory-clause-requested
returns-in-Err-NoMemory-clause-requested g c = no_text c.args.names.dir.now (rows_of c.args.text.now) (g.F.Folder.requests c.args.folder.now)
