use Rattle.std.proofs.Common.{List, ℕ, inl, inr, sym, subst}
use Rattle.wind_base.specs.Limits.{longest_module_file}
use Rattle.wind_link.specs.Command.{HasBytes}
use Rattle.wind_link.proofs.Fetching.{unread_module, bytes_refused, refused_module}
use Rattle.wind_link.proofs.files.read_module.Goals as goal

pub returns-in-Err-clause-refused : goal.returns-in-Err-clause-refused
returns-in-Err-clause-refused g c =
    inl (unread_module (g.F.Folder.files c.args.folder.now) c.args.file.now c.args.line (record { before = g.F.Folder.faults c.args.folder.now; after = g.F.Folder.faults c.bytes_of.new.folder }) c.in-Err.end c.in-Err.ensures.unread)

pub returns-in-Err-clause-ends : goal.returns-in-Err-clause-ends
returns-in-Err-clause-ends g c = inr c.in-Err.ensures.unfound

pub returns-in-Ok-placed_module-clause-module : goal.returns-in-Ok-placed_module-clause-module
returns-in-Ok-placed_module-clause-module g c =
    (c.deref.result.now, subst (λ (b : List ℕ). HasBytes longest_module_file (g.F.Folder.files c.args.folder.now) c.args.file.now b) (sym c.deref.ensures.value) c.in-Ok.ensures.found, c.in-Ok-placed_module.ensures.module)

pub returns-in-Ok-placed_module-clause-found : goal.returns-in-Ok-placed_module-clause-found
returns-in-Ok-placed_module-clause-found g c = c.in-Ok.ensures.fetched

pub returns-clause-refused : goal.returns-clause-refused
returns-clause-refused g c =
    bytes_refused (g.F.Folder.files c.args.folder.now) c.args.file.now c.deref.result.now c.args.taken.now.items c.args.line c.args.at
    (record { before = g.F.Folder.faults c.args.folder.now; after = g.F.Folder.faults c.bytes_of.new.folder }) c.in-Err-placed_module.end
    (subst (λ (b : List ℕ). HasBytes longest_module_file (g.F.Folder.files c.args.folder.now) c.args.file.now b) (sym c.deref.ensures.value) c.in-Ok.ensures.found)
    c.in-Err-placed_module.ensures.refused

pub returns-clause-ends : goal.returns-clause-ends
returns-clause-ends g c =
    inl (refused_module c.deref.result.now c.args.taken.now.items c.args.line c.args.at c.in-Err-placed_module.end c.in-Err-placed_module.ensures.refused, c.in-Ok.ensures.fetched)
