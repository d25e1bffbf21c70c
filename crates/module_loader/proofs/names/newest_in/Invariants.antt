use Rattle.std.proofs.Common.{◌≡◌, drop, None}
use Rattle.module_loader.specs.Modules.{newest_named}
use Rattle.module_loader.proofs.names.newest_in.Given as goal

abbrev pub invariant-loop-place : goal.invariant-loop-place
invariant-loop-place l = newest_named (drop l.place l.table.rows) l.name ≡ None
