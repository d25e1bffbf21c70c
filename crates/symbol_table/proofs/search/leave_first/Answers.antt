use Rattle.std.proofs.Common.{take, ap, ◌∙◌}
use Rattle.std.proofs.lemmas.List.{take-map}
use Rattle.symbol_table.specs.Chains.{hashes_of}
use Rattle.symbol_table.proofs.search.leave_first.Goals as goal

pub link-requires-clause-hashed : goal.link-requires-clause-hashed
link-requires-clause-hashed c = ap (take c.args.n) c.requires.hashed ∙ take-map hashes_of c.args.n c.args.list.now
