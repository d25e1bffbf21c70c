use Rattle.std.proofs.Common.{Some}
use Rattle.std.proofs.lemmas.Map.Text.{btree_map_updates_str}
use Rattle.asm_lines.specs.Drafts.{number_at}
use Rattle.asm_lines.proofs.name_map.NameMap.set.Goals as goal

pub returns-in-Ok : goal.returns-in-Ok
unfolding number_at
returns-in-Ok c = λ q. btree_map_updates_str c.args.name.now c.args.self.now.kept c.insert.new.self (Some c.args.number) c.in-Ok.ensures.updates q
