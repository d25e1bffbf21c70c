use Rattle.std.proofs.Common.{Some}
use Rattle.std.proofs.lemmas.Map.Text.{btree_map_updates_str}
use Rattle.wind_link.specs.Values.{entry_of}
use Rattle.wind_link.proofs.values.Values.set.Goals as goal

pub returns-in-Ok : goal.returns-in-Ok
unfolding entry_of
returns-in-Ok c = λ q.
    btree_map_updates_str c.args.name.now c.args.self.now.by_name c.insert.new.self (Some c.args.value) c.in-Ok.ensures.updates q
