use Rattle.std.proofs.Common.{◌≡◌, ◌≤◌, length, arith}
use Rattle.symbol_table.proofs.Running.{runs_kept}
use Rattle.symbol_table.proofs.chains.Chains.remove_group.Goals as goal

pub add_runs-requires-clause-runs : goal.add_runs-requires-clause-runs
add_runs-requires-clause-runs c =
    let list = c.self.inside.list.items in
    let runs = c.self.inside.runs.items in
    let first = c.first_of-first.result in
    let count : length runs ≡ length list = c.self.invariant.5 in
    let size = c.deref.ensures.len in
    let within = c.first_of-first.ensures.within in
    let le : first ≤ length runs = omega arith in
    rw (c.deref-7.ensures.value, c.truncate.ensures.items)
    (runs_kept list c.drop_group.new.list.items runs first c.self.invariant.6 le c.drop_group.ensures.within c.drop_group.ensures.before)
