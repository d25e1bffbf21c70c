use Rattle.std.proofs.Common.{◌≡◌, Bor, map, drop}
use Rattle.clap.specs.Words.{Text}
use Rattle.wind_session.specs.Command.{number_value}
use Rattle.trace_session.specs.Command.{each, most_id}
use Rattle.trace_session.proofs.Items.{so_far}
use Rattle.trace_session.proofs.choosing.task_ids.Given as goal

-- the first items have these values
abbrev pub invariant-loop-item : goal.invariant-loop-item
invariant-loop-item l =
    so_far (number_value most_id) l.ids.items (map {A = Bor Text} {B = Text} (λ x. x.now) (drop l.item-index l.items)) ≡ each (number_value most_id) (map {A = Bor Text} {B = Text} (λ x. x.now) l.items)
