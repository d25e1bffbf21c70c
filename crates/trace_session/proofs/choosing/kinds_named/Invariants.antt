use Rattle.std.proofs.Common.{◌≡◌, Bor, map, drop}
use Rattle.clap.specs.Words.{Text}
use Rattle.trace_session.specs.Command.{each}
use Rattle.trace_session.specs.Kinds.{kind_named}
use Rattle.trace_session.proofs.Items.{so_far}
use Rattle.trace_session.proofs.choosing.kinds_named.Given as goal

-- the first items have these values
abbrev pub invariant-loop-item : goal.invariant-loop-item
invariant-loop-item l =
    so_far kind_named l.kinds.items (map {A = Bor Text} {B = Text} (λ x. x.now) (drop l.item-index l.items)) ≡ each kind_named (map {A = Bor Text} {B = Text} (λ x. x.now) l.items)
