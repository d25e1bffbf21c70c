-- The invariant's parts are propositions.
use mathlib.Core.Path.{sym, ap, ◌∙◌}
use mathlib.Core.HLevel.{Σ_prop_path}
use Rattle.std.specs.Prelude.{◌≡◌, ℕ, ◌+◌, ◌≤◌, ◌<◌, true, min, List, [], ◌∷◌, length, Option, Some}
use Rattle.std.proofs.Props.{props}
use Rattle.std.specs.Coded.{Unit-prop}
use Rattle.wind_base.specs.declared.regs.Regs.{Regs}
use Rattle.mem_partition.specs.State.{Laid}
use Rattle.mem_partition.specs.declared.block.Block.{Block}
use Rattle.id_table.specs.Sides.{object_side, senders_side}
use Rattle.id_table.specs.declared.ident.Place.{Place}
use Rattle.task_block.specs.declared.task.Task.{Task}
use Rattle.wind_core.specs.State.{KernState}
use Rattle.msg_queue.specs.declared.asks.Ask.{Ask}
use Rattle.msg_queue.specs.State.{QueueState, ask_of, lies_in}
use Rattle.msg_queue.specs.Kept.{IsServable}
use Rattle.board_player.specs.Going.{IsRunner, IsRoutine, IsKnown}
use Rattle.board_player.specs.declared.order.Known.{Known}
use Rattle.board_player.specs.declared.order.Known.TheVariants.{Nothing, Called, Runner, Routine}

-- that blocks are in order is a proposition
pub Laid-prop : (lo hi : ℕ) (bs : List Block) → IsProp (Laid lo hi bs)
Laid-prop lo hi [] = Unit-prop
Laid-prop lo hi (b ∷ bs) =
    let after : IsProp (Laid (b.addr + b.size) hi bs) = Laid-prop (b.addr + b.size) hi bs in
    let whole : IsProp ((lo ≤ b.addr) × (0 < b.size) × (b.addr + b.size ≤ hi) × Laid (b.addr + b.size) hi bs) = hlevel (props, after) in
    whole

-- what holds of a task that waits at a queue, by its ask
abbrev OfAsk : ℕ → List Ask → Task → Place → QueueState → Ask → Type 0
OfAsk size asks t place q ask =
    (ask_of asks t.id ≡ Some ask) × (ask.place ≡ place)
    × (place.side ≡ object_side → (q.held ≡ []) × (lies_in size ask.buffer (min ask.count q.max_len) ≡ true))
    × (place.side ≡ senders_side → (length q.held ≡ q.max_msgs) × (ask.count ≤ q.max_len) × (lies_in size ask.buffer ask.count ≡ true))

OfAsk-prop : (size : ℕ) (asks : List Ask) (t : Task) (place : Place) (q : QueueState) (ask : Ask) → IsProp (OfAsk size asks t place q ask)
OfAsk-prop size asks t place q ask = hlevel props

-- a task has one ask
one_ask : (o : Option Ask) (a b : Ask) → o ≡ Some a → o ≡ Some b → a ≡ b
one_ask o a b p r = let both : Some a ≡ Some b = sym p ∙ r in cc

-- that such a task can be served is a proposition
pub IsServable-prop : (size : ℕ) (asks : List Ask) (t : Task) (place : Place) (q : QueueState) → IsProp (IsServable size asks t place q)
IsServable-prop size asks t place q s u =
    ap
    (λ (p : (ask : Ask) × OfAsk size asks t place q ask). record { ask = p.0; own = p.1.0; there = p.1.1; receiver = p.1.2; sender = p.1.3 })
    (Σ_prop_path {A = Ask} {B = OfAsk size asks t place q} (OfAsk-prop size asks t place q) {u = (s.ask, (s.own, s.there, s.receiver, s.sender))} {v = (u.ask, (u.own, u.there, u.receiver, u.sender))}
    (one_ask (ask_of asks t.id) s.ask u.ask s.own u.own))

-- what is known of who makes the next step is a proposition
pub IsKnown-prop : (k : KernState) (level : Option Regs) (known : Known) → IsProp (IsKnown k level known)
IsKnown-prop k level Nothing = Unit-prop
IsKnown-prop k level (Called reply) = Unit-prop
IsKnown-prop k level (Runner r) = let one : IsProp (IsRunner k level r) = hlevel props in one
IsKnown-prop k level Routine = let one : IsProp (IsRoutine k level) = hlevel props in one
