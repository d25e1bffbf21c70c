-- The state of a schedule: for each rule with future events, the next one and how many are left.
use Rattle.std.specs.Prelude.{ℕ, zero, suc, ◌+◌, ◌-◌, ◌*◌, ◌^◌, ◌<◌, ◌≤◌, ◌≡◌, List, [], ◌∷◌}
use Rattle.std.specs.List.{All, flat_map}
use Rattle.std.specs.BinaryHeap.{IsHeap}
use Rattle.std.specs.Ordering.{nat_cmp, ordering_then}
use Rattle.std.specs.declared.cmp.Ordering.{Ordering}
use Rattle.std.specs.declared.cmp.Reverse.{Reverse}
use Rattle.id_table.specs.Sorting.{sorted}
use Rattle.tick_file.specs.declared.event.Rule.{Rule}
use Rattle.tick_file.specs.declared.event.Rule.TheVariants.{At, Every}
use Rattle.tick_file.specs.declared.pending.Pending.{Pending}
use Rattle.tick_file.specs.Lines.{Numbered}
use Rattle.tick_file.specs.Schedule.{Timed, before}

-- the given number of events: this one, and each further one a period later
abbrev pub coming : ℕ → Timed → ℕ → List Timed
coming period t zero = []
coming period t (suc left) = t ∷ coming period (record t { time = t.time + period; number = suc t.number }) left

-- the next event of a rule
abbrev pub next_of : Pending → Timed
next_of p = record { time = p.time; line = p.line; number = p.number; event = p.event }

-- the future events of a rule
abbrev pub upcoming : Pending → List Timed
upcoming p = coming p.period (next_of p) p.left

-- a rule before its first event
abbrev pub pending_at : ℕ → Rule → Pending
pending_at n (At time event) = record { time = time; line = n; number = 1; event = event; left = 1; period = 0 }
pending_at n (Every period count event) = record { time = period; line = n; number = 1; event = event; left = count; period = period }

abbrev pub pending_of : Numbered → Pending
pending_of r = pending_at r.line r.rule

-- a rule as an entry of the heap, whose greatest entry comes first
abbrev pub waiting_of : Numbered → Reverse Pending
waiting_of r = record { 0 = pending_of r }

-- a rule after its next event
abbrev pub moved_on : Pending → Pending
moved_on p = record p { time = p.time + p.period; number = p.number + 1; left = p.left - 1 }

-- an event is left, and all times fit
pub record IsSound (p : Pending) : Type 0 where
  pub some : 0 < p.left
  pub numbers : p.number + p.left ≤ 2 ^ 32
  pub apart : p.period ≤ 2 ^ 32 - 1
  pub times : p.time ≤ p.number * (2 ^ 32 - 1)

-- two rules of one line have the same event
abbrev pub Agree : Pending → Pending → Type 0
Agree p q = p.line ≡ q.line → p.event ≡ q.event

-- the order of the heap: the greatest entry is the rule whose event comes next
abbrev pub by_next : Reverse Pending → Reverse Pending → Ordering
by_next p q = ordering_then (nat_cmp q.0.time p.0.time) (ordering_then (nat_cmp q.0.line p.0.line) (nat_cmp q.0.number p.0.number))

-- the heap is in order, each rule is sound, and any two agree
pub record IsKept (ps : List (Reverse Pending)) : Type 0 where
  pub heap : IsHeap by_next ps
  pub sound : All (λ p. IsSound p.0) ps
  pub agree : All (λ p. All (λ q. Agree p.0 q.0) ps) ps

-- all future events of these rules
abbrev pub events_in : List (Reverse Pending) → List Timed
events_in ps = flat_map (λ p. upcoming p.0) ps

-- the same in order
abbrev pub waiting : List (Reverse Pending) → List Timed
waiting ps = sorted before (events_in ps)
