use Rattle.std.proofs.Common.{◌≡◌, ◌≤◌, ◌+◌, ◌++◌, map, length}
use Rattle.std.specs.VecDeque.{deque_len, deque_capacity}
use Rattle.id_table.specs.Rows.{objects}
use Rattle.isr_watch.specs.State.{due_watchdogs, watchdog_routine}
use Rattle.isr_watch.specs.Calls.{stop_due}
use Rattle.isr_watch.specs.Inside.{SameIds}
use Rattle.isr_watch.proofs.listing.list_due.Given as goal

abbrev pub invariant-loop-next : goal.invariant-loop-next
invariant-loop-next l = record {
  own : SameIds l.watchdogs.rows;
  room : l.watchdogs.room ≡ l.initial.watchdogs.room;
  watchdogs : stop_due l.tick (objects l.watchdogs.rows) ≡ stop_due l.tick (objects l.initial.watchdogs.rows);
  listed : l.listed.items ++ map watchdog_routine (due_watchdogs (objects l.watchdogs.rows) l.tick) ≡ l.initial.listed.items ++ map watchdog_routine (due_watchdogs (objects l.initial.watchdogs.rows) l.tick);
  capacity : deque_capacity l.listed ≡ deque_capacity l.initial.listed;
  space : deque_len l.listed + length (due_watchdogs (objects l.watchdogs.rows) l.tick) ≤ deque_capacity l.initial.listed;
}

abbrev pub decreases-loop-next : goal.decreases-loop-next
decreases-loop-next l = length (due_watchdogs (objects l.watchdogs.rows) l.tick)
