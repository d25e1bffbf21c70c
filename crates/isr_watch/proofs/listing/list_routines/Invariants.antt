use Rattle.std.proofs.Common.{◌≡◌, ◌++◌, ◌+◌, take}
use Rattle.std.specs.VecDeque.{deque_len, deque_capacity}
use Rattle.isr_watch.proofs.listing.list_routines.Given as goal

abbrev pub invariant-loop-routine : goal.invariant-loop-routine
invariant-loop-routine l = record {
  listed : l.listed.items ≡ l.initial.listed.items ++ take l.routine-index l.routines;
  capacity : deque_capacity l.listed ≡ deque_capacity l.initial.listed;
  len : deque_len l.listed ≡ deque_len l.initial.listed + l.routine-index;
}
