use Rattle.std.proofs.Common.{◌≡◌, ◌≤◌, ◌+◌, ◌*◌, length, drop}
use Rattle.wind_base.specs.OutBuf.{KeepsSpace}
use Rattle.wind_core.specs.State.{Lives}
use Rattle.wind_machine.specs.Events.{heard_from, heard_all}
use Rattle.board_actors.proofs.arrival.hear.Given as goal

-- hearing the bytes left, after what the others have done, is hearing them all
abbrev pub invariant-loop-byte : goal.invariant-loop-byte
invariant-loop-byte l = record {
  heard : heard_all (heard_from l.console l.shell l.kern l.out.bytes) (drop l.byte-index l.bytes) ≡ heard_all (heard_from l.initial.console l.initial.shell l.initial.kern l.initial.out.bytes) l.bytes;
  room : 3 * length l.bytes ≤ l.out.room + 3 * l.byte-index;
  spent : l.initial.out.room ≤ l.out.room + 3 * l.byte-index;
  space : KeepsSpace l.initial.out l.out;
  live : Lives l.kern 1;
  since : l.kern.next_since ≤ l.initial.kern.next_since + 2 * l.byte-index;
}
