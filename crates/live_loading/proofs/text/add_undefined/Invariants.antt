use Rattle.std.proofs.Common.{◌≡◌, ◌≤◌, ◌++◌, length, drop}
use Rattle.wind_base.specs.OutBuf.{KeepsSpace}
use Rattle.live_loading.specs.Texts.{undefined_text}
use Rattle.live_loading.proofs.text.add_undefined.Given as goal

-- what was added and the lines of the names that are left are all, and there is room for these
abbrev pub invariant-loop-name : goal.invariant-loop-name
invariant-loop-name l = record {
  text : l.out.bytes ++ undefined_text (drop l.name-index l.names) ≡ l.initial.out.bytes ++ undefined_text l.names;
  room : length (undefined_text (drop l.name-index l.names)) ≤ l.out.room;
  space : KeepsSpace l.initial.out l.out;
}
