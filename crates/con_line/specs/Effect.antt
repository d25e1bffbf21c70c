-- What the answer to a byte says about the finished lines.
use Rattle.std.specs.Prelude.{◌≡◌, [], ◌++◌}
use Rattle.con_line.specs.State.{ConsoleState}
use Rattle.con_line.specs.Lines.{with_end}
use Rattle.con_line.specs.declared.console.ByteDone.{ByteDone}
use Rattle.con_line.specs.declared.console.ByteDone.TheVariants as done

-- an abort leaves none; a finished line is added after the others with its end; otherwise they stay
abbrev pub Leaves : ByteDone → ConsoleState → ConsoleState → Type 0
Leaves done.Abort old new = new.finished ≡ []
Leaves done.Line old new = new.finished ≡ old.finished ++ with_end old.edited
Leaves done.Kept old new = new.finished ≡ old.finished
