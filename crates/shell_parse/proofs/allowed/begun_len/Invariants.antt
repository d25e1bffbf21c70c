use Rattle.std.proofs.Common.{◌≡◌, ◌+◌, [], drop}
use Rattle.shell_parse.specs.Allowed.{begun_from}
use Rattle.shell_parse.specs.declared.allowed.Mode.TheVariants.{Start}
use Rattle.shell_parse.proofs.allowed.begun_len.Given as goal

-- the tokens so far, and those that are allowed of the others
abbrev pub invariant-loop-i : goal.invariant-loop-i
invariant-loop-i l = l.i + begun_from (drop l.i l.tokens) l.mode l.frames ≡ begun_from l.tokens Start []
