use Rattle.std.proofs.Common.{◌≡◌, ◌++◌, string_bytes}
use Rattle.generated_session.specs.Session.{rounds}
use Rattle.generated_session.proofs.inputs.add_rounds.Given as goal

-- the lines of the rounds so far were added
abbrev pub invariant-loop-made : goal.invariant-loop-made
invariant-loop-made l = string_bytes l.text ≡ string_bytes l.fn.text ++ rounds l.made
