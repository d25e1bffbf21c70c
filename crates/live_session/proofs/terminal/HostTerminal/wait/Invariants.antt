use Rattle.std.proofs.Common.{◌≡◌}
use Rattle.live_session.proofs.terminal.HostTerminal.wait.Given as goal

-- no read has failed
abbrev pub invariant-loop : goal.invariant-loop
invariant-loop g l = l.self.keys.faults ≡ l.fn.self.keys.faults
