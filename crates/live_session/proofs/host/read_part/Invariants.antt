use Rattle.std.proofs.Common.{◌≡◌, ◌≢◌, vec_len}
use Rattle.std.specs.List.{All}
use Rattle.live_session.proofs.host.read_part.Given as goal

-- one byte is read at a time, and none is the end of a line
abbrev pub invariant-loop : goal.invariant-loop
invariant-loop g l = record { counted : vec_len l.part ≡ l.counter; inside : All (λ byte. byte ≢ 10) l.part.items }
