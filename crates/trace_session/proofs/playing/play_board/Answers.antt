use Rattle.std.proofs.Common.{inl, inr, refl}
use Rattle.trace_session.proofs.playing.play_board.Goals as goal

-- the run was traced
pub returns-in-Ok-clause-left : goal.returns-in-Ok-clause-left
returns-in-Ok-clause-left g c = inl (c.in-Ok.tracing.end, c.from.ensures, c.in-Ok.ensures.told)

-- memory ran out for the trace
pub returns-in-Err-clause-left : goal.returns-in-Err-clause-left
returns-in-Err-clause-left g c = inr (refl, c.in-Err.ensures.given_up)
