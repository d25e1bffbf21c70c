use Rattle.std.proofs.Common.{sym, take, ap, ◌∙◌}
use Rattle.board_trace.specs.Before.{has_interrupt_key}
use Rattle.board_reading.proofs.InterruptKey.{in_bytes, in_chunk}
use Rattle.board_reading.proofs.before.has_interrupt_key.Goals as goal

pub returns-in-Arrive : goal.returns-in-Arrive
returns-in-Arrive c =
    c.has_interrupt.ensures ∙ in_bytes (take c.chunk_len.result.0 c.args.left.now) ∙ in_chunk _ _ _ c.chunk_len.ensures.chunk
    ∙ sym (ap (λ n. has_interrupt_key n c.args.left.now) c.in-Arrive.is)
