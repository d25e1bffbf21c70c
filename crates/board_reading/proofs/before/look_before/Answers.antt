use Rattle.std.proofs.Common.{ap₂, ◌∙◌}
use Rattle.board_trace.specs.Before.{has_interrupt_key}
use Rattle.board_reading.proofs.Reading.{all_read}
use Rattle.board_reading.proofs.before.look_before.Goals as goal

-- each part is that of the board's state
pub returns-clause-value : goal.returns-clause-value
returns-clause-value g c =
    all_read _ _ _ _ _ _ _ _ _ _ _ _ _ _ _ _ c.in_ok-next.ensures.next c.world-world.ensures c.phase.ensures c.actor_of-actor.ensures c.counter_of-at.ensures c.gate_there_at-gate.ensures c.call_at-call.ensures c.word_at-word.ensures c.target_at-target.ensures c.owner_named-owner.ensures c.time.ensures c.steps.ensures c.phase-2.ensures c.left-left.ensures (c.has_interrupt_key-interrupt_key.ensures ∙ ap₂ has_interrupt_key c.in_ok-next.ensures.next c.left-left.ensures)
