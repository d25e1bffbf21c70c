use Rattle.std.proofs.Common.{sym, take, ap, ◌∙◌}
use Rattle.std.specs.List.{list_any}
use Rattle.board_trace.specs.WindMachineNextType.TheVariants.{Come}
use Rattle.board_trace.specs.Before.{has_interrupt_key, is_interrupt_byte}
use Rattle.board_reading.proofs.InterruptKey.{in_bytes}
use Rattle.board_reading.proofs.before.brings_interrupt_key.Goals as goal

pub returns-in-Rx : goal.returns-in-Rx
returns-in-Rx c =
    let left = c.args.left.now in
    c.has_interrupt.ensures ∙ in_bytes (take c.brought.result left) ∙ ap (λ xs. list_any is_interrupt_byte xs) c.brought.ensures.taken
    ∙ sym (ap (λ e. has_interrupt_key (Come e) left) c.in-Rx.is)
