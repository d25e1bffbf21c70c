use Rattle.std.proofs.Common.{ap, ◌∙◌, sym, length}
use Rattle.linked_lists.specs.Chains.{chain_at}
use Rattle.delay_queue.proofs.Waiting.{length-wakes, one_cells}
use Rattle.delay_queue.proofs.delays.Delays.len.Goals as goal

pub returns : goal.returns
returns c =
    let cs = c.self.inside.tasks.chains in
    c.len.ensures ∙ ap length (one_cells cs c.self.invariant.0.one) ∙ sym (length-wakes 0 (chain_at cs 0)) ∙ ap (λ o. length o.tasks) c.self.view_is
