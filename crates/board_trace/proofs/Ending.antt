-- The end of a wait is told as the kernel gave it.
use Rattle.std.proofs.Common.{true, cond, eqb, [], ◌∷◌, None, ap, ◌∙◌}
use Rattle.std.proofs.lemmas.List.{get_or-set_same}
use Rattle.std.specs.Prelude.{◌&&◌}
use Rattle.wind_base.specs.Limits.{error_word}
use Rattle.wind_core.specs.Moves.{answered, errno_after}
use Rattle.board_changes.specs.Tasks.{wait_cases}
use Rattle.board_changes.specs.declared.change.Change.TheVariants as changes
use Rattle.board_trace.specs.Laws.{WaitEndLaw}
use Rattle.board_trace.specs.Snapshots.{view_in}

pub ends_told : WaitEndLaw
ends_told b t o object answer e waits gives room =
    let v = view_in o (answered answer e t) in
    let errno = errno_after t.errno e in
    ap (λ w. wait_cases true b v w None) waits
    ∙ ap (λ g. cond (true && g) (cond (eqb v.answer error_word) (changes.Failed t.id object errno) (changes.Served t.id object v.answer)) (changes.GoesOn t.id object) ∷ []) gives
    ∙ ap (λ r. cond (eqb r error_word) (changes.Failed t.id object errno) (changes.Served t.id object r) ∷ []) (get_or-set_same t.regs.gpr 3 answer 0 room)
