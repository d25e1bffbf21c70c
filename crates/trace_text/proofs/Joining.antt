-- Instructions that are made in one go, and one more, are one line.
use Rattle.std.proofs.Common.{◌≡◌, ℕ, ◌+◌, Bool, true, false, if◌then◌else◌, List, [], ◌∷◌, Some, None, refl, ap, ◌∙◌, add_assoc, eq-eqb}
use Rattle.kernel_world.specs.declared.actor.Actor.{Actor}
use Rattle.kernel_world.specs.declared.actor.Actor.TheVariants.{Task as by_task, Interrupt}
use Rattle.board_trace.specs.Runs.{Line, joined, joined_or, same_actor, with_line}
use Rattle.board_trace.specs.declared.happening.Happening.{Happening}
use Rattle.board_trace.specs.declared.happening.Happening.TheVariants as told
use Rattle.trace_text.specs.Joining.{JoiningLaw}

pub same_self : (who : Actor) → same_actor who who ≡ true
same_self (by_task id) = eq-eqb id id refl
same_self Interrupt = refl

-- one more instruction after n of the same task or routine
one_more : (who : Actor) (n : ℕ) (u v : Line) (older : List Line) → with_line (record u { what = told.Instructions who 1 }) (record v { what = told.Instructions who n } ∷ older)
    ≡ record v { what = told.Instructions who (n + 1) } ∷ older
one_more who n u v older =
    ap (λ b. joined_or (if b then Some (told.Instructions who (n + 1)) else None) (record u { what = told.Instructions who 1 }) (record v { what = told.Instructions who n }) older) (same_self who)

-- one more instruction after n that were joined with k before them
one_more_joined : (who other : Actor) (k n : ℕ) (u newest : Line) (older : List Line) → same_actor other who ≡ true
    → with_line (record u { what = told.Instructions who 1 }) (record newest { what = told.Instructions other (k + n) } ∷ older) ≡ record newest { what = told.Instructions other (k + (n + 1)) } ∷ older
one_more_joined who other k n u newest older e =
    ap (λ b. joined_or (if b then Some (told.Instructions other (k + n + 1)) else None) (record u { what = told.Instructions who 1 }) (record newest { what = told.Instructions other (k + n) }) older) e
    ∙ ap (λ m. record newest { what = told.Instructions other m } ∷ older) (add_assoc k n 1)

by_flag : (b : Bool) (who other : Actor) (k n : ℕ) (u v newest : Line) (older : List Line) → same_actor other who ≡ b
    → with_line (record u { what = told.Instructions who 1 }) (joined_or (if b then Some (told.Instructions other (k + n)) else None) (record v { what = told.Instructions who n }) newest older)
    ≡ joined_or (if b then Some (told.Instructions other (k + (n + 1))) else None) (record v { what = told.Instructions who (n + 1) }) newest older
by_flag true who other k n u v newest older e = one_more_joined who other k n u newest older e
by_flag false who other k n u v newest older e = one_more who n u v (newest ∷ older)

by_newest : (h : Happening) (who : Actor) (n : ℕ) (u v newest : Line) (older : List Line)
    → with_line (record u { what = told.Instructions who 1 }) (joined_or (joined h (told.Instructions who n)) (record v { what = told.Instructions who n }) newest older)
    ≡ joined_or (joined h (told.Instructions who (n + 1))) (record v { what = told.Instructions who (n + 1) }) newest older
by_newest (told.Instructions other k) who n u v newest older = by_flag (same_actor other who) who other k n u v newest older refl
by_newest h who n u v newest older = one_more who n u v (newest ∷ older)

pub joining : JoiningLaw
joining who n u v [] = one_more who n u v []
joining who n u v (newest ∷ older) = by_newest newest.what who n u v newest older
