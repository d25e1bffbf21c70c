-- What two happenings have in common that are joined.
use Rattle.std.proofs.Common.{◌≡◌, ℕ, ◌+◌, Bool, true, false, if◌then◌else◌, None, Some, refl, sym, ap, ◌∙◌}
use Rattle.std.proofs.lemmas.Bool.{eqb-true}
use Rattle.kernel_world.specs.declared.actor.Actor.{Actor}
use Rattle.kernel_world.specs.declared.actor.Actor.TheVariants.{Task as by_task, Interrupt}
use Rattle.board_trace.specs.Runs.{joined, same_actor}
use Rattle.board_trace.specs.Subjects.{subject_actor, subject_of}
use Rattle.board_trace.specs.declared.happening.Happening.{Happening}
use Rattle.board_trace.specs.declared.happening.Happening.TheVariants as told
use Rattle.board_trace.specs.declared.who.Subject.TheVariants as subjects
use Rattle.trace_summary.specs.Figures.{idle_in}

pub if_same : (b : Bool) (h x : Happening) → (if b then Some h else None) ≡ Some x → (b ≡ true) × (h ≡ x)
if_same true h x e = (refl, cc)
if_same false h x e = absurd (cc)

same_subject : (who other : Actor) → same_actor who other ≡ true → subject_actor other ≡ subject_actor who
same_subject (by_task w) (by_task o) e = ap subjects.Task (eqb-true o w e)
same_subject (by_task w) Interrupt e = absurd (cc)
same_subject Interrupt (by_task o) e = absurd (cc)
same_subject Interrupt Interrupt e = refl

-- both and what they are joined to are told of one subject
pub joined_subject : (h g x : Happening) → joined h g ≡ Some x → (subject_of x ≡ subject_of h) × (subject_of g ≡ subject_of h)
joined_subject (told.Instructions who n) (told.Instructions other m) x e =
    let s = if_same (same_actor who other) (told.Instructions who (n + m)) x e in
    (ap subject_of (sym s.1), same_subject who other s.0)
joined_subject (told.Instructions who n) g x e = absurd (cc)
joined_subject h g x e = absurd (cc)

-- a figure of joined instructions is the sum of theirs
abbrev pub AddsUp : (Happening → ℕ) → Type 0
AddsUp f = (who other : Actor) (n m : ℕ) → f (told.Instructions who (n + m)) ≡ f (told.Instructions who n) + f (told.Instructions other m)

pub joined_sum : (f : Happening → ℕ) → AddsUp f → (h g x : Happening) → joined h g ≡ Some x → f x ≡ f h + f g
joined_sum f adds (told.Instructions who n) (told.Instructions other m) x e =
    let s = if_same (same_actor who other) (told.Instructions who (n + m)) x e in
    ap f (sym s.1) ∙ adds who other n m
joined_sum f adds (told.Instructions who n) g x e = absurd (cc)
joined_sum f adds h g x e = absurd (cc)

-- nobody's time passes in them
pub joined_idle : (time later : ℕ) (h g x : Happening) → joined h g ≡ Some x → idle_in time x ≡ idle_in time h + idle_in later g
joined_idle time later (told.Instructions who n) (told.Instructions other m) x e =
    let s = if_same (same_actor who other) (told.Instructions who (n + m)) x e in
    ap (idle_in time) (sym s.1)
joined_idle time later (told.Instructions who n) g x e = absurd (cc)
joined_idle time later h g x e = absurd (cc)
