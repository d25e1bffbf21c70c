-- The walk law for tasks: what raising does to each priority.
use Rattle.std.proofs.Common.{ap, ◌∙◌, cond}
use Rattle.wind_core.proofs.Ids.{ids}
use Rattle.inheritance.specs.Reach.{boss, pri_of, lent_pri, lifted, urgency}
use Rattle.inheritance.specs.Laws.{UrgencyLaw, PremiseLaw, HeirsLaw}
use Rattle.inheritance.proofs.Lookups.{on_ids, place_on}
use Rattle.inheritance.proofs.Walk.{walk_law}
use Rattle.inheritance.proofs.Raising.{raised_to}
use Rattle.inheritance.proofs.Same.{urgent_but}

pub urgency_law : UrgencyLaw
urgency_law s x lives =
    (raised_to s.profile s.kern s.mutexes).pris x
    ∙ ap (λ b. cond b (lifted s.profile s.kern s.mutexes x) (pri_of s.kern.tasks x)) (on_ids s.kern.tasks x lives)

pub premise_law : PremiseLaw
premise_law w ms ts urgent = urgent_but w ts ms urgent

pub heirs_law : HeirsLaw
heirs_law s w x one urgent waits lives =
    urgency_law s x lives
    ∙ ap (λ p. urgency (boss s.kern.tasks s.mutexes) (lent_pri p s.kern.tasks) 256 (ids s.kern.tasks) x) one
    ∙ walk_law (boss s.kern.tasks s.mutexes) (pri_of s.kern.tasks) w 256 (ids s.kern.tasks) (urgent_but w s.kern.tasks s.mutexes urgent)
    (place_on (ids s.kern.tasks) w (on_ids s.kern.tasks w waits)) x
