-- What the code decides of a call before anything changes.
use Rattle.std.specs.Prelude.{ℕ}
use Rattle.sem_plain.specs.Calls.{TakeDeed, declined, taken, starved, GiveDeed, denied, passed_on, counted}
use Rattle.sem_plain.specs.declared.plans.TakePlan.{TakePlan}
use Rattle.sem_plain.specs.declared.plans.TakePlan.TheVariants as takes
use Rattle.sem_plain.specs.declared.plans.GivePlan.{GivePlan}
use Rattle.sem_plain.specs.declared.plans.GivePlan.TheVariants as gives

-- what a take of the semaphore with this id does, with the id in place of the semaphore
abbrev pub take_plan : ℕ → TakeDeed → TakePlan
take_plan id (declined e) = takes.Declined e
take_plan id (taken v) = takes.Taken id
take_plan id (starved v) = takes.Starved id

-- what a give of the semaphore with this id does, with ids in place of the task and of the semaphore
abbrev pub give_plan : ℕ → GiveDeed → GivePlan
give_plan id (denied e) = gives.Denied e
give_plan id (passed_on t) = gives.PassedOn t.id
give_plan id (counted v) = gives.Counted id
