-- What the code decides of a call before anything changes.
use Rattle.std.specs.Prelude.{ℕ}
use Rattle.sem_mutex.specs.Calls.{TakeDeed, declined, taken, retaken, starved, GiveDeed, denied, lowered, given_up}
use Rattle.sem_mutex.specs.declared.plans.TakePlan.{TakePlan}
use Rattle.sem_mutex.specs.declared.plans.TakePlan.TheVariants as takes
use Rattle.sem_mutex.specs.declared.plans.GivePlan.{GivePlan}
use Rattle.sem_mutex.specs.declared.plans.GivePlan.TheVariants as gives

-- what a take of the mutex with this id does, with the id in place of the mutex
abbrev pub take_plan : ℕ → TakeDeed → TakePlan
take_plan id (declined e) = takes.Declined e
take_plan id (taken m) = takes.Taken id
take_plan id (retaken m) = takes.Retaken id
take_plan id (starved m) = takes.Starved id

-- what a give of the mutex with this id does, with the id in place of the mutex
abbrev pub give_plan : ℕ → GiveDeed → GivePlan
give_plan id (denied e) = gives.Denied e
give_plan id (lowered m) = gives.Lowered id
give_plan id (given_up m) = gives.GivenUp id
