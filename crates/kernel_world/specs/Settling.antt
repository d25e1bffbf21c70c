-- Priorities are settled at the end of a step.
use Rattle.wind_core.specs.State.{KernState}
use Rattle.sem_mutex.specs.InheritanceMutexes.{both as with_mutexes}
use Rattle.sem_mutex.specs.InheritanceReach.{raised_kern, IsExact}
use Rattle.kernel_world.specs.State.{WorldState}
use Rattle.kernel_world.specs.declared.objects.Objects.{Objects}

-- each task gets the priority that it inherits under the mutexes' rule
abbrev pub settled_kern : KernState → Objects → KernState
settled_kern k o = raised_kern o.mutexes.profile k o.mutexes.rows

abbrev pub settled_world : WorldState → WorldState
settled_world w = record w { kern = settled_kern w.kern w.objects }

-- each task has exactly that priority
abbrev pub HasExact : WorldState → Type 0
HasExact w = IsExact (with_mutexes w.kern w.objects.mutexes)
