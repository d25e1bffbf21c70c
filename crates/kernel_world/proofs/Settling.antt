-- Settling priorities keeps the world's invariant, and makes priorities exact.
use Rattle.std.proofs.Common.{◌≡◌, ℕ, ap}
use Rattle.wind_base.specs.declared.board_kind.BoardKind.{BoardKind}
use Rattle.wind_core.specs.State.{KernState, IsKern}
use Rattle.sem_mutex.specs.InheritanceMutexes.{MutexState, both as with_mutexes}
use Rattle.sem_mutex.proofs.InheritanceSame.{exact_same}
use Rattle.sem_mutex.proofs.InheritanceExact.{exact_law}
use Rattle.sem_mutex.proofs.Lifting.{raised_keeps}
use Rattle.kernel_world.specs.State.{WorldState}
use Rattle.kernel_world.specs.declared.objects.Objects.{Objects}
use Rattle.kernel_world.specs.Objects.{KeepsObjects}
use Rattle.kernel_world.specs.Kept.{CountsWithin}
use Rattle.kernel_world.specs.Settling.{settled_kern, settled_world, HasExact}
use Rattle.kernel_world.proofs.Waiting.{waits-raised}
use Rattle.kernel_world.proofs.Calming.{calm-raised}
use Rattle.kernel_world.proofs.Goes.{Goes, goes-raised}
use Rattle.kernel_world.proofs.ObjectMoves.{by_kern}

pub objects-settled : {board : BoardKind} (k : KernState) (o : Objects) → IsKern k → KeepsObjects board k o → KeepsObjects board (settled_kern k o) o
objects-settled k o is kept =
    by_kern k o is kept (settled_kern k o) (waits-raised k o is kept.waits o.mutexes.profile o.mutexes.rows)
    (raised_keeps (with_mutexes k o.mutexes) is kept.mutexes.holds)
    (calm-raised o.queues.queues o.mutexes.profile k o.mutexes.rows is)

pub goes-settled : (k : KernState) (o : Objects) (n : ℕ) → IsKern k → CountsWithin n k → Goes k (settled_kern k o) n 256
goes-settled k o n is within = goes-raised k n is within o.mutexes.profile o.mutexes.rows

pub exact-settled : (w : WorldState) → IsKern w.kern → HasExact (settled_world w)
exact-settled w is = exact_law (with_mutexes w.kern w.objects.mutexes) is

-- if priorities are exact already, settling changes nothing
pub settled_same : (w : WorldState) → IsKern w.kern → HasExact w → settled_world w ≡ w
settled_same w is exact = ap (λ (s : MutexState). record w { kern = s.kern }) (exact_same (with_mutexes w.kern w.objects.mutexes) is exact)
