-- The code of a deletion, compared with what a deletion does.
use Rattle.std.proofs.Common.{◌≡◌, ℕ, List, Option, None, Some, IsSome, refl, sym, ap, ap₂, ◌∙◌}
use Rattle.wind_base.specs.declared.errno.Errno.TheVariants as errors
use Rattle.id_table.specs.Rows.{object_of, without}
use Rattle.wind_core.specs.State.{KernState}
use Rattle.wind_core.specs.Moves.{wake_all}
use Rattle.msg_queue.specs.State.{QueueState, Scene, scene, receivers, senders}
use Rattle.msg_queue.specs.Comings.{deleted, delete}

some_of : (o : Option QueueState) → IsSome o → (q : QueueState) × (o ≡ Some q)
some_of None h = absurd (cc)
some_of (Some q) h = (q, refl)

pub deleted_is : (s : Scene) (id at : ℕ) (k l : KernState) (rs : List (ℕ × QueueState)) → at ≡ id → IsSome (object_of s.queues.queues at)
    → k ≡ wake_all s.kern (receivers at) 4294967295 (Some errors.ObjDeleted) → l ≡ wake_all k (senders at) 4294967295 (Some errors.ObjDeleted) → rs ≡ without s.queues.queues at
    → scene l (record s.queues { queues = rs }) s.ram ≡ delete s id
deleted_is s id at k l rs same live first second rows =
    let q = some_of (object_of s.queues.queues at) live in
    ap₂ (λ m r. scene m (record s.queues { queues = r }) s.ram) (second ∙ ap (λ m. wake_all m (senders at) 4294967295 (Some errors.ObjDeleted)) first) rows
    ∙ sym (ap (deleted s at) q.1)
    ∙ ap (delete s) same
