-- What follows from the definitions of message queues alone.
use Rattle.std.specs.Prelude.{◌≡◌, ℕ, zero, suc, ◌+◌, ◌≤◌, List, [], ◌++◌, length, Option, None, Some}
use Rattle.std.specs.List.{All}
use Rattle.std.specs.List.Sorted.{IsPermutation}
use Rattle.wind_base.specs.Limits.{most_tasks}
use Rattle.id_table.specs.Rows.{object_of, IdsBelow}
use Rattle.wind_core.specs.State.{KernState, IsKern}
use Rattle.wind_core.specs.Move.{Move, Pend, apply, EachMove, IsAllowed as MayMove, after as after_moves}
use Rattle.msg_queue.specs.declared.words.Sending.{Sending}
use Rattle.msg_queue.specs.declared.words.Receiving.{Receiving}
use Rattle.msg_queue.specs.State.{QueueState, Scene, scene, queue_of}
use Rattle.msg_queue.specs.Sends.{send}
use Rattle.msg_queue.specs.Receives.{receive}
use Rattle.msg_queue.specs.Comings.{create_refusal, new_queue, created, delete}
use Rattle.msg_queue.specs.Kept.{IsKept, IsCalm, IsElsewhere}
use Rattle.msg_queue.specs.Machine.{Event, IsAllowed, after_event, Parcel, contents, AllPlain, after, accepted, taken_in}

-- ---- the invariant
-- each step keeps the invariant
abbrev pub KeptLaw : Type 0
KeptLaw = (s : Scene) (e : Event) → IsKept s → IsAllowed s e → IsKept (after_event s e)

-- it holds if there are no queues and no task waits
abbrev pub StartLaw : Type 0
StartLaw = (k : KernState) (ram : List ℕ) → IsKern k → All (λ t. t.wait ≡ None) k.tasks
    → IsKept (scene k (record { queues = []; asks = [] }) ram)

-- a new queue keeps it
abbrev pub CreateLaw : Type 0
CreateLaw = (s : Scene) (max_msgs max_len options : ℕ)
    → create_refusal (length s.queues.queues) s.kern.next_id max_msgs max_len options ≡ None
    → IsKept s → IsKept (created s (new_queue max_msgs max_len options))

-- a move begins no wait at a queue: a pend names another live object
abbrev pub SparesQueues : List (ℕ × QueueState) → KernState → Move → Type 0
SparesQueues rs k (Pend who place fifo n) = IsElsewhere rs k.next_id place
SparesQueues rs k m = Unit {0}

-- such a move can happen between two calls on queues
abbrev pub CalmLaw : Type 0
CalmLaw = (rs : List (ℕ × QueueState)) (k : KernState) (m : Move) → IsKern k → MayMove k m → SparesQueues rs k m
    → IsCalm rs k (apply k m)

-- if two such changes can, one after the other, so can both together
abbrev pub ThenLaw : Type 0
ThenLaw = (rs : List (ℕ × QueueState)) (k l m : KernState) → IsCalm rs k l → IsCalm rs l m → IsCalm rs k m

-- any list of such moves can, even an empty one
abbrev pub SeriesLaw : Type 0
SeriesLaw = (rs : List (ℕ × QueueState)) (k : KernState) (ms : List Move) → IsKern k
    → EachMove (λ j m. MayMove j m × SparesQueues rs j m) k ms → IsCalm rs k (after_moves k ms)

-- ---- the counters
-- the tick count stays, so does whether ids are lent, and at most n order numbers are given
pub record CountsOn (n : ℕ) (k l : KernState) : Type 0 where
  pub tick : l.tick ≡ k.tick
  pub lent : l.lent ≡ k.lent
  pub sinces : l.next_since ≤ k.next_since + n

-- the bounds for each call; a deletion ends at most two waits for each possible task
pub record CountLaw : Type 0 where
  pub sending : (s : Scene) (id : ℕ) (x : Sending) → CountsOn 1 s.kern (send s id x).kern
  pub receiving : (s : Scene) (id : ℕ) (x : Receiving) → CountsOn 1 s.kern (receive s id x).kern
  pub creating : (s : Scene) (q : QueueState) → CountsOn 0 s.kern (created s q).kern
  pub deleting : (s : Scene) (id : ℕ) → IsKern s.kern → CountsOn (most_tasks + most_tasks) s.kern (delete s id).kern

-- ---- conservation
-- the next event is allowed, in each state with the invariant
abbrev pub IsPlan : (Scene → Option Event) → Type 0
IsPlan next = (s : Scene) (e : Event) → IsKept s → next s ≡ Some e → IsAllowed s e

-- the accepted messages are those taken and those held: the same lists of bytes, each as often
pub record IsConserved (accepted : List Parcel) (taken held : List (List ℕ)) : Type 0 where
  pub same : IsPermutation (contents accepted) (taken ++ held)
  -- if none was urgent, in the same order
  pub in_order : AllPlain accepted → contents accepted ≡ taken ++ held

-- from a state without queues on, for each queue that is live after k steps
abbrev pub ConservationLaw : Type 0
ConservationLaw = (next : Scene → Option Event) (s : Scene) → IsPlan next → IsKept s → s.queues.queues ≡ []
    → (k q : ℕ) (y : QueueState) → queue_of (after next s k) q ≡ Some y
    → IsConserved (accepted next s q k) (taken_in next s q k) y.held

-- the queues of a state, and the next id
pub record Stock : Type 0 where
  pub queues : List (ℕ × QueueState)
  pub next_id : ℕ

-- what a step accepts and takes for each queue agrees with what the queues hold before and after it
pub record IsBalanced (s t : Stock) (accepts : ℕ → List Parcel) (takes : ℕ → List (List ℕ)) : Type 0 where
  -- a queue that exists after the step and not before is new and empty
  pub born : (q : ℕ) (y : QueueState) → object_of t.queues q ≡ Some y → object_of s.queues q ≡ None
      → (s.next_id ≤ q) × (y.held ≡ [])
  -- nothing is added to or taken from a queue that doesn't exist
  pub idle : (q : ℕ) → object_of s.queues q ≡ None → (accepts q ≡ []) × (takes q ≡ [])
  pub stays : (q : ℕ) (x y : QueueState) → object_of s.queues q ≡ Some x → object_of t.queues q ≡ Some y
      → IsPermutation (contents (accepts q) ++ x.held) (takes q ++ y.held)
  pub in_order : (q : ℕ) (x y : QueueState) → object_of s.queues q ≡ Some x → object_of t.queues q ≡ Some y
      → AllPlain (accepts q) → x.held ++ contents (accepts q) ≡ takes q ++ y.held
  pub ids : s.next_id ≤ t.next_id

-- a run of any machine with queues: its state after k steps, and what each step accepts and takes for a queue
pub record IsRun (stock : ℕ → Stock) (accepts : ℕ → ℕ → List Parcel) (takes : ℕ → ℕ → List (List ℕ)) : Type 0 where
  pub none : (stock 0).queues ≡ []
  pub below : (k : ℕ) → IdsBelow (stock k).next_id (stock k).queues
  pub balanced : (k : ℕ) → IsBalanced (stock k) (stock (suc k)) (accepts k) (takes k)

-- what the first k steps gave, in order
abbrev pub gathered : {X : Type 0} → (ℕ → ℕ → List X) → ℕ → ℕ → List X
gathered given q zero = []
gathered given q (suc k) = gathered given q k ++ given k q

-- conservation for any machine, if each step is balanced
abbrev pub RunLaw : Type 0
RunLaw = (stock : ℕ → Stock) (accepts : ℕ → ℕ → List Parcel) (takes : ℕ → ℕ → List (List ℕ)) → IsRun stock accepts takes
    → (k q : ℕ) (y : QueueState) → object_of (stock k).queues q ≡ Some y
    → IsConserved (gathered accepts q k) (gathered takes q k) y.held
