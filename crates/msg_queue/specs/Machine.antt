-- A machine of calls on message queues, and which messages its steps move into a queue and out of it.
use Rattle.std.specs.Prelude.{◌≡◌, ℕ, zero, suc, ◌≤◌, Bool, false, ◌==◌, if◌then◌else◌, List, [], ◌∷◌, ◌++◌, map, length, Option, None, Some}
use Rattle.std.specs.List.{All}
use Rattle.wind_base.specs.Limits.{greatest_id}
use Rattle.wind_core.specs.State.{KernState}
use Rattle.wind_core.specs.Tick.{tick}
use Rattle.msg_queue.specs.declared.asks.Ask.{Ask}
use Rattle.msg_queue.specs.declared.words.Sending.{Sending}
use Rattle.msg_queue.specs.declared.words.Receiving.{Receiving}
use Rattle.msg_queue.specs.State.{QueueState, Scene, senders, first_asking}
use Rattle.msg_queue.specs.Sends.{SendDeed, declined, passed_on, queued, blocked, send_deed, send, sent_bytes}
use Rattle.msg_queue.specs.Receives.{ReceiveDeed, denied, taken, starved, receive_deed, receive, taken_out, waited_bytes}
use Rattle.msg_queue.specs.Comings.{created, delete}
use Rattle.msg_queue.specs.Kept.{IsQueue, IsCaller, IsCalm}

-- a message as it was sent
pub record Parcel : Type 0 where
  pub bytes : List ℕ
  pub urgent : Bool

-- the lists of bytes alone
abbrev pub contents : List Parcel → List (List ℕ)
contents ps = map (λ p. p.bytes) ps

-- none was sent as urgent
abbrev pub AllPlain : List Parcel → Type 0
AllPlain ps = All (λ p. p.urgent ≡ false) ps

-- ---- what one call moves; the state before the call decides it
-- what a send hands to a receiver or adds to the queue
abbrev pub accepted_by_send : Scene → Sending → SendDeed → List Parcel
accepted_by_send s x (declined e) = []
accepted_by_send s x (passed_on a) = record { bytes = sent_bytes s x; urgent = x.urgent } ∷ []
accepted_by_send s x (queued q) = record { bytes = sent_bytes s x; urgent = x.urgent } ∷ []
accepted_by_send s x (blocked who q) = []

-- what it hands to a receiver
abbrev pub taken_by_send : Scene → Sending → SendDeed → List (List ℕ)
taken_by_send s x (declined e) = []
taken_by_send s x (passed_on a) = sent_bytes s x ∷ []
taken_by_send s x (queued q) = []
taken_by_send s x (blocked who q) = []

-- what the sender whose wait ends adds
abbrev pub refilled_with : Scene → Option Ask → List Parcel
refilled_with s None = []
refilled_with s (Some a) = record { bytes = waited_bytes s a; urgent = a.urgent } ∷ []

-- what a receive adds from the first waiting sender
abbrev pub accepted_by_receive : Scene → ℕ → Receiving → ReceiveDeed → List Parcel
accepted_by_receive s id x (denied e) = []
accepted_by_receive s id x (taken q m rest) = refilled_with (taken_out s id x q m rest) (first_asking s (senders id))
accepted_by_receive s id x (starved q) = []

-- what it takes from the front of the queue
abbrev pub taken_by_receive : ReceiveDeed → List (List ℕ)
taken_by_receive (denied e) = []
taken_by_receive (taken q m rest) = m ∷ []
taken_by_receive (starved q) = []

-- ---- the machine
-- the events
pub data Event : Type 0 where
  sends : ℕ → Sending → Event
  receives : ℕ → Receiving → Event
  creates : QueueState → Event
  deletes : ℕ → Event
  ticks : Event
  -- anything else that the kernel and the programs do and that leaves the queues alone
  others : KernState → List ℕ → Event

-- the state after an event
abbrev pub after_event : Scene → Event → Scene
after_event s (sends id x) = send s id x
after_event s (receives id x) = receive s id x
after_event s (creates q) = created s q
after_event s (deletes id) = delete s id
after_event s ticks = record s { kern = tick s.kern }
after_event s (others k ram) = record s { kern = k; ram = ram }

-- the messages of queue `id`, if that is queue q
abbrev pub of_queue : {X : Type 0} → ℕ → ℕ → List X → List X
of_queue id q ms = if id == q then ms else []

-- what an event adds to queue q or hands to one of its receivers
abbrev pub accepted_by : Scene → Event → ℕ → List Parcel
accepted_by s (sends id x) q = of_queue id q (accepted_by_send s x (send_deed s id x))
accepted_by s (receives id x) q = of_queue id q (accepted_by_receive s id x (receive_deed s id x))
accepted_by s (creates y) q = []
accepted_by s (deletes id) q = []
accepted_by s ticks q = []
accepted_by s (others k ram) q = []

-- what it hands to a receiver of q or takes from the front of q
abbrev pub taken_by : Scene → Event → ℕ → List (List ℕ)
taken_by s (sends id x) q = of_queue id q (taken_by_send s x (send_deed s id x))
taken_by s (receives id x) q = of_queue id q (taken_by_receive (receive_deed s id x))
taken_by s (creates y) q = []
taken_by s (deletes id) q = []
taken_by s ticks q = []
taken_by s (others k ram) q = []

-- the conditions for an event
abbrev pub IsAllowed : Scene → Event → Type 0
IsAllowed s (sends id x) = IsCaller s.kern x.caller
IsAllowed s (receives id x) = IsCaller s.kern (Some x.caller)
IsAllowed s (creates y) = (IsQueue y) × (y.held ≡ []) × (s.kern.next_id ≤ greatest_id)
IsAllowed s (deletes id) = Unit {0}
IsAllowed s ticks = Unit {0}
IsAllowed s (others k ram) = IsCalm s.queues.queues s.kern k × (length ram ≡ length s.ram)

-- ---- a run in which the state decides the next event, if there is one
-- the state after the next event, if there is one
abbrev pub after_next : Scene → Option Event → Scene
after_next s None = s
after_next s (Some e) = after_event s e

-- what the next event adds to queue q or hands to one of its receivers
abbrev pub accepted_next : Scene → Option Event → ℕ → List Parcel
accepted_next s None q = []
accepted_next s (Some e) q = accepted_by s e q

-- what it hands to a receiver of q or takes from the front of q
abbrev pub taken_next : Scene → Option Event → ℕ → List (List ℕ)
taken_next s None q = []
taken_next s (Some e) q = taken_by s e q

module _ (next : Scene → Option Event) (s : Scene) where
  -- the state after k steps
  abbrev pub after : ℕ → Scene
  after zero = s
  after (suc k) = after_next (after k) (next (after k))

  -- what the first k steps added to queue q or handed to one of its receivers, in order of the steps
  abbrev pub accepted : ℕ → ℕ → List Parcel
  accepted q zero = []
  accepted q (suc k) = accepted q k ++ accepted_next (after k) (next (after k)) q

  -- what they handed to a receiver of q or took from the front of q, each message whole
  abbrev pub taken_in : ℕ → ℕ → List (List ℕ)
  taken_in q zero = []
  taken_in q (suc k) = taken_in q k ++ taken_next (after k) (next (after k)) q
