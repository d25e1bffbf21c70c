-- Messages that are queued, handed over or taken.
use Rattle.std.specs.Prelude.{ℕ, Bool, false, ◌==◌, if◌then◌else◌, List, [], ◌∷◌, Option, None, Some}
use Rattle.kernel_world.specs.declared.actor.Actor.{Actor}
use Rattle.kernel_world.specs.declared.actor.Actor.TheVariants.{Task as by_task}
use Rattle.kernel_world.specs.declared.call.Call.{Call}
use Rattle.kernel_world.specs.declared.call.Call.TheVariants as calls
use Rattle.kernel_world.specs.declared.reply.Reply.{Reply}
use Rattle.kernel_world.specs.declared.reply.Reply.TheVariants.{Answer}
use Rattle.board_changes.specs.declared.awaited.Awaited.{Awaited}
use Rattle.board_changes.specs.declared.awaited.Awaited.TheVariants as awaited
use Rattle.board_changes.specs.declared.change.Change.{Change}
use Rattle.board_changes.specs.declared.change.Change.TheVariants as changes
use Rattle.board_trace.specs.declared.messages.QueueSide.{QueueSide}
use Rattle.board_trace.specs.declared.messages.QueueSide.TheVariants.{Receivers, Senders}
use Rattle.board_trace.specs.declared.moment.BeforeStep.{BeforeStep}
use Rattle.board_trace.specs.declared.happening.Happening.{Happening}
use Rattle.board_trace.specs.declared.happening.Happening.TheVariants as told

-- the first of two that is there
abbrev pub first_of : Option ℕ → Option ℕ → Option ℕ
first_of None other = other
first_of (Some who) other = Some who

-- a task that waits for this waits at this side of the queue
abbrev pub is_at : Awaited → QueueSide → ℕ → Bool
is_at (awaited.Receiving id) Receivers queue = id == queue
is_at (awaited.Sending id) Senders queue = id == queue
is_at object side queue = false

-- the task, if this change is the end of its wait there with a result of its call
abbrev pub served_by : Change → QueueSide → ℕ → Option ℕ
served_by (changes.Served who object answer) side queue = if is_at object side queue then Some who else None
served_by c side queue = None

-- the first task whose wait there ends with a result
abbrev pub served_in : List Change → QueueSide → ℕ → Option ℕ
served_in [] side queue = None
served_in (c ∷ cs) side queue = first_of (served_by c side queue) (served_in cs side queue)

-- a sent message goes to the task that waited for it, or is queued
abbrev pub sent_to : Actor → ℕ → Option ℕ → List Happening
sent_to sender queue None = told.Queued queue sender ∷ []
sent_to sender queue (Some receiver) = told.HandedOver queue sender receiver ∷ []

-- after a message is taken, that of a task that waited for room is queued
abbrev pub then_queued : ℕ → Option ℕ → List Happening
then_queued queue None = []
then_queued queue (Some sender) = told.Queued queue (by_task sender) ∷ []

-- what an accepted call does with messages
abbrev pub messages_of : Actor → Call → List Change → List Happening
messages_of who (calls.MsgQSend id buffer count timeout priority) cs = sent_to who id (served_in cs Receivers id)
messages_of who (calls.MsgQReceive id buffer count timeout) cs = told.Taken id who ∷ then_queued id (served_in cs Senders id)
messages_of who c cs = []

abbrev pub messages_by : Option Actor → Option Call → Option Reply → List Change → List Happening
messages_by (Some who) (Some c) (Some (Answer value)) cs = messages_of who c cs
messages_by who c r cs = []

-- what the step's call does with messages
abbrev pub messages : BeforeStep → Option Reply → List Change → List Happening
messages c reply cs = messages_by c.actor c.call reply cs
