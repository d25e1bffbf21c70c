use Rattle.std.proofs.Common.{◌≡◌, ℕ, List, Some, sym, ap, ◌∙◌, subst}
use Rattle.std.proofs.lemmas.Option.{same_Some}
use Rattle.id_table.specs.Rows.{object_of, with_object}
use Rattle.board_mem.specs.Memory.{bytes_at}
use Rattle.msg_queue.specs.declared.asks.Ask.{Ask}
use Rattle.msg_queue.specs.State.{QueueState, QueuesState, added}
use Rattle.msg_queue.specs.Inside.{queues_in}
use Rattle.msg_queue.proofs.queues.Queues.put_message.Goals as goal

put_is : (f : QueueState → QueueState) (rs : List (ℕ × QueueState)) (asks : List Ask) (id : ℕ) (x y q : QueueState) → object_of rs id ≡ Some x → y ≡ f x → object_of rs id ≡ Some q
    → queues_in (with_object rs id y) asks ≡ queues_in (with_object rs id (f q)) asks
put_is f rs asks id x y q here is there = ap (λ z. queues_in (with_object rs id z) asks) (is ∙ ap f (same_Some x q (sym here ∙ there)))

pub returns : goal.returns
returns c =
    let k = c.self.inside in
    let f : QueueState → QueueState = added c.args.urgent (bytes_at c.args.ram.now.bytes c.args.buffer c.args.count) in
    subst
    (λ (s : QueuesState). (q : QueueState) → object_of s.queues c.args.id ≡ Some q → queues_in (with_object k.queues.rows c.args.id c.push.new.self) k.asks.items ≡ record s { queues = with_object s.queues c.args.id (f q) })
    c.self.view_is
    (λ q here. put_is f k.queues.rows k.asks.items c.args.id c.object_mut.result.now c.push.new.self q c.object_mut.ensures.value
    c.push.ensures here)
