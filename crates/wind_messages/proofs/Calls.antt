-- A kernel call agrees with what the queues hold.
use Rattle.std.proofs.Common.{◌≡◌, ℕ, Bool, true, false, not, ◌&&◌, cond, eqb, List, Option, None, Some, refl, sym, subst, arith}
use Rattle.wind_base.specs.declared.errno.Errno.{Errno}
use Rattle.wind_base.specs.declared.errno.Errno.TheVariants as errors
use Rattle.wind_base.specs.declared.gate.Gate.{Gate}
use Rattle.wind_base.specs.declared.gate.Gate.TheVariants as gates
use Rattle.wind_base.specs.Gates.{gate_number}
use Rattle.msg_queue.specs.State.{QueueState, Scene}
use Rattle.msg_queue.specs.Kept.{IsKept}
use Rattle.msg_queue.specs.Machine.{Event, accepted_next, taken_next}
use Rattle.msg_queue.specs.Laws.{Stock, IsBalanced}
use Rattle.kernel_world.specs.State.{WorldState}
use Rattle.id_table.specs.Idents.{shell_id}
use Rattle.kernel_world.specs.Actors.{is_interrupt, is_shell, caller_words}
use Rattle.call_rows.specs.Unless.{unless}
use Rattle.wind_machine.specs.KernelCallsCalls.{Row, scene_of, row_of, declined, allowed_row, made, answered, call}
use Rattle.kernel_world.specs.Allowed.{is_call, is_isr_callable, is_shells_own}
use Rattle.kernel_world.specs.Replies.{left_gate}
use Rattle.kernel_world.specs.declared.actor.Actor.{Actor}
use Rattle.kernel_world.specs.declared.actor.Actor.TheVariants.{Task as by_task, Interrupt}
use Rattle.wind_machine.specs.Processor.{is_return, without_own, called}
use Rattle.kernel_world.specs.CallWords.{call_of}
use Rattle.wind_messages.specs.Messages.{event_in, call_at}
use Rattle.wind_messages.proofs.Rows.{stock_in, Balances, leaves, row_balances}

-- ---- which gates are those of a send and of a receive
module _ (ram r : List ℕ) where
  -- none that is the shell's own
  none_own : (a : Actor) (g : Gate) → is_shells_own g ≡ true → event_in a (call_of g ram r) ≡ None
  none_own a gates.MsgQSend e = absurd (cc)
  none_own a gates.MsgQReceive e = absurd (cc)
  none_own a g e = refl

  -- none that is that of no call
  pub none_missing : (a : Actor) (g : Gate) → is_call g ≡ false → event_in a (call_of g ram r) ≡ None
  none_missing a gates.MsgQSend e = absurd (cc)
  none_missing a gates.MsgQReceive e = absurd (cc)
  none_missing a g e = refl

  -- none at which a routine is refused
  none_refused : (a : Actor) (g : Gate) → (is_interrupt a && not (is_isr_callable g)) ≡ true → event_in a (call_of g ram r) ≡ None
  none_refused (by_task who) g e = absurd (cc)
  none_refused Interrupt gates.MsgQSend e = absurd (cc)
  none_refused Interrupt g e = refl

  -- none by which a task ends or a call of the shell returns
  no_return : (a : Actor) (g : Gate) (b : Bool) → eqb (gate_number g) (gate_number (cond b gates.ShellReturn gates.TaskReturn)) ≡ true → event_in a (call_of g ram r) ≡ None
  no_return a gates.MsgQSend true e = absurd (cc)
  no_return a gates.MsgQSend false e = absurd (cc)
  no_return a gates.MsgQReceive true e = absurd (cc)
  no_return a gates.MsgQReceive false e = absurd (cc)
  no_return a g b e = refl

  -- or a routine returns
  pub none_return : (a : Actor) (g : Gate) → is_return g a ≡ true → event_in a (call_of g ram r) ≡ None
  none_return (by_task who) g e = no_return (by_task who) g (eqb who shell_id) e
  none_return Interrupt gates.MsgQSend e = absurd (cc)
  none_return Interrupt g e = refl

-- ---- the row that is made
module _ (w : WorldState) (kept : IsKept (scene_of w)) (ram r : List ℕ) (a : Actor) where
  -- one that is refused before changes nothing
  refused : (g : Gate) (e : Errno) → event_in a (call_of g ram r) ≡ None → Balances w (unless (Some e) (declined w) (row_of (call_of g ram r) w a)).world (scene_of w) (event_in a (call_of g ram r))
  refused g e none = subst (Balances w w (scene_of w)) (sym none) (leaves w w (scene_of w) refl (omega arith))

  allowed_balances : (g : Gate) → Balances w (allowed_row g (call_of g ram r) w a).world (scene_of w) (event_in a (call_of g ram r))
  allowed_balances g =
      elim (is_interrupt a && not (is_isr_callable g)) as (λ b. (is_interrupt a && not (is_isr_callable g)) ≡ b → Balances w (unless (cond b (Some errors.NotIsrCallable) (cond (is_shells_own g && not (is_shell a)) (Some errors.NotShell) None)) (declined w) (row_of (call_of g ram r) w a)).world (scene_of w) (event_in a (call_of g ram r))) [
        | true ↦ λ never. refused g errors.NotIsrCallable (none_refused ram r a g never)
        | false ↦ λ allowed.
            elim (is_shells_own g) as (λ b. is_shells_own g ≡ b → Balances w (unless (cond (b && not (is_shell a)) (Some errors.NotShell) None) (declined w) (row_of (call_of g ram r) w a)).world (scene_of w) (event_in a (call_of g ram r))) [
              | true ↦ λ own.
                  elim (not (is_shell a)) as (λ b. Balances w (unless (cond b (Some errors.NotShell) None) (declined w) (row_of (call_of g ram r) w a)).world (scene_of w) (event_in a (call_of g ram r))) [
                    | true ↦ refused g errors.NotShell (none_own ram r a g own)
                    | false ↦ row_balances w kept ram r a g
                  ]
              | false ↦ λ other. row_balances w kept ram r a g
            ] refl
      ] refl

-- ---- how its caller is answered
abbrev stock_of : List (ℕ × QueueState) → ℕ → Stock
stock_of rs n = record { queues = rs; next_id = n }

-- what leaves the queues and the next id
same_stock : (w v u : WorldState) (s : Scene) (e : Option Event) → u.objects.queues.queues ≡ v.objects.queues.queues → u.kern.next_id ≡ v.kern.next_id → Balances w v s e → Balances w u s e
same_stock w v u s e queues ids b =
    let goes : Stock → Type 0 = λ t. IsBalanced (stock_in w) t (accepted_next s e) (taken_next s e) in
    subst (λ n. goes (stock_of u.objects.queues.queues n)) (sym ids) (subst (λ rs. goes (stock_of rs v.kern.next_id)) (sym queues) b)

answered_queues : (g : Gate) (a : Actor) (r : Row) → (answered g a r).objects.queues.queues ≡ r.world.objects.queues.queues
answered_queues g (by_task who) r = grind (arith)
answered_queues g Interrupt r = grind (arith)

answered_ids : (g : Gate) (a : Actor) (r : Row) → (answered g a r).kern.next_id ≡ r.world.kern.next_id
answered_ids g (by_task who) r = grind (arith)
answered_ids g Interrupt r = grind (arith)

-- the caller has left its gate, which touches no queue
gate_left : (w : WorldState) (a : Actor) → stock_in (left_gate w a) ≡ stock_in w
gate_left w (by_task who) = refl
gate_left w Interrupt = refl

-- and at last its reservation is dropped
own_balances : (w v : WorldState) (s : Scene) (e : Option Event) (a : Actor) → Balances w v s e → Balances w (without_own v a) s e
own_balances w v s e (by_task who) b = b
own_balances w v s e Interrupt b = b

pub call_balances : (w : WorldState) (a : Actor) → IsKept (scene_of (left_gate w a)) → (g : Gate) → Balances w (called g w a) (scene_of (left_gate w a)) (call_at g w a)
call_balances w a kept g =
    let v : WorldState = left_gate w a in
    let r : Row = made g w a in
    own_balances w (call g w a) (scene_of v) (call_at g w a) a
    (same_stock w r.world (call g w a) (scene_of v) (call_at g w a) (answered_queues g a r) (answered_ids g a r)
    (subst (λ t. IsBalanced t (stock_in r.world) (accepted_next (scene_of v) (call_at g w a)) (taken_next (scene_of v) (call_at g w a))) (gate_left w a) (allowed_balances v kept w.ram (caller_words w a) a g)))
