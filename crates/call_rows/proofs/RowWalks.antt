-- What holds of each row of semaphores and mutexes, if it holds of every refusal and of what the call does otherwise.
use Rattle.std.proofs.Common.{◌≡◌, ℕ, Bool, true, false, cond, leb, Option, None, Some, refl}
use Rattle.wind_base.specs.SemBits.{read_options}
use Rattle.call_rows.specs.Unless.{unless}
use Rattle.wind_base.specs.declared.errno.Errno.{Errno}
use Rattle.wind_base.specs.declared.errno.Errno.TheVariants as errors
use Rattle.wind_base.specs.declared.semaphore.SemKind.TheVariants as kinds
use Rattle.wind_base.specs.declared.semaphore.SemOptions.{SemOptions}
use Rattle.id_table.specs.Rows.{object_of}
use Rattle.wind_core.specs.State.{KernState}
use Rattle.kernel_world.specs.SemPlainSemaphore.{Semaphore}
use Rattle.kernel_world.specs.SemPlainCalls as plain
use Rattle.kernel_world.specs.SemMutexCalls as mutex
use Rattle.kernel_world.specs.SemMutexMaking as making
use Rattle.call_rows.specs.SemRows.{ObjectRow, refused, by_semaphores, by_mutexes, sems, mutexes, is_mutex, of_task, made, binary_with, binary_row, counting_with, counting_row, mutex_with, mutex_row, took_reply, plain_take, mutex_take, take_row, plain_give, mutex_give, give_row, plain_flush, flush_row, plain_delete, delete_row, priority_row}
use Rattle.kernel_world.specs.declared.objects.Objects.{Objects}
use Rattle.kernel_world.specs.declared.actor.Actor.{Actor}
use Rattle.kernel_world.specs.declared.actor.Actor.TheVariants.{Task, Interrupt}
use Rattle.kernel_world.specs.declared.reply.Reply.TheVariants.{Answer}

module _ (k : KernState) (o : Objects) (P : ObjectRow → Type 0) (no : (e : Errno) → P (refused k o e)) where
  on_test : (b : Bool) (x y : ObjectRow) → (b ≡ true → P x) → (b ≡ false → P y) → P (cond b x y)
  on_test true x y held failed = held refl
  on_test false x y held failed = failed refl

  on_unless : (r : Option Errno) (b : ObjectRow) → (r ≡ None → P b) → P (unless r (refused k o) b)
  on_unless (Some e) b done = no e
  on_unless None b done = done refl

  -- ---- one is made
  pub on_made : (v : Semaphore) → (plain.create_refusal (sems k o) ≡ None → P (by_semaphores o (plain.create (sems k o) v) (Answer k.next_id))) → P (made k o v)
  on_made v done = on_unless (plain.create_refusal (sems k o)) (by_semaphores o (plain.create (sems k o) v) (Answer k.next_id)) done

  pub on_binary : (options state : ℕ) → ((v : SemOptions) → leb state 1 ≡ true → P (made k o (plain.new_semaphore kinds.Binary v state))) → P (binary_row k o options state)
  on_binary options state done = go (read_options options kinds.Binary) where
    go : (q : Option SemOptions) → P (binary_with k o state q)
    go None = no errors.InvalidOption
    go (Some v) = on_test (leb state 1) (made k o (plain.new_semaphore kinds.Binary v state)) (refused k o errors.InvalidState) (done v) (λ other. no errors.InvalidState)

  pub on_counting : (options count : ℕ) → ((v : SemOptions) → P (made k o (plain.new_semaphore kinds.Counting v count))) → P (counting_row k o options count)
  on_counting options count done = go (read_options options kinds.Counting) where
    go : (q : Option SemOptions) → P (counting_with k o count q)
    go None = no errors.InvalidOption
    go (Some v) = done v

  pub on_mutex_made : (v : SemOptions) → (making.create_refusal (mutexes k o) ≡ None → P (by_mutexes o (making.create (mutexes k o) (making.new_mutex v)) (Answer k.next_id))) → P (mutex_with k o (Some v))
  on_mutex_made v done = on_unless (making.create_refusal (mutexes k o)) (by_mutexes o (making.create (mutexes k o) (making.new_mutex v)) (Answer k.next_id)) done

  pub on_mutex : (options : ℕ) → ((v : SemOptions) → making.create_refusal (mutexes k o) ≡ None → P (by_mutexes o (making.create (mutexes k o) (making.new_mutex v)) (Answer k.next_id))) → P (mutex_row k o options)
  on_mutex options done = go (read_options options kinds.Mutex) where
    go : (q : Option SemOptions) → P (mutex_with k o q)
    go None = no errors.InvalidOption
    go (Some v) = on_mutex_made v (done v)

  -- ---- semTake
  pub on_plain_take : (who id n : ℕ) → (plain.take_refusal (sems k o) id n ≡ None → P (by_semaphores o (plain.take (sems k o) who id n) (took_reply (plain.took (sems k o) id)))) → P (plain_take k o who id n)
  on_plain_take who id n done = on_unless (plain.take_refusal (sems k o) id n) (by_semaphores o (plain.take (sems k o) who id n) (took_reply (plain.took (sems k o) id))) done

  pub on_mutex_take : (who id n : ℕ) → (mutex.take_refusal who n (object_of o.mutexes.rows id) ≡ None → P (by_mutexes o (mutex.take (mutexes k o) who id n) (took_reply (mutex.took who (object_of o.mutexes.rows id)))))
      → P (mutex_take k o who id n)
  on_mutex_take who id n done =
      on_unless (mutex.take_refusal who n (object_of o.mutexes.rows id)) (by_mutexes o (mutex.take (mutexes k o) who id n) (took_reply (mutex.took who (object_of o.mutexes.rows id)))) done

  pub on_take : (a : Actor) (id n : ℕ) → ((who : ℕ) → a ≡ Task who → is_mutex o id ≡ true → P (mutex_take k o who id n)) → ((who : ℕ) → is_mutex o id ≡ false → P (plain_take k o who id n)) → P (take_row k o a id n)
  on_take (Task who) id n owned other = on_test (is_mutex o id) (mutex_take k o who id n) (plain_take k o who id n) (owned who refl) (other who)
  on_take Interrupt id n owned other = no errors.NotIsrCallable

  -- ---- semGive
  pub on_plain_give : (id : ℕ) → (plain.give_refusal (sems k o) id ≡ None → P (by_semaphores o (plain.give (sems k o) id) (Answer 0))) → P (plain_give k o id)
  on_plain_give id done = on_unless (plain.give_refusal (sems k o) id) (by_semaphores o (plain.give (sems k o) id) (Answer 0)) done

  pub on_mutex_give : (who id : ℕ) → (mutex.give_refusal who (object_of o.mutexes.rows id) ≡ None → P (by_mutexes o (mutex.give (mutexes k o) who id) (Answer 0))) → P (mutex_give k o who id)
  on_mutex_give who id done = on_unless (mutex.give_refusal who (object_of o.mutexes.rows id)) (by_mutexes o (mutex.give (mutexes k o) who id) (Answer 0)) done

  pub on_give : (a : Actor) (id : ℕ) → ((who : ℕ) → a ≡ Task who → is_mutex o id ≡ true → P (mutex_give k o who id)) → (is_mutex o id ≡ false → P (plain_give k o id)) → P (give_row k o a id)
  on_give a id owned other = on_test (is_mutex o id) (of_task k o a (λ who. mutex_give k o who id)) (plain_give k o id) (by_caller a owned) other where
    by_caller : (b : Actor) → ((who : ℕ) → b ≡ Task who → is_mutex o id ≡ true → P (mutex_give k o who id)) → is_mutex o id ≡ true → P (of_task k o b (λ who. mutex_give k o who id))
    by_caller (Task who) gives there = gives who refl there
    by_caller Interrupt gives there = no errors.NotIsrCallable

  -- ---- semFlush, semDelete and taskPrioritySet
  pub on_flush : (id : ℕ) → (is_mutex o id ≡ false → plain.flush_refusal (sems k o) id ≡ None → P (by_semaphores o (plain.flush (sems k o) id) (Answer 0))) → P (flush_row k o id)
  on_flush id done =
      on_test (is_mutex o id) (refused k o errors.InvalidOperation) (plain_flush k o id) (λ there. no errors.InvalidOperation)
      (λ other. on_unless (plain.flush_refusal (sems k o) id) (by_semaphores o (plain.flush (sems k o) id) (Answer 0)) (done other))

  pub on_delete : (id : ℕ) → (is_mutex o id ≡ true → P (by_mutexes o (mutex.delete (mutexes k o) id) (Answer 0)))
      → (is_mutex o id ≡ false → plain.delete_refusal (sems k o) id ≡ None → P (by_semaphores o (plain.delete (sems k o) id) (Answer 0))) → P (delete_row k o id)
  on_delete id owned done =
      on_test (is_mutex o id) (by_mutexes o (mutex.delete (mutexes k o) id) (Answer 0)) (plain_delete k o id) owned
      (λ other. on_unless (plain.delete_refusal (sems k o) id) (by_semaphores o (plain.delete (sems k o) id) (Answer 0)) (done other))

  pub on_priority : (pri : ℕ) (target : Option ℕ) → ((id : ℕ) → P (by_mutexes o (mutex.priority_set (mutexes k o) id pri) (Answer 0))) → P (priority_row k o pri target)
  on_priority pri None done = no errors.ObjIdError
  on_priority pri (Some id) done = on_test (leb pri 255) (by_mutexes o (mutex.priority_set (mutexes k o) id pri) (Answer 0)) (refused k o errors.IllegalPriority) (λ low. done id) (λ high. no errors.IllegalPriority)
