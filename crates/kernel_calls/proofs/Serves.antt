-- What holds from one world to the next within a call, whichever task it removes.
use Rattle.std.proofs.Common.{◌≡◌, ℕ, sym, ◌∙◌, arith, inl, inr, ⊎_elim}
use Rattle.wind_core.specs.State.{task_of}
use Rattle.task_safety.specs.Safety.{safe_of}
use Rattle.call_rows.specs.KernelWorldState.{WorldState}
use Rattle.call_rows.specs.KernelWorldActors.{Acts}
use Rattle.kernel_calls.specs.Calls.{Row}
use Rattle.kernel_calls.specs.Laws.{Passes}
use Rattle.call_rows.specs.KernelWorldKept.{call_sinces}
use Rattle.call_rows.specs.KernelWorldActor.{Actor}
use Rattle.call_rows.specs.KernelWorldActor.TheVariants.{Task, Interrupt}
use Rattle.call_rows.specs.KernelWorldReply.TheVariants.{Gone}
use Rattle.call_rows.proofs.KernelWorldAdvancing.{Advances, keeps_on}

-- a row keeps what a call keeps, and its caller lives on if it is to be answered
pub record Serves (w : WorldState) (a : Actor) (r : Row) (n : ℕ) : Type 0 where
  pub passes : Passes w r.world a n call_sinces 1
  pub acts : (r.reply ≡ Gone → ⊥) → Acts w.kern a → Acts r.world.kern a

-- the caller lives on if all tasks do
pub acts_on : (w v : WorldState) (a : Actor) (n d m : ℕ) → Advances w v n d m → Acts w.kern a → Acts v.kern a
acts_on w v (Task who) n d m g live = g.lives who live
acts_on w v Interrupt n d m g live = live

pub passes_by : (w v : WorldState) (a : Actor) (n d m : ℕ) → Advances w v n d m → Passes w v a n d m
passes_by w v a n d m g = record { steps = g.steps; gone = λ id live dead. absurd (dead (g.lives id live)); shell = g.lives 1 }

pub served : (w : WorldState) (a : Actor) (r : Row) (n : ℕ) → Advances w r.world n call_sinces 1 → Serves w a r n
served w a r n g = record { passes = passes_by w r.world a n call_sinces 1 g; acts = λ stays live. acts_on w r.world a n call_sinces 1 g live }

-- first all live on, as safe as they were
pub passes_after : (w v u : WorldState) (a : Actor) (l n d m : ℕ) → Advances w v l 0 0 → ((id : ℕ) → safe_of (task_of v.kern.tasks id) ≡ safe_of (task_of w.kern.tasks id))
    → Passes v u a n d m → Passes w u a n d m
passes_after w v u a l n d m g safes p = record {
  steps = keeps_on w v u l n 0 d d 0 m m (omega arith) (omega arith) g.steps p.steps;
  gone = λ id live dead. ⊎_elim
      (λ (z : safe_of (task_of v.kern.tasks id) ≡ 0). inl (sym (safes id) ∙ z))
      (λ (e : a ≡ Task id). inr e)
      (p.gone id (g.lives id live) dead);
  shell = λ live. p.shell (g.lives 1 live);
}

-- all live on at last
pub passes_before : (w v u : WorldState) (a : Actor) (l n d m : ℕ) → Passes w v a l d m → Advances v u n 0 0 → Passes w u a n d m
passes_before w v u a l n d m p g = record {
  steps = keeps_on w v u l n d 0 d m 0 m (omega arith) (omega arith) p.steps g.steps;
  gone = λ id live dead. p.gone id live (λ there. dead (g.lives id there));
  shell = λ live. g.lives 1 (p.shell live);
}
