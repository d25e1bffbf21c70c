-- How the active interrupt routine changes.
use Rattle.std.proofs.Common.{◌≡◌, ℕ, true, map, Option, None, Some, IsSome, is_some, refl, arith}
use Rattle.wind_base.specs.declared.regs.Regs.{Regs}
use Rattle.isr_watch.specs.State.{watchdog_id}
use Rattle.isr_watch.specs.Calls.{finish, with_level}
use Rattle.isr_watch.proofs.Keeping.{watch_stays}
use Rattle.live_loading.specs.KernelWorldState.{WorldState}
use Rattle.live_loading.specs.KernelWorldKept.{IsWorld, Within}
use Rattle.live_loading.specs.KernelWorldActor.TheVariants.{Interrupt}
use Rattle.live_loading.proofs.KernelWorldGoes.{goes_nowhere}
use Rattle.live_loading.proofs.KernelWorldLiveIds.{given_none}
use Rattle.live_loading.proofs.KernelWorldAdvancing.{Advances, of_watches}
use Rattle.wind_machine.specs.Next.{is_active}
use Rattle.wind_machine.specs.Processor.{with_regs}
use Rattle.wind_machine.specs.Routine.{interrupt_top, next_routine}

active_some : {A : Type 0} (o : Option A) → is_some o ≡ true → IsSome o
active_some None e = absurd (cc)
active_some (Some x) e = refl

module _ (w : WorldState) (n : ℕ) (kept : IsWorld w) (within : Within n w) where
  -- the next routine is active, or none
  pub done_advances : Advances w (next_routine w) n 0 0
  done_advances =
      of_watches w kept n within w.kern (finish w.watch interrupt_top) 0 (goes_nowhere w.kern n kept.kern within.0) kept.objects
      (record { watch = (watch_stays w.kern.next_id w.watch kept.watch.watch kept.watch.ids).finishing interrupt_top; ids = kept.watch.ids; link = kept.watch.link }) (omega arith)
      (given_none w.kern.next_id w.kern.next_id (map watchdog_id w.watch.watchdogs) (omega arith))

  -- the active routine has other registers
  pub level_advances : is_active w ≡ true → (regs : Regs) → Advances w (with_regs w Interrupt regs) n 0 0
  level_advances active regs =
      of_watches w kept n within w.kern (with_level w.watch regs) 0 (goes_nowhere w.kern n kept.kern within.0) kept.objects
      (record { watch = (watch_stays w.kern.next_id w.watch kept.watch.watch kept.watch.ids).going_on regs (active_some w.watch.level active); ids = kept.watch.ids; link = kept.watch.link }) (omega arith)
      (given_none w.kern.next_id w.kern.next_id (map watchdog_id w.watch.watchdogs) (omega arith))
