-- The caller of a call lives on until it is answered, unless it has ended, and the world keeps its invariant.
use Rattle.std.proofs.Common.{◌≡◌, ◌≢◌, ◌+◌, ◌<◌, ◌^◌, true, false, not, ◌&&◌, cond, None, Some, refl, ap, ◌∙◌, sym, subst}
use Rattle.wind_base.specs.declared.gate.Gate.{Gate}
use Rattle.module_loader.specs.Holding.{AreHeld}
use Rattle.wind_base.specs.declared.gate.Gate.TheVariants as gates
use Rattle.wind_base.specs.declared.errno.Errno.TheVariants as errors
use Rattle.wind_core.specs.State.{Lives}
use Rattle.msg_queue.specs.Kept.{IsKept}
use Rattle.call_rows.specs.KernelWorldState.{WorldState}
use Rattle.call_rows.specs.KernelWorldObjects.{KeepsObjects}
use Rattle.id_table.specs.Idents.{shell_id}
use Rattle.call_rows.specs.KernelWorldActors.{is_interrupt, Acts, MayCall}
use Rattle.call_rows.specs.KernelWorldKept.{KeepsWatch, IsWorld, IsEarly}
use Rattle.kernel_calls.specs.Calls.{Row, scene_of, with_reply, refusal_before, made}
use Rattle.call_rows.specs.KernelWorldReplies.{left_gate, replied}
use Rattle.call_rows.specs.KernelWorldAllowed.{is_isr_callable, is_shells_own, may_exhaust_memory}
use Rattle.call_rows.specs.KernelWorldActor.{Actor}
use Rattle.call_rows.specs.KernelWorldActor.TheVariants.{Task, Interrupt}
use Rattle.call_rows.specs.KernelWorldReply.{Reply}
use Rattle.call_rows.specs.KernelWorldReply.TheVariants.{Gone}
use Rattle.kernel_calls.proofs.Serves.{Serves}
use Rattle.kernel_calls.proofs.Passing.{made_serves}
use Rattle.call_rows.proofs.KernelWorldReplying.{left_advances, replied_advances}
use Rattle.call_rows.proofs.KernelWorldEarly.{early_within}

-- the objects keep their invariant after the gate
pub left_objects : (w : WorldState) (a : Actor) → IsWorld w → MayCall w.kern a → IsEarly w → KeepsObjects (left_gate w a).board (left_gate w a).kern (left_gate w a).objects
left_objects w a kept may early = (left_advances w kept (2 ^ 60) (early_within w early) a may).kept.objects

-- the pool ends within 32-bit addresses
pub left_end : (w : WorldState) (a : Actor) → IsWorld w → MayCall w.kern a → IsEarly w → (left_gate w a).part.end < 2 ^ 32
left_end w a kept may early = (left_advances w kept (2 ^ 60) (early_within w early) a may).kept.pool.blocks.bound

-- so do the queues
pub left_queues : (w : WorldState) (a : Actor) → IsWorld w → MayCall w.kern a → IsEarly w → IsKept (scene_of (left_gate w a))
left_queues w a kept may early =
    let there = (left_advances w kept (2 ^ 60) (early_within w early) a may).kept in
    there.objects.queues (left_gate w a).ram there.ram

-- so do the modules
pub left_modules : (w : WorldState) (a : Actor) → IsWorld w → MayCall w.kern a → IsEarly w → AreHeld (left_gate w a).modules.rows (left_gate w a).part
left_modules w a kept may early = (left_advances w kept (2 ^ 60) (early_within w early) a may).kept.modules.held

-- so have the watchdogs
pub left_watch : (w : WorldState) (a : Actor) → IsWorld w → MayCall w.kern a → IsEarly w → KeepsWatch (left_gate w a).board (left_gate w a).kern.next_id (left_gate w a).watch
left_watch w a kept may early = (left_advances w kept (2 ^ 60) (early_within w early) a may).kept.watch

-- a call that may run out of memory is that of a task, because a routine's is refused before
none_exhausts : (g : Gate) → may_exhaust_memory g ≡ true → is_isr_callable g ≡ false
none_exhausts gates.SymAdd h = refl
none_exhausts gates.MsgQCreate h = refl
none_exhausts gates.Ld h = refl
none_exhausts gates.I h = refl
none_exhausts gates.Lkup h = refl
none_exhausts gates.ModuleShow h = refl
none_exhausts gates.D h = refl
none_exhausts g h = absurd (cc)

pub by_task : (g : Gate) (a : Actor) → None ≡ refusal_before g a → may_exhaust_memory g ≡ true → is_interrupt a ≡ false
by_task g (Task who) fine exhausts = refl
by_task g Interrupt fine exhausts =
    let refused : refusal_before g Interrupt ≡ Some errors.NotIsrCallable =
    ap (λ b. cond (not b) (Some errors.NotIsrCallable) (cond (is_shells_own g && true) (Some errors.NotShell) None)) (none_exhausts g exhausts) in
    let clash : None ≡ Some errors.NotIsrCallable = fine ∙ refused in
    absurd (cc)

module _ (g : Gate) (w v : WorldState) (a : Actor) (r : Reply) (kept : IsWorld w) (may : MayCall w.kern a) (early : IsEarly w) (done : with_reply v r ≡ made g w a) where
  serves : Serves w a (with_reply v r) (2 ^ 60 + 1)
  serves = subst (λ (s : Row). Serves w a s (2 ^ 60 + 1)) (sym done) (made_serves g w a (2 ^ 60) kept may (early_within w early))

  pub made_acts : Acts w.kern a → (r ≢ Gone) → Acts v.kern a
  made_acts live stays = serves.acts stays live

  pub served : (u : WorldState) → u ≡ replied g v a r → IsWorld u
  served u e = subst IsWorld (sym e) (replied_advances v serves.passes.kept (2 ^ 60 + 1) serves.passes.within g a r).kept

  -- the shell's task lives on
  pub served_shell : (u : WorldState) → u ≡ replied g v a r → Lives w.kern shell_id → Lives u.kern shell_id
  served_shell u e live =
      subst (λ (x : WorldState). Lives x.kern shell_id) (sym e)
      ((replied_advances v serves.passes.kept (2 ^ 60 + 1) serves.passes.within g a r).lives shell_id (serves.passes.shell live))
