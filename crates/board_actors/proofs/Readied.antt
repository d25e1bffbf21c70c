-- The step of a task begins, and may be undone.
use Rattle.std.proofs.Common.{◌≡◌, ℕ, ◌-◌, ◌^◌, ◌≤◌, ◌<◌, false, Option, None, Some, is_some, refl, sym, ap, ◌∙◌, arith}
use Rattle.std.specs.Option.{option_map}
use Rattle.std.specs.Prelude.{unwrap_or}
use Rattle.std.proofs.lemmas.List.Elements.{All-weaker}
use Rattle.wind_base.specs.declared.regs.Regs.{Regs}
use Rattle.task_block.specs.declared.task.Task.{Task}
use Rattle.id_table.proofs.Records.{found_id}
use Rattle.wind_core.specs.State.{KernState, IsKern, task_id, task_of}
use Rattle.wind_core.specs.Moves.{unreserve, set_regs}
use Rattle.id_table.proofs.Places.{not_there}
use Rattle.live_loading.specs.KernelWorldState.{WorldState}
use Rattle.live_loading.specs.KernelWorldStarting.{no_regs}
use Rattle.live_loading.specs.KernelWorldKept.{IsWorld, IsEarly, ReservedBy, HasCounts, Within}
use Rattle.wind_machine.specs.Events.{cleared, unreserved_world}
use Rattle.wind_machine.specs.ActorSteps.{at_step_start}
use Rattle.wind_machine.specs.Reserving.{drop_others, drop_all}
use Rattle.wind_machine.proofs.Free.{own_found, step_start_ready}
use Rattle.wind_machine.proofs.Dropping.{others_advance, all_advance}
use Rattle.wind_machine.proofs.Reserving.{regs_again}
use Rattle.board_actors.specs.StepStart.{if_other, kept_with, kept_if, kept_of, put_back, restored, without, Readies, IsEarlyWorld}
use Rattle.board_actors.proofs.Dropped.{dropped_others, not_own}

within : (w : WorldState) → IsEarly w → Within (2 ^ 60 - 1) w
within w early = (
  λ k d h. (let below = early.locks k d h in omega (arith, below), let below = early.safes k d h in omega (arith, below)),
  All-weaker (λ r. r.1.depth < 2 ^ 60) (λ r. r.1.depth ≤ 2 ^ 60 - 1) (λ r h. omega (arith, h)) w.objects.mutexes.rows early.depths,
)

-- ---- the step begins
pub readies : (w : WorldState) (who : ℕ) → IsWorld w → IsEarly w → Readies w (at_step_start w who) who
readies w who kept early =
    let a = others_advance w (2 ^ 60 - 1) kept (within w early) who in
    record {
      early = record {
        kept = record { kern = a.kept.kern; home = a.kept.home; kind = a.kept.kind; objects = a.kept.objects; pool = a.kept.pool; stacks = a.kept.stacks; modules = a.kept.modules; ram = a.kept.ram; symbols = a.kept.symbols; watch = a.kept.watch; ids = a.kept.ids };
        early = record {
          sinces = early.sinces;
          ticks = early.ticks;
          locks = All-weaker (HasCounts (2 ^ 60 - 1)) (λ t. t.locks < 2 ^ 60) (λ t h. omega (arith, h.0)) (drop_others w.kern who).tasks a.within.0;
          safes = All-weaker (HasCounts (2 ^ 60 - 1)) (λ t. t.safe < 2 ^ 60) (λ t h. omega (arith, h.1)) (drop_others w.kern who).tasks a.within.0;
          depths = early.depths;
          names = early.names;
          starts = early.starts;
        };
      };
      lives = a.lives;
      ready = step_start_ready w.kern who;
      regs = ap (λ o. unwrap_or (option_map (λ t. t.regs) o) no_regs) (own_found w.kern.tasks who);
    }

-- that of an interrupt routine
pub all_ready : (w : WorldState) → IsWorld w → IsEarly w → IsEarlyWorld (cleared (unreserved_world w))
all_ready w kept early =
    let a = all_advance w (2 ^ 60 - 1) kept (within w early) in
    record {
      kept = record { kern = a.kept.kern; home = a.kept.home; kind = a.kept.kind; objects = a.kept.objects; pool = a.kept.pool; stacks = a.kept.stacks; modules = a.kept.modules; ram = a.kept.ram; symbols = a.kept.symbols; watch = a.kept.watch; ids = a.kept.ids };
      early = record {
        sinces = early.sinces;
        ticks = early.ticks;
        locks = All-weaker (HasCounts (2 ^ 60 - 1)) (λ t. t.locks < 2 ^ 60) (λ t h. omega (arith, h.0)) (drop_all w.kern).tasks a.within.0;
        safes = All-weaker (HasCounts (2 ^ 60 - 1)) (λ t. t.safe < 2 ^ 60) (λ t h. omega (arith, h.1)) (drop_all w.kern).tasks a.within.0;
        depths = early.depths;
        names = early.names;
        starts = early.starts;
      };
    }

-- ---- it is undone
given : (k : KernState) (o : Option ℕ) → IsKern k → put_back (without k o) (kept_if k.tasks o) ≡ k
given k None is = refl
given k (Some last) is = by_task (task_of k.tasks last) refl where
  by_task : (o : Option Task) → task_of k.tasks last ≡ o → put_back (unreserve k last) (kept_with o) ≡ k
  by_task None e = not_own k last (ap is_some e)
  by_task (Some t) e = ap (λ n. set_regs (unreserve k last) n t.regs) (found_id task_id k.tasks last t e) ∙ regs_again k last t is e

pub given_back : (k : KernState) (who : ℕ) → IsKern k → ReservedBy k.last k → put_back (drop_others k who) (kept_of k who) ≡ k
given_back k who is h = ap (λ j. put_back j (kept_of k who)) (sym (dropped_others k who h)) ∙ given k (if_other who k.last) is

pub world_back : (w : WorldState) (who : ℕ) → IsKern w.kern → ReservedBy w.kern.last w.kern → restored (at_step_start w who) w.output (kept_of w.kern who) ≡ w
world_back w who is h = ap (λ k. record w { kern = k }) (given_back w.kern who is h)

-- registers of a task that doesn't live are not written
pub not_written : (k : KernState) (who : ℕ) (regs : Regs) → is_some (task_of k.tasks who) ≡ false → set_regs k who regs ≡ k
not_written k who regs e =
    ap (λ ts. record k { tasks = ts }) (not_there task_id k.tasks who (λ t. record t { regs = regs }) (elim (task_of k.tasks who) as (λ o. is_some o ≡ false → o ≡ None) [ None ↦ λ d. refl | Some t ↦ λ d. absurd (cc) ] e))
