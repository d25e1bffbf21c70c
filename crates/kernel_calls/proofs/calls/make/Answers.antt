use Rattle.std.proofs.Common.{◌≡◌, ◌<◌, ◌^◌, true, false, sym, ◌∙◌, subst}
use Rattle.wind_base.specs.OutBuf.{Output, KeepsSpace}
use Rattle.module_loader.specs.Holding.{AreHeld}
use Rattle.msg_queue.specs.Kept.{IsKept}
use Rattle.call_rows.specs.KernelWorldState.{WorldState}
use Rattle.call_rows.specs.KernelWorldActors.{Acts, MayCall}
use Rattle.call_rows.specs.KernelWorldAllowed.{may_exhaust_memory}
use Rattle.call_rows.specs.KernelWorldObjects.{KeepsObjects}
use Rattle.call_rows.specs.KernelWorldKept.{KeepsWatch, IsEarly}
use Rattle.call_rows.proofs.KernelWorldLiving.{left_acts}
use Rattle.call_rows.proofs.KernelWorldEarly.{left_early}
use Rattle.call_rows.proofs.KernelWorldReplying.{may_left}
use Rattle.kernel_calls.specs.Calls.{scene_of}
use Rattle.kernel_calls.specs.Space.{makes_room}
use Rattle.kernel_calls.proofs.Serving.{left_end, left_objects, left_queues, left_modules, left_watch, by_task}
use Rattle.kernel_calls.proofs.Reading.{gate_back}
use Rattle.kernel_calls.proofs.Standing.{same_again}
use Rattle.kernel_calls.proofs.calls.make.Goals as goal

pub row-requires-clause-live : goal.row-requires-clause-live
row-requires-clause-live g c = subst (λ (s : WorldState). Acts s.kern c.args.who.now) (sym c.leave_gate-2.ensures.world) (left_acts _ c.args.who.now c.requires.caller)

pub row-requires-clause-early : goal.row-requires-clause-early
row-requires-clause-early g c = subst IsEarly (sym c.leave_gate-2.ensures.world) (left_early _ c.args.who.now c.requires.early)

pub row-requires-clause-objects : goal.row-requires-clause-objects
row-requires-clause-objects g c =
    subst (λ (s : WorldState). KeepsObjects s.board s.kern s.objects) (sym c.leave_gate-2.ensures.world) (left_objects _ c.args.who.now c.requires.kept c.requires.free c.requires.early)

pub row-requires-clause-end : goal.row-requires-clause-end
row-requires-clause-end g c =
    subst (λ (s : WorldState). s.part.end < 2 ^ 32) (sym c.leave_gate-2.ensures.world) (left_end _ c.args.who.now c.requires.kept c.requires.free c.requires.early)

pub row-requires-clause-queues : goal.row-requires-clause-queues
row-requires-clause-queues g c =
    subst (λ (s : WorldState). IsKept (scene_of s)) (sym c.leave_gate-2.ensures.world) (left_queues _ c.args.who.now c.requires.kept c.requires.free c.requires.early)

pub row-requires-clause-modules : goal.row-requires-clause-modules
row-requires-clause-modules g c =
    subst (λ (s : WorldState). AreHeld s.modules.rows s.part) (sym c.leave_gate-2.ensures.world) (left_modules _ c.args.who.now c.requires.kept c.requires.free c.requires.early)

pub row-requires-clause-ready : goal.row-requires-clause-ready
row-requires-clause-ready g c = subst (λ (s : WorldState). MayCall s.kern c.args.who.now) (sym c.leave_gate-2.ensures.world) (may_left _ c.args.who.now c.requires.free)

pub row-requires-clause-watch : goal.row-requires-clause-watch
row-requires-clause-watch g c =
    subst (λ (s : WorldState). KeepsWatch s.board s.kern.next_id s.watch) (sym c.leave_gate-2.ensures.world) (left_watch _ c.args.who.now c.requires.kept c.requires.free c.requires.early)

pub stand_again-requires : goal.stand_again-requires
stand_again-requires g c =
    subst (λ (s : WorldState). Acts s.kern c.args.who.now) (sym (c.in_default-row.ensures.err ∙ c.leave_gate-2.ensures.world)) (left_acts _ c.args.who.now c.requires.caller)

pub returns-in_default-row-clause-err : goal.returns-in_default-row-clause-err
returns-in_default-row-clause-err g c =
    let exhausts = subst (λ h. may_exhaust_memory h ≡ true) (gate_back c.args.gate _ _ c.in-Some-read.call (sym c.in-Some-read.is ∙ c.read_call-read.ensures)) c.in_default-row.ensures.memory in
    same_again _ _ _ _ c.args.who.now c.counter-pc.result c.facts.ensures c.requires.caller (by_task c.args.gate c.args.who.now c.in_default.ensures exhausts)
    c.counter-pc.ensures c.leave_gate-2.ensures.world c.in_default-row.ensures.err c.stand_again.ensures.world

pub returns-clause-space : goal.returns-clause-space
returns-clause-space g c writes_none =
    let same = gate_back c.args.gate _ _ c.in-Some-read.call (sym c.in-Some-read.is ∙ c.read_call-read.ensures) in
    subst (λ (out : Output). KeepsSpace out c.row.new.w.out) c.leave_gate-2.ensures.out (c.row.ensures.space (subst (λ h. makes_room h ≡ false) (sym same) writes_none))
