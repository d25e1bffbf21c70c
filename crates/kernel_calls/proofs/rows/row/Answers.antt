use Rattle.std.proofs.Common.{refl}
use Rattle.call_rows.specs.KernelWorldSeen.{world_seen}
use Rattle.call_rows.specs.KernelWorldCall.TheVariants.{WdCancel, WdDelete}
use Rattle.kernel_calls.proofs.GateRows.{created, named, watched}
use Rattle.kernel_calls.proofs.rows.row.Goals as goal

pub returns-in-TaskNameToId-clause-ok : goal.returns-in-TaskNameToId-clause-ok
returns-in-TaskNameToId-clause-ok g c = named c.args.call.now _ c.args.who c.in-TaskNameToId.name c.task_of_name.result c.in-TaskNameToId.is c.task_of_name.ensures

pub returns-in-MsgQCreate-clause-ok : goal.returns-in-MsgQCreate-clause-ok
returns-in-MsgQCreate-clause-ok g c =
    created c.args.call.now (world_seen {I = g.dyn-1.0.I} {X = λ x. (g.dyn-1.0.entry x).0.Denot} (λ vtable. (g.dyn-1.0.entry vtable).1) c.args.w.now) c.args.who c.create.new.kern c.create.new.objects
    c.in-MsgQCreate.max_msgs c.in-MsgQCreate.max_length c.in-MsgQCreate.options c.create.result c.in-MsgQCreate.is c.create.ensures.ok c.create.ensures.rest

pub returns-in-WdCancel-clause-ok : goal.returns-in-WdCancel-clause-ok
returns-in-WdCancel-clause-ok g c =
    watched c.args.call.now (WdCancel c.in-WdCancel.id) (world_seen {I = g.dyn-1.0.I} {X = λ x. (g.dyn-1.0.entry x).0.Denot} (λ vtable. (g.dyn-1.0.entry vtable).1) c.args.w.now)
    c.args.who c.cancel.new.watch c.cancel.result _ c.in-WdCancel.is (c.cancel.ensures.row c.args.w.now.kern) refl

pub returns-in-WdDelete-clause-ok : goal.returns-in-WdDelete-clause-ok
returns-in-WdDelete-clause-ok g c =
    watched c.args.call.now (WdDelete c.in-WdDelete.id) (world_seen {I = g.dyn-1.0.I} {X = λ x. (g.dyn-1.0.entry x).0.Denot} (λ vtable. (g.dyn-1.0.entry vtable).1) c.args.w.now)
    c.args.who c.delete-in-WdDelete.new.watch c.delete-in-WdDelete.result _ c.in-WdDelete.is (c.delete-in-WdDelete.ensures.row c.args.w.now.kern) refl
