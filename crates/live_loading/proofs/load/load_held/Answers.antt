use Rattle.live_loading.proofs.Whole.{outlined_world, outlined_reply, outline_refused, outline_refused_reply}
use Rattle.live_loading.proofs.load.load_held.Goals as goal

pub returns-in-Ok-clause-ok : goal.returns-in-Ok-clause-ok
returns-in-Ok-clause-ok g c =
    let parts = c.check_file-checked.new in
    outlined_world c.load_outlined.result _ _ parts.kern parts.syms.list parts.part c.args.name.now c.args.file.now c.mode_wanted-mode.result c.mode_wanted-mode.ensures
    c.check_file-checked.ensures.kern c.check_file-checked.ensures.list c.check_file-checked.ensures.part c.in-Ok.ensures.module c.load_outlined.ensures.ok

pub returns-in_default-clause-ok : goal.returns-in_default-clause-ok
returns-in_default-clause-ok g c =
    let parts = c.check_file-checked.new in
    outline_refused _ _ parts.kern parts.syms.list parts.part c.args.name.now c.args.file.now c.in-Err.e c.mode_wanted-mode.result c.mode_wanted-mode.ensures
    c.check_file-checked.ensures.kern c.check_file-checked.ensures.list c.check_file-checked.ensures.part c.in_default.not-NoMemory (c.in-Err.ensures.refused c.args.w.now.bus.ram.bytes) c.refuse.ensures.world

pub returns-in-Ok-clause-reply : goal.returns-in-Ok-clause-reply
returns-in-Ok-clause-reply g c =
    outlined_reply _ c.args.file.now c.mode_wanted-mode.result c.mode_wanted-mode.ensures _ _ _
    c.check_file-checked.ensures.kern c.check_file-checked.ensures.list c.check_file-checked.ensures.part c.load_outlined.result c.in-Ok.ensures.module c.load_outlined.ensures.reply

pub returns-in_default-clause-reply : goal.returns-in_default-clause-reply
returns-in_default-clause-reply g c =
    outline_refused_reply _ c.args.file.now c.mode_wanted-mode.result c.mode_wanted-mode.ensures c.in-Err.e c.refuse.result
    c.in_default.not-NoMemory (c.in-Err.ensures.refused c.args.w.now.bus.ram.bytes) c.refuse.ensures.reply
