use Rattle.std.proofs.Common.{[], ap, ◌∙◌}
use Rattle.wind_base.specs.OutBuf.{Output}
use Rattle.id_table.specs.Idents.{shell_id}
use Rattle.kernel_calls.specs.KernelWorldSeen.{world_with}
use Rattle.live_loading.proofs.Going.{lives_loaded}
use Rattle.live_loading.proofs.Whole.{named, loaded_reply, loaded_world}
use Rattle.live_loading.proofs.load.load_read.Goals as goal

pub accept-requires-clause-live : goal.accept-requires-clause-live
accept-requires-clause-live g c = lives_loaded _ _ c.in-Ok.kept_name c.args.m.now c.args.mode _ shell_id c.in-Ok-load_module.ensures.accepted c.requires.live

pub returns-in-Ok-load_module-clause-ok : goal.returns-in-Ok-load_module-clause-ok
returns-in-Ok-load_module-clause-ok g c =
    let to = named _ _ c.in-Ok.kept_name c.args.name.now c.args.m.now c.args.mode _ (c.in-Ok.ensures.value ∙ c.bytes.ensures.value) c.in-Ok-load_module.ensures.accepted in
    loaded_world (record (world_with [] c.args.w.now) { slots = _ }) _ c.args.name.now c.args.m.now c.args.mode _ _ c.in-Ok-load_module.loaded _ to c.in-Ok-load_module.ensures.answer
    (ap (λ (o : Output). o.bytes) c.in_ok-grow.ensures.ok) c.accept.ensures.world

pub returns-in-Ok-load_module-clause-reply : goal.returns-in-Ok-load_module-clause-reply
returns-in-Ok-load_module-clause-reply g c =
    loaded_reply (world_with [] c.args.w.now) c.in-Ok.kept_name c.args.m.now c.args.mode _ _ c.in-Ok-load_module.loaded c.accept.result c.in-Ok-load_module.ensures.accepted c.in-Ok-load_module.ensures.answer c.accept.ensures.reply
