use Rattle.std.proofs.Common.{ap, ◌∙◌, refl}
use Rattle.wind_base.specs.OutBuf.{Output}
use Rattle.wind_base.specs.declared.board_kind.BoardRules.{BoardRules}
use Rattle.kernel_world.specs.Opening.{zeros}
use Rattle.kernel_world.proofs.Opened.{opened_by}
use Rattle.kernel_world.proofs.world.World.boot.Goals as goal

pub returns-clause-ok : goal.returns-clause-ok
returns-clause-ok g c =
    let start = c.in-Ok-start.ensures in
    let loadable = c.in-Ok-make_loadable.ensures in
    opened_by c.args.profile c.args.board _ _ _ _ _ _ _ _ _ _ _ start.kern start.objects loadable.part loadable.symbols loadable.modules
    (rw c.new.ensures.ram (c.in-Ok-cleared_ram.ensures ∙ ap (λ (r : BoardRules). zeros r.ram_bytes) c.rules.ensures)) (rw c.new.ensures.slots refl) c.new-2.ensures
    (ap (λ (o : Output). o.bytes) c.in-Ok.ensures) start.watch
