use Rattle.std.proofs.Common.{ap, ◌∙◌}
use Rattle.wind_core.specs.Moves.{with_setting}
use Rattle.wind_core.proofs.Writes.{object_lives, sets}
use Rattle.wind_core.proofs.Mending.{set_keeps, setting_stays}
use Rattle.wind_core.specs.Notes.{marks}
use Rattle.wind_core.proofs.Noting.{noted_same}
use Rattle.wind_core.proofs.kern.Kern.put.Goals as goal

pub object_mut-requires : goal.object_mut-requires
object_mut-requires c = object_lives c.self.inside c.args.self.now c.args.who c.self.invariant.0 c.self.view_is c.requires.live

pub invariant_of-self : goal.invariant_of-self
invariant_of-self c = (
  set_keeps c.self.inside c.args.who c.object_mut.result.now c.put_setting.new.task (with_setting c.args.setting) c.self.invariant.0 c.object_mut.ensures.value c.put_setting.ensures
      (setting_stays c.args.setting),
  noted_same c.self.inside c.self.inside.all_normal c.self.inside.none_holds c.args.who c.object_mut.result.now c.put_setting.new.task c.self.invariant.0 c.object_mut.ensures.value c.self.invariant.1 (ap marks c.put_setting.ensures ∙ c.requires.marks c.object_mut.result.now),
)

pub returns : goal.returns
returns c =
    sets c.self.inside c.args.self.now c.args.who c.object_mut.result.now c.put_setting.new.task (with_setting c.args.setting) c.self.invariant.0 c.self.view_is c.object_mut.ensures.value
    c.put_setting.ensures
