use Rattle.wind_core.specs.Moves.{with_setting}
use Rattle.wind_core.proofs.Writes.{object_lives, sets}
use Rattle.wind_core.proofs.Mending.{set_keeps, setting_stays}
use Rattle.wind_core.proofs.Noting.{noted_tested}
use Rattle.wind_core.proofs.kern.Kern.put_noted.Goals as goal

pub object_mut-task-requires : goal.object_mut-task-requires
object_mut-task-requires c = object_lives c.self.inside c.args.self.now c.args.who c.self.invariant.0 c.self.view_is c.requires

pub invariant_of-self : goal.invariant_of-self
invariant_of-self c =
    let k = c.self.inside in
    let x = c.object_mut-task.result.now in (
      set_keeps k c.args.who x c.put_setting.new.task (with_setting c.args.setting) c.self.invariant.0 c.object_mut-task.ensures.value c.put_setting.ensures (setting_stays c.args.setting),
      noted_tested k k.all_normal k.none_holds c.normal_too-self-inside.result c.holds_none_too-self-inside.result c.args.who x c.put_setting.new.task c.self.invariant.0 c.object_mut-task.ensures.value c.self.invariant.1
          c.normal_too-self-inside.ensures c.holds_none_too-self-inside.ensures,
    )

pub returns : goal.returns
returns c =
    sets c.self.inside c.args.self.now c.args.who c.object_mut-task.result.now c.put_setting.new.task (with_setting c.args.setting) c.self.invariant.0 c.self.view_is c.object_mut-task.ensures.value
    c.put_setting.ensures
