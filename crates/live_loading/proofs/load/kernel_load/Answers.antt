use Rattle.live_loading.specs.Loading.{load_call}
use Rattle.live_loading.specs.Said.{Missing, TooLong}
use Rattle.live_loading.proofs.Going.{kept_by}
use Rattle.live_loading.proofs.Whole.{kept_so}
use Rattle.live_loading.proofs.load.kernel_load.Goals as goal

pub returns-in-File-clause-kept : goal.returns-in-File-clause-kept
returns-in-File-clause-kept g c = kept_so c.load_held.result _ _ c.args.name.now _ c.requires.kept c.requires.ready c.load_held.ensures.ok c.load_held.ensures.err

pub returns-in-NoFile-clause-kept : goal.returns-in-NoFile-clause-kept
unfolding load_call
returns-in-NoFile-clause-kept g c = kept_by _ _ c.args.name.now Missing c.requires.kept c.requires.ready c.refuse.ensures.world

pub returns-in-LongFile-clause-kept : goal.returns-in-LongFile-clause-kept
unfolding load_call
returns-in-LongFile-clause-kept g c = kept_by _ _ c.args.name.now TooLong c.requires.kept c.requires.ready c.refuse-in-LongFile.ensures.world
