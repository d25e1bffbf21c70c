use Rattle.std.proofs.Common.{◌≡◌}
use Rattle.std.proofs.lemmas.Result.{on_ok_weaker}
use Rattle.kept_files.specs.Kept.{kept_of}
use Rattle.wind_session.proofs.ModuleLemmas.{halts_asked}
use Rattle.again.proofs.Stepping.{from_same}
use Rattle.again.proofs.steps.step.Goals as goal

-- a step that needs a file
pub returns-in-NeedsFile-clause-made : goal.returns-in-NeedsFile-clause-made
returns-in-NeedsFile-clause-made g c =
    on_ok_weaker c.load_kept.result (from_same c.args.modules.now (kept_of c.args.kept.now) (kept_of c.load_kept.new.kept) 1 _ _ _ _ (c.in-NeedsFile.ensures.unchanged (λ e. cc))) c.load_kept.ensures.made

pub returns-in-NeedsFile-clause-halts : goal.returns-in-NeedsFile-clause-halts
returns-in-NeedsFile-clause-halts g c = halts_asked _ c.in-NeedsFile.name c.in-NeedsFile.ensures.file c.load_kept.result c.load_kept.ensures.given_up
