use Rattle.std.proofs.Common.{◌≡◌, ◌∙◌, Some, None, refl, sym, subst}
use Rattle.board_player.specs.LiveLoadingSaid.{Missing}
use Rattle.wind_outside.specs.declared.folder.FetchOutcome.TheVariants as outcomes
use Rattle.wind_outside.specs.Requests.{GrowsBy}
use Rattle.wind_session.specs.Fetches.{step_request}
use Rattle.wind_session.proofs.FetchLemmas.{grows_none, stops_before, stops_quiet}
use Rattle.wind_session.proofs.ModuleLemmas.{halts_asked}
use Rattle.wind_session.proofs.modules.step.Goals as goal

-- a step that needs a file may end the run
pub returns-in-NeedsFile-clause-halts : goal.returns-in-NeedsFile-clause-halts
returns-in-NeedsFile-clause-halts g c = halts_asked _ c.in-NeedsFile.name c.in-NeedsFile.ensures.file c.load_step.result c.load_step.ensures.given_up

-- a step that needs no file makes no request
pub returns-in-Stepped-clause-made : goal.returns-in-Stepped-clause-made
returns-in-Stepped-clause-made g c = (
  Missing,
  λ name asked. let bad : None ≡ Some name = sym (c.in-Stepped.ensures.unasked refl) ∙ asked in absurd (cc),
  c.in-Stepped.ensures.stepped refl Missing,
  subst (λ asked. GrowsBy (g.F.Folder.requests c.args.folder.now) (g.F.Folder.requests c.args.folder.now) (step_request c.args.modules.now asked outcomes.Missing)) (sym (c.in-Stepped.ensures.unasked refl)) (grows_none (g.F.Folder.requests c.args.folder.now)),
  c.in-Stepped.ensures.reply refl Missing,
)

-- nor does one for which memory ran out, and none is made if no step is left
pub returns-in-NoMemory-clause-stops : goal.returns-in-NoMemory-clause-stops
returns-in-NoMemory-clause-stops g c = stops_before c.args.modules.now _ _ _ refl

pub returns-in-Quiet-clause-stops : goal.returns-in-Quiet-clause-stops
returns-in-Quiet-clause-stops g c = stops_quiet c.args.modules.now _ _ _ refl
