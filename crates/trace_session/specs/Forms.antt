-- What is put of a run in each form.
use Rattle.std.specs.Prelude.{ℕ, List, Option}
use Rattle.wind_machine.specs.State.{State}
use Rattle.wind_machine.specs.Run.{Answers}
use Rattle.wind_session.specs.declared.run.RunEnd.{RunEnd}
use Rattle.trace_session.specs.Choice.{ChoiceState}
use Rattle.trace_session.specs.Covering.{TellsCoverage, TellsCoveragePart}
use Rattle.trace_session.specs.Chrome.{TellsFirst, TellsObjects}
use Rattle.trace_session.specs.Summing.{TellsSummary, TellsTable}
use Rattle.trace_session.specs.Traced.{Alone, IsLastObject, IsObjectOf, TellsAreas, TellsEvents, TellsLines, TellsNothing, TellsPart, TellsSome, TellsState}
use Rattle.trace_session.specs.declared.forms.Form.{Form}
use Rattle.trace_session.specs.declared.forms.Form.TheVariants as forms
use Rattle.trace_session.specs.declared.traced.Product.{Product}

-- if memory suffices: its lines that are chosen, as text or as JSON; the objects of its spans and lines that are chosen; a picture of the areas of its spans that are chosen;
-- the board that is left; the words of modules that were executed; or its figures
abbrev pub TellsForm : Form → ChoiceState → Product → RunEnd → State → Option (List ℕ) → Option (List ℕ) → Answers → ℕ → RunEnd → Type 0
TellsForm forms.Events c product result start old new = Alone product (TellsEvents c result start old new)
TellsForm forms.JsonLines c product result start old new = Alone product (TellsLines IsObjectOf IsLastObject c result start old new)
TellsForm forms.Chrome c product result start old new = Alone product (TellsObjects c result start old new)
TellsForm forms.Timeline c product result start old new = TellsAreas c product result start
TellsForm forms.State c product result start old new = Alone product (TellsState result start old new)
TellsForm forms.Coverage c product result start old new = Alone product (TellsCoverage result start old new)
TellsForm forms.Summary c product result start old new = TellsTable product result start
TellsForm forms.SummaryJson c product result start old new = Alone product (TellsSummary result start old new)

-- and if memory runs out for the trace
abbrev pub TellsLess : Form → ChoiceState → State → Option (List ℕ) → Option (List ℕ) → Answers → ℕ → RunEnd → Type 0
TellsLess forms.Events c start old new = TellsPart c start old new
TellsLess forms.JsonLines c start old new = TellsSome IsObjectOf c start old new
TellsLess forms.Chrome c start old new = TellsFirst c start old new
TellsLess forms.Timeline c start old new = TellsNothing
TellsLess forms.State c start old new = TellsNothing
TellsLess forms.Coverage c start old new = TellsCoveragePart start old new
TellsLess forms.Summary c start old new = TellsNothing
TellsLess forms.SummaryJson c start old new = TellsNothing
