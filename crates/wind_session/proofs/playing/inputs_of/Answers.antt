use Rattle.std.proofs.Common.{sym, ◌∙◌, ◌≡◌, subst}
use Rattle.std.proofs.lemmas.Result.{IfOk-weaker, IfErr-weaker}
use Rattle.wind_session.specs.Fetches.{EndsWithSource}
use Rattle.wind_session.specs.Words.{command_state}
use Rattle.wind_session.specs.declared.ending.Status.TheVariants as status
use Rattle.wind_session.proofs.FetchLemmas.{files_end, files_found, none_found, source_unread}
use Rattle.wind_session.proofs.PlanLemmas.{few_rounds, plans_files, plans_generated, refuses_by_files, refuses_memory}
use Rattle.wind_session.proofs.playing.inputs_of.Goals as goal

-- ---- the files are played
pub returns-in-Files-clause-start : goal.returns-in-Files-clause-start
returns-in-Files-clause-start g c =
    IfOk-weaker c.files_of.result _ _ (λ inputs h. plans_files c.args.command.now.source (g.F.Folder.files c.args.folder.now) (command_state c.args.command.now) _ c.in-Files.is h) c.files_of.ensures.start

pub returns-in-Files-clause-refused : goal.returns-in-Files-clause-refused
returns-in-Files-clause-refused g c =
    IfErr-weaker c.files_of.result _ _ (λ s h. refuses_by_files (g.F.Folder.files c.args.folder.now) (command_state c.args.command.now) s _ c.in-Files.is h) c.files_of.ensures.refused

pub returns-in-Files-clause-found : goal.returns-in-Files-clause-found
returns-in-Files-clause-found g c =
    IfOk-weaker c.files_of.result _ _ (λ inputs h. files_found c.args.command.now.source (command_state c.args.command.now) _ _ c.in-Files.is h) c.files_of.ensures.found

pub returns-in-Files-clause-without_run : goal.returns-in-Files-clause-without_run
returns-in-Files-clause-without_run g c =
    IfErr-weaker c.files_of.result _ _ (λ s h. files_end c.args.command.now.source (command_state c.args.command.now) s _ _ c.in-Files.is h) c.files_of.ensures.without_run

pub returns-in-Files-clause-unasked : goal.returns-in-Files-clause-unasked
returns-in-Files-clause-unasked g c = λ other. absurd (other c.in-Files.is)

-- ---- a generated session
pub generated-requires : goal.generated-requires
generated-requires g c = few_rounds _ c.in-Generated.rounds c.in-Generated.is c.requires

pub returns-in-Generated-clause-start : goal.returns-in-Generated-clause-start
returns-in-Generated-clause-start g c =
    IfOk-weaker c.generated.result _ _ (λ inputs h. plans_generated c.args.command.now.source (g.F.Folder.files c.args.folder.now) (command_state c.args.command.now) c.in-Generated.rounds _ c.in-Generated.is h)
    c.generated.ensures.planned

-- it is refused only if memory runs out
pub returns-in-Generated-clause-refused : goal.returns-in-Generated-clause-refused
returns-in-Generated-clause-refused g c =
    IfErr-weaker c.generated.result _ _ (λ s is. refuses_memory (g.F.Folder.files c.args.folder.now) (command_state c.args.command.now) s _ is) c.generated.ensures.memory

-- and needs no file
pub returns-in-Generated-clause-found : goal.returns-in-Generated-clause-found
returns-in-Generated-clause-found g c =
    IfOk-weaker c.generated.result _ _ (λ inputs h. none_found c.args.command.now.source c.in-Generated.rounds (command_state c.args.command.now) _ c.in-Generated.is) c.generated.ensures.planned

pub returns-in-Generated-clause-without_run : goal.returns-in-Generated-clause-without_run
returns-in-Generated-clause-without_run g c =
    let seen = g.F.Folder.requests c.args.folder.now in
    IfErr-weaker c.generated.result _ _
    (λ s is. subst (λ x. EndsWithSource c.args.command.now.source (command_state c.args.command.now) x seen seen) (sym is) (source_unread c.args.command.now.source (command_state c.args.command.now) seen))
    c.generated.ensures.memory

pub returns-in-Generated-clause-known : goal.returns-in-Generated-clause-known
returns-in-Generated-clause-known g c = IfErr-weaker c.generated.result _ _ (λ s is e. let never : status.NoMemory ≡ status.Usage = sym is ∙ e in cc) c.generated.ensures.memory
