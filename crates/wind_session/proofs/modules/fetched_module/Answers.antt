use Rattle.std.proofs.Common.{◌∙◌, ◌∷◌, [], Some, true, sym, ap, subst}
use Rattle.std.specs.Str.{IsUtf8}
use Rattle.wind_outside.specs.declared.folder.FetchOutcome.TheVariants as outcomes
use Rattle.board_player.specs.LiveLoadingSaid.{Held, TooLong, Missing}
use Rattle.wind_session.specs.Modules.{IsSaidBy}
use Rattle.wind_session.specs.Paths.{path_in}
use Rattle.wind_outside.specs.Requests.{GrowsBy}
use Rattle.wind_session.proofs.FetchLemmas.{grows_none, no_text_module, path_request, requested, stops_after, stops_unread}
use Rattle.wind_session.proofs.ModuleLemmas.{of_text, of_no_text, found_said, missing_said, long_said}
use Rattle.wind_session.proofs.modules.fetched_module.Goals as goal

-- the name isn't UTF-8
pub returns-in_default-clause-said : goal.returns-in_default-clause-said
returns-in_default-clause-said g c =
    of_no_text (g.F.Folder.files c.args.folder.now) c.args.name.now (path_in c.args.modules.now c.args.name.now) (λ text. c.in_default.ensures.cases.0 (subst IsUtf8 (sym c.bytes.ensures.value) text))

-- what a fetch from the module's path tells
pub returns-in-Found-clause-said : goal.returns-in-Found-clause-said
returns-in-Found-clause-said g c =
    let files = g.F.Folder.files c.args.folder.now in
    let at = c.deref.ensures ∙ c.in-Ok-path_in.ensures ∙ ap (path_in c.args.modules.now) (c.in-Ok.ensures.cases.0 ∙ c.bytes.ensures.value) in
    of_text files c.args.name.now (path_in c.args.modules.now c.args.name.now) (Held c.in-Found.bytes.items) (subst IsUtf8 c.bytes.ensures.value c.in-Ok.ensures.cases.1)
    (subst (λ path. IsSaidBy true files path (Held c.in-Found.bytes.items)) at (found_said files c.deref.result.now c.in-Found.bytes.items c.in-Found.ensures.answers c.in-Found.ensures.within))

pub returns-in-Missing-clause-said : goal.returns-in-Missing-clause-said
returns-in-Missing-clause-said g c =
    let files = g.F.Folder.files c.args.folder.now in
    let at = c.deref.ensures ∙ c.in-Ok-path_in.ensures ∙ ap (path_in c.args.modules.now) (c.in-Ok.ensures.cases.0 ∙ c.bytes.ensures.value) in
    of_text files c.args.name.now (path_in c.args.modules.now c.args.name.now) Missing (subst IsUtf8 c.bytes.ensures.value c.in-Ok.ensures.cases.1)
    (subst (λ path. IsSaidBy true files path Missing) at (missing_said files c.deref.result.now c.in-Missing.ensures.answers))

pub returns-in-TooLong-clause-said : goal.returns-in-TooLong-clause-said
returns-in-TooLong-clause-said g c =
    let files = g.F.Folder.files c.args.folder.now in
    let at = c.deref.ensures ∙ c.in-Ok-path_in.ensures ∙ ap (path_in c.args.modules.now) (c.in-Ok.ensures.cases.0 ∙ c.bytes.ensures.value) in
    of_text files c.args.name.now (path_in c.args.modules.now c.args.name.now) TooLong (subst IsUtf8 c.bytes.ensures.value c.in-Ok.ensures.cases.1)
    (subst (λ path. IsSaidBy true files path TooLong) at (long_said files c.deref.result.now c.in-TooLong.ensures.answers))

-- ---- the requests
-- the name isn't UTF-8
pub returns-in_default-clause-requested : goal.returns-in_default-clause-requested
returns-in_default-clause-requested g c =
    let before = g.F.Folder.requests c.args.folder.now in
    subst (GrowsBy before before) (sym (no_text_module c.args.modules.now c.args.name.now outcomes.Missing (λ text. c.in_default.ensures.cases.0 (subst IsUtf8 (sym c.bytes.ensures.value) text)))) (grows_none before)

pub returns-in-Found-clause-requested : goal.returns-in-Found-clause-requested
returns-in-Found-clause-requested g c =
    let before = g.F.Folder.requests c.args.folder.now in
    let after = g.F.Folder.requests c.fetch.new.self in
    let at = c.deref.ensures ∙ c.in-Ok-path_in.ensures ∙ ap (path_in c.args.modules.now) (c.in-Ok.ensures.cases.0 ∙ c.bytes.ensures.value) in
    requested c.args.modules.now c.args.name.now before after outcomes.Found (subst IsUtf8 c.bytes.ensures.value c.in-Ok.ensures.cases.1)
    (subst (λ path. GrowsBy before after (path_request path outcomes.Found ∷ [])) at c.in-Found.ensures.requested)

pub returns-in-Missing-clause-requested : goal.returns-in-Missing-clause-requested
returns-in-Missing-clause-requested g c =
    let before = g.F.Folder.requests c.args.folder.now in
    let after = g.F.Folder.requests c.fetch.new.self in
    let at = c.deref.ensures ∙ c.in-Ok-path_in.ensures ∙ ap (path_in c.args.modules.now) (c.in-Ok.ensures.cases.0 ∙ c.bytes.ensures.value) in
    requested c.args.modules.now c.args.name.now before after outcomes.Missing (subst IsUtf8 c.bytes.ensures.value c.in-Ok.ensures.cases.1)
    (subst (λ path. GrowsBy before after (path_request path outcomes.Missing ∷ [])) at c.in-Missing.ensures.requested)

pub returns-in-TooLong-clause-requested : goal.returns-in-TooLong-clause-requested
returns-in-TooLong-clause-requested g c =
    let before = g.F.Folder.requests c.args.folder.now in
    let after = g.F.Folder.requests c.fetch.new.self in
    let at = c.deref.ensures ∙ c.in-Ok-path_in.ensures ∙ ap (path_in c.args.modules.now) (c.in-Ok.ensures.cases.0 ∙ c.bytes.ensures.value) in
    requested c.args.modules.now c.args.name.now before after outcomes.TooLong (subst IsUtf8 c.bytes.ensures.value c.in-Ok.ensures.cases.1)
    (subst (λ path. GrowsBy before after (path_request path outcomes.TooLong ∷ [])) at c.in-TooLong.ensures.requested)

-- reading failed
pub returns-in-Failed-clause-stops : goal.returns-in-Failed-clause-stops
returns-in-Failed-clause-stops g c =
    let before = g.F.Folder.requests c.args.folder.now in
    let after = g.F.Folder.requests c.fetch.new.self in
    let at = c.deref.ensures ∙ c.in-Ok-path_in.ensures ∙ ap (path_in c.args.modules.now) (c.in-Ok.ensures.cases.0 ∙ c.bytes.ensures.value) in
    stops_unread c.args.modules.now c.args.name.now before after (subst IsUtf8 c.bytes.ensures.value c.in-Ok.ensures.cases.1)
    (subst (λ path. GrowsBy before after (path_request path outcomes.Failed ∷ [])) at c.in-Failed.ensures.requested)

-- memory ran out in the fetch
pub returns-clause-stops : goal.returns-clause-stops
returns-clause-stops g c =
    let before = g.F.Folder.requests c.args.folder.now in
    let after = g.F.Folder.requests c.fetch.new.self in
    let at = c.deref.ensures ∙ c.in-Ok-path_in.ensures ∙ ap (path_in c.args.modules.now) (c.in-Ok.ensures.cases.0 ∙ c.bytes.ensures.value) in
    stops_after c.args.modules.now (Some c.args.name.now) outcomes.NoMemory before after (λ e. cc)
    (requested c.args.modules.now c.args.name.now before after outcomes.NoMemory (subst IsUtf8 c.bytes.ensures.value c.in-Ok.ensures.cases.1)
    (subst (λ path. GrowsBy before after (path_request path outcomes.NoMemory ∷ [])) at c.in-NoMemory.ensures.requested))
