use Rattle.std.proofs.Common.{◌∙◌, refl, sym, ap, subst}
use Rattle.std.specs.Str.{IsUtf8}
use Rattle.std.specs.Option.{option_map}
use Rattle.std.proofs.lemmas.Result.{on_ok_weaker}
use Rattle.std.proofs.lemmas.Str.{is_utf8-from_IsUtf8}
use Rattle.board_player.specs.LiveLoadingSaid.{said_of}
use Rattle.kept_files.specs.Kept.{kept_of}
use Rattle.kept_files.proofs.Keeping.{grows_same}
use Rattle.wind_session.specs.Paths.{path_in}
use Rattle.again.proofs.Stepping.{loads_none, loads_text, not_text}
use Rattle.again.proofs.steps.load_kept.Goals as goal

-- the name isn't UTF-8
pub returns-in_default-clause-made : goal.returns-in_default-clause-made
returns-in_default-clause-made g c =
    let kept = kept_of c.args.kept.now in
    let none = not_text c.args.name.now (λ text. c.in_default.ensures.cases.0 (subst IsUtf8 (sym c.bytes.ensures.value) text)) in
    on_ok_weaker c.load.result (λ step. loads_none c.args.modules.now kept kept _ _ c.args.name.now _ (grows_same kept kept refl) c.requires.asked step none refl) c.load.ensures.made

-- the answer about its file is kept
pub returns-in-Ok-keep-clause-made : goal.returns-in-Ok-keep-clause-made
returns-in-Ok-keep-clause-made g c =
    let old = kept_of c.args.kept.now in
    let new = kept_of c.keep.new.self in
    let text = is_utf8-from_IsUtf8 c.args.name.now (subst IsUtf8 c.bytes.ensures.value c.in-Ok.ensures.cases.1) in
    let at = c.deref-in-Ok-keep.ensures ∙ c.in-Ok-path_in.ensures ∙ ap (path_in c.args.modules.now) (c.in-Ok.ensures.cases.0 ∙ c.bytes.ensures.value) in
    let kept = ap new (sym at) ∙ sym c.get.ensures ∙ ap (option_map (λ file. said_of file.now)) c.unwrap.ensures in
    on_ok_weaker c.load-in-Ok-keep.result (λ step. loads_text c.args.modules.now old new _ _ c.args.name.now _ c.in-Ok-keep.ensures.grows c.requires.asked step text kept) c.load-in-Ok-keep.ensures.made
