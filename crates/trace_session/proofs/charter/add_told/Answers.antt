use Rattle.std.proofs.Common.{Bool, if◌then◌else◌, [], ◌∷◌, ◌∙◌, subst, sym}
use Rattle.std.proofs.lemmas.Result.{on_ok_weaker}
use Rattle.trace_text.specs.Forms.{Gained}
use Rattle.trace_json.specs.Chrome.{AreMembers, TaskSpan}
use Rattle.trace_json.proofs.Gaining.{gained_none}
use Rattle.trace_session.proofs.charter.add_told.Goals as goal

pub returns-then-tells_span : goal.returns-then-tells_span
returns-then-tells_span c =
    let P : Bool → Type 0 = λ b. Gained (AreMembers (if b then TaskSpan c.args.span.now ∷ [] else [])) c.args.text.now.items c.add_span.new.text.items in
    on_ok_weaker c.add_span.result (subst P (sym c.if-tells_span.true ∙ c.tells_span.ensures)) c.add_span.ensures

-- it isn't told
pub returns : goal.returns
returns c =
    let P : Bool → Type 0 = λ b. Gained (AreMembers (if b then TaskSpan c.args.span.now ∷ [] else [])) c.args.text.now.items c.args.text.now.items in
    subst P (sym c.if-tells_span.false ∙ c.tells_span.ensures) (gained_none c.args.text.now.items)
