use Rattle.std.proofs.Common.{Bool, false, if◌then◌else◌, [], ◌∷◌, ◌∙◌, subst, sym}
use Rattle.std.proofs.lemmas.Result.{on_ok_weaker}
use Rattle.trace_text.specs.Forms.{Gained}
use Rattle.trace_json.specs.Chrome.{AreMembers, Instant}
use Rattle.trace_json.proofs.ChromeDepth.{instant_shallow}
use Rattle.trace_json.proofs.Gaining.{gained_none}
use Rattle.trace_json.proofs.members.add_instant.Goals as goal

pub returns-then-is_instructions : goal.returns-then-is_instructions
returns-then-is_instructions c =
    let P : Bool → Type 0 = λ b. Gained (AreMembers (if b then [] else Instant c.args.at.time c.args.at.step c.args.happening.now ∷ [])) c.args.text.now.items c.args.text.now.items in
    subst P (sym c.if-is_instructions.true ∙ c.is_instructions.ensures) (gained_none c.args.text.now.items)

pub add_member-requires : goal.add_member-requires
add_member-requires c = instant_shallow _ _ _ _ c.in_ok-value.ensures

pub returns : goal.returns
returns c =
    let P : Bool → Type 0 = λ b. Gained (AreMembers (if b then [] else Instant c.args.at.time c.args.at.step c.args.happening.now ∷ [])) c.args.text.now.items c.add_member.new.text.items in
    on_ok_weaker c.add_member.result
    (λ gained. subst P (sym c.if-is_instructions.false ∙ c.is_instructions.ensures) (gained (Instant c.args.at.time c.args.at.step c.args.happening.now) c.in_ok-value.ensures))
    c.add_member.ensures
