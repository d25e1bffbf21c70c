use Rattle.std.proofs.Common.{Bool, if◌then◌else◌, [], ◌∷◌, ◌∙◌, subst, sym}
use Rattle.std.proofs.lemmas.Result.{on_ok_weaker}
use Rattle.trace_text.specs.Forms.{Gained}
use Rattle.trace_json.specs.Chrome.{AreMembers, QueueMessages}
use Rattle.trace_json.proofs.Gaining.{gained_none}
use Rattle.trace_session.proofs.counters.add_queue_deleted.Goals as goal

pub returns-then-stays_or_is_empty : goal.returns-then-stays_or_is_empty
returns-then-stays_or_is_empty c =
    let P : Bool → Type 0 = λ b. Gained (AreMembers (if b then [] else QueueMessages c.args.time c.args.count.now.queue 0 ∷ [])) c.args.text.now.items c.args.text.now.items in
    subst P (sym c.if-stays_or_is_empty.true ∙ c.stays_or_is_empty.ensures) (gained_none c.args.text.now.items)

pub returns : goal.returns
returns c =
    let P : Bool → Type 0 = λ b. Gained (AreMembers (if b then [] else QueueMessages c.args.time c.args.count.now.queue 0 ∷ [])) c.args.text.now.items c.add_messages.new.text.items in
    on_ok_weaker c.add_messages.result (subst P (sym c.if-stays_or_is_empty.false ∙ c.stays_or_is_empty.ensures)) c.add_messages.ensures
