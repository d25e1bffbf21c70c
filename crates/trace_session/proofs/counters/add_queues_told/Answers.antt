use Rattle.std.proofs.Common.{Bool, if◌then◌else◌, [], ◌∙◌, subst, sym}
use Rattle.std.proofs.lemmas.Result.{on_ok_weaker}
use Rattle.trace_text.specs.Forms.{Gained}
use Rattle.trace_json.specs.Chrome.{AreMembers}
use Rattle.trace_json.proofs.Gaining.{gained_none}
use Rattle.trace_session.specs.Counters.{queue_objects}
use Rattle.trace_session.proofs.counters.add_queues_told.Goals as goal

pub returns-then-tells_counter : goal.returns-then-tells_counter
returns-then-tells_counter c =
    let P : Bool → Type 0 = λ b. Gained (AreMembers (if b then queue_objects c.args.time c.args.before.now.queues.now c.args.after.now.queues.now else [])) c.args.text.now.items c.add_queues.new.text.items in
    on_ok_weaker c.add_queues.result (subst P (sym c.if-tells_counter.true ∙ c.tells_counter.ensures)) c.add_queues.ensures

-- it isn't told
pub returns : goal.returns
returns c =
    let P : Bool → Type 0 = λ b. Gained (AreMembers (if b then queue_objects c.args.time c.args.before.now.queues.now c.args.after.now.queues.now else [])) c.args.text.now.items c.args.text.now.items in
    subst P (sym c.if-tells_counter.false ∙ c.tells_counter.ensures) (gained_none c.args.text.now.items)
