use Rattle.std.proofs.Common.{Bool, ℕ, Option, if◌then◌else◌, [], ◌∷◌, ◌∙◌, subst, sym}
use Rattle.std.proofs.lemmas.Result.{on_ok_weaker}
use Rattle.trace_text.specs.Forms.{Gained}
use Rattle.trace_json.specs.Chrome.{AreMembers, ReadyTasks}
use Rattle.trace_json.proofs.Gaining.{gained_none}
use Rattle.trace_session.specs.Counters.{ready_objects}
use Rattle.trace_session.proofs.counters.add_ready_changed.Goals as goal

pub returns-in_default : goal.returns-in_default
returns-in_default c =
    let P : Option ℕ → Type 0 = λ after. Gained (AreMembers (ready_objects c.args.time c.args.before after)) c.args.text.now.items c.args.text.now.items in
    subst P (sym c.in_default.is) (gained_none c.args.text.now.items)

-- the number is the same
pub returns-then-was_number : goal.returns-then-was_number
returns-then-was_number c =
    let P : Option ℕ → Type 0 = λ after. Gained (AreMembers (ready_objects c.args.time c.args.before after)) c.args.text.now.items c.args.text.now.items in
    let Q : Bool → Type 0 = λ b. Gained (AreMembers (if b then [] else ReadyTasks c.args.time c.in-Some.number ∷ [])) c.args.text.now.items c.args.text.now.items in
    subst P (sym c.in-Some.is) (subst Q (sym c.if-was_number.true ∙ c.was_number.ensures) (gained_none c.args.text.now.items))

pub returns : goal.returns
returns c =
    let P : Option ℕ → Type 0 = λ after. Gained (AreMembers (ready_objects c.args.time c.args.before after)) c.args.text.now.items c.add_ready.new.text.items in
    let Q : Bool → Type 0 = λ b. Gained (AreMembers (if b then [] else ReadyTasks c.args.time c.in-Some.number ∷ [])) c.args.text.now.items c.add_ready.new.text.items in
    on_ok_weaker c.add_ready.result (λ gained. subst P (sym c.in-Some.is) (subst Q (sym c.if-was_number.false ∙ c.was_number.ensures) gained)) c.add_ready.ensures
