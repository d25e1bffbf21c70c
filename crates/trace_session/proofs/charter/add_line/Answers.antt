use Rattle.std.proofs.Common.{Bool, if◌then◌else◌, [], ◌++◌, ◌∙◌, subst, sym}
use Rattle.std.proofs.lemmas.Result.{on_ok_weaker}
use Rattle.trace_text.specs.Forms.{Gained}
use Rattle.trace_json.specs.Chrome.{AreMembers, instant_objects, name_objects}
use Rattle.trace_json.proofs.Gaining.{gained_both, gained_none}
use Rattle.trace_session.proofs.charter.add_line.Goals as goal

-- its instant follows the name of a task that it spawns
pub returns-then-has : goal.returns-then-has
returns-then-has c =
    let h = c.args.happening.now in
    let names = name_objects h c.args.name.now in
    let P : Bool → Type 0 = λ b. Gained (AreMembers (names ++ (if b then instant_objects c.args.before_step.now.time c.args.before_step.now.step h else []))) c.args.text.now.items c.add_instant.new.text.items in
    on_ok_weaker c.add_instant.result (λ gained. subst P (sym c.if-has.true ∙ c.has.ensures) (gained_both _ _ _ _ _ c.in_ok-add_spawned.ensures gained)) c.add_instant.ensures

-- the line isn't chosen
pub returns : goal.returns
returns c =
    let h = c.args.happening.now in
    let names = name_objects h c.args.name.now in
    let P : Bool → Type 0 = λ b. Gained (AreMembers (names ++ (if b then instant_objects c.args.before_step.now.time c.args.before_step.now.step h else []))) c.args.text.now.items c.add_spawned.new.text.items in
    subst P (sym c.if-has.false ∙ c.has.ensures) (gained_both _ _ _ _ _ c.in_ok-add_spawned.ensures (gained_none c.add_spawned.new.text.items))
