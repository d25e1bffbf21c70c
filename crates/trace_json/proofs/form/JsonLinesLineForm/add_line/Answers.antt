use Rattle.std.proofs.Common.{List, ℕ, subst}
use Rattle.std.proofs.lemmas.Result.{on_ok_weaker}
use Rattle.serde_json.specs.Data.{Data}
use Rattle.trace_text.specs.Forms.{Gained}
use Rattle.trace_state.specs.Board.{IsTextOf}
use Rattle.trace_json.proofs.Depth.{line_shallow}
use Rattle.trace_json.proofs.form.JsonLinesLineForm.add_line.Goals as goal

pub add_value-requires : goal.add_value-requires
add_value-requires c = line_shallow _ _ c.in_ok-value.ensures

pub returns : goal.returns
returns c =
    let P : Data → Type 0 = λ d. Gained (λ piece. IsTextOf piece d) c.args.text.now.items c.add_value.new.text.items in
    on_ok_weaker c.add_value.result (subst P c.in_ok-value.ensures) c.add_value.ensures
