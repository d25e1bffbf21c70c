use Rattle.std.proofs.Common.{refl}
use Rattle.std.proofs.lemmas.Result.{on_ok_weaker}
use Rattle.trace_text.proofs.form.TextLinesLineForm.add_line.Goals as goal

pub returns : goal.returns
returns c = on_ok_weaker c.add_line.result (λ text. record { piece = _; text_is = text; is_piece = refl }) c.add_line.ensures.text
