use Rattle.std.proofs.Common.{◌∙◌, append_assoc}
use Rattle.std.proofs.lemmas.List.{append-nil}
use Rattle.wind_link.proofs.report.tell_name.Goals as goal

pub returns : goal.returns
returns g c =
    simp append_assoc (simp append-nil at (rw (c.as_bytes-number.ensures.value ∙ c.format.ensures.text, c.as_bytes.ensures.value) at c.put_text.ensures))
