use Rattle.std.proofs.Common.{◌≡◌, ◌∙◌, List, subst, ℕ}
use Rattle.std.specs.Bool.{Decides}
use Rattle.std.proofs.lemmas.Bool.Decides.{Decides-eqb}
use Rattle.std.proofs.lemmas.Slice.Eq.{slice_eq-Decides}
use Rattle.live_session.proofs.continuing.is_spelled.Goals as goal

pub returns : goal.returns
returns c =
    subst (λ (t : List ℕ). Decides c.eq.result (t ≡ c.args.digits.now)) (c.as_bytes.ensures.value ∙ c.format.ensures.text)
    (slice_eq-Decides Decides-eqb c.as_bytes.result.now c.args.digits.now c.eq.result c.eq.ensures)
