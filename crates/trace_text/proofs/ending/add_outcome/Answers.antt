use Rattle.std.proofs.Common.{◌≡◌, ℕ, List, ◌++◌, append_assoc, ap, ◌∙◌}
use Rattle.std.specs.Prelude.{codes}
use Rattle.std.proofs.lemmas.Result.{on_ok_weaker}
use Rattle.trace_text.specs.Ending.{bytes_left_text, standings}
use Rattle.trace_text.proofs.ending.add_outcome.Goals as goal

four_pieces : (old a b c d one two three four : List ℕ) → one ≡ old ++ a → two ≡ one ++ b → three ≡ two ++ c → four ≡ three ++ d → four ≡ old ++ (a ++ (b ++ (c ++ d)))
four_pieces old a b c d one two three four e f g h =
    let whole : (((old ++ a) ++ b) ++ c) ++ d ≡ old ++ (a ++ (b ++ (c ++ d))) = simp append_assoc in
    h ∙ ap (λ t. t ++ d) (g ∙ ap (λ t. t ++ c) (f ∙ ap (λ t. t ++ b) e)) ∙ whole

pub returns : goal.returns
returns c =
    on_ok_weaker c.add_bytes_left.result
    (four_pieces c.args.text.now.items (codes "the run ends: ") c.args.how.now (standings c.args.views.now) (bytes_left_text c.args.left) c.add.new.text.items c.add-2.new.text.items c.add_standings.new.text.items c.add_bytes_left.new.text.items c.in_ok-add.ensures c.in_ok-add-2.ensures c.in_ok-add_standings.ensures)
    c.add_bytes_left.ensures
