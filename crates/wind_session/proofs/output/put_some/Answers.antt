use Rattle.std.proofs.Common.{◌≡◌, ◌==◌, ◌∷◌, [], List, ℕ, length, true, false, sym, refl, ◌∙◌, subst, arith}
use Rattle.std.proofs.lemmas.Bool.{eqb-true}
use Rattle.wind_outside.specs.Requests.{GrowsBy, piece_of}
use Rattle.wind_outside.specs.declared.sink.Put.{Put}
use Rattle.wind_outside.specs.declared.sink.Put.TheVariants as puts
use Rattle.wind_session.specs.Pieces.{output_piece}
use Rattle.wind_session.proofs.FetchLemmas.{grows_none}
use Rattle.wind_session.proofs.output.put_some.Goals as goal

-- the piece of an output, which is empty or not
no_piece : (bytes : List ℕ) (outcome : Put) → (length bytes == 0) ≡ true → output_piece bytes outcome ≡ []
no_piece [] outcome h = refl
no_piece (b ∷ bs) outcome h = let zero : length (b ∷ bs) ≡ 0 = eqb-true (length (b ∷ bs)) 0 h in absurd (omega (arith, zero))

some_piece : (bytes : List ℕ) (outcome : Put) → (length bytes == 0) ≡ false → output_piece bytes outcome ≡ piece_of bytes outcome ∷ []
some_piece [] outcome h = absurd (cc)
some_piece (b ∷ bs) outcome h = refl

pub returns-then-is_empty-clause-pieces : goal.returns-then-is_empty-clause-pieces
returns-then-is_empty-clause-pieces g c =
    let pieces = g.O.Sink.pieces c.args.out.now in
    subst (GrowsBy pieces pieces) (sym (no_piece c.args.bytes.now puts.Done (sym c.is_empty.ensures ∙ c.if-is_empty.true))) (grows_none pieces)

pub returns-clause-pieces : goal.returns-clause-pieces
returns-clause-pieces g c =
    subst (GrowsBy (g.O.Sink.pieces c.args.out.now) (g.O.Sink.pieces c.put.new.self)) (sym (some_piece c.args.bytes.now c.put.result (sym c.is_empty.ensures ∙ c.if-is_empty.false))) c.put.ensures.noted
