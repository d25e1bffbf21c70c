use Rattle.std.proofs.Common.{◌∙◌, ap, refl, ◌≡◌, ℕ, List, [], Option, Some, None, Bor, option_map}
use Rattle.std.specs.Prelude.{unwrap_or}
use Rattle.clap.specs.Words.{found_of}
use Rattle.clap.proofs.WalkLemmas.{first_value-rows}
use Rattle.wind_session.proofs.command.value_of.Goals as goal

now_of : (o : Option (Bor (List ℕ))) (d : Bor (List ℕ)) → (unwrap_or o d).now ≡ unwrap_or (option_map (λ s. s.now) o) d.now
now_of None d = refl
now_of (Some s) d = refl

pub returns : goal.returns
returns c = ap (λ (s : Bor (List ℕ)). s.now) c.unwrap_or.ensures ∙ now_of c.get_str.result _
    ∙ ap (λ (o : Option (List ℕ)). unwrap_or o []) (c.get_str.ensures ∙ first_value-rows (found_of c.args.matches.now) c.args.name.now)
