-- The command line of windlive.
use Rattle.std.proofs.Common.{◌∙◌, ◌≡◌, ◌≢◌, ◌<◌, Bool, List, [], ◌∷◌, ℕ, ap, arith, cond, eqb, false, length, refl, sym, true}
use Rattle.std.proofs.lemmas.Bool.Decides.{nat_tests}
use Rattle.std.specs.Prelude.{◌==◌, not}
use Rattle.clap.specs.Words.{App, is_simple_and_free}
use Rattle.clap.proofs.OnLiterals.{clap_on_literals}
use Rattle.live_session.specs.Command.{app, folder_of, is_left_out}

-- clap specifies each match and each error of it
is_free : is_simple_and_free app ≡ true
unfolding app clap_on_literals
is_free = refl

pub app_is_free : (a : App) → a ≡ app → is_simple_and_free a ≡ true
app_is_free a same = ap is_simple_and_free same ∙ is_free

-- a session that goes on has a folder for its record
some_bytes : (n : ℕ) → 0 < n → (n == 0) ≡ false
some_bytes n some = grind (arith, nat_tests)

pub named_going : (record_folder continued folder : List ℕ) (goes_on : Bool) → goes_on ≡ not (eqb (length continued) 0) → folder ≡ folder_of record_folder continued → goes_on ≡ true → folder ≢ []
named_going record_folder [] folder goes_on is at going = absurd (cc)
named_going record_folder (b ∷ bs) folder goes_on is at going = λ none.
    let full : is_left_out (b ∷ bs) ≡ false = some_bytes (length (b ∷ bs)) (omega arith) in
    let same : [] ≡ b ∷ bs = sym none ∙ at ∙ ap (λ (t : Bool). cond t record_folder (b ∷ bs)) full in cc
