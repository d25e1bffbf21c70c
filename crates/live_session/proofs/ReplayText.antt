-- windplay's command for the words of a record.
use Rattle.std.proofs.Common.{◌≡◌, ℕ, ◌<◌, ◌≤◌, ◌^◌, true, false, cond, List, [], ◌∷◌, ◌++◌, length, Option, None, Some, refl, ap, ◌∙◌, arith, append_assoc}
use Rattle.std.specs.Prelude.{codes, nat_le, not, ◌==◌, ◌&&◌}
use Rattle.std.specs.Char.{is_ascii_digit}
use Rattle.std.specs.Fmt.{decimal}
use Rattle.std.specs.List.{list_all}
use Rattle.std.specs.Str.Parse.{digits_value}
use Rattle.std.proofs.lemmas.Bool.Decides.{nat_tests}
use Rattle.std.proofs.lemmas.Fmt.{decimal_is_IsNumeral, decimal_nonempty, length-decimal-le}
use Rattle.wind_base.specs.Decimal.{decimal_value, is_numeral, number_within}
use Rattle.wind_base.specs.Limits.{most_steps}
use Rattle.wind_base.specs.declared.board_kind.BoardKind.{BoardKind}
use Rattle.wind_base.specs.declared.board_kind.BoardKind.TheVariants as boards
use Rattle.wind_base.specs.declared.profile.Profile.{Profile}
use Rattle.wind_base.specs.declared.profile.Profile.TheVariants as profiles
use Rattle.tick_file.proofs.Writing.{decimal_digits}
use Rattle.wind_session.specs.Command.{BoardOptionsState, CommandState as SessionCommand, board_value, command_of, if_valid, number_value, profile_value}
use Rattle.wind_session.specs.declared.command.Source.TheVariants as sources
use Rattle.wind_session.proofs.CommandLemmas.{command_on_literals}
use Rattle.live_session.specs.Command.{CommandState}
use Rattle.live_session.specs.Saving.{IsReplayText, board_digit, profile_digit}

-- the limit is read back from its digits
pub digits_few : (n : ℕ) → n ≤ most_steps → length (decimal n) ≤ 13
digits_few n within = length-decimal-le 13 n (omega arith) (omega (arith, within)) (omega (arith, within))

pub limit_read : (n : ℕ) → n ≤ most_steps → decimal_value most_steps (decimal n) ≡ Some n
unfolding decimal_value
limit_read n within =
    let text = decimal n in
    let small : n < 2 ^ 64 = omega (arith, within) in
    let some : 0 < length text = decimal_nonempty n small in
    let value : digits_value 10 text ≡ n = (decimal_is_IsNumeral n small).1 in
    let full : (length text == 0) ≡ false = grind (arith, nat_tests) in
    let numeral : is_numeral text ≡ true = ap (λ b. not b && list_all is_ascii_digit text) full ∙ decimal_digits n small in
    let inside : nat_le (digits_value 10 text) most_steps ≡ true = grind (arith, nat_tests) in
    ap (λ b. cond b (number_within most_steps text) None) numeral
    ∙ ap (λ b. cond b (Some (digits_value 10 text)) None) inside
    ∙ ap Some value

limit_value : (n : ℕ) → n ≤ most_steps → number_value most_steps (decimal n) ≡ Some n
limit_value n within =
    let few : length (decimal n) ≤ 13 = digits_few n within in
    let fits : nat_le (length (decimal n)) 13 ≡ true = grind (arith, nat_tests) in
    ap (λ b. cond b (decimal_value most_steps (decimal n)) None) fits ∙ limit_read n within

-- what is made of the values of the six words
abbrev made_of : List ℕ → List ℕ → List ℕ → Option ℕ → Option Profile → Option BoardKind → Option SessionCommand
made_of console ticks modules limit profile board =
    if_valid limit (λ n.
    if_valid (if_valid profile (λ p. if_valid board (λ b. Some (record { modules = modules; profile = p; board = b })))) (λ (o : BoardOptionsState).
    Some (record { console = console; ticks = ticks; modules = o.modules; limit = n; source = sources.Files; profile = o.profile; board = o.board })))

words_give : (console ticks modules profile board limit : List ℕ)
    → command_of (codes "windplay" ∷ (codes "--console=" ++ console) ∷ (codes "--ticks=" ++ ticks) ∷ (codes "--modules=" ++ modules)
    ∷ (codes "--profile=" ++ profile) ∷ (codes "--board=" ++ board) ∷ (codes "--limit=" ++ limit) ∷ [])
    ≡ made_of console ticks modules (number_value most_steps limit) (profile_value profile) (board_value board)
unfolding command_on_literals
words_give console ticks modules profile board limit = refl

-- the digits of the rule and of the kind of board are read back
profile_read : (p : Profile) → profile_value (profile_digit p) ≡ Some p
unfolding decimal_value
profile_read profiles.One = refl
profile_read profiles.Two = refl

board_read : (b : BoardKind) → board_value (board_digit b) ≡ Some b
unfolding decimal_value
board_read boards.One = refl
board_read boards.Two = refl

pub replay_text : (c : CommandState) (limit : ℕ) → limit ≤ most_steps → IsReplayText c limit
replay_text c limit within = record {
  lines = simp append_assoc;
  command =
      words_give _ _ _ (profile_digit c.profile) (board_digit c.board) (decimal limit)
      ∙ ap (λ n. made_of (codes "console.txt") (codes "ticks.txt") (codes "modules") n (profile_value (profile_digit c.profile)) (board_value (board_digit c.board))) (limit_value limit within)
      ∙ ap (λ (p : Option Profile). made_of (codes "console.txt") (codes "ticks.txt") (codes "modules") (Some limit) p (board_value (board_digit c.board))) (profile_read c.profile)
      ∙ ap (λ (b : Option BoardKind). made_of (codes "console.txt") (codes "ticks.txt") (codes "modules") (Some limit) (Some c.profile) b) (board_read c.board);
}
