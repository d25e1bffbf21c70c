use Rattle.std.proofs.Common.{◌≡◌, ℕ, List, [], ◌∷◌, ◌+◌, length, length-append, true, false, Some, sym, ap, ◌∙◌, subst, arith}
use Rattle.std.specs.Prelude.{is_some, if◌then◌else◌, bytes_eq}
use Rattle.asm_lines.specs.Drafts.{number_at}
use Rattle.ppc_asm.specs.Assembly.{Numbers}
use Rattle.ppc_asm.proofs.Numbering.{numbers_kept, numbers_set}
use Rattle.ppc_asm.proofs.assembling.push.Goals as goal

pub returns-then-has-clause-numbers : goal.returns-then-has-clause-numbers
returns-then-has-clause-numbers c =
    let m = c.args.symbols.now.numbers in
    let known : is_some (number_at m c.args.symbol.name) ≡ true =
    ap (λ (w : List ℕ). is_some (number_at m w)) (c.requires.name ∙ sym c.bytes.ensures) ∙ sym c.has.ensures ∙ c.if-has.true in
    λ h. subst (Numbers m) (sym c.in_ok-push.ensures.items) (numbers_kept m c.args.symbols.now.list.items c.args.symbol h known)

pub returns-clause-numbers : goal.returns-clause-numbers
returns-clause-numbers c =
    let m = c.args.symbols.now.numbers in
    let before = c.args.symbols.now.list.items in
    let unknown : is_some (number_at m c.args.symbol.name) ≡ false =
    ap (λ (w : List ℕ). is_some (number_at m w)) (c.requires.name ∙ sym c.bytes.ensures) ∙ sym c.has.ensures ∙ c.if-has.false in
    let count : c.len-number.result ≡ 1 + length before = omega (arith, c.len-number.ensures, ap length c.in_ok-push.ensures.items, length-append before (c.args.symbol ∷ [])) in
    λ h. subst (Numbers c.set.new.self) (sym c.in_ok-push.ensures.items)
    (numbers_set m c.set.new.self before c.args.symbol c.len-number.result h unknown count
    (λ q. c.in_ok-set.ensures q ∙ ap (λ (w : List ℕ). if bytes_eq w q then Some c.len-number.result else number_at m q) (c.bytes-2.ensures ∙ sym c.requires.name)))
