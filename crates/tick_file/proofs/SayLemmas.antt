-- The rules of lines and the first bad one, by the lines' numbers.
use Rattle.std.proofs.Common.{◌≡◌, ℕ, zero, suc, ◌+◌, ◌<◌, List, [], ◌∷◌, length, get_or, Option, Some, refl, sym, ap, ◌∙◌, subst, arith}
use Rattle.std.specs.Prelude.{◌⊎◌}
use mathlib.Core.Logic.{inl, inr, ⊎_elim}
use Rattle.std.specs.List.{Contains}
use Rattle.std.proofs.lemmas.List.Elements.{Contains-append_left, Contains-append_right, Contains-append_cases}
use Rattle.std.proofs.lemmas.Option.{same_Some}
use Rattle.tick_file.specs.declared.event.Said.{Said}
use Rattle.tick_file.specs.declared.event.Said.TheVariants.{Nothing, Says, Outside}
use Rattle.tick_file.specs.Grammar.{said}
use Rattle.tick_file.specs.Lines.{Numbered, rule_at, rules_from, bad_or, bad_from, tick_lines, rules_of, first_bad_line}
use Rattle.tick_file.specs.Laws.{LinesLaw}
use Rattle.tick_file.proofs.TimetableLemmas.{split_at}

own_rule : (n : ℕ) (s : Said) (r : Numbered) → Contains (rule_at n s) r → (r.line ≡ n) × (s ≡ Says r.rule)
own_rule n Nothing r h = absurd (omega (arith, h.1))
own_rule n (Says rule) r h =
    ⊎_elim
    (λ q. (ap (λ (x : Numbered). x.line) (sym q), ap (λ (x : Numbered). Says x.rule) q))
    (λ k. absurd (omega (arith, k.1)))
    (split_at (record { line = n; rule = rule }) [] r h.0 h.1 h.2)
own_rule n Outside r h = absurd (omega (arith, h.1))

rule_said : (n : ℕ) (lines : List (List ℕ)) (r : Numbered) → Contains (rules_from n lines) r → (k : ℕ) × (r.line ≡ n + k) × (k < length lines) × (said (get_or lines k []) ≡ Says r.rule)
rule_said n [] r h = absurd (omega (arith, h.1))
rule_said n (line ∷ lines) r h =
    ⊎_elim
    (λ k. let own = own_rule n (said line) r k in (0, omega (arith, own.0), omega arith, own.1))
    (λ k. let m = rule_said (n + 1) lines r k in (suc m.0, omega (arith, m.1), omega (arith, m.2), m.3))
    (Contains-append_cases (rule_at n (said line)) (rules_from (n + 1) lines) r h)

said_rule : (n : ℕ) (lines : List (List ℕ)) (r : Numbered) (k : ℕ) → r.line ≡ n + k → k < length lines → said (get_or lines k []) ≡ Says r.rule → Contains (rules_from n lines) r
said_rule n [] r k at l e = absurd (omega arith)
said_rule n (line ∷ lines) r zero at l e =
    let is : n ≡ r.line = omega arith in
    Contains-append_left (rule_at n (said line)) (rules_from (n + 1) lines) r
    (subst (λ s. Contains (rule_at n s) r) (sym e) (0, omega arith, (λ i. record { line = is i; rule = r.rule })))
said_rule n (line ∷ lines) r (suc k) at l e =
    Contains-append_right (rule_at n (said line)) (rules_from (n + 1) lines) r (said_rule (n + 1) lines r k (omega arith) (omega arith) e)

-- this line is invalid, or the first bad line comes after it
here_or_later : (n m : ℕ) (o : Option ℕ) (s : Said) → bad_or n o s ≡ Some m → ((s ≡ Outside) × (n ≡ m)) ⊎ ((s ≡ Outside → ⊥) × (o ≡ Some m))
here_or_later n m o Nothing e = inr ((λ q. absurd (cc)), e)
here_or_later n m o (Says rule) e = inr ((λ q. absurd (cc)), e)
here_or_later n m o Outside e = inl (refl, same_Some n m e)

later_bad : (n : ℕ) (o : Option ℕ) (s : Said) → (s ≡ Outside → ⊥) → bad_or n o s ≡ o
later_bad n o Nothing h = refl
later_bad n o (Says rule) h = refl
later_bad n o Outside h = absurd (h refl)

-- line k is invalid, and none before it is
abbrev IsFirstBad : List (List ℕ) → ℕ → Type 0
IsFirstBad lines k = (said (get_or lines k []) ≡ Outside) × ((j : ℕ) → j < k → said (get_or lines j []) ≡ Outside → ⊥)

none_ahead : (line : List ℕ) (lines : List (List ℕ)) (k : ℕ) → (said line ≡ Outside → ⊥) → ((j : ℕ) → j < k → said (get_or lines j []) ≡ Outside → ⊥)
    → (j : ℕ) → j < suc k → said (get_or (line ∷ lines) j []) ≡ Outside → ⊥
none_ahead line lines k here later zero l e = here e
none_ahead line lines k here later (suc j) l e = later j (omega arith) e

bad_said : (n : ℕ) (lines : List (List ℕ)) (m : ℕ) → bad_from n lines ≡ Some m → (k : ℕ) × (m ≡ n + k) × (k < length lines) × IsFirstBad lines k
bad_said n [] m e = absurd (cc)
bad_said n (line ∷ lines) m e =
    ⊎_elim
    (λ h. (0, omega (arith, h.1), omega arith, (h.0, (λ j l q. absurd (omega arith)))))
    (λ h.
    let r = bad_said (n + 1) lines m h.1 in
    (suc r.0, omega (arith, r.1), omega (arith, r.2), (r.3.0, none_ahead line lines r.0 h.0 r.3.1)))
    (here_or_later n m (bad_from (n + 1) lines) (said line) e)

said_bad : (n : ℕ) (lines : List (List ℕ)) (k : ℕ) → k < length lines → IsFirstBad lines k → bad_from n lines ≡ Some (n + k)
said_bad n [] k l h = absurd (omega arith)
said_bad n (line ∷ lines) zero l h =
    let e : n ≡ n + 0 = omega arith in ap (bad_or n (bad_from (n + 1) lines)) h.0 ∙ ap Some e
said_bad n (line ∷ lines) (suc k) l h =
    let e : n + 1 + k ≡ n + suc k = omega arith in
    later_bad n (bad_from (n + 1) lines) (said line) (h.1 0 (omega arith))
    ∙ said_bad (n + 1) lines k (omega arith) (h.0, (λ j m q. h.1 (suc j) (omega arith) q))
    ∙ ap Some e

pub all_lines : LinesLaw
unfolding rules_of first_bad_line
all_lines text =
    let lines = tick_lines text in (
      (λ r. (rule_said 1 lines r, (λ h. said_rule 1 lines r h.0 h.1 h.2 h.3))),
      λ n. (
        (λ e.
            let k = bad_said 1 lines n e in
            ((k.0, k.1, k.2, k.3.0), (λ m l h. k.3.1 h.0 (omega (arith, h.1, k.1)) h.3))),
        λ h. said_bad 1 lines h.0.0 h.0.2 (h.0.3, (λ j l q. h.1 (1 + j) (omega (arith, h.0.1)) (j, refl, omega (arith, h.0.2), q))) ∙ ap Some (sym h.0.1),
      ),
    )
