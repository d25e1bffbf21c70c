-- Laws about the words of data of a line.
use Rattle.std.proofs.Common.{◌≡◌, ℕ, zero, suc, ◌-◌, ◌≤◌, Bool, true, false, List, [], ◌∷◌, ◌++◌, drop, length, Option, Some, None, refl, ap, sym, ◌∙◌, arith, append_assoc, append-nil, eqb-true}
use Rattle.std.specs.Prelude.{if◌then◌else◌, ◌==◌}
use Rattle.ppc_text.specs.declared.token.Token.{Token}
use Rattle.ppc_text.specs.declared.token.Token.TheVariants as tokens
use Rattle.ppc_text.specs.declared.values.Value.{Value}
use Rattle.ppc_text.specs.Operands.{first_number, after_minus, addend_at, address_with, is_comma}
use Rattle.ppc_text.specs.Lines.{address_value, number_or, value_at, and_values, with_value_at, values_from}

count_in : Option (Value × ℕ) → ℕ
count_in (Some x) = x.1
count_in None = 0

-- a word of data takes at least one token
pub counted : (ts : List Token) (v : Value) (n : ℕ) → value_at ts ≡ Some (v, n) → 1 ≤ n
unfolding value_at count_in
counted [] v n e = absurd (cc)
counted (tokens.Minus ∷ ts) v n e = go (first_number ts) e where
  go : (o : Option ℕ) → number_or (after_minus o) None ≡ Some (v, n) → 1 ≤ n
  go None e = absurd (cc)
  go (Some k) e = let h : 2 ≡ n = ap count_in e in omega arith
counted (tokens.Number k ∷ ts) v n e = let h : 1 ≡ n = ap count_in e in omega arith
counted (tokens.Name s ∷ ts) v n e = go (addend_at ts) e where
  go : (o : Option ℕ) → address_value (Some (address_with s o)) ≡ Some (v, n) → 1 ≤ n
  go None e = let h : 1 ≡ n = ap count_in e in omega arith
  go (Some k) e = let h : 3 ≡ n = ap count_in e in omega arith
counted (t ∷ ts) v n e = absurd (cc)

-- tokens that belong to the word before are skipped
pub values_passed : (wanted : Bool) (k : ℕ) (ts : List Token) → values_from wanted k ts ≡ values_from wanted 0 (drop k ts)
values_passed wanted zero ts = refl
values_passed true (suc k) [] = refl
values_passed false (suc k) [] = refl
values_passed wanted (suc k) (t ∷ ts) = values_passed wanted k ts

none_here : value_at [] ≡ None
unfolding value_at
none_here = refl

-- reading begins with a word of data, and goes on after its tokens
pub value_taken : (ts : List Token) (v : Value) (n : ℕ) → value_at ts ≡ Some (v, n) → values_from true 0 ts ≡ and_values (v ∷ []) (values_from false 0 (drop n ts))
value_taken [] v n e = let h = none_here in cc
value_taken (t ∷ ts) v zero e = absurd (let h : 1 ≤ 0 = counted (t ∷ ts) v zero e in omega arith)
value_taken (t ∷ ts) v (suc n) e =
    ap (λ o. with_value_at o (λ v n. and_values (v ∷ []) (values_from false (n - 1) ts))) e
    ∙ ap (λ k. and_values (v ∷ []) (values_from false k ts)) (omega arith)
    ∙ ap (and_values (v ∷ [])) (values_passed false n ts)

-- adding words before words before others is adding both at once
pub and_twice : (vs ws : List Value) (o : Option (List Value)) → and_values vs (and_values ws o) ≡ and_values (vs ++ ws) o
and_twice vs ws None = refl
and_twice vs ws (Some xs) = ap Some (sym (append_assoc vs ws xs))

-- one more word is read after others
pub taken_after : (kept pushed : List Value) (s left : List Token) (v : Value) (n : ℕ) (whole : Option (List Value)) → and_values kept (values_from true 0 s) ≡ whole → value_at s ≡ Some (v, n)
    → pushed ≡ kept ++ v ∷ [] → left ≡ drop n s → whole ≡ and_values pushed (values_from false 0 left)
taken_after kept pushed s left v n whole h e p l =
    sym h ∙ ap (and_values kept) (value_taken s v n e) ∙ and_twice kept (v ∷ []) (values_from false 0 (drop n s))
    ∙ ap (λ vs. and_values vs (values_from false 0 (drop n s))) (sym p) ∙ ap (λ ts. and_values pushed (values_from false 0 ts)) (sym l)

ended : (left : List Token) → (length left == 0) ≡ true → values_from false 0 left ≡ Some []
ended [] h = refl
ended (t ∷ ts) h = absurd (let e : length (t ∷ ts) ≡ 0 = eqb-true _ _ h in omega arith)

-- the words read are all words, if no token is left
pub all_taken : (pushed : List Value) (left : List Token) (whole : Option (List Value)) → whole ≡ and_values pushed (values_from false 0 left) → (length left == 0) ≡ true → Some pushed ≡ whole
all_taken pushed left whole h e = ap Some (sym (append-nil pushed)) ∙ ap (and_values pushed) (sym (ended left e)) ∙ sym h

-- there are no words, if a word has neither a comma nor the end after it
pub none_after : (pushed : List Value) (left : List Token) (whole : Option (List Value)) → whole ≡ and_values pushed (values_from false 0 left) → (length left == 0) ≡ false → is_comma left ≡ false → None ≡ whole
none_after pushed [] whole h e c = absurd (cc)
none_after pushed (t ∷ ts) whole h e c = sym (h ∙ ap (λ b. and_values pushed (if b then values_from true 0 ts else None)) c)

-- a comma is skipped
pub comma_passed : (pushed : List Value) (left : List Token) (whole : Option (List Value)) → whole ≡ and_values pushed (values_from false 0 left) → is_comma left ≡ true → and_values pushed (values_from true 0 (drop 1 left)) ≡ whole
comma_passed pushed [] whole h c = absurd (cc)
comma_passed pushed (t ∷ ts) whole h c = sym (h ∙ ap (λ b. and_values pushed (if b then values_from true 0 ts else None)) c)

-- there are no words, if a word has to follow and doesn't
pub no_value : (kept : List Value) (s : List Token) (whole : Option (List Value)) → and_values kept (values_from true 0 s) ≡ whole → value_at s ≡ None → None ≡ whole
no_value kept [] whole h e = h
no_value kept (t ∷ ts) whole h e = sym (ap (λ o. and_values kept (with_value_at o (λ v n. and_values (v ∷ []) (values_from false (n - 1) ts)))) e) ∙ h
