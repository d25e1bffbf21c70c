-- An assembled module has one symbol for each name.
use Rattle.std.proofs.Common.{◌≡◌, ℕ, ◌+◌, ◌≤◌, Bool, true, false, List, [], ◌∷◌, ◌++◌, length, map, filter, refl, sym, ap, ◌∙◌, subst, arith, length-append, ltb-false}
use Rattle.std.specs.Prelude.{if◌then◌else◌, ◌||◌, bytes_eq}
use Rattle.std.specs.Cmp.{IsEquivalence}
use Rattle.std.specs.List.{All, list_any}
use Rattle.std.specs.Set.{is_member}
use Rattle.std.proofs.lemmas.List.{length-map}
use Rattle.std.proofs.lemmas.List.Elements.{All-nil, All-cons, All-head, All-tail}
use Rattle.std.proofs.lemmas.List.Filters.{length-filter_both}
use Rattle.std.proofs.lemmas.Map.Made.{length-le_from_is_member}
use Rattle.std.proofs.lemmas.Slice.Eq.{bytes_eq-Decides}
use Rattle.asm_lines.specs.Gather.{gather}
use Rattle.asm_lines.specs.Items.{Placed, size}
use Rattle.asm_lines.specs.Names.{has_name, new_name, first_names, defined, globals, mentions, labels, fixes}
use Rattle.asm_lines.specs.Causes.{longest_section, most_names, is_too_large}
use Rattle.asm_lines.proofs.Judging.{none_of_five}
use Rattle.asm_lines.proofs.Steps.{has_name-snoc}
use Rattle.ppc_asm.specs.Assembly.{label_symbol, undefined_symbol, binding_of, is_chosen, is_undefined, symbols}
use Rattle.ppc_asm.proofs.Sound.{Sound}

-- ---- equal bytes
eq_self : (a : List ℕ) → bytes_eq a a ≡ true
eq_self a = (bytes_eq-Decides a a).1 refl

eq_symm : (a b : List ℕ) → bytes_eq a b ≡ true → bytes_eq b a ≡ true
eq_symm a b h = subst (λ x. bytes_eq x a ≡ true) ((bytes_eq-Decides a b).0 h) (eq_self a)

no : false ≡ true → ⊥
no e = cc

both : (x y : Bool) → (x ≡ true → y ≡ true) → (y ≡ true → x ≡ true) → x ≡ y
both true y f g = sym (f refl)
both false true f g = g refl
both false false f g = refl

eq_laws : IsEquivalence bytes_eq
eq_laws = record {
  refl = eq_self;
  symm = λ a b. both (bytes_eq a b) (bytes_eq b a) (eq_symm a b) (eq_symm b a);
  congr = λ a b c h. ap (λ x. bytes_eq x c) ((bytes_eq-Decides a b).0 h);
}

-- ---- names among names
has_member : (names : List (List ℕ)) (q : List ℕ) → is_member bytes_eq names q ≡ has_name names q
unfolding has_name
has_member [] q = refl
has_member (n ∷ ns) q = ap (λ b. b || is_member bytes_eq ns q) (both (bytes_eq q n) (bytes_eq n q) (eq_symm q n) (eq_symm n q)) ∙ ap (λ b. bytes_eq n q || b) (has_member ns q)

or_right : (a b : Bool) → b ≡ true → (a || b) ≡ true
or_right true b h = refl
or_right false b h = h

has_filtered : (p : List ℕ → Bool) (names : List (List ℕ)) (q : List ℕ) → p q ≡ true → has_name names q ≡ true → has_name (filter p names) q ≡ true
unfolding has_name
has_filtered p [] q h e = cc
has_filtered p (n ∷ ns) q h e = go (has_filtered p ns q h) (p n) (bytes_eq n q) refl refl e where
  go : (list_any (λ other. bytes_eq other q) ns ≡ true → list_any (λ other. bytes_eq other q) (filter p ns) ≡ true) → (c b : Bool) → p n ≡ c → bytes_eq n q ≡ b → (b || list_any (λ other. bytes_eq other q) ns) ≡ true → list_any (λ other. bytes_eq other q) (if c then n ∷ filter p ns else filter p ns) ≡ true
  go more true true k s r = ap (λ x. x || list_any (λ other. bytes_eq other q) (filter p ns)) s
  go more false true k s r = let w : p n ≡ true = subst (λ x. p x ≡ true) (sym ((bytes_eq-Decides n q).0 s)) h in absurd (no (sym k ∙ w))
  go more true false k s r = or_right (bytes_eq n q) (list_any (λ other. bytes_eq other q) (filter p ns)) (more r)
  go more false false k s r = more r

pass : (h x y : Bool) → ((h || x) || y) ≡ true → x ≡ false → (h || y) ≡ true
pass true x y e f = refl
pass false true y e f = absurd (no (sym f))
pass false false y e f = e

pass_on : (h x y : Bool) → ((h || x) || y) ≡ true → (h || (x || y)) ≡ true
pass_on true x y e = refl
pass_on false x y e = e

-- a mentioned name is among the first mentions, or among the names before them
gathered_name : (before xs : List (List ℕ)) (q : List ℕ) → has_name xs q ≡ true → (has_name before q || has_name (gather new_name before xs) q) ≡ true
unfolding has_name
gathered_name before [] q e = cc
gathered_name before (x ∷ xs) q e = go (gathered_name (before ++ x ∷ []) xs q) (has_name before x) (bytes_eq x q) refl refl e where
  go : (has_name xs q ≡ true → (has_name (before ++ x ∷ []) q || has_name (gather new_name (before ++ x ∷ []) xs) q) ≡ true) → (c b : Bool) → has_name before x ≡ c → bytes_eq x q ≡ b → (b || has_name xs q) ≡ true
      → (has_name before q || has_name ((if c then [] else x ∷ []) ++ gather new_name (before ++ x ∷ []) xs) q) ≡ true
  go more true true k s r = let w : has_name before q ≡ true = subst (λ y. has_name before y ≡ true) ((bytes_eq-Decides x q).0 s) k in ap (λ y. y || has_name (gather new_name (before ++ x ∷ []) xs) q) w
  go more false true k s r = or_right (has_name before q) _ (ap (λ y. y || has_name (gather new_name (before ++ x ∷ []) xs) q) s)
  go more true false k s r = pass (has_name before q) (bytes_eq x q) _ (sym (ap (λ b. b || has_name (gather new_name (before ++ x ∷ []) xs) q) (has_name-snoc before x q)) ∙ more r) s
  go more false false k s r = pass_on (has_name before q) (bytes_eq x q) _ (sym (ap (λ b. b || has_name (gather new_name (before ++ x ∷ []) xs) q) (has_name-snoc before x q)) ∙ more r)

first_name : (names : List (List ℕ)) (q : List ℕ) → has_name names q ≡ true → has_name (first_names names) q ≡ true
unfolding first_names has_name
first_name names q e = gathered_name [] names q e

pub first_all : (P : List ℕ → Type 0) (before xs : List (List ℕ)) → All P xs → All P (gather new_name before xs)
first_all P before [] h = All-nil P
first_all P before (x ∷ xs) h = go (has_name before x) (first_all P (before ++ x ∷ []) xs (All-tail P x xs h)) where
  go : (c : Bool) → All P (gather new_name (before ++ x ∷ []) xs) → All P ((if c then [] else x ∷ []) ++ gather new_name (before ++ x ∷ []) xs)
  go true a = a
  go false a = All-cons P x (gather new_name (before ++ x ∷ []) xs) (All-head P x xs h) a

-- ---- how many
-- the limits of a module
pub record Small (ps : List Placed) : Type 0 where
  pub text : size 0 ps ≤ longest_section
  pub data_size : size 1 ps ≤ longest_section
  pub names : length (first_names (mentions ps)) ≤ most_names
  pub relocs : length (fixes 0 ps) + length (fixes 1 ps) ≤ most_names

pub small : (ps : List Placed) → is_too_large ps ≡ false → Small ps
unfolding is_too_large
small ps h =
    let (a, b, c, d, e) = none_of_five _ _ _ _ _ h in
    record { text = ltb-false _ _ a; data_size = ltb-false _ _ b; names = ltb-false _ _ c; relocs = ltb-false _ _ e }

-- there are at most as many definitions as mentioned names that are defined
few_defined : (ps : List Placed) → Sound ps → length (defined ps) ≤ length (filter (λ q. has_name (defined ps) q) (first_names (mentions ps)))
few_defined ps a =
    length-le_from_is_member eq_laws (defined ps) (filter (λ q. has_name (defined ps) q) (first_names (mentions ps))) a.distinct
    (λ q h.
    let d : has_name (defined ps) q ≡ true = sym (has_member (defined ps) q) ∙ h in
    has_member (filter (λ q. has_name (defined ps) q) (first_names (mentions ps))) q
    ∙ has_filtered (λ q. has_name (defined ps) q) (first_names (mentions ps)) q d (first_name (mentions ps) q (a.mentioned q d)))

pub few_symbols : (ps : List Placed) → Sound ps → length (symbols ps) ≤ most_names
unfolding symbols
few_symbols ps a =
    let ls = filter (is_chosen (globals ps) false) (labels ps) in
    let gs = filter (is_chosen (globals ps) true) (labels ps) in
    let us = filter (is_undefined (defined ps)) (first_names (mentions ps)) in
    let n1 = length-append (map (label_symbol (binding_of false)) ls ++ map (label_symbol (binding_of true)) gs) (map undefined_symbol us) in
    let n2 = length-append (map (label_symbol (binding_of false)) ls) (map (label_symbol (binding_of true)) gs) in
    let n3 = length-map ls (label_symbol (binding_of false)) in
    let n4 = length-map gs (label_symbol (binding_of true)) in
    let n5 = length-map us undefined_symbol in
    let n6 = length-filter_both (is_chosen (globals ps) true) (is_chosen (globals ps) false) (λ l. refl) (labels ps) in
    let n7 = length-filter_both (λ q. has_name (defined ps) q) (is_undefined (defined ps)) (λ q. refl) (first_names (mentions ps)) in
    let n8 = few_defined ps a in
    let n9 = (small ps a.small).names in
    let n10 = a.count in
    omega arith
