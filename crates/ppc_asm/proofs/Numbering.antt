-- The numbers of symbols, and the choice of symbols.
use Rattle.std.proofs.Common.{◌≡◌, ℕ, ◌+◌, Bool, true, false, List, [], ◌∷◌, ◌++◌, length, map, filter, take, get_or, ◌<◌, append_assoc, Option, Some, None, refl, sym, ap, ◌∙◌, subst, arith}
use Rattle.std.specs.Prelude.{if◌then◌else◌, is_some}
use Rattle.std.specs.Str.{bytes_eq}
use Rattle.std.proofs.lemmas.List.{append-nil, take_more, map-append}
use Rattle.std.proofs.lemmas.List.Elements.{filter-append}
use Rattle.std.proofs.lemmas.Slice.Eq.{bytes_eq-Decides}
use Rattle.elf_read.specs.declared.module.Sym.{Sym}
use Rattle.asm_lines.specs.declared.name_map.NameMap.{NameMap}
use Rattle.asm_lines.specs.declared.names.Label.{Label}
use Rattle.asm_lines.specs.Items.{Placed}
use Rattle.asm_lines.specs.Names.{defined, globals, mentions, first_names, labels}
use Rattle.asm_lines.specs.Drafts.{number_at}
use Rattle.ppc_asm.specs.Assembly.{label_symbol, undefined_symbol, binding_of, is_undefined, symbols, number_from, number_in, is_chosen, Numbers}

-- the number, or else the other
abbrev found_or : Option ℕ → Option ℕ → Option ℕ
found_or (Some k) other = Some k
found_or None other = other

abbrev last_number : ℕ → List Sym → Sym → List ℕ → Option ℕ
last_number k ss s q = if bytes_eq s.name q then Some (k + length ss) else None

further : (k : ℕ) (t : Sym) (ts : List Sym) (s : Sym) (q : List ℕ) → last_number (k + 1) ts s q ≡ last_number k (t ∷ ts) s q
further k t ts s q = let e : (k + 1) + length ts ≡ k + length (t ∷ ts) = omega arith in ap (λ n. if bytes_eq s.name q then Some n else None) e

number_from-snoc : (k : ℕ) (ss : List Sym) (s : Sym) (q : List ℕ) → number_from k (ss ++ s ∷ []) q ≡ found_or (number_from k ss q) (last_number k ss s q)
number_from-snoc k [] s q = let e : k ≡ k + 0 = omega arith in ap (λ n. if bytes_eq s.name q then Some n else None) e
number_from-snoc k (t ∷ ts) s q = go (bytes_eq t.name q) (number_from-snoc (k + 1) ts s q) where
  go : (b : Bool) → number_from (k + 1) (ts ++ s ∷ []) q ≡ found_or (number_from (k + 1) ts q) (last_number (k + 1) ts s q)
      → (if b then Some k else number_from (k + 1) (ts ++ s ∷ []) q) ≡ found_or (if b then Some k else number_from (k + 1) ts q) (last_number k (t ∷ ts) s q)
  go true e = refl
  go false e = e ∙ ap (found_or (number_from (k + 1) ts q)) (further k t ts s q)

number_in-snoc : (ss : List Sym) (s : Sym) (q : List ℕ) → number_in (ss ++ s ∷ []) q ≡ found_or (number_in ss q) (last_number 1 ss s q)
unfolding number_in
number_in-snoc ss s q = number_from-snoc 1 ss s q

no : false ≡ true → ⊥
no e = cc

kept_here : (o : Option ℕ) (b : Bool) (n : ℕ) → (b ≡ true → is_some o ≡ true) → o ≡ found_or o (if b then Some n else None)
kept_here (Some k) b n h = refl
kept_here None true n h = absurd (no (h refl))
kept_here None false n h = refl

-- a name that has a number keeps it
pub numbers_kept : (m : NameMap) (ss : List Sym) (s : Sym) → Numbers m ss → is_some (number_at m s.name) ≡ true → Numbers m (ss ++ s ∷ [])
numbers_kept m ss s h e q =
    h q ∙ kept_here (number_in ss q) (bytes_eq s.name q) (1 + length ss)
    (λ b. subst (λ k. is_some (number_in ss k) ≡ true) ((bytes_eq-Decides s.name q).0 b) (ap is_some (sym (h s.name)) ∙ e))
    ∙ sym (number_in-snoc ss s q)

set_here : (o : Option ℕ) (b : Bool) (n : ℕ) → (b ≡ true → is_some o ≡ false) → (if b then Some n else o) ≡ found_or o (if b then Some n else None)
set_here (Some k) true n h = absurd (no (sym (h refl)))
set_here (Some k) false n h = refl
set_here None true n h = refl
set_here None false n h = refl

-- a new name gets the last number
pub numbers_set : (m m' : NameMap) (ss : List Sym) (s : Sym) (n : ℕ) → Numbers m ss → is_some (number_at m s.name) ≡ false → n ≡ 1 + length ss
    → ((q : List ℕ) → number_at m' q ≡ (if bytes_eq s.name q then Some n else number_at m q)) → Numbers m' (ss ++ s ∷ [])
numbers_set m m' ss s n h e k w q =
    w q ∙ ap (λ o. if bytes_eq s.name q then Some n else o) (h q)
    ∙ set_here (number_in ss q) (bytes_eq s.name q) n (λ b. subst (λ r. is_some (number_in ss r) ≡ false) ((bytes_eq-Decides s.name q).0 b) (ap is_some (sym (h s.name)) ∙ e))
    ∙ ap (λ j. found_or (number_in ss q) (if bytes_eq s.name q then Some j else None)) k
    ∙ sym (number_in-snoc ss s q)

-- ---- one more pass of a loop that chooses
pub filter_more : {A B : Type 0} (F : A → B) (P : A → Bool) (before : List B) (xs : List A) (i : ℕ) (x : A) → i < length xs → x ≡ get_or xs i x → P x ≡ true
    → (before ++ map F (filter P (take i xs))) ++ F x ∷ [] ≡ before ++ map F (filter P (take (i + 1) xs))
filter_more F P before xs i x lt e h =
    let t : take (i + 1) xs ≡ take i xs ++ x ∷ [] = take_more xs i x lt ∙ ap (λ y. take i xs ++ y ∷ []) (sym e) in
    let one : filter P (x ∷ []) ≡ x ∷ [] = rw h refl in
    append_assoc before (map F (filter P (take i xs))) (F x ∷ [])
    ∙ ap (λ bs. before ++ bs) (sym (map-append F (filter P (take i xs)) (x ∷ [])) ∙ ap (λ ys. map F (filter P (take i xs) ++ ys)) (sym one) ∙ ap (map F) (sym (filter-append P (take i xs) (x ∷ []))) ∙ ap (λ ys. map F (filter P ys)) (sym t))

pub filter_skip : {A B : Type 0} (F : A → B) (P : A → Bool) (before : List B) (xs : List A) (i : ℕ) (x : A) → i < length xs → x ≡ get_or xs i x → P x ≡ false
    → before ++ map F (filter P (take i xs)) ≡ before ++ map F (filter P (take (i + 1) xs))
filter_skip F P before xs i x lt e h =
    let t : take (i + 1) xs ≡ take i xs ++ x ∷ [] = take_more xs i x lt ∙ ap (λ y. take i xs ++ y ∷ []) (sym e) in
    let none : filter P (x ∷ []) ≡ [] = rw h refl in
    ap (λ bs. before ++ bs) (sym (ap (map F) (ap (λ ys. filter P ys) t ∙ filter-append P (take i xs) (x ∷ []) ∙ ap (λ ys. filter P (take i xs) ++ ys) none ∙ append-nil (filter P (take i xs)))))

-- a map without names has the numbers of no symbols
pub none_numbered : (m : NameMap) (ss : List Sym) → ss ≡ [] → ((q : List ℕ) → number_at m q ≡ None) → Numbers m ss
unfolding number_in
none_numbered m ss e h = subst (Numbers m) (sym e) (λ q. h q)

-- ---- all symbols
pub all_symbols : (ps : List Placed) (ls ks : List Label) (ns : List (List ℕ)) → ls ≡ labels ps → ks ≡ labels ps → ns ≡ first_names (mentions ps)
    → (map (label_symbol (binding_of false)) (filter (is_chosen (globals ps) false) ls) ++ map (label_symbol (binding_of true)) (filter (is_chosen (globals ps) true) ks))
    ++ map undefined_symbol (filter (is_undefined (defined ps)) ns) ≡ symbols ps
unfolding symbols
all_symbols ps ls ks ns d e f =
    ap (λ (xs : List Label). (map (label_symbol (binding_of false)) (filter (is_chosen (globals ps) false) xs) ++ map (label_symbol (binding_of true)) (filter (is_chosen (globals ps) true) ks))
    ++ map undefined_symbol (filter (is_undefined (defined ps)) ns)) d
    ∙ ap (λ (xs : List Label). (map (label_symbol (binding_of false)) (filter (is_chosen (globals ps) false) (labels ps)) ++ map (label_symbol (binding_of true)) (filter (is_chosen (globals ps) true) xs))
    ++ map undefined_symbol (filter (is_undefined (defined ps)) ns)) e
    ∙ ap (λ (xs : List (List ℕ)). (map (label_symbol (binding_of false)) (filter (is_chosen (globals ps) false) (labels ps)) ++ map (label_symbol (binding_of true)) (filter (is_chosen (globals ps) true) (labels ps)))
    ++ map undefined_symbol (filter (is_undefined (defined ps)) xs)) f
