-- The names that have no value are those that the table doesn't bind.
use Rattle.std.proofs.Common.{◌≡◌, ℕ, ◌+◌, ◌<◌, Bool, true, false, cond, not, eqb, ◌&&◌, List, [], ◌∷◌, ◌++◌, Option, Some, None, length, map, take, get_or, refl, sym, ap, ◌∙◌, append_assoc}
use Rattle.std.specs.Prelude.{is_some}
use Rattle.std.specs.List.{flat_map}
use Rattle.std.proofs.lemmas.List.{append-nil, take_more}
use Rattle.symbol_table.specs.declared.symbol.Symbol.{Symbol}
use Rattle.symbol_table.specs.Newest.{find_global}
use Rattle.elf_read.specs.Standard.{stb_weak}
use Rattle.elf_read.specs.declared.module.Sym.{Sym}
use Rattle.elf_read.specs.declared.module.SymPlace.{SymPlace}
use Rattle.elf_read.specs.declared.module.SymPlace.TheVariants.{Undefined, Absolute, Common, Section, Elsewhere}
use Rattle.module_image.specs.Binding.{is_unbound, is_unbound_at, unbound}
use Rattle.wind_link.specs.declared.values.Values.{Values}
use Rattle.wind_link.specs.Values.{entry_else, Means, is_valueless_at, valueless_name, valueless_names}
use Rattle.wind_link.proofs.Rowing.{map-append}

-- ---- one more symbol
pub flat_both : {A B : Type 0} (f : A → List B) (xs ys : List A) → flat_map f (xs ++ ys) ≡ flat_map f xs ++ flat_map f ys
flat_both f [] ys = refl
flat_both f (x ∷ xs) ys = ap (λ t. f x ++ t) (flat_both f xs ys) ∙ sym (append_assoc (f x) (flat_map f xs) (flat_map f ys))

pub flat_upto : {A B : Type 0} (f : A → List B) (xs : List A) (i : ℕ) (x : A) → i < length xs → x ≡ get_or xs i x → flat_map f (take (i + 1) xs) ≡ flat_map f (take i xs) ++ f x
flat_upto f xs i x lt is =
    ap (flat_map f) (take_more xs i x lt ∙ ap (λ y. take i xs ++ y ∷ []) (sym is))
    ∙ flat_both f (take i xs) (x ∷ [])
    ∙ ap (λ t. flat_map f (take i xs) ++ t) (append-nil (f x))

pub names_more : (line : ℕ) (v : Values) (ys : List Sym) (i : ℕ) (y : Sym) (old mid new : List (ℕ × List ℕ)) → i < length ys → y ≡ get_or ys i y
    → mid ≡ old ++ map (λ name. (line, name)) (valueless_names v (take i ys)) → new ≡ mid ++ map (λ name. (line, name)) (valueless_name v y)
    → new ≡ old ++ map (λ name. (line, name)) (valueless_names v (take (i + 1) ys))
names_more line v ys i y old mid new lt is before after =
    let f : List ℕ → ℕ × List ℕ = λ name. (line, name) in
    let first = valueless_names v (take i ys) in
    after
    ∙ ap (λ t. t ++ map f (valueless_name v y)) before
    ∙ append_assoc old (map f first) (map f (valueless_name v y))
    ∙ ap (λ t. old ++ t) (sym (map-append f first (valueless_name v y)) ∙ ap (map f) (sym (flat_upto (valueless_name v) ys i y lt is)))

-- ---- the table
some_same : (a : Option Symbol) → is_some (entry_else a None) ≡ is_some a
some_same (Some s) = refl
some_same None = refl

valueless_at : (v : Values) (tab : List Symbol) (y : Sym) (p : SymPlace) → Means v tab → is_valueless_at v y p ≡ is_unbound_at tab y p
valueless_at v tab y Undefined means = ap (λ b. not (eqb y.binding stb_weak) && not b) (ap is_some (means y.name) ∙ some_same (find_global tab y.name))
valueless_at v tab y Absolute means = refl
valueless_at v tab y Common means = refl
valueless_at v tab y (Section n) means = refl
valueless_at v tab y Elsewhere means = refl

one_more : (b : Bool) (y : Sym) (names : List (List ℕ)) (rest : List Sym) → names ≡ map (λ z. z.name) rest → cond b (y.name ∷ []) [] ++ names ≡ map (λ z. z.name) (cond b (y ∷ rest) rest)
one_more true y names rest e = ap (λ t. y.name ∷ t) e
one_more false y names rest e = e

pub names_unbound : (v : Values) (tab : List Symbol) (ys : List Sym) → Means v tab → valueless_names v ys ≡ unbound tab ys
names_unbound v tab [] means = refl
names_unbound v tab (y ∷ ys) means =
    ap (λ b. cond b (y.name ∷ []) [] ++ valueless_names v ys) (valueless_at v tab y y.place means)
    ∙ one_more (is_unbound tab y) y (valueless_names v ys) _ (names_unbound v tab ys means)
