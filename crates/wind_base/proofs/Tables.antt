-- No name and no number occurs twice in the tables of gates and errors.
use Rattle.std.proofs.Common.{◌≡◌, ℕ, List, [], ◌∷◌, Option, Some, None, Bool, true, false, refl, sym, ap, ◌∙◌, subst}
use Rattle.std.specs.Prelude.{bytes_eq, ◌==◌, ⊤, option_and_then}
use Rattle.std.specs.List.{find, list_all}
use Rattle.wind_base.specs.Gates.{gates, gate_of, gate_name, gate_number, rules_of}
use Rattle.wind_base.specs.declared.gate.Gate.{Gate}
use Rattle.wind_base.proofs.Gating.{only_place, all_gates}
use Rattle.wind_base.proofs.Variants.{true_of_each, is_found, found_is, each_found}
use Rattle.wind_base.specs.Errno.{errno_number}
use Rattle.wind_base.specs.Laws.{NamesLaw, NumbersLaw}
use Rattle.wind_base.specs.declared.errno.Errno.{Errno}
use Rattle.wind_base.specs.declared.errno.Errno.TheVariants as errors
use Rattle.wind_base.specs.contracts.errno.Errno.{the_type as error_type}
use Rattle.wind_base.specs.contracts.gate.Gate.{the_type as gate_type}

-- a call has a name
is_named : List ℕ → Option (List ℕ) → Bool
is_named name None = false
is_named name (Some own) = bytes_eq name own

-- the gate whose call has a name
gate_named : List ℕ → Option Gate
gate_named name = find (λ g. is_named name (rules_of g).name) gates

-- a gate is found by its name
Found : Gate → Option (List ℕ) → Type 0
Found g None = ⊤
Found g (Some name) = gate_named name ≡ Some g

is_named_found : Gate → Option (List ℕ) → Bool
is_named_found g None = true
is_named_found g (Some name) = is_found gate_type tt g (gate_named name)

all_named : list_all (λ g. is_named_found g (rules_of g).name) gates ≡ true
unfolding gates gate_named is_named is_named_found
all_named = refl

named_found : (g : Gate) (name : Option (List ℕ)) → is_named_found g name ≡ true → Found g name
unfolding Found is_named_found
named_found g None h = tt
named_found g (Some name) h = found_is gate_type tt g (gate_named name) h

found : (g : Gate) → Found g (rules_of g).name
found g = named_found g (rules_of g).name (true_of_each gate_type tt (λ x. is_named_found x (rules_of x).name) gates all_gates all_named g)

entry : {A : Type 0} (a b : A) → Some a ≡ Some b → a ≡ b
entry a b e = cc

-- a number with a name is the number of the gate found by that name
by_name : (n : ℕ) (name : List ℕ) (g : Option Gate) → gate_of n ≡ g → option_and_then (λ x. (rules_of x).name) g ≡ Some name → (x : Gate) × (gate_named name ≡ Some x) × (gate_number x ≡ n)
unfolding Found
by_name n name None at e = cc
by_name n name (Some g) at e = (g, subst (Found g) e (found g), only_place n g at)

pub names_apart : NamesLaw
unfolding gate_name
names_apart a b name e f =
    let x = by_name a name (gate_of a) refl e in
    let y = by_name b name (gate_of b) refl f in
    let same : x.0 ≡ y.0 = entry x.0 y.0 (sym x.1 ∙ y.1) in
    sym x.2 ∙ ap gate_number same ∙ y.2

-- all errors
all_errors : List Errno
all_errors = errors.ObjIdError ∷ errors.ObjUnavailable ∷ errors.ObjDeleted ∷ errors.ObjTimeout ∷ errors.NotEnoughMemory ∷ errors.NotABlock ∷ errors.BadAlign
    ∷ errors.BadAddress ∷ errors.IllegalPriority ∷ errors.NotSafe ∷ errors.TooMany ∷ errors.IdsSpent ∷ errors.TaskNotFound ∷ errors.InvalidState
    ∷ errors.InvalidOption ∷ errors.InvalidOperation ∷ errors.CountOver ∷ errors.InvalidMsgLength ∷ errors.NonZeroTimeout ∷ errors.BadSize
    ∷ errors.NotIsrCallable ∷ errors.NotShell ∷ errors.SymbolsFull ∷ errors.BadKind ∷ errors.LoadFailed ∷ errors.NoSuchModule ∷ []

-- the error of a number
error_of : ℕ → Option Errno
error_of n = find (λ e. errno_number e == n) all_errors

error_found : (e : Errno) → error_of (errno_number e) ≡ Some e
unfolding all_errors error_of
error_found = each_found error_type tt (λ e. error_of (errno_number e)) all_errors refl refl

pub numbers_apart : NumbersLaw
numbers_apart e f same = entry e f (sym (error_found e) ∙ ap error_of same ∙ error_found f)
