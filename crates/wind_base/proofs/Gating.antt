-- Each gate is at the place of its number.
use Rattle.std.proofs.Common.{◌≡◌, ℕ, zero, suc, ◌+◌, ◌-◌, ◌*◌, ◌/◌, ◌%◌, ◌≤◌, List, [], ◌∷◌, Some, None, Bool, true, false, ◌&&◌, cond, leb, eqb, refl, ap, ◌∙◌, arith}
use Rattle.std.proofs.lemmas.Bool.Decides.{nat_tests}
use Rattle.std.specs.Prelude.{slice_get, ◌==◌}
use Rattle.std.specs.List.{list_all}
use Rattle.wind_base.specs.Gates.{gates, gate_of, gate_number, gate_at, gate_address}
use Rattle.wind_base.specs.Laws.{GatesLaw}
use Rattle.wind_base.specs.declared.gate.Gate.{Gate}
use Rattle.wind_base.specs.contracts.gate.Gate.{the_type}
use Rattle.wind_base.proofs.Variants.{ascend, are_variants, is_found, each_found}

all_ascend : ascend gate_number 0 gates ≡ true
unfolding gates
all_ascend = refl

at_place : (k : ℕ) (gs : List Gate) (n : ℕ) (g : Gate) → ascend gate_number k gs ≡ true → slice_get gs n ≡ Some g → gate_number g ≡ k + n
at_place k [] n g all e = cc
at_place k (x ∷ xs) zero g all e = grind (arith, nat_tests)
at_place k (x ∷ xs) (suc n) g all e = at_place (suc k) xs n g (rest (gate_number x == k) (ascend gate_number (suc k) xs) all) e ∙ omega arith
  where
    rest : (a b : Bool) → (a && b) ≡ true → b ≡ true
    rest true b h = h
    rest false b h = cc

pub all_gates : are_variants the_type tt gates ≡ true
unfolding gates
all_gates = refl

all_placed : list_all (λ g. is_found the_type tt g (gate_of (gate_number g))) gates ≡ true
unfolding gates gate_of
all_placed = refl

own_place : (g : Gate) → gate_of (gate_number g) ≡ Some g
own_place = each_found the_type tt (λ g. gate_of (gate_number g)) gates all_gates all_placed

pub only_place : (n : ℕ) (g : Gate) → gate_of n ≡ Some g → gate_number g ≡ n
unfolding gate_of
only_place n g e = omega (arith, at_place 0 gates n g all_ascend e)

stands_there : (base : ℕ) (g : Gate) → gate_at base (gate_address base g) ≡ Some g
stands_there base g =
    let k = gate_number g in
    let above : leb base (base + 16 * k) ≡ true = grind (arith, nat_tests) in
    let offset : base + 16 * k - base ≡ k * 16 = omega arith in
    let whole : eqb ((base + 16 * k - base) % 16) 0 ≡ true = grind (arith, nat_tests, offset) in
    let place : (base + 16 * k - base) / 16 ≡ k = omega arith in
    ap (λ t. cond (t && eqb ((base + 16 * k - base) % 16) 0) (gate_of ((base + 16 * k - base) / 16)) None) above
    ∙ ap (λ t. cond t (gate_of ((base + 16 * k - base) / 16)) None) whole
    ∙ ap gate_of place
    ∙ own_place g

place_there : (base at : ℕ) (g : Gate) → gate_at base at ≡ Some g → at ≡ gate_address base g
place_there base at g e =
    go (leb base at) (eqb ((at - base) % 16) 0) refl refl e
  where
    go : (a b : Bool) → leb base at ≡ a → eqb ((at - base) % 16) 0 ≡ b → cond (a && b) (gate_of ((at - base) / 16)) None ≡ Some g → at ≡ base + 16 * gate_number g
    go true true above whole f =
        let k : gate_number g ≡ (at - base) / 16 = only_place ((at - base) / 16) g f in
        let low : base ≤ at = grind (arith, nat_tests) in
        let even : (at - base) % 16 ≡ 0 = grind (arith, nat_tests) in
        omega (arith, k, low, even)
    go true false above whole f = cc
    go false b above whole f = cc

pub gates_stand : GatesLaw
gates_stand = record { own = own_place; only = only_place; stands = stands_there; place = place_there }
