-- The values of names, as symbols are added.
use Rattle.std.proofs.Common.{◌≡◌, ℕ, suc, ◌+◌, ◌<◌, List, ◌∷◌, ◌++◌, Option, Some, None, length, get_or, drop, drop-cons, refl, sym, ap, ◌∙◌, arith}
use Rattle.std.specs.Option.{option_or, unwrap_or}
use Rattle.wind_base.specs.declared.gate.Gate.{Gate}
use Rattle.symbol_table.specs.declared.symbol.Symbol.{Symbol}
use Rattle.symbol_table.specs.Newest.{find_global, is_global_named}
use Rattle.symbol_table.proofs.Finding.{newest-append}
use Rattle.elf_read.specs.declared.module.Sect.{Sect}
use Rattle.elf_read.specs.declared.module.Sym.{Sym}
use Rattle.module_image.specs.Exports.{export_of, exports_from}
use Rattle.module_image.specs.Binding.{bind, value_or_zero}
use Rattle.module_image.specs.Link.{value_else}
use Rattle.module_image.specs.Opening.{symbols_of_gate, gate_symbols}
use Rattle.wind_link.specs.declared.values.Values.{Values}
use Rattle.wind_link.specs.Values.{entry_of, entry_else, value_of}

pub entry_else-or : (a b : Option Symbol) (o : Option ℕ) → entry_else (option_or a b) o ≡ entry_else a (entry_else b o)
entry_else-or (Some s) b o = refl
entry_else-or None b o = refl

unwrap_else : (a : Option Symbol) (o : Option ℕ) → unwrap_or (entry_else a o) 0 ≡ value_else a (unwrap_or o 0)
unwrap_else (Some s) o = refl
unwrap_else None o = refl

-- a value after a symbol that may have replaced it
pub value_after : (v w : Values) (a : Option Symbol) (q : List ℕ) → entry_of w q ≡ entry_else a (entry_of v q) → value_of w q ≡ value_else a (value_of v q)
unfolding value_of
value_after v w a q e = ap (λ o. unwrap_or o 0) e ∙ unwrap_else a (entry_of v q)

unwrap_none : (a : Option Symbol) → unwrap_or (entry_else a None) 0 ≡ value_or_zero a
unwrap_none (Some s) = refl
unwrap_none None = refl

-- a value that the table gives
pub value_bound : (v : Values) (tab : List Symbol) (q : List ℕ) → entry_of v q ≡ entry_else (find_global tab q) None → value_of v q ≡ bind tab q
unfolding value_of bind
value_bound v tab q e = ap (λ o. unwrap_or o 0) e ∙ unwrap_none (find_global tab q)

-- the value of a name after more symbols
pub more : (q : List ℕ) (xs ys : List Symbol) (n : Option ℕ) → entry_else (find_global (xs ++ ys) q) n ≡ entry_else (find_global ys q) (entry_else (find_global xs q) n)
more q xs ys n = ap (λ o. entry_else o n) (newest-append (is_global_named q) xs ys) ∙ entry_else-or (find_global ys q) (find_global xs q) n

-- ---- symbols of modules

pub more_exports : (ss : List Sect) (mode : ℕ) (y : Sym) (v : Option ℕ) (ys : List Sym) (vs : List (Option ℕ)) (q : List ℕ) (n : Option ℕ)
    → entry_else (find_global (exports_from ss mode 0 (y ∷ ys) (v ∷ vs)) q) n ≡ entry_else (find_global (exports_from ss mode 0 ys vs) q) (entry_else (find_global (export_of ss mode 0 y v) q) n)
more_exports ss mode y v ys vs q n = more q (export_of ss mode 0 y v) (exports_from ss mode 0 ys vs) n

-- the same for symbol number i of these
pub export_at : (ss : List Sect) (mode : ℕ) (ys : List Sym) (vs : List (Option ℕ)) (i : ℕ) (d : Sym) (e : Option ℕ) (q : List ℕ) (n : Option ℕ) → i < length ys → length ys ≡ length vs
    → entry_else (find_global (exports_from ss mode 0 (drop i ys) (drop i vs)) q) n
    ≡ entry_else (find_global (exports_from ss mode 0 (drop (suc i) ys) (drop (suc i) vs)) q) (entry_else (find_global (export_of ss mode 0 (get_or ys i d) (get_or vs i e)) q) n)
export_at ss mode ys vs i d e q n h same =
    ap (λ x. entry_else (find_global (exports_from ss mode 0 x (drop i vs)) q) n) (drop-cons ys i d h)
    ∙ ap (λ x. entry_else (find_global (exports_from ss mode 0 (get_or ys i d ∷ drop (suc i) ys) x) q) n) (drop-cons vs i e (omega (arith, h, same)))
    ∙ more_exports ss mode (get_or ys i d) (get_or vs i e) (drop (suc i) ys) (drop (suc i) vs) q n

-- gate number i of these
pub gate_at : (base : ℕ) (gs : List Gate) (i : ℕ) (d : Gate) (q : List ℕ) (n : Option ℕ) → i < length gs
    → entry_else (find_global (gate_symbols base (drop i gs)) q) n
    ≡ entry_else (find_global (gate_symbols base (drop (suc i) gs)) q) (entry_else (find_global (symbols_of_gate base (get_or gs i d)) q) n)
gate_at base gs i d q n h =
    ap (λ x. entry_else (find_global (gate_symbols base x) q) n) (drop-cons gs i d h)
    ∙ more q (symbols_of_gate base (get_or gs i d)) (gate_symbols base (drop (suc i) gs)) n

-- the symbols after the one with number i, once that one is added
pub after_symbol : (ss : List Sect) (mode : ℕ) (ys : List Sym) (vs : List (Option ℕ)) (i : ℕ) (y : Sym) (e : Option ℕ) (q : List ℕ) (n new : Option ℕ) → i < length ys → length ys ≡ length vs → y ≡ get_or ys i y
    → new ≡ entry_else (find_global (export_of ss mode 0 y (get_or vs i e)) q) n
    → entry_else (find_global (exports_from ss mode 0 (drop (i + 1) ys) (drop (i + 1) vs)) q) new ≡ entry_else (find_global (exports_from ss mode 0 (drop i ys) (drop i vs)) q) n
after_symbol ss mode ys vs i y e q n new h same is added =
    let step : suc i ≡ i + 1 = omega arith in
    ap (λ k. entry_else (find_global (exports_from ss mode 0 (drop k ys) (drop k vs)) q) new) (sym step)
    ∙ ap (λ x. entry_else (find_global (exports_from ss mode 0 (drop (suc i) ys) (drop (suc i) vs)) q) x)
    (added ∙ ap (λ x. entry_else (find_global (export_of ss mode 0 x (get_or vs i e)) q) n) is)
    ∙ sym (export_at ss mode ys vs i y e q n h same)

-- the gates after the one with number i, once that one is added
pub after_gate : (base : ℕ) (gs all : List Gate) (i : ℕ) (d : Gate) (q : List ℕ) (n new : Option ℕ) → all ≡ gs → i < length all
    → new ≡ entry_else (find_global (symbols_of_gate base (get_or all i d)) q) n
    → entry_else (find_global (gate_symbols base (drop (i + 1) gs)) q) new ≡ entry_else (find_global (gate_symbols base (drop i gs)) q) n
after_gate base gs all i d q n new same h added =
    let step : suc i ≡ i + 1 = omega arith in
    let within : i < length gs = omega (arith, h, ap length same) in
    ap (λ k. entry_else (find_global (gate_symbols base (drop k gs)) q) new) (sym step)
    ∙ ap (λ x. entry_else (find_global (gate_symbols base (drop (suc i) gs)) q) x)
    (added ∙ ap (λ x. entry_else (find_global (symbols_of_gate base (get_or x i d)) q) n) same)
    ∙ sym (gate_at base gs i d q n within)
