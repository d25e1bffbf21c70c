-- A load adds as many symbols as are counted.
use Rattle.std.proofs.Common.{◌≡◌, ℕ, ◌+◌, ◌%◌, ◌^◌, Bool, true, false, cond, ◌&&◌, List, [], ◌∷◌, length, get_or, refl, sym, ◌∙◌, ap}
use Rattle.std.proofs.lemmas.List.{length-append}
use Rattle.std.proofs.lemmas.List.Sums.{sum_by-cons}
use Rattle.symbol_table.specs.declared.symbol.Symbol.{Symbol}
use Rattle.mem_partition.specs.Place.{aligned}
use Rattle.elf_read.specs.declared.module.Sect.{Sect}
use Rattle.elf_read.specs.declared.module.Sym.{Sym}
use Rattle.elf_read.specs.declared.module.SymPlace.{SymPlace}
use Rattle.elf_read.specs.declared.module.SymPlace.TheVariants.{Undefined, Absolute, Common, Section, Elsewhere}
use Rattle.module_image.specs.declared.segments.Places.{Places}
use Rattle.module_image.specs.Layout.{values_from, values, value_in, value_by, after_symbol}
use Rattle.module_image.specs.Exports.{is_wanted, is_defined, exported, export_of, exports_from, exports, export_count}
use Rattle.module_image.specs.Laws.{CountLaw}

one_value : (b : Bool) (x : Symbol) → length (cond b (x ∷ []) []) ≡ cond (true && b) 1 0
one_value true x = refl
one_value false x = refl

one_by : (ss : List Sect) (mode id : ℕ) (places : List ℕ) (at : Places) (end : ℕ) (y : Sym) (place : SymPlace)
    → length (export_of ss mode id y (value_by places at end y place)) ≡ cond (is_defined place && is_wanted mode y) 1 0
one_by ss mode id places at end y Undefined = refl
one_by ss mode id places at end y Elsewhere = refl
one_by ss mode id places at end y Absolute = one_value (is_wanted mode y) (exported ss id y y.value)
one_by ss mode id places at end y Common = one_value (is_wanted mode y) (exported ss id y ((at.bss + aligned end y.value) % 2 ^ 32))
one_by ss mode id places at end y (Section n) = one_value (is_wanted mode y) (exported ss id y ((get_or places n 0 + y.value) % 2 ^ 32))

length_from : (ss : List Sect) (mode id : ℕ) (places : List ℕ) (at : Places) (ys : List Sym) (end : ℕ)
    → length (exports_from ss mode id ys (values_from places at end ys)) ≡ export_count mode ys
length_from ss mode id places at [] end = refl
length_from ss mode id places at (y ∷ ys) end =
    let rest = length_from ss mode id places at ys (after_symbol end y y.place) in
    let one = one_by ss mode id places at end y y.place in
    length-append (export_of ss mode id y (value_in places at end y)) (exports_from ss mode id ys (values_from places at (after_symbol end y y.place) ys))
    ∙ ap (λ n. n + length (exports_from ss mode id ys (values_from places at (after_symbol end y y.place) ys))) one
    ∙ ap (λ n. cond (is_defined y.place && is_wanted mode y) 1 0 + n) rest
    ∙ sym (sum_by-cons (λ (x : Sym). cond (is_defined x.place && is_wanted mode x) 1 0) y ys)

pub count_law : CountLaw
unfolding exports values
count_law m mode id at = length_from m.sections mode id _ at m.symbols _
