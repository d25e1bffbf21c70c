use Rattle.std.proofs.Common.{◌++◌, true, false, List, map, filter, ap, ◌∙◌}
use Rattle.elf_read.specs.declared.module.Sym.{Sym}
use Rattle.asm_lines.specs.Names.{defined, globals}
use Rattle.ppc_asm.specs.Assembly.{label_symbol, undefined_symbol, binding_of, is_chosen, is_undefined}
use Rattle.ppc_asm.proofs.Numbering.{none_numbered, all_symbols}
use Rattle.ppc_asm.proofs.assembling.symbols_of.Goals as goal

pub returns-clause-list : goal.returns-clause-list
returns-clause-list c = λ ps d.
    c.in_ok-push_others.ensures.list (defined ps) d.names.labelled
    ∙ ap (λ (ss : List Sym). ss ++ map undefined_symbol (filter (is_undefined (defined ps)) c.deref-3.result.now))
    (c.in_ok-push_labels-2.ensures.list (globals ps) d.names.global
    ∙ ap (λ (ss : List Sym). ss ++ map (label_symbol (binding_of true)) (filter (is_chosen (globals ps) true) c.deref-2.result.now))
    (c.in_ok-push_labels.ensures.list (globals ps) d.names.global
    ∙ ap (λ (ss : List Sym). ss ++ map (label_symbol (binding_of false)) (filter (is_chosen (globals ps) false) c.deref.result.now)) c.new.ensures.items))
    ∙ all_symbols ps c.deref.result.now c.deref-2.result.now c.deref-3.result.now (c.deref.ensures.value ∙ d.labels) (c.deref-2.ensures.value ∙ d.labels) (c.deref-3.ensures.value ∙ d.names.entries)

pub returns-clause-numbers : goal.returns-clause-numbers
returns-clause-numbers c =
    c.in_ok-push_others.ensures.numbers (c.in_ok-push_labels-2.ensures.numbers (c.in_ok-push_labels.ensures.numbers
    (none_numbered c.new-2.result c.new.result.items c.new.ensures.items c.new-2.ensures)))
