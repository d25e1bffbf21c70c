use Rattle.std.proofs.Common.{◌≡◌, List, [], ◌∷◌, ◌++◌, length, length-append, map, filter, take, sym, ap, ◌∙◌, arith}
use Rattle.elf_read.specs.declared.module.Sym.{Sym}
use Rattle.ppc_asm.specs.Assembly.{label_symbol, binding_of, is_chosen}
use Rattle.ppc_asm.proofs.Numbering.{filter_more, filter_skip}
use Rattle.ppc_asm.proofs.assembling.push_labels.Goals as goal
use Rattle.ppc_asm.proofs.assembling.push_labels.Goals.{then-is_chosen+in_ok-symbol+in_ok-push, else-is_chosen}

pub loop-label-preserved : goal.loop-label-preserved
loop-label-preserved c =
    let k = c.loop-label in
    let i = k.label-index in
    let l = c.label-item.result in
    let f = label_symbol (binding_of c.args.binding) in
    let before = c.args.symbols.now.list.items in
    elim c.if-is_chosen.branch [
      | then-is_chosen+in_ok-symbol+in_ok-push w ↦
          let s = w.in_ok-symbol.symbol in
          let same : s ≡ f l = w.in_ok-symbol.ensures ∙ ap (λ b. label_symbol b l) w.binding_number.ensures in
          let grown = ap length w.in_ok-push.ensures.list ∙ length-append k.symbols.list.items (s ∷ []) in
          rw w.symbols-is (record {
            list = λ names h.
                w.in_ok-push.ensures.list
                ∙ ap (λ (ss : List Sym). ss ++ s ∷ []) (k.invariant.list names h)
                ∙ ap (λ (t : Sym). (before ++ map f (filter (is_chosen names c.args.binding) (take i c.args.labels.now))) ++ t ∷ []) same
                ∙ filter_more f (is_chosen names c.args.binding) before c.args.labels.now i l c.loop-label-test.true c.label-item.is (sym (c.is_chosen.ensures names h) ∙ w.if-is_chosen.true);
            few = omega (arith, grown, k.invariant.few);
            numbers = λ h. w.in_ok-push.ensures.numbers (k.invariant.numbers h);
          })
      | else-is_chosen w ↦
          rw w.symbols-is (record {
            list = λ names h.
                k.invariant.list names h
                ∙ filter_skip f (is_chosen names c.args.binding) before c.args.labels.now i l c.loop-label-test.true c.label-item.is (sym (c.is_chosen.ensures names h) ∙ w.if-is_chosen.false);
            few = omega (arith, k.invariant.few);
            numbers = k.invariant.numbers;
          })
    ]
