use Rattle.std.proofs.Common.{ℕ, ◌++◌, ap, ◌∙◌, refl}
use Rattle.asm_lines.specs.Names.{label_names, label_at}
use Rattle.asm_lines.proofs.Placing.{in_text, in_data}
use Rattle.asm_lines.proofs.draft.put.Goals as goal

pub returns-in_ok-put_item : goal.returns-in_ok-put_item
returns-in_ok-put_item c =
    λ ps a. in_text c.args.draft.now _ ps c.args.line.now a
    (record {
      section = c.section_after_item-draft.ensures;
      labels = c.in_ok-put_label.ensures ∙ ap (λ (k : ℕ). c.args.draft.now.labels.items ++ label_at c.args.line.now.label c.args.draft.now.section k) c.size-offset.ensures;
      names = λ ns ls gs n. c.in_ok-mention_item.ensures (ns ++ label_names c.args.line.now.label) (ls ++ label_names c.args.line.now.label) gs (c.in_ok-define.ensures ns ls gs n);
    })
    c.if-draft-eq-TEXT.true c.in_ok-put_item.ensures.bytes c.in_ok-put_item.ensures.fixes refl

pub returns-in_ok-put_item-2 : goal.returns-in_ok-put_item-2
returns-in_ok-put_item-2 c =
    λ ps a. in_data c.args.draft.now _ ps c.args.line.now a
    (record {
      section = c.section_after_item-draft.ensures;
      labels = c.in_ok-put_label.ensures ∙ ap (λ (k : ℕ). c.args.draft.now.labels.items ++ label_at c.args.line.now.label c.args.draft.now.section k) c.size-offset.ensures;
      names = λ ns ls gs n. c.in_ok-mention_item.ensures (ns ++ label_names c.args.line.now.label) (ls ++ label_names c.args.line.now.label) gs (c.in_ok-define.ensures ns ls gs n);
    })
    c.if-draft-eq-TEXT.false c.in_ok-put_item-2.ensures.bytes c.in_ok-put_item-2.ensures.fixes refl
