use Rattle.std.proofs.Common.{◌++◌, ◌∷◌, [], ap, ◌∙◌}
use Rattle.std.specs.Prelude.{codes}
use Rattle.std.proofs.lemmas.Result.{IfOk-equal}
use Rattle.wind_base.specs.Texts.{hex_places}
use Rattle.debug_texts.specs.Target.{registers_text, words_text}
use Rattle.debug_texts.proofs.Chains.{more}
use Rattle.debug_texts.proofs.target.add_registers.Goals as goal

pub returns : goal.returns
unfolding registers_text
returns c =
    let r = c.args.regs.now in
    IfOk-equal c.add_places-4.result _ _ _ c.add_places-4.ensures
    (more c.add_places-2.new.text.items _ (hex_places 16 c.args.time) _ c.in_ok-add_places-3.ensures
    ∙ more c.add_words-2.new.text.items _ (hex_places 16 c.args.step) _ c.in_ok-add_places-2.ensures
    ∙ more c.add.new.text.items _ (words_text (r.cr ∷ r.lr ∷ r.ctr ∷ r.xer ∷ [])) _ c.in_ok-add_words-2.ensures
    ∙ more c.add_places.new.text.items _ (codes "xxxxxxxx") _ c.in_ok-add.ensures
    ∙ more c.add_words.new.text.items _ (hex_places 8 r.pc) _ (c.in_ok-add_places.ensures ∙ ap (λ n. c.add_words.new.text.items ++ hex_places 8 n) c.from.ensures)
    ∙ more c.args.text.now.items _ (words_text r.gpr) _ c.in_ok-add_words.ensures)
