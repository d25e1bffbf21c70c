use Rattle.std.proofs.Common.{List, Ok, refl, sym, ap, ◌∙◌, subst}
use Rattle.wind_outside.specs.Counts.{Rose}
use Rattle.program_main.proofs.Putting.{puts_as}
use Rattle.wind_link.specs.Command.{Links}
use Rattle.wind_link.specs.declared.linking.Placed.{Placed}
use Rattle.wind_link.specs.declared.undefined.Undefined.{Undefined}
use Rattle.wind_link.specs.Linking.{linked, IsRefusal}
use Rattle.wind_link.specs.Steps.{loads}
use Rattle.std.specs.Prelude.{map}
use Rattle.wind_link.specs.Undefined.{pair_of, undefined, undefined_text}
use Rattle.wind_link.proofs.Commanding.{refused, refused_done}
use Rattle.wind_link.proofs.Joining.{rightly_placed}
use Rattle.wind_link.proofs.command.link_to.Goals as goal

pub returns-in-Err-clause-links : goal.returns-in-Err-clause-links
returns-in-Err-clause-links g c =
    subst (λ s. Links (g.O.Sink.bytes c.args.out.now) (g.O.Sink.bytes c.args.out.now) (Rose (g.O.Sink.faults c.args.out.now) (g.O.Sink.faults c.args.out.now)) (loads c.args.modules.now.placed.items) s) (sym c.status_of.ensures)
    (refused (g.O.Sink.bytes c.args.out.now) _ (loads c.args.modules.now.placed.items) c.in-Err.error c.requires.placed
    (subst (λ (ps : List Placed). IsRefusal (linked (loads ps)) c.in-Err.error) c.deref.ensures.value c.in-Err.ensures.refused))

pub returns-in-Err-clause-told : goal.returns-in-Err-clause-told
returns-in-Err-clause-told g c = λ done. absurd (refused_done c.in-Err.error (sym c.status_of.ensures ∙ done))

pub returns-in-Done-clause-links : goal.returns-in-Done-clause-links
returns-in-Done-clause-links g c = (
  c.deref-3.result.now,
  rightly_placed (loads c.args.modules.now.placed.items) c.requires.placed ∙ ap (λ (ps : List Placed). linked (loads ps)) (sym c.deref.ensures.value) ∙ c.in-Ok.ensures.done ∙ ap (λ x. Ok x) (sym c.deref-3.ensures.value),
  c.in-Done.ensures.done refl,
)

pub returns-in-Done-clause-told : goal.returns-in-Done-clause-told
returns-in-Done-clause-told g c = λ done. (
  c.tell_undefined.result,
  puts_as _ _ _ _ _ _ _
      (ap (λ (us : List Undefined). undefined_text c.args.list.now (map pair_of us)) c.deref-in-Done.ensures.value
      ∙ ap (undefined_text c.args.list.now) (c.in-Ok.ensures.undefined ∙ ap (λ (ps : List Placed). undefined (loads ps)) c.deref.ensures.value))
      c.tell_undefined.ensures,
)

pub returns-clause-links : goal.returns-clause-links
returns-clause-links g c = (
  c.deref-3.result.now,
  rightly_placed (loads c.args.modules.now.placed.items) c.requires.placed ∙ ap (λ (ps : List Placed). linked (loads ps)) (sym c.deref.ensures.value) ∙ c.in-Ok.ensures.done ∙ ap (λ x. Ok x) (sym c.deref-3.ensures.value),
  c.in-Failed.ensures.part,
  c.in-Failed.ensures.failed refl,
)
