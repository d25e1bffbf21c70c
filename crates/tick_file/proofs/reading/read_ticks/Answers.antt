use Rattle.std.proofs.Common.{◌≡◌, not, ap, sym, ◌∙◌, subst}
use Rattle.std.specs.List.{All, list_all}
use Rattle.std.specs.declared.cmp.Reverse.{Reverse}
use Rattle.id_table.specs.Sorting.{sorted}
use Rattle.tick_file.specs.declared.pending.Pending.{Pending}
use Rattle.tick_file.specs.Lines.{rules_of}
use Rattle.tick_file.specs.Schedule.{Timetable, before, brings_bytes, event_of, timetable_of, in_order}
use Rattle.tick_file.specs.Inside.{IsSound, waiting}
use Rattle.tick_file.proofs.Events.{events_waiting}
use Rattle.tick_file.proofs.Heaps.{AllAgree}
use Rattle.tick_file.proofs.RuleLemmas.{rules_sound, rules_agree, on_demand_kept}
use Rattle.tick_file.proofs.reading.read_ticks.Goals as goal

pub of_rules-requires-clause-sound : goal.of_rules-requires-clause-sound
of_rules-requires-clause-sound c = subst (λ ps. All (λ p. IsSound p.0) ps) (sym c.in_ok-kept.ensures.rules) (rules_sound c.args.text.now)

pub of_rules-requires-clause-agree : goal.of_rules-requires-clause-agree
of_rules-requires-clause-agree c = subst AllAgree (sym c.in_ok-kept.ensures.rules) (rules_agree c.args.text.now)

pub returns-clause-value : goal.returns-clause-value
unfolding timetable_of
returns-clause-value c =
    let rs = rules_of c.args.text.now in
    let events : waiting c.in_ok-kept.kept.items ≡ in_order rs = ap waiting c.in_ok-kept.ensures.rules ∙ ap (sorted before) (events_waiting rs) in
    let demand : c.bring_no_bytes-on_demand.result ≡ list_all (λ r. not (brings_bytes (event_of r.rule))) rs =
    c.bring_no_bytes-on_demand.ensures ∙ ap (list_all (λ (p : Reverse Pending). not (brings_bytes p.0.event))) (c.deref.ensures.value ∙ c.in_ok-kept.ensures.rules) ∙ on_demand_kept rs in
    c.of_rules.ensures
    ∙ ap {B = Timetable} (λ es. record { events = es; on_demand = c.bring_no_bytes-on_demand.result }) events
    ∙ ap {B = Timetable} (λ d. record { events = in_order rs; on_demand = d }) demand
