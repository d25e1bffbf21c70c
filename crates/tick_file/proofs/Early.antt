-- The events of a timetable occur before 2 ^ 64.
use Rattle.std.proofs.Common.{◌≡◌, ℕ, ◌-◌, ◌*◌, ◌^◌, ◌<◌, ◌≤◌, get_or, ap, arith}
use Rattle.std.proofs.lemmas.Nat.{mul-le}
use Rattle.std.proofs.lemmas.List.{get_or_default}
use Rattle.std.proofs.lemmas.List.Elements.{All-contains}
use Rattle.tick_file.specs.declared.event.Rule.{Rule}
use Rattle.tick_file.specs.declared.event.Rule.TheVariants.{At, Every}
use Rattle.tick_file.specs.Lines.{rules_of}
use Rattle.tick_file.specs.Schedule.{Timed, timetable_of}
use Rattle.tick_file.specs.Laws.{AsksAt, EarlyLaw, IsEarly}
use Rattle.tick_file.proofs.RuleLemmas.{IsBounded, rules_bounded}
use Rattle.tick_file.proofs.TimetableLemmas.{timetable}

small_product : (a b : ℕ) → a ≤ 2 ^ 32 - 1 → b ≤ 2 ^ 32 - 1 → a * b < 2 ^ 64
small_product a b h k = omega (arith, mul-le a b (2 ^ 32 - 1) (2 ^ 32 - 1) h k)

asked_early : (n : ℕ) (rule : Rule) (e : Timed) → IsBounded rule → AsksAt n rule e → IsEarly e
asked_early n (At time event) e small asks = let same : e.time ≡ time = ap (λ (t : Timed). t.time) asks in omega (arith, same, small)
asked_early n (Every period count event) e small asks =
    let same : e.time ≡ asks.0 * period = ap (λ (t : Timed). t.time) asks.3 in
    let few : asks.0 ≤ 2 ^ 32 - 1 = omega (arith, asks.2, small.0.1) in
    omega (arith, same, small_product asks.0 period few small.0.0)

pub all_early : EarlyLaw
all_early text k d h =
    let events = (timetable_of text).events in
    let asked = ((timetable text).1 (get_or events k d)).0 (k, h, get_or_default events k (get_or events k d) d h) in
    asked_early asked.0.line asked.0.rule (get_or events k d) (All-contains (λ r. IsBounded r.rule) (rules_of text) asked.0 (rules_bounded text) asked.1) asked.2
