use Rattle.std.proofs.Common.{◌≡◌, ◌∙◌, ℕ, suc, ◌+◌, ◌/◌, ◌<◌, List, ◌∷◌, length, get_or, drop, ap, arith}
use Rattle.std.specs.List.{All, AllByRecursion}
use Rattle.std.proofs.Math.Seq.{drop-cons}
use Rattle.std.proofs.lemmas.List.Elements.{All-drop, recursion_from_All}
use Rattle.tick_family.specs.declared.entry.Entry.{Entry}
use Rattle.tick_family.specs.Inside.{IsEntry}
use Rattle.tick_family.proofs.ChoiceLemmas.{below_is, place_is, left_is, times_step}
use Rattle.tick_family.proofs.ranges.times_of.Goals as goal

here : (xs : List Entry) (i : ℕ) (d : Entry) → i < length xs → drop i xs ≡ get_or xs i d ∷ drop (i + 1) xs
here xs i d h = let one : suc i ≡ i + 1 = omega arith in drop-cons xs i d h ∙ ap (λ n. get_or xs i d ∷ drop n xs) one

others : (xs : List Entry) (i : ℕ) → All IsEntry xs → AllByRecursion IsEntry (drop (i + 1) xs)
others xs i h = recursion_from_All IsEntry (drop (i + 1) xs) (All-drop IsEntry (i + 1) xs h)

pub add_time-requires-clause-inside : goal.add_time-requires-clause-inside
add_time-requires-clause-inside c =
    let xs = c.args.entries.now in
    let i = c.loop-entry.entry-index in
    let is = here xs i _ c.loop-entry-test.true in
    let entry = c.requires.entries i _ c.loop-entry-test.true in
    let rest = others xs i c.requires.entries in
    let below = ap (λ n. c.loop-entry.below / n) c.choices-below.ensures.value ∙ below_is (drop i xs) (drop (i + 1) xs) _ is entry rest c.loop-entry.below c.loop-entry.invariant.below in
    rw below (place_is (drop i xs) (drop (i + 1) xs) _ is entry rest c.loop-entry.below c.loop-entry.left c.loop-entry.invariant.below c.loop-entry.invariant.left)

pub loop-entry-preserved : goal.loop-entry-preserved
loop-entry-preserved c =
    let xs = c.args.entries.now in
    let i = c.loop-entry.entry-index in
    let is = here xs i _ c.loop-entry-test.true in
    let entry = c.requires.entries i _ c.loop-entry-test.true in
    let rest = others xs i c.requires.entries in
    let below = ap (λ n. c.loop-entry.below / n) c.choices-below.ensures.value ∙ below_is (drop i xs) (drop (i + 1) xs) _ is entry rest c.loop-entry.below c.loop-entry.invariant.below in
    record {
      below = below;
      left = rw below (left_is (drop i xs) (drop (i + 1) xs) _ is entry rest c.loop-entry.left);
      times =
          let added = rw below at c.in_ok-add_time.ensures in
          rw below (times_step (drop i xs) (drop (i + 1) xs) _ is entry rest c.loop-entry.left c.loop-entry.chosen.items c.add_time.new.times.items added ∙ c.loop-entry.invariant.times);
    }
