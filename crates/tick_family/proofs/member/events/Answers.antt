use Rattle.std.proofs.Common.{◌≡◌, ◌∙◌, ℕ, ap, rules}
use Rattle.std.proofs.lemmas.Fn.{always_returns_same}
use Rattle.id_table.specs.Sorting.{sorted}
use Rattle.tick_file.specs.declared.event.Event.{Event}
use Rattle.tick_family.specs.Members.{earlier}
use Rattle.tick_family.proofs.MemberLemmas.{order}
use Rattle.tick_family.proofs.SortLemmas.{stable_is}
use Rattle.tick_family.proofs.member.events.Goals as goal

pub returns : goal.returns
returns c =
    let time : ℕ × Event → ℕ = λ e. e.0 in
    let computes = always_returns_same _ (λ a r. r ≡ a.0.now.0) _ (λ a r f k. search rules) in
    stable_is earlier order c.in_ok-events.events.items c.sort_by_key.new.self.items (c.in_ok-sort_by_key.ensures.sorted time computes) (c.in_ok-sort_by_key.ensures.stable time computes)
    ∙ ap (sorted earlier) c.in_ok-events.ensures
