use Rattle.std.proofs.Common.{◌≡◌, ℕ, ◌≤◌, List, [], ◌∷◌, length, take, min, Some, true, arith, subst}
use Rattle.std.specs.List.{All}
use Rattle.std.proofs.lemmas.List.{length-take}
use Rattle.std.proofs.lemmas.List.Elements.{All-head}
use Rattle.id_table.specs.Sorting.{first}
use Rattle.msg_queue.specs.State.{lies_in}
use Rattle.msg_queue.proofs.Arms.{lies_less}
use Rattle.msg_queue.proofs.queues.Queues.copy_front.Goals as goal

front_short : (most : ℕ) (held : List (List ℕ)) (m : List ℕ) → All (λ v. length v ≤ most) held → Some m ≡ first held → length m ≤ most
front_short most [] m all e = absurd (cc)
front_short most (v ∷ held) m all e = let same : v ≡ m = cc in subst (λ u. length u ≤ most) same (All-head (λ u. length u ≤ most) v held all)

fits : (size buffer room most n : ℕ) (held : List (List ℕ)) (m : List ℕ) → All (λ v. length v ≤ most) held → Some m ≡ first held → n ≡ min (length m) room
    → lies_in size buffer (min room most) ≡ true → lies_in size buffer (length (take n m)) ≡ true
fits size buffer room most n held m all front e there =
    let short = front_short most held m all front in
    lies_less size buffer (min room most) (length (take n m)) (omega (arith, length-take n m)) there

pub unreachable-requires : goal.unreachable-requires
unreachable-requires c =
    let q = c.queue.result.now in
    let ok = fits (length c.args.ram.now.bytes) c.args.buffer c.args.room q.max_len c.min-n.result q.held c.in-Some.bytes.now (c.requires.short q c.queue.ensures) c.in-Some.ensures c.min-n.ensures (c.requires.there q c.queue.ensures) in
    let lost = c.in_default-copy_in.ensures.ok.1 ok in
    absurd (cc)
