use Rattle.std.proofs.Common.{◌≡◌, ℕ, ap, sym, ◌∙◌, subst, arith}
use Rattle.wind_core.specs.State.{KernState, Lives, task_of}
use Rattle.wind_core.specs.Moves.{set_normal}
use Rattle.inheritance.specs.Mutexes.{MutexState, LiveMutexes, both}
use Rattle.sem_mutex.specs.Calls.{raised_at_once, followed, pri_after, priority_alone, priority_set}
use Rattle.sem_mutex.specs.Kept.{KeepsMutexes}
use Rattle.sem_mutex.proofs.Ending.{priority_keeps}
use Rattle.sem_mutex.proofs.Answering.{lives_normal, reprices}
use Rattle.sem_mutex.proofs.mutexes.Mutexes.priority_set.Goals as goal

pub follow-requires-clause-live : goal.follow-requires-clause-live
follow-requires-clause-live c = subst (λ k. Lives k c.args.who) (sym c.set_normal.ensures) (lives_normal c.args.k.now c.args.who c.args.pri c.requires.live)

-- before owners inherit
repriced : (s : MutexState) (k r : KernState) (who p q : ℕ) → k ≡ set_normal s.kern who p → r ≡ followed s.profile k who q → q ≡ pri_after p (task_of s.kern.tasks who) → record s { kern = r } ≡ priority_alone s who p
repriced s k r who p q sets changes after =
    ap (λ n. record s { kern = n }) (changes ∙ ap (λ n. followed s.profile n who q) sets ∙ ap (followed s.profile (set_normal s.kern who p) who) after)

pub inherit_at_once-requires : goal.inherit_at_once-requires
inherit_at_once-requires c =
    let s = both c.args.k.now c.args.self.now in
    let may = reprices s (both c.follow.new.k c.args.self.now) c.args.who c.args.pri c.facts.ensures c.requires.live c.requires.kept
    (repriced s c.set_normal.new.self c.follow.new.k c.args.who c.args.pri c.pri_after-changed.result c.set_normal.ensures
    (c.follow.ensures ∙ ap (λ p. followed p c.set_normal.new.self c.args.who c.pri_after-changed.result) (ap (λ (live : LiveMutexes). live.profile) c.self.view_is)) c.pri_after-changed.ensures) in
    record { live = may.lives; urgent = may.urgent; since = omega (arith, c.requires.since, may.sinces) }

pub returns : goal.returns
returns c =
    let s = both c.args.k.now c.args.self.now in
    let same : both c.inherit_at_once.new.k c.args.self.now ≡ priority_set s c.args.who c.args.pri =
    c.inherit_at_once.ensures
    ∙ ap raised_at_once (repriced s c.set_normal.new.self c.follow.new.k c.args.who c.args.pri c.pri_after-changed.result c.set_normal.ensures
    (c.follow.ensures ∙ ap (λ p. followed p c.set_normal.new.self c.args.who c.pri_after-changed.result) (ap (λ (live : LiveMutexes). live.profile) c.self.view_is)) c.pri_after-changed.ensures) in
    record { state = same; kept = subst KeepsMutexes (sym same) (priority_keeps s c.args.who c.args.pri c.facts.ensures c.requires.kept) }
