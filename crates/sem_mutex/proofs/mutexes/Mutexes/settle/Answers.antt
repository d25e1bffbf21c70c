use Rattle.std.proofs.Common.{◌≡◌, sym, ap, ◌∙◌, subst}
use Rattle.wind_base.specs.declared.profile.Profile.TheVariants.{Two}
use Rattle.inheritance.specs.Mutexes.{LiveMutexes, both}
use Rattle.inheritance.specs.Reach.{raised_kern}
use Rattle.inheritance.specs.Laws.{OwnersHold}
use Rattle.sem_mutex.specs.Kept.{KeepsMutexes, IsSettled}
use Rattle.sem_mutex.proofs.AtOnce.{owners_hold, idle_law, settle_law, settled_law, all_settled}
use Rattle.sem_mutex.proofs.mutexes.Mutexes.settle.Goals as goal

pub settle-requires-clause-owners : goal.settle-requires-clause-owners
settle-requires-clause-owners c =
    subst (λ (live : LiveMutexes). OwnersHold live.rows c.args.k.now.tasks) (sym c.self.view_is) (owners_hold (both c.args.k.now c.args.self.now) c.requires.kept)

pub returns-in-One-clause-state : goal.returns-in-One-clause-state
returns-in-One-clause-state c =
    let one = c.in-One.is in
    let rule = ap (λ (live : LiveMutexes). live.profile) c.self.view_is in
    sym (idle_law (both c.args.k.now c.args.self.now) c.facts.ensures c.requires.kept (λ two. absurd (cc)))

pub returns-in-One-clause-settled : goal.returns-in-One-clause-settled
returns-in-One-clause-settled c =
    let one = c.in-One.is in
    let rule = ap (λ (live : LiveMutexes). live.profile) c.self.view_is in
    settled_law (both c.args.k.now c.args.self.now) c.facts.ensures c.requires.kept (λ two. absurd (cc))

pub returns-in-Two-clause-kept : goal.returns-in-Two-clause-kept
returns-in-Two-clause-kept c =
    let two : c.self.inside.profile ≡ Two = let e = c.in-Two.is in cc in
    let same : c.settle.new.k ≡ raised_kern c.args.self.now.profile c.args.k.now c.args.self.now.rows =
    c.settle.ensures ∙ ap (λ p. raised_kern p c.args.k.now c.self.inside.table.rows) (sym two) ∙ ap (λ (live : LiveMutexes). raised_kern live.profile c.args.k.now live.rows) c.self.view_is in
    subst (λ k. KeepsMutexes (both k c.args.self.now)) (sym same) (settle_law (both c.args.k.now c.args.self.now) c.facts.ensures c.requires.kept).keeps

pub returns-in-Two-clause-settled : goal.returns-in-Two-clause-settled
returns-in-Two-clause-settled c =
    let two : c.self.inside.profile ≡ Two = let e = c.in-Two.is in cc in
    let same : c.settle.new.k ≡ raised_kern c.args.self.now.profile c.args.k.now c.args.self.now.rows =
    c.settle.ensures ∙ ap (λ p. raised_kern p c.args.k.now c.self.inside.table.rows) (sym two) ∙ ap (λ (live : LiveMutexes). raised_kern live.profile c.args.k.now live.rows) c.self.view_is in
    subst (λ k. IsSettled (both k c.args.self.now)) (sym same) (all_settled (both c.args.k.now c.args.self.now) c.facts.ensures c.requires.kept)
