use Rattle.std.proofs.Common.{ap, ◌∙◌, arith}
use Rattle.id_table.specs.Rows.{object_of}
use Rattle.inheritance.specs.Mutexes.{LiveMutexes, both}
use Rattle.sem_mutex.specs.Calls.{letting_go}
use Rattle.inheritance.proofs.Lookups.{live_is}
use Rattle.sem_mutex.proofs.Answering.{after_pass, let_go_after, given_is}
use Rattle.sem_mutex.proofs.mutexes.Mutexes.give_last.Goals as goal

pub mutex-requires : goal.mutex-requires
mutex-requires c =
    let m = live_is (object_of c.args.self.now.rows c.args.id) c.requires.there in
    (after_pass (both c.args.k.now c.args.self.now) (both c.pass_on.new.k c.pass_on.new.self) c.args.who c.args.id m.0 c.facts.ensures c.requires.live c.requires.kept m.1 c.pass_on.ensures).there

pub let_go-requires-clause-live : goal.let_go-requires-clause-live
let_go-requires-clause-live c =
    let m = live_is (object_of c.args.self.now.rows c.args.id) c.requires.there in
    (after_pass (both c.args.k.now c.args.self.now) (both c.pass_on.new.k c.pass_on.new.self) c.args.who c.args.id m.0 c.facts.ensures c.requires.live c.requires.kept m.1 c.pass_on.ensures).lives

pub let_go-requires-clause-since : goal.let_go-requires-clause-since
let_go-requires-clause-since c =
    let m = live_is (object_of c.args.self.now.rows c.args.id) c.requires.there in
    let p = after_pass (both c.args.k.now c.args.self.now) (both c.pass_on.new.k c.pass_on.new.self) c.args.who c.args.id m.0 c.facts.ensures c.requires.live c.requires.kept m.1 c.pass_on.ensures in
    omega (arith, p.sinces, c.requires.since)

pub ease-requires-clause-live : goal.ease-requires-clause-live
ease-requires-clause-live c =
    let m = live_is (object_of c.args.self.now.rows c.args.id) c.requires.there in
    let p = after_pass (both c.args.k.now c.args.self.now) (both c.pass_on.new.k c.pass_on.new.self) c.args.who c.args.id m.0 c.facts.ensures c.requires.live c.requires.kept m.1 c.pass_on.ensures in
    (let_go_after c.pass_on.new.self.profile c.pass_on.new.k c.let_go.new.k c.args.who c.mutex.result.now
    (c.let_go.ensures ∙ ap (λ p. letting_go p c.pass_on.new.k c.args.who c.mutex.result.now) (ap (λ (live : LiveMutexes). live.profile) c.self.view_is)) p.lives).lives

pub ease-requires-clause-since : goal.ease-requires-clause-since
ease-requires-clause-since c =
    let m = live_is (object_of c.args.self.now.rows c.args.id) c.requires.there in
    let p = after_pass (both c.args.k.now c.args.self.now) (both c.pass_on.new.k c.pass_on.new.self) c.args.who c.args.id m.0 c.facts.ensures c.requires.live c.requires.kept m.1 c.pass_on.ensures in
    let q = let_go_after c.pass_on.new.self.profile c.pass_on.new.k c.let_go.new.k c.args.who c.mutex.result.now
    (c.let_go.ensures ∙ ap (λ p. letting_go p c.pass_on.new.k c.args.who c.mutex.result.now) (ap (λ (live : LiveMutexes). live.profile) c.self.view_is)) p.lives in
    omega (arith, p.sinces, q.sinces, c.requires.since)

pub returns : goal.returns
returns c =
    let m = live_is (object_of c.args.self.now.rows c.args.id) c.requires.there in
    let p = after_pass (both c.args.k.now c.args.self.now) (both c.pass_on.new.k c.pass_on.new.self) c.args.who c.args.id m.0 c.facts.ensures c.requires.live c.requires.kept m.1 c.pass_on.ensures in
    given_is (both c.args.k.now c.args.self.now) (both c.pass_on.new.k c.pass_on.new.self) c.args.who c.args.id m.0 c.mutex.result.now c.mutex-2.result.now c.let_go.new.k c.ease.new.k m.1 c.pass_on.ensures p.profile
    (p.lends c.mutex.result.now c.mutex.ensures).0 (p.lends c.mutex-2.result.now c.mutex-2.ensures).1
    (c.let_go.ensures ∙ ap (λ p. letting_go p c.pass_on.new.k c.args.who c.mutex.result.now) (ap (λ (live : LiveMutexes). live.profile) c.self.view_is)) c.ease.ensures
