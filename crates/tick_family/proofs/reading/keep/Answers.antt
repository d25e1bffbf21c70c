use Rattle.std.proofs.Common.{◌≡◌, ◌∙◌, ◌*◌, [], ◌∷◌, ◌++◌, rules, sym, ap}
use Rattle.tick_family.specs.Members.{choices, members_of}
use Rattle.tick_family.proofs.EntryLemmas.{content_fits}
use Rattle.tick_family.proofs.ReadingLemmas.{grown_is, members_more}
use Rattle.tick_family.proofs.reading.keep.Goals as goal

pub grown-requires-clause-entry : goal.grown-requires-clause-entry
grown-requires-clause-entry c = content_fits c.args.text.now c.in-Asks.entry (sym c.in_ok-content_at.ensures.value ∙ c.in-Asks.is)

pub returns-clause-members : goal.returns-clause-members
returns-clause-members c =
    let pushed : c.push.new.self.items ≡ c.args.kept.now.entries.items ++ c.in-Asks.entry ∷ [] = search rules in
    let got = grown_is c.args.kept.now.extent c.in-Ok.extent c.in-Asks.entry (sym c.in-Ok.ensures.value) in
    ap (λ e. e.members) got
    ∙ ap (λ n. n * choices c.in-Asks.entry) c.requires.members
    ∙ sym (members_more c.args.kept.now.entries.items c.in-Asks.entry)
    ∙ ap members_of (sym pushed)
