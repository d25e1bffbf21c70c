use Rattle.std.proofs.Common.{List, ℕ, Option, inl, inr, subst}
use Rattle.wind_outside.specs.Files.{Files}
use Rattle.wind_base.specs.Limits.{longest_text_file}
use Rattle.wind_link.specs.Fetches.{FetchesText}
use Rattle.wind_link.specs.Lists.{rows_of}
use Rattle.wind_link.specs.Undefined.{TellsText}
use Rattle.wind_link.proofs.Commanding.{list_done}
use Rattle.wind_link.proofs.Rowing.{list_ends}
use Rattle.wind_link.proofs.command.link_list.Goals as goal

pub returns-in-Ok-clause-links : goal.returns-in-Ok-clause-links
returns-in-Ok-clause-links g c =
    list_ends (g.F.Folder.files c.args.folder.now) (g.F.Folder.files c.bytes_of.new.folder) c.args.names.list.now c.args.names.dir.now c.in-Ok.text.items c.deref.result.now
    (g.F.Folder.faults c.args.folder.now) (g.F.Folder.faults c.bytes_of.new.folder) (g.F.Folder.faults c.link_text.new.folder)
    (g.O.Sink.bytes c.args.out.now) (g.O.Sink.bytes c.link_text.new.out) _ c.link_text.result
    c.in-Ok.ensures.files c.deref.ensures.value c.in-Ok.ensures.found c.in-Ok.ensures.faults c.link_text.ensures.faults c.link_text.ensures.links

pub returns-in-Ok-clause-told : goal.returns-in-Ok-clause-told
returns-in-Ok-clause-told g c = λ done. record {
  text = c.in-Ok.text.items;
  bytes = c.in-Ok.ensures.found;
  told = subst (λ (t : List ℕ). TellsText (g.F.Folder.files c.args.folder.now) c.args.names.list.now c.args.names.dir.now t (g.E.Sink.bytes c.args.err.now) (g.E.Sink.bytes c.link_text.new.err) (g.E.Sink.faults c.args.err.now) (g.E.Sink.faults c.link_text.new.err)) c.deref.ensures.value
      (subst (λ (files : Option Files). TellsText files c.args.names.list.now c.args.names.dir.now c.deref.result.now (g.E.Sink.bytes c.args.err.now) (g.E.Sink.bytes c.link_text.new.err) (g.E.Sink.faults c.args.err.now) (g.E.Sink.faults c.link_text.new.err)) c.in-Ok.ensures.files (c.link_text.ensures.told done));
}

pub returns-in-Ok-clause-requested : goal.returns-in-Ok-clause-requested
returns-in-Ok-clause-requested g c = inr (record {
  text = c.in-Ok.text.items;
  bytes = c.in-Ok.ensures.found;
  between = g.F.Folder.requests c.bytes_of.new.folder;
  first = c.in-Ok.ensures.fetched;
  then_modules = subst (λ (t : List ℕ). FetchesText c.args.names.dir.now (rows_of t) c.link_text.result (g.F.Folder.requests c.bytes_of.new.folder) (g.F.Folder.requests c.link_text.new.folder)) c.deref.ensures.value c.link_text.ensures.requested;
})

pub returns-in-Err-clause-told : goal.returns-in-Err-clause-told
returns-in-Err-clause-told g c = λ done.
    absurd (list_done longest_text_file (g.F.Folder.files c.args.folder.now) c.args.names.list.now (record { before = g.F.Folder.faults c.args.folder.now; after = g.F.Folder.faults c.bytes_of.new.folder }) c.in-Err.end c.in-Err.ensures.unread done)

pub returns-in-Err-clause-requested : goal.returns-in-Err-clause-requested
returns-in-Err-clause-requested g c = let u = c.in-Err.ensures.unfound in inl (record { outcome = u.0; requests = u.2; unfound = u.1 })
