use Rattle.wind_link.proofs.command.link_names.Goals as goal

pub returns-clause-told : goal.returns-clause-told
returns-clause-told g c = λ done. let quiet = c.tell.ensures.quiet done in rw (quiet.0, quiet.1) (c.link_list-status.ensures.told done)
