use Rattle.session.proofs.session.Session.open.Goals as goal

pub returns : goal.returns
returns g c = record { store = c.in_ok-store.ensures; entries = c.in_ok-zero_entries.ensures; walks = c.in_ok-unnoted_by_all.ensures.nothing }
