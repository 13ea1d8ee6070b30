use Rattle.tests_engine.proofs.untold.next_of_session.Goals as goal

pub read_next-requires-clause-unread : goal.read_next-requires-clause-unread
read_next-requires-clause-unread c = c.in-None.ensures.unread c.args.source.now.head c.requires.fits
