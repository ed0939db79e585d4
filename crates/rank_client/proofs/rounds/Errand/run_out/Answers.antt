use Rattle.rank_client.proofs.rounds.Errand.run_out.Goals as goal

pub returns-in-Put-clause-fits : goal.returns-in-Put-clause-fits
returns-in-Put-clause-fits c = c.rejected.ensures.fits c.args.room.now

pub returns-in-Keep-clause-fits : goal.returns-in-Keep-clause-fits
returns-in-Keep-clause-fits c = c.rejected-in-Keep.ensures.fits c.args.room.now
