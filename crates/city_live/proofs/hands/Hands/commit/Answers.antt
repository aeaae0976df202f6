use Rattle.city_live.proofs.hands.Hands.commit.Goals as goal

pub commit_ready-requires-clause-numbered : goal.commit_ready-requires-clause-numbered
commit_ready-requires-clause-numbered g c = c.in-Ready.ensures.ready.1
