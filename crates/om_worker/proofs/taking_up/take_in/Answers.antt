use Rattle.om_worker.proofs.taking_up.take_in.Goals as goal

-- the store at hand is not clean, so not all are
pub take_up-requires : goal.take_up-requires
take_up-requires g c = λ over. c.requires.unsure c.args.store.now (c.requires.clean over c.args.store.now)
