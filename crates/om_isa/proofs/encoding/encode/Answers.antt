use Rattle.om_isa.proofs.encoding.encode.Goals as goal

pub returns-clause-only : goal.returns-clause-only
returns-clause-only c = λ w d. c.encode_by_rows.ensures.only w d.fits
