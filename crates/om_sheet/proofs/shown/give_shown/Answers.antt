use Rattle.om_sheet.proofs.shown.give_shown.Goals as goal

pub returns-in-Refused : goal.returns-in-Refused
returns-in-Refused c = λ ended process. rw c.in-Refused.is (c.refusal_shown.ensures ended process)
