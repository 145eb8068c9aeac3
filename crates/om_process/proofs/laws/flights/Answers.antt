use Rattle.om_process.proofs.Flying.{first_along, first_when_going, first_when_taken, flight_carried, flight_gained, whole_first}
use Rattle.om_process.proofs.Logging.{whole_flushed, whole_gained}
use Rattle.om_process.proofs.laws.flights.Goals as goal

pub returns-clause-takes : goal.returns-clause-takes
returns-clause-takes c = λ k s m within. first_when_taken k s m within

pub returns-clause-goes_on : goal.returns-clause-goes_on
returns-clause-goes_on c = λ k s p same. first_when_going k s p same

pub returns-clause-along : goal.returns-clause-along
returns-clause-along c = λ k s d e a b. first_along k s d e a b

pub returns-clause-carried : goal.returns-clause-carried
returns-clause-carried c = λ k due s f carries. flight_carried k due s f carries

pub returns-clause-gained : goal.returns-clause-gained
returns-clause-gained c = λ k due s d f held carries still. flight_gained k due s d f held carries still

pub returns-clause-whole : goal.returns-clause-whole
returns-clause-whole c = λ s old new. (λ gained. whole_gained s old new gained, λ gained. whole_first s old new gained)

pub returns-clause-whole_core : goal.returns-clause-whole_core
returns-clause-whole_core c = λ s. whole_flushed s
