use Rattle.om_restart_laws.proofs.Chains.{said_on}
use Rattle.om_restart_laws.proofs.laws.a_chain_is_one_run.Goals as goal

pub returns-clause-one : goal.returns-clause-one
returns-clause-one c = λ first last starts chain disk. disk.legal

pub returns-clause-said : goal.returns-clause-said
returns-clause-said c = λ first last starts p number output chain lt said. said_on first starts last p number output lt chain said

pub returns-clause-released : goal.returns-clause-released
returns-clause-released c = λ w p number output disk lt at. disk.released p number output lt at
