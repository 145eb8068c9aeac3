use Rattle.om_stable.proofs.BetweenLemmas.{between-AreAllBetween}
use Rattle.om_stable.proofs.laws.between_is_all_between.Goals as goal

pub returns-clause-within : goal.returns-clause-within
returns-clause-within c = λ held after to. (between-AreAllBetween held after to).within

pub returns-clause-are_held : goal.returns-clause-are_held
returns-clause-are_held c = λ held after to. (between-AreAllBetween held after to).are_held

pub returns-clause-rise : goal.returns-clause-rise
returns-clause-rise c = λ held after to. (between-AreAllBetween held after to).rise

pub returns-clause-are_all : goal.returns-clause-are_all
returns-clause-are_all c = λ held after to. (between-AreAllBetween held after to).are_all
