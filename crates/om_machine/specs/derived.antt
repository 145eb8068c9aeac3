-- Functions that a clause pins to a relation. Nobody has to believe them.
pub mod NextStep
