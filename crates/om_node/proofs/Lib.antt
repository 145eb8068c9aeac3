mod OnWay
mod FlightLemmas
mod HoldLemmas
