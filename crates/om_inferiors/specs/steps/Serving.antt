-- One reading, and what it leaves.
use Rattle.std.specs.Prelude.{ℕ, Bool, List, Option}
use Rattle.std.specs.Io.KnownBytes.{Appends, Consumes}
use Rattle.om_inferiors.specs.declared.serving.Session.{Session}
use Rattle.om_inferiors.specs.Serving.{SessionState, Takes}

-- a writer got what these bytes are answered
pub record AreTaken (old : SessionState) (bytes : List ℕ) (before after : Option (List ℕ)) (over : Bool) (new : SessionState) : Type 0 where
  pub written : List ℕ
  pub takes : Takes old bytes written over new
  pub appends : Appends before after written

-- some bytes of a reader were read
pub record AreRead (old : SessionState) (left rest before after : Option (List ℕ)) (over : Bool) (new : SessionState) : Type 0 where
  pub bytes : List ℕ
  pub consumes : Consumes left rest bytes
  pub taken : AreTaken old bytes before after over new

-- a session as one sees it
abbrev pub session_of : Session → SessionState
session_of s = record { shown = s.shown; decoding = s.decoder; acks = s.acks }
