use Rattle.std.specs.Prelude.{◌≢◌, ℕ, ◌<◌, List, slice_index_or, replicate, Option, None, Some, Bool, true, false, nat_lt}
use Rattle.om_interval.specs.declared.pid.TheConstants.{MAX_PROCESSES}
use Rattle.om_manager.specs.declared.presence.Presence.{Presence}
use Rattle.om_manager.specs.declared.presence.Presence.TheVariants.{Away, Failed, Joined}

-- whether a process is in
abbrev pub presence_of : List Presence → ℕ → Presence
presence_of presences p = slice_index_or presences p Away

-- who is in; where no gathering is open, nobody is
abbrev pub presences_of : Option (List Presence) → List Presence
presences_of None = replicate MAX_PROCESSES Away
presences_of (Some presences) = presences

-- each of the first n processes has failed or joined
abbrev pub AreAllIn : ℕ → List Presence → Type 0
AreAllIn n presences = (p : ℕ) → p < n → presence_of presences p ≢ Away

-- whether a process begins an incarnation where the gathering ends: it failed, or was beyond its place of the state
abbrev pub begins : Presence → ℕ → Bool
begins Away place = false
begins Failed place = true
begins (Joined current) place = nat_lt place current
