-- The lines of a script of `sim` that tell what is to happen.
use Rattle.std.specs.Prelude.{ℕ, List, ◌∷◌, [], ◌++◌}
use Rattle.std.specs.List.{flat_map}
use Rattle.om_world.specs.Texts.{event_text}
use Rattle.om_world.specs.declared.event.Event.{Event}

-- a line for each event
abbrev pub events_text : List Event → List ℕ
events_text events = flat_map (λ event. event_text event ++ 10 ∷ []) events
