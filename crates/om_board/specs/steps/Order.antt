use Rattle.std.specs.Prelude.{◌≡◌, ℕ, List, [], ◌∷◌, ◌++◌, Bool, true, false, Option, None, Some, All}
use mathlib.Core.Option.{some}
use lib.ListN.{get_elem?}
use Rattle.om_format.specs.declared.message.Message.{Message}
use Rattle.om_board.specs.declared.hand.Hand.{Hand}

abbrev pub hand : Bool → Bool → ℕ → ℕ → List Message → List Message → Hand
hand puts takes from to put taken = record { puts = puts; takes = takes; from = from; to = to; put = put; taken = taken }

-- the message is of this pair
abbrev pub IsOfPair : ℕ → ℕ → Message → Type 0
IsOfPair from to message = (message.from ≡ from) × (message.to ≡ to)

-- one pass puts, and knows all that was put; one takes, and knows all that was taken
abbrev pub FitsLine : ℕ → ℕ → ℕ → ℕ → List Message → List Message → ℕ → Hand → Type 0
FitsLine putter taker from to put taken port v =
    (v.puts ≡ true → (port ≡ putter) × (v.put ≡ put) × (v.from ≡ from) × (v.to ≡ to))
    × (v.takes ≡ true → (port ≡ taker) × (v.taken ≡ taken) × (v.from ≡ from) × (v.to ≡ to))

-- what was put is what was taken, and then the queue; all of it is of one pair
abbrev pub Relayed : List Message → List Hand → Type 0
Relayed items views =
    (putter : ℕ) × (taker : ℕ) × (from : ℕ) × (to : ℕ) × (put : List Message) × (taken : List Message)
    × (put ≡ taken ++ items) × All (IsOfPair from to) put
    × ((port : ℕ) (v : Hand) → get_elem? views port ≡ some v → FitsLine putter taker from to put taken port v)

-- the pass has put one message more
abbrev pub Puts : Hand → Message → Hand → Type 0
Puts v x w = w ≡ hand v.puts v.takes v.from v.to (v.put ++ x ∷ []) v.taken

-- the pass has taken one message more, which is of its pair
abbrev pub Takes : Hand → Message → Hand → Type 0
Takes v x w = (w ≡ hand v.puts v.takes v.from v.to v.put (v.taken ++ x ∷ [])) × IsOfPair v.from v.to x

-- what is known of all that was put: it is where the pass that put was taken in
abbrev pub known_put : Bool → List Message → Option (List Message)
known_put true put = Some put
known_put false put = None
