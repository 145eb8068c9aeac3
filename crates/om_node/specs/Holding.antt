-- Where the store of a process is.
use Rattle.std.specs.Prelude.{◌≡◌, Bool, true, false, IsTrue}
use Rattle.om_process.specs.Core.{CoreState}
use Rattle.om_process.specs.Flights.{CarriesCheckpoint}
use Rattle.om_stable.specs.Content.{Content}
use Rattle.om_node.specs.declared.transaction.Transaction.{Transaction}
use Rattle.om_node.specs.declared.node.Hold.{Hold}
use Rattle.om_node.specs.declared.node.Hold.TheVariants.{Here, Away}
use Rattle.om_node.specs.Flying.{IsTicketOf, transaction_of, store_of}
use Rattle.om_node.specs.Nodes.{IsNode, IsOnWay, Member, MemberState}

-- the checkpoint that a process handed over, if it did, is of a state on its way
abbrev pub FliesOnWay : Member → Transaction → Type 0
FliesOnWay m transaction = (c : CoreState) × (due : Bool) × IsOnWay m c.now × CarriesCheckpoint due c transaction.flight.checkpoint

-- whether the store of a process is with a flight
abbrev pub is_away : {J S : Type 0} → Hold J S → Bool
is_away (Here store) = false
is_away (Away ticket) = true

-- the store that a process has, or had as its flight began
abbrev pub IsStoreOf : {J S : Type 0} → Hold J S → S → Type 0
IsStoreOf (Here store) s = store.value ≡ s
IsStoreOf (Away ticket) s = (sent : _) × IsTicketOf ticket sent × (store_of sent ≡ s)

-- where the store is away, what went along is of the process too
abbrev pub IsAloft : {J S : Type 0} → (S → Bool) → Member → Hold J S → Type 0
IsAloft is_clean m (Here store) = Unit {0}
IsAloft is_clean m (Away ticket) =
    (sent : _) × IsTicketOf ticket sent × (IsTrue (is_clean (store_of sent)) → FliesOnWay m (transaction_of sent))

-- what holds of a member, wherever its store is: with the store that it has, or as it went
pub record IsHeld {J S : Type 0} (content : S → Content) (is_clean : S → Bool) (IsSound : S → Type 0) (d : MemberState) (hold : Hold J S)
    : Type 0 where
  pub store : S
  pub is : IsStoreOf hold store
  pub node : IsNode content is_clean IsSound d store
  pub aloft : IsAloft is_clean d.member hold
