-- What goes to the thread that writes a store, and what comes back.
use Rattle.std.specs.Prelude.{◌≡◌, ℕ, Bool, List, [], ◌∷◌, ◌++◌, Option, Result, IsErrOf, OnErr, OnOk}
use Rattle.std.specs.Option.{option_map}
use Rattle.om_stable.specs.Calls.{IsCleanCall, UsesStore}
use Rattle.om_stable.specs.Content.{Content}
use Rattle.om_stable.specs.declared.error.StoreError.{StoreError}
use Rattle.om_stable.specs.declared.error.StoreError.TheVariants.{Fault}
use Rattle.om_node.specs.declared.transaction.Transaction.{Transaction}
use Rattle.om_node.specs.declared.transaction.SentStore.{SentStore}
use Rattle.om_node.specs.Storing.{with_flight}

-- a store and what is to be stored there, with the tickets of its book up to its own
pub record WriteRequestState (S : Type 0) : Type 0 where
  pub store : S
  pub transaction : Transaction
  pub ticket : List (SentStore S)

-- a store that comes back, and whether it took what it was given
pub record LandingState (S : Type 0) : Type 0 where
  pub store : S
  pub transaction : Transaction
  pub told : Result (Unit {0}) StoreError
  pub ticket : List (SentStore S)

-- the last of the tickets of a book, up to one, is for this
pub record IsTicketOf {S : Type 0} (tickets : List (SentStore S)) (sent : SentStore S) : Type 0 where
  pub before : List (SentStore S)
  pub last : tickets ≡ before ++ sent ∷ []

-- the store as it went, and what went with it
abbrev pub store_of : {S : Type 0} → SentStore S → S
store_of sent = sent.store.value.value

abbrev pub transaction_of : {S : Type 0} → SentStore S → Transaction
transaction_of sent = sent.transaction.value

-- the checkpoint before which what goes along drops what is stored
abbrev pub prune_of : Transaction → Option ℕ
prune_of transaction = option_map (λ due. due.checkpoint) transaction.due

-- what is to be stored, and the store, are what the ticket is for
pub record IsWriteRequest {S : Type 0} (request : WriteRequestState S) : Type 0 where
  pub sent : SentStore S
  pub issued : IsTicketOf request.ticket sent
  pub store_is : request.store ≡ store_of sent
  pub transaction_is : request.transaction ≡ transaction_of sent

-- the store that comes back is the one that the ticket is for, with all that went along, or nothing of it
pub record IsLanding {S : Type 0} (content : S → Content) (failed : S → ℕ) (is_clean : S → Bool) (IsSound : S → Type 0)
    (landing : LandingState S) : Type 0 where
  pub sent : SentStore S
  pub issued : IsTicketOf landing.ticket sent
  pub transaction_is : landing.transaction ≡ transaction_of sent
  pub used : UsesStore failed is_clean IsSound (store_of sent) (IsErrOf landing.told Fault) landing.store
  pub put : IsCleanCall is_clean IsSound (store_of sent) landing.store
      → OnOk landing.told (content landing.store ≡ with_flight (content (store_of sent)) landing.transaction.flight (prune_of landing.transaction))
  pub refused : IsCleanCall is_clean IsSound (store_of sent) landing.store
      → OnErr landing.told (content landing.store ≡ content (store_of sent))
