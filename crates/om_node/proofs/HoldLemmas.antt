-- The store of a process, as it goes and comes back.
use Rattle.std.proofs.Common.{◌≡◌, ℕ, List, [], ◌∷◌, ◌++◌, Bool, IsTrue, Box, Option, Some, None, Result, Ok, Err, length, length-append, refl, sym, ap, ◌∙◌, subst, arith}
use Rattle.std.specs.declared.alloc.Global.{Global}
use Rattle.std.specs.Prelude.{IfSome, IsErrOf, OnErr, OnOk}
use Rattle.om_stable.specs.Calls.{IsCleanCall, UsesStore}
use Rattle.om_stable.specs.Content.{Content}
use Rattle.om_stable.specs.declared.error.StoreError.{StoreError}
use Rattle.om_stable.specs.declared.error.StoreError.TheVariants.{Fault}
use Rattle.om_process.specs.Core.{CoreState}
use Rattle.om_process.specs.Flights.{Carries, CarriesCheckpoint}
use Rattle.om_node.specs.declared.transaction.Transaction.{Transaction}
use Rattle.om_node.specs.declared.transaction.SentStore.{SentStore}
use Rattle.om_node.specs.declared.node.Hold.{Hold}
use Rattle.om_node.specs.declared.node.Hold.TheVariants.{Here, Away}
use Rattle.om_node.specs.Flying.{IsWriteRequest, IsLanding, IsTicketOf, LandingState, transaction_of, prune_of, store_of}
use Rattle.om_node.specs.Holding.{FliesOnWay, IsAloft, IsHeld, IsStoreOf}
use Rattle.om_node.specs.Nodes.{IsNode, Member, MemberState}
use Rattle.om_node.specs.Storing.{with_flight}
use Rattle.om_node.proofs.OnWay.{node_landed, node_refused}

-- ---- tickets
same_last : {A : Type 0} (xs ys : List A) (x y : A) → xs ++ x ∷ [] ≡ ys ++ y ∷ [] → x ≡ y
same_last [] [] x y e = cc
same_last [] (b ∷ ys) x y e = absurd (let n = ap length e in let m = length-append ys (y ∷ []) in omega arith)
same_last (a ∷ xs) [] x y e = absurd (let n = ap length e in let m = length-append xs (x ∷ []) in omega arith)
same_last (a ∷ xs) (b ∷ ys) x y e = same_last xs ys x y cc

-- a ticket is for one thing
pub same_went : {S : Type 0} (ticket : List (SentStore S)) (v w : SentStore S) → IsTicketOf ticket v → IsTicketOf ticket w → v ≡ w
same_went ticket v w a b = same_last a.before b.before v w (sym a.last ∙ b.last)

-- a ticket that is issued for a store and what goes with it is of these
pub request_issued : {S : Type 0} (result : Option (List (SentStore S) × List (SentStore S))) (store : Box S Global) (transaction : Transaction) (last : List (SentStore S)) (sent : SentStore S)
    → sent.store.value ≡ store → sent.transaction.value ≡ transaction → IfSome result (λ r. r.0 ≡ last ++ sent ∷ [])
    → IfSome result (λ r. IsWriteRequest (record { store = store.value; transaction = transaction; ticket = r.0 }))
request_issued None store transaction last sent at_store at_transaction issued = tt
request_issued (Some r) store transaction last sent at_store at_transaction issued = record {
  sent = sent;
  issued = record { before = last; last = issued };
  store_is = ap (λ (b : Box _ Global). b.value) (sym at_store);
  transaction_is = sym at_transaction;
}

-- what is stored of a request is a landing of its ticket
pub request_flown : {S : Type 0} (content : S → Content) (failed : S → ℕ) (is_clean : S → Bool) (IsSound : S → Type 0) (store old new : S)
    (transaction : Transaction) (told : Result (Unit {0}) StoreError) (ticket : List (SentStore S))
    → IsWriteRequest (record { store = store; transaction = transaction; ticket = ticket }) → old ≡ store
    → UsesStore failed is_clean IsSound old (IsErrOf told Fault) new
    → (IsCleanCall is_clean IsSound old new → OnOk told (content new ≡ with_flight (content old) transaction.flight (prune_of transaction)))
    → (IsCleanCall is_clean IsSound old new → OnErr told (content new ≡ content old))
    → IsLanding content failed is_clean IsSound (record { store = new; transaction = transaction; told = told; ticket = ticket })
request_flown content failed is_clean IsSound store old new transaction told ticket request same used put refused =
    let P : _ → Type 0 = λ s.
    UsesStore failed is_clean IsSound s (IsErrOf told Fault) new
    × (IsCleanCall is_clean IsSound s new → OnOk told (content new ≡ with_flight (content s) transaction.flight (prune_of transaction)))
    × (IsCleanCall is_clean IsSound s new → OnErr told (content new ≡ content s)) in
    let all = subst P (same ∙ request.store_is) (used, put, refused) in
    record { sent = request.sent; issued = request.issued; transaction_is = request.transaction_is; used = all.0; put = all.1; refused = all.2 }

-- ---- wherever its store is
-- the process is the same
pub held_through : {J S : Type 0} (content : S → Content) (is_clean : S → Bool) (IsSound : S → Type 0) (m : Member) (core seen : CoreState) (hold : Hold J S)
    → seen ≡ core → IsHeld content is_clean IsSound (record { member = m; core = core }) hold
    → IsHeld content is_clean IsSound (record { member = m; core = seen }) hold
held_through content is_clean IsSound m core seen hold same h =
    subst (λ (c : CoreState). IsHeld content is_clean IsSound (record { member = m; core = c }) hold) (sym same) h

-- ---- the store is here
pub held_here : {J S : Type 0} (content : S → Content) (is_clean : S → Bool) (IsSound : S → Type 0) (d : MemberState) (store : Box S Global)
    → IsNode content is_clean IsSound d store.value → IsHeld {J = J} content is_clean IsSound d (Here store)
held_here content is_clean IsSound d store node = record { store = store.value; is = refl; node = node; aloft = tt }

pub node_here : {J S : Type 0} (content : S → Content) (is_clean : S → Bool) (IsSound : S → Type 0) (d : MemberState) (hold : Hold J S) (store : Box S Global)
    → IsHeld content is_clean IsSound d hold → hold ≡ Here store → IsNode content is_clean IsSound d store.value
node_here content is_clean IsSound d hold store h here =
    let same : store.value ≡ h.store = subst (λ x. IsStoreOf x h.store) here h.is in
    subst (IsNode content is_clean IsSound d) (sym same) h.node

-- ---- it goes
pub held_launched : {J S : Type 0} (content : S → Content) (is_clean : S → Bool) (IsSound : S → Type 0) (m : Member) (core next : CoreState)
    (store : S) (transaction : Transaction) (ticket stub : List (SentStore S)) (k : ℕ) (due : Bool)
    → IsNode content is_clean IsSound (record { member = m; core = core }) store
    → IsWriteRequest (record { store = store; transaction = transaction; ticket = ticket }) → stub ≡ ticket → Carries k due core transaction.flight → next ≡ core
    → IsHeld {J = J} content is_clean IsSound (record { member = m; core = next }) (Away stub)
held_launched content is_clean IsSound m core next store transaction ticket stub k due node request same carries stays =
    let issued : IsTicketOf stub request.sent = subst (λ t. IsTicketOf t request.sent) (sym same) request.issued in
    let flies : IsTrue (is_clean (store_of request.sent)) → FliesOnWay m (transaction_of request.sent) = λ clean.
    (core, due, node.stands (subst (λ s. IsTrue (is_clean s)) (sym request.store_is) clean), subst (λ (c : Transaction). CarriesCheckpoint due core c.flight.checkpoint) request.transaction_is carries.checkpoint) in
    record {
      store = store;
      is = (request.sent, issued, sym request.store_is);
      node = subst (λ (c : CoreState). IsNode content is_clean IsSound (record { member = m; core = c }) store) (sym stays) node;
      aloft = (request.sent, issued, flies);
    }

-- ---- it comes back
-- what is known of a landing by its ticket
pub held_landed : {J S : Type 0} (content : S → Content) (failed : S → ℕ) (is_clean : S → Bool) (IsSound : S → Type 0) (m : Member) (core next : CoreState)
    (hold : Hold J S) (stub : List (SentStore S)) (l : LandingState S) (done : Unit {0})
    → IsHeld content is_clean IsSound (record { member = m; core = core }) hold → hold ≡ Away stub
    → IsLanding content failed is_clean IsSound l → l.ticket ≡ stub → l.told ≡ Ok done
    → next.own ≡ core.own → next.now ≡ core.now
    → IsNode content is_clean IsSound (record { member = m; core = next }) l.store
held_landed content failed is_clean IsSound m core next hold stub l done h away landing same told own now =
    let w = landing.sent in
    let issued : IsTicketOf stub w = subst (λ t. IsTicketOf t w) same landing.issued in
    let is = subst (λ x. IsStoreOf x h.store) away h.is in
    let aloft = subst (λ x. IsAloft is_clean m x) away h.aloft in
    let here : store_of w ≡ h.store = ap store_of (same_went stub w is.0 issued is.1) ∙ is.2 in
    let node : IsNode content is_clean IsSound (record { member = m; core = core }) (store_of w) = subst (IsNode content is_clean IsSound (record { member = m; core = core })) (sym here) h.node in
    let flies : IsTrue (is_clean (store_of w)) → FliesOnWay m l.transaction = λ clean.
    subst (FliesOnWay m) (sym (landing.transaction_is ∙ ap transaction_of (same_went stub w aloft.0 issued aloft.1)))
    (aloft.2 (subst (λ (v : SentStore _). IsTrue (is_clean (store_of v))) (same_went stub w aloft.0 issued aloft.1) clean)) in
    node_landed content is_clean IsSound m core next (store_of w) l.store l.transaction (prune_of l.transaction) node flies own now landing.used.clean landing.used.sound
    (λ known. subst (λ (t : Result (Unit {0}) StoreError). OnOk t (content l.store ≡ with_flight (content (store_of w)) l.transaction.flight (prune_of l.transaction))) told (landing.put known))

pub held_refused : {J S : Type 0} (content : S → Content) (failed : S → ℕ) (is_clean : S → Bool) (IsSound : S → Type 0) (m : Member) (core next : CoreState)
    (hold : Hold J S) (stub : List (SentStore S)) (l : LandingState S) (error : StoreError)
    → IsHeld content is_clean IsSound (record { member = m; core = core }) hold → hold ≡ Away stub
    → IsLanding content failed is_clean IsSound l → l.ticket ≡ stub → l.told ≡ Err error
    → next ≡ core
    → IsNode content is_clean IsSound (record { member = m; core = next }) l.store
held_refused content failed is_clean IsSound m core next hold stub l error h away landing same told stays =
    let w = landing.sent in
    let issued : IsTicketOf stub w = subst (λ t. IsTicketOf t w) same landing.issued in
    let is = subst (λ x. IsStoreOf x h.store) away h.is in
    let here : store_of w ≡ h.store = ap store_of (same_went stub w is.0 issued is.1) ∙ is.2 in
    let node : IsNode content is_clean IsSound (record { member = m; core = core }) (store_of w) = subst (IsNode content is_clean IsSound (record { member = m; core = core })) (sym here) h.node in
    node_refused content is_clean IsSound m core next (store_of w) l.store node stays landing.used.clean landing.used.sound
    (λ known. subst (λ (t : Result (Unit {0}) StoreError). OnErr t (content l.store ≡ content (store_of w))) told (landing.refused known))
