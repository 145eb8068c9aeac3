-- What keeps a process and its store on their way.
use Rattle.std.proofs.Common.{◌≡◌, ◌≢◌, inl, inr, ℕ, ◌+◌, ◌≤◌, List, [], ◌∷◌, ◌++◌, Option, Some, None, Bool, IsTrue, true, false, cond, refl, sym, ap, ◌∙◌, subst, arith, get_or, length, length-append, length-set}
use Rattle.std.proofs.Math.ListN.{get_or-map}
use Rattle.std.proofs.lemmas.List.{length-map, length-replicate}
use Rattle.std.specs.FinMap.{get, get-empty}
use Rattle.std.specs.Ordering.{nat_cmp}
use Rattle.std.proofs.lemmas.Bool.{cases_eq}
use Rattle.std.proofs.lemmas.Option.{none-some, same_Some}
use Rattle.om_format.specs.Checkpoints.{SpellsCheckpoint}
use Rattle.om_format.specs.declared.message.Message.{Message}
use Rattle.om_format.specs.declared.queue.QueueEntry.{QueueEntry}
use Rattle.om_format.specs.Queues.{QueueRecord, queue_end}
use Rattle.om_format.specs.declared.version.Version.TheVariants.{V2}
use Rattle.om_format.proofs.Checkpoints.{one_checkpoint}
use Rattle.om_stable.specs.Calls.{IsCleanCall}
use Rattle.om_stable.specs.Batches.{pruned_to}
use Rattle.om_stable.specs.Content.{Content, bytes_of, with_checkpoint, with_receipts, kept_by_cut, kept_by_prune}
use Rattle.om_stable.proofs.RecordLemmas.{get-insert_here, get-insert_apart, get-retained}
use Rattle.om_member.specs.Handed.{held_as}
use Rattle.om_board.specs.Made.{IsOutputOf}
use Rattle.om_process.specs.Accepts.{Answers, IsDue, taken}
use Rattle.om_process.specs.steps.Pieces.{as_received, receipts_of, KeepQueues}
use Rattle.om_process.specs.declared.accept.Accept.{Accept}
use Rattle.om_process.specs.declared.accept.Accept.TheVariants.{Taken, Stranger, Orphan, Repeat, Ahead, NotWaiting, Full, Memory}
use Rattle.om_process.specs.Claims.{CheckpointOf, HasEntry}
use Rattle.om_process.specs.declared.queues.Made.{Made}
use Rattle.om_process.specs.Frames.{outputs_of}
use Rattle.om_process.specs.Kept.{queue_at}
use Rattle.om_process.specs.steps.Numbers.{made_entry}
use Rattle.om_process.proofs.Making.{interval_along, part_has}
use Rattle.om_process.specs.Core.{CoreState, CoreTurns, cluster_size, move_of, status_of, with_now}
use Rattle.om_process.specs.declared.status.Status.{Status}
use Rattle.om_process.specs.Parts.{IsTrimmed}
use Rattle.om_process.specs.Process.{Process, Received, delivered, empty_queue, made, started}
use Rattle.om_process.specs.Replays.{process_of_checkpoint, received_of}
use Rattle.om_process.specs.Starting.{started_core}
use Rattle.om_process.specs.Stored.{StandsAfter, anyone, IsReplay}
use Rattle.om_process.specs.Flights.{Carries, CarriesCheckpoint}
use Rattle.om_process.specs.declared.flight.Flight.{Flight}
use Rattle.om_process.specs.declared.flight.Spelled.{Spelled}
use Rattle.om_process.specs.declared.row.PendingRow.{PendingRow}
use Rattle.om_process.specs.Stores.{HasGainedLog, HasGainedCheckpoint, flushed}
use Rattle.om_process.specs.Trims.{trimmed}
use Rattle.om_process.specs.Turns.{Turns, IsWaiting, Along, next_move}
use Rattle.om_process.proofs.Parts.{keeps_turns, keeps_waits, keeps_delivered, made_same, same_move}
use Rattle.om_process.proofs.Replays.{keeps_trim, replayed_along}
use Rattle.om_process.proofs.Runs.{turns_then, leads_more}
use Rattle.om_node.specs.Ends.{IsWholeRun, outputs_made}
use Rattle.om_stable.specs.Content.{nothing}
use Rattle.om_node.specs.declared.transaction.Transaction.{Transaction}
use Rattle.om_node.specs.Holding.{FliesOnWay}
use Rattle.om_node.specs.Nodes.{Member, IsOnWay, AreOnWay, IsKept, IsNode}
use Rattle.om_node.specs.Storing.{with_flight, with_spelled}

keep_themselves : (qs : List QueueRecord) → KeepQueues qs qs
keep_themselves [] = tt
keep_themselves (q ∷ qs) = (([], refl, add-zero_of q.first), keep_themselves qs)
  where
    add-zero_of : (x : ℕ) → x ≡ x + length {A = QueueEntry} []
    add-zero_of x = omega arith

keeps_itself : (s : Process) → IsTrimmed s s
keeps_itself s = record { same = refl; queues = keep_themselves s.queues }

-- ---- the process
pub way_turns : (m : Member) (k : ℕ) (s t : Process) → IsOnWay m s → Turns m.own m.n k s t → IsOnWay m t
way_turns m k s t on turns =
    let reach = on.1.1 in
    let more = keeps_turns m.own m.n k on.1.0 s t on.1.2 turns in
    let far = turns_then m.own m.n reach.0 k reach.1.0 on.1.0 more.0 reach.1.2 more.1 in
    (on.0, (more.0, (far.0, (reach.1.0, reach.1.1, far.1)), more.2))

pub way_delivered : (m : Member) (s : Process) (r : Received) → IsOnWay m s → IsWaiting m.own m.n s → IsOnWay m (delivered m.own s r)
way_delivered m s r on waits =
    let whole = on.1.0 in
    let led = leads_more m.own m.n on.0 on.1.1.0 (started m.program m.n) whole r on.1.1.1 (keeps_waits m.own m.n whole s on.1.2 waits) in
    (on.0 ++ r ∷ [], (delivered m.own whole r, (0, (delivered m.own whole r, led, refl)), keeps_delivered m.own whole s r on.1.2))

pub way_trimmed : (m : Member) (bounds : List ℕ) (s : Process) → IsOnWay m s → IsOnWay m (trimmed bounds s)
way_trimmed m bounds s on = (on.0, (on.1.0, on.1.1, keeps_trim bounds on.1.0 s on.1.2))

pub way_replayed : (m : Member) (x : ℕ) (held : Content) (t : Process) → AreOnWay m held → StandsAfter anyone held x x m.own m.n t → IsOnWay m t
way_replayed m x held t stored stands =
    let at = stands.begins.stored in
    let from = stored stands.checkpoint.head.interval at.0 at.1 stands.checkpoint at.2 in
    (from.0 ++ receipts_of stands.receipts, replayed_along m.program m.own m.n (process_of_checkpoint stands.checkpoint) t from.0 stands.receipts from.1 stands.replayed)

-- it is in the interval of its last receipt
way_interval : (m : Member) (h : List Received) (s : Process) → CheckpointOf m.program m.own m.n s h → s.interval ≡ length h
way_interval m h s on =
    ap (λ (p : Process). p.interval) on.2.same ∙ interval_along m.program m.own m.n on.1.0 h on.0 on.1.1

-- what is replayed to an interval is in it
pub replayed_to : (m : Member) (x : ℕ) (held : Content) (t : Process) → AreOnWay m held → StandsAfter anyone held x x m.own m.n t → t.interval ≡ x
replayed_to m x held t stored stands =
    let at = stands.begins.stored in
    let from = stored stands.checkpoint.head.interval at.0 at.1 stands.checkpoint at.2 in
    let begun : stands.checkpoint.head.interval ≡ length from.0 = way_interval m from.0 (process_of_checkpoint stands.checkpoint) from.1 in
    let ended : t.interval ≡ length (from.0 ++ receipts_of stands.receipts) =
    way_interval m (from.0 ++ receipts_of stands.receipts) t
    (replayed_along m.program m.own m.n (process_of_checkpoint stands.checkpoint) t from.0 stands.receipts from.1 stands.replayed) in
    let both = length-append from.0 (receipts_of stands.receipts) in
    let many : length (receipts_of stands.receipts) ≡ length stands.receipts = length-map stands.receipts received_of in
    let last = stands.last in
    omega arith

-- what keeps fewer entries has made as many
same_count : (fs qs : List QueueRecord) (place : ℕ) → KeepQueues fs qs → queue_end (queue_at qs place) ≡ queue_end (queue_at fs place)
same_count fs qs place keep =
    sym (get_or-map queue_end qs place empty_queue) ∙ ap (λ counts. get_or counts place (queue_end empty_queue)) (made_same fs qs keep)
    ∙ get_or-map queue_end fs place empty_queue

pub way_whole : (m : Member) (s : Process) → IsOnWay m s
    → IsWholeRun m.program m.own m.n (status_of (next_move m.own m.n s.machine (made s.queues))) (outputs_made m.n s)
way_whole m s on =
    (on.0, on.1.0, on.1.1, ap status_of (same_move m.own m.n on.1.0 s on.1.2), same_count on.1.0.queues s.queues m.n on.1.2.queues)

-- ---- the store
pub stored_nothing : (m : Member) → AreOnWay m nothing
stored_nothing m x bytes at c spelled = absurd (none-some bytes (sym (get-empty nat_cmp x) ∙ at))

pub stored_log : (m : Member) (c : CoreState) (old new : Content) → AreOnWay m old → HasGainedLog c old new → AreOnWay m new
stored_log m c old new stored gained = subst (AreOnWay m) (sym gained.2) stored

pub stored_checkpoint : (m : Member) (c : CoreState) (old new : Content) → AreOnWay m old → IsOnWay m c.now → HasGainedCheckpoint c old new → AreOnWay m new
stored_checkpoint m c old new stored on gained =
    let r = gained.0 in
    let bytes = gained.2 in
    subst (AreOnWay m) (sym gained.4) (λ x found at d spelled. elim (cases_eq x c.now.interval) [
      | inl same ↦
          let here : get (with_checkpoint old c.now.interval bytes).checkpoints x ≡ Some bytes = subst (λ y. get (with_checkpoint old c.now.interval bytes).checkpoints y ≡ Some bytes) (sym same) (get-insert_here old.checkpoints c.now.interval bytes) in
          let is : bytes ≡ found = same_Some bytes found (sym here ∙ at) in
          let one : r ≡ d = (one_checkpoint found V2 spelled.0 r d (subst (SpellsCheckpoint V2 r) is gained.3) spelled.1).1 in
          subst (λ p. IsOnWay m p) (sym gained.1.process ∙ ap process_of_checkpoint one) on
      | inr apart ↦ stored x found (sym (get-insert_apart old.checkpoints c.now.interval bytes x apart) ∙ at) d spelled
    ])

kept_there : (b : Bool) (o : Option (List ℕ)) (bytes : List ℕ) → cond b o None ≡ Some bytes → o ≡ Some bytes
kept_there true o bytes e = e
kept_there false o bytes e = absurd (none-some bytes e)

pub stored_cut : (m : Member) (r : ℕ) (held : Content) → AreOnWay m held → AreOnWay m (kept_by_cut held r)
stored_cut m r held stored x bytes at c spelled =
    stored x bytes (kept_there _ _ bytes (sym (get-retained held.checkpoints _ x) ∙ at)) c spelled

pub stored_pruned : (m : Member) (to : ℕ) (held : Content) → AreOnWay m held → AreOnWay m (kept_by_prune held to)
stored_pruned m to held stored x bytes at c spelled =
    stored x bytes (kept_there _ _ bytes (sym (get-retained held.checkpoints _ x) ∙ at)) c spelled

-- what a flight brings stands on the way
pub stored_flight : (m : Member) (c : CoreState) (due : Bool) (f : Flight) (prune : Option ℕ) (held : Content)
    → AreOnWay m held → IsOnWay m c.now → CarriesCheckpoint due c f.checkpoint → AreOnWay m (with_flight held f prune)
stored_flight m c due f prune held stored on carries = stored_prune prune (with_spelled (with_receipts held f.first (bytes_of f.receipts.items)) f.checkpoint) (stored_spelled due f.checkpoint carries)
  where
    put : Content
    put = with_receipts held f.first (bytes_of f.receipts.items)

    stored_prune : (to : Option ℕ) (all : Content) → AreOnWay m all → AreOnWay m (pruned_to all to)
    stored_prune None all are = are
    stored_prune (Some to) all are = stored_pruned m to all are

    stored_spelled : (b : Bool) (o : Option Spelled) → CarriesCheckpoint b c o → AreOnWay m (with_spelled put o)
    stored_spelled true (Some s) is =
        let at : s.row.x ≡ c.now.interval = ap (λ (r : PendingRow). r.x) is.row in
        stored_checkpoint m c put (with_checkpoint put s.row.x s.bytes.items) stored on
        (is.record_of, is.process, s.bytes.items, is.spelled, ap (λ x. with_checkpoint put x s.bytes.items) at)
    stored_spelled false None is = stored
    stored_spelled true None is = absurd is
    stored_spelled false (Some s) is = absurd is

-- ---- both
-- after a call of the store, whatever became of the process
pub node_called : {S : Type 0} (content : S → Content) (is_clean : S → Bool) (IsSound : S → Type 0) (m : Member) (core next : CoreState) (old new : S)
    → IsNode content is_clean IsSound (record { member = m; core = core }) old
    → (IsTrue (is_clean new) → IsTrue (is_clean old)) → (IsTrue (is_clean new) → IsSound old → IsSound new)
    → next.own ≡ core.own → cluster_size next.now ≡ cluster_size core.now
    → (IsOnWay m core.now → IsOnWay m next.now)
    → (IsTrue (is_clean new) × IsSound old → IsOnWay m core.now → AreOnWay m (content old) → AreOnWay m (content new))
    → IsNode content is_clean IsSound (record { member = m; core = next }) new
node_called content is_clean IsSound m core next old new is clean sound own size on stored = record {
  own = own ∙ is.own;
  size = size ∙ is.size;
  kept = record {
    sound = λ c. sound c (is.kept.sound (clean c));
    stored = λ c. stored (c, is.kept.sound (clean c)) (is.stands (clean c)) (is.kept.stored (clean c));
  };
  stands = λ c. on (is.stands (clean c));
}

-- after a move of the process alone
pub node_moved : {S : Type 0} (content : S → Content) (is_clean : S → Bool) (IsSound : S → Type 0) (m : Member) (core next : CoreState) (store : S)
    → IsNode content is_clean IsSound (record { member = m; core = core }) store
    → next.own ≡ core.own → cluster_size next.now ≡ cluster_size core.now
    → (IsOnWay m core.now → IsOnWay m next.now)
    → IsNode content is_clean IsSound (record { member = m; core = next }) store
node_moved content is_clean IsSound m core next store is own size on =
    node_called content is_clean IsSound m core next store store is (λ c. c) (λ c s. s) own size on (λ k here stored. stored)

-- what is reached through boxes
pub node_through : {S : Type 0} (content : S → Content) (is_clean : S → Bool) (IsSound : S → Type 0) (m : Member) (core seen : CoreState) (store held : S)
    → seen ≡ core → held ≡ store → IsNode content is_clean IsSound (record { member = m; core = core }) store
    → IsNode content is_clean IsSound (record { member = m; core = seen }) held
node_through content is_clean IsSound m core seen store held same_core same_store is =
    subst (λ d. IsNode content is_clean IsSound (record { member = m; core = d }) held) (sym same_core)
    (subst (IsNode content is_clean IsSound (record { member = m; core = core })) (sym same_store) is)

-- ---- the moves of a member
-- it has run
pub node_ran : {S : Type 0} (content : S → Content) (is_clean : S → Bool) (IsSound : S → Type 0) (m : Member) (core next : CoreState) (store : S) (fuel : ℕ)
    → IsNode content is_clean IsSound (record { member = m; core = core }) store
    → (k : ℕ) × (k ≤ fuel) × CoreTurns k core next → next ≡ with_now core next.now → cluster_size next.now ≡ cluster_size core.now
    → IsNode content is_clean IsSound (record { member = m; core = next }) store
node_ran content is_clean IsSound m core next store fuel is ran rest size =
    node_moved content is_clean IsSound m core next store is (ap (λ (c : CoreState). c.own) rest) size
    (λ on. way_turns m ran.0 core.now next.now on (subst (λ o. Turns o m.n ran.0 core.now next.now) is.own (subst (λ n. Turns core.own n ran.0 core.now next.now) is.size ran.2)))

taken_size : (core : CoreState) (message : Message) → cluster_size (taken core message).now ≡ cluster_size core.now
taken_size core message = length-set _ _ _ ∙ length-set _ _ _

-- it has taken a message
node_took : {S : Type 0} (content : S → Content) (is_clean : S → Bool) (IsSound : S → Type 0) (m : Member) (core : CoreState) (store : S) (message : Message)
    → IsNode content is_clean IsSound (record { member = m; core = core }) store → IsDue core message
    → IsNode content is_clean IsSound (record { member = m; core = taken core message }) store
node_took content is_clean IsSound m core store message is due =
    node_moved content is_clean IsSound m core (taken core message) store is refl (taken_size core message)
    (λ on. subst (λ o. IsOnWay m (delivered o core.now (as_received message))) (sym is.own) (way_delivered m core.now (as_received message) on (subst (λ o. IsWaiting o m.n core.now) is.own (subst (λ n. IsWaiting core.own n core.now) is.size due.waits))))

-- it was offered one
pub node_offered : {S : Type 0} (content : S → Content) (is_clean : S → Bool) (IsSound : S → Type 0) (m : Member) (core next : CoreState) (store : S) (message : Message) (answer : Accept)
    → IsNode content is_clean IsSound (record { member = m; core = core }) store
    → Answers core message answer
    → ((x : ℕ) → answer ≡ Taken x → next ≡ taken core message) → (((x : ℕ) → answer ≢ Taken x) → next ≡ core)
    → IsNode content is_clean IsSound (record { member = m; core = next }) store
node_offered content is_clean IsSound m core next store message answer is = by_answer answer
  where
    same : next ≡ core → IsNode content is_clean IsSound (record { member = m; core = next }) store
    same e = subst (λ d. IsNode content is_clean IsSound (record { member = m; core = d }) store) (sym e) is

    by_answer : (a : Accept) → Answers core message a → ((x : ℕ) → a ≡ Taken x → next ≡ taken core message) → (((x : ℕ) → a ≢ Taken x) → next ≡ core)
        → IsNode content is_clean IsSound (record { member = m; core = next }) store
    by_answer (Taken x) answers took refused = subst (λ d. IsNode content is_clean IsSound (record { member = m; core = d }) store) (sym (took x refl)) (node_took content is_clean IsSound m core store message is answers.0)
    by_answer Stranger answers took refused = same (refused (λ x e. cc))
    by_answer Orphan answers took refused = same (refused (λ x e. cc))
    by_answer Repeat answers took refused = same (refused (λ x e. cc))
    by_answer Ahead answers took refused = same (refused (λ x e. cc))
    by_answer NotWaiting answers took refused = same (refused (λ x e. cc))
    by_answer Full answers took refused = same (refused (λ x e. cc))
    by_answer Memory answers took refused = same (refused (λ x e. cc))

-- ---- and of its store
-- it has stored its log
pub node_flushed : {S : Type 0} (content : S → Content) (is_clean : S → Bool) (IsSound : S → Type 0) (m : Member) (core next : CoreState) (old new : S)
    → IsNode content is_clean IsSound (record { member = m; core = core }) old
    → next ≡ flushed core → (IsTrue (is_clean new) → IsTrue (is_clean old)) → (IsTrue (is_clean new) → IsSound old → IsSound new)
    → (IsCleanCall is_clean IsSound old new → HasGainedLog core (content old) (content new))
    → IsNode content is_clean IsSound (record { member = m; core = next }) new
node_flushed content is_clean IsSound m core next old new is went clean sound gained =
    subst (λ d. IsNode content is_clean IsSound (record { member = m; core = d }) new) (sym went)
    (node_called content is_clean IsSound m core (flushed core) old new is clean sound refl refl (λ on. on) (λ known on stored. stored_log m core (content old) (content new) stored (gained known)))

-- it has stored what it handed over, and its store has dropped what stood before a checkpoint
pub node_stored : {S : Type 0} (content : S → Content) (is_clean : S → Bool) (IsSound : S → Type 0) (m : Member) (core next : CoreState) (old new : S)
    (k : ℕ) (due : Bool) (f : Flight) (prune : Option ℕ)
    → IsNode content is_clean IsSound (record { member = m; core = core }) old → Carries k due core f
    → next.own ≡ core.own → next.now ≡ core.now
    → (IsTrue (is_clean new) → IsTrue (is_clean old)) → (IsTrue (is_clean new) → IsSound old → IsSound new)
    → (IsCleanCall is_clean IsSound old new → content new ≡ with_flight (content old) f prune)
    → IsNode content is_clean IsSound (record { member = m; core = next }) new
node_stored content is_clean IsSound m core next old new k due f prune is carries own now clean sound gained =
    node_called content is_clean IsSound m core next old new is clean sound own (ap cluster_size now) (λ on. subst (IsOnWay m) (sym now) on)
    (λ known on stored. subst (AreOnWay m) (sym (gained known)) (stored_flight m core due f prune (content old) stored on carries.checkpoint))

-- its store has come back with what it handed over when it stood elsewhere on its way
pub node_landed : {S : Type 0} (content : S → Content) (is_clean : S → Bool) (IsSound : S → Type 0) (m : Member) (core next : CoreState) (old new : S)
    (transaction : Transaction) (prune : Option ℕ)
    → IsNode content is_clean IsSound (record { member = m; core = core }) old → (IsTrue (is_clean old) → FliesOnWay m transaction)
    → next.own ≡ core.own → next.now ≡ core.now
    → (IsTrue (is_clean new) → IsTrue (is_clean old)) → (IsTrue (is_clean new) → IsSound old → IsSound new)
    → (IsCleanCall is_clean IsSound old new → content new ≡ with_flight (content old) transaction.flight prune)
    → IsNode content is_clean IsSound (record { member = m; core = next }) new
node_landed content is_clean IsSound m core next old new transaction prune is flies own now clean sound gained = record {
  own = own ∙ is.own;
  size = ap cluster_size now ∙ is.size;
  kept = record {
    sound = λ c. sound c (is.kept.sound (clean c));
    stored = λ c.
        let was = clean c in let f = flies was in
        subst (AreOnWay m) (sym (gained (c, is.kept.sound was))) (stored_flight m f.0 f.1 transaction.flight prune (content old) (is.kept.stored was) f.2 f.3);
  };
  stands = λ c. subst (IsOnWay m) (sym now) (is.stands (clean c));
}

-- its store refused
pub node_refused : {S : Type 0} (content : S → Content) (is_clean : S → Bool) (IsSound : S → Type 0) (m : Member) (core next : CoreState) (old new : S)
    → IsNode content is_clean IsSound (record { member = m; core = core }) old
    → next ≡ core → (IsTrue (is_clean new) → IsTrue (is_clean old)) → (IsTrue (is_clean new) → IsSound old → IsSound new)
    → (IsCleanCall is_clean IsSound old new → content new ≡ content old)
    → IsNode content is_clean IsSound (record { member = m; core = next }) new
node_refused content is_clean IsSound m core next old new is went clean sound same =
    subst (λ d. IsNode content is_clean IsSound (record { member = m; core = d }) new) (sym went)
    (node_called content is_clean IsSound m core core old new is clean sound refl refl (λ on. on) (λ known on stored. subst (AreOnWay m) (sym (same known)) stored))

-- it keeps fewer entries
pub node_trimmed : {S : Type 0} (content : S → Content) (is_clean : S → Bool) (IsSound : S → Type 0) (m : Member) (core next : CoreState) (store : S) (bounds : List ℕ)
    → IsNode content is_clean IsSound (record { member = m; core = core }) store
    → next ≡ with_now core (trimmed bounds core.now)
    → IsNode content is_clean IsSound (record { member = m; core = next }) store
node_trimmed content is_clean IsSound m core next store bounds is went =
    subst (λ d. IsNode content is_clean IsSound (record { member = m; core = d }) store) (sym went)
    (node_moved content is_clean IsSound m core (with_now core (trimmed bounds core.now)) store is refl refl (way_trimmed m bounds core.now))

-- it knows another round, or fewer pending rows
pub node_told : {S : Type 0} (content : S → Content) (is_clean : S → Bool) (IsSound : S → Type 0) (m : Member) (core next : CoreState) (store : S)
    → IsNode content is_clean IsSound (record { member = m; core = core }) store
    → next.own ≡ core.own → next.now ≡ core.now
    → IsNode content is_clean IsSound (record { member = m; core = next }) store
node_told content is_clean IsSound m core next store is own now =
    node_moved content is_clean IsSound m core next store is own (ap cluster_size now) (λ on. subst (IsOnWay m) (sym now) on)

-- it has started over a store that held nothing
pub node_started : {S : Type 0} (content : S → Content) (is_clean : S → Bool) (IsSound : S → Type 0) (m : Member) (core : CoreState) (old new : S)
    → core ≡ started_core m.program m.own m.n → Along m.program m.own m.n [] 0 core.now
    → (IsTrue (is_clean old) → IsSound old) → (IsTrue (is_clean old) → content old ≡ nothing)
    → (IsTrue (is_clean new) → IsTrue (is_clean old)) → (IsTrue (is_clean new) → IsSound old → IsSound new)
    → (IsCleanCall is_clean IsSound old new → HasGainedCheckpoint core (content old) (content new))
    → IsNode content is_clean IsSound (record { member = m; core = core }) new
node_started content is_clean IsSound m core old new at along was empty clean sound gained =
    let on : IsOnWay m core.now = ([], (core.now, (0, along), keeps_itself core.now)) in
    record {
      own = ap (λ (c : CoreState). c.own) at;
      size = ap (λ (c : CoreState). cluster_size c.now) at ∙ length-replicate m.n 0;
      kept = record {
        sound = λ c. sound c (was (clean c));
        stored = λ c. stored_checkpoint m core (content old) (content new) (subst (AreOnWay m) (sym (empty (clean c))) (stored_nothing m)) on (gained (c, was (clean c)));
      };
      stands = λ c. on;
    }

-- it came back
pub node_back : {S : Type 0} (content : S → Content) (is_clean : S → Bool) (IsSound : S → Type 0) (m : Member) (core : CoreState) (old new : S) (r : ℕ)
    → IsKept content is_clean IsSound m old
    → core.own ≡ m.own → cluster_size core.now ≡ m.n
    → (IsTrue (is_clean new) → IsTrue (is_clean old)) → (IsTrue (is_clean new) → IsSound old → IsSound new)
    → (IsCleanCall is_clean IsSound old new → IsReplay (content old) r core)
    → (IsCleanCall is_clean IsSound old new → content new ≡ kept_by_cut (content old) r)
    → IsNode content is_clean IsSound (record { member = m; core = core }) new
node_back content is_clean IsSound m core old new r kept own size clean sound replayed cut = record {
  own = own;
  size = size;
  kept = record {
    sound = λ c. sound c (kept.sound (clean c));
    stored = λ c. subst (AreOnWay m) (sym (cut (c, kept.sound (clean c)))) (stored_cut m r (content old) (kept.stored (clean c)));
  };
  stands = λ c.
      let at = replayed (c, kept.sound (clean c)) in
      way_replayed m r (content old) core.now (kept.stored (clean c)) (subst (λ n. StandsAfter anyone (content old) r r m.own n core.now) size (subst (λ o. StandsAfter anyone (content old) r r o (cluster_size core.now) core.now) own at));
}

-- and is in the interval to which it was replayed
pub back_in : {S : Type 0} (content : S → Content) (is_clean : S → Bool) (IsSound : S → Type 0) (m : Member) (core : CoreState) (old new : S) (r : ℕ)
    → IsKept content is_clean IsSound m old → IsTrue (is_clean old) → IsTrue (is_clean new)
    → core.own ≡ m.own → cluster_size core.now ≡ m.n
    → (IsCleanCall is_clean IsSound old new → IsReplay (content old) r core) → core.now.interval ≡ r
back_in content is_clean IsSound m core old new r kept was is own size replayed =
    let at = replayed (is, kept.sound was) in
    replayed_to m r (content old) core.now (kept.stored was) (subst (λ n. StandsAfter anyone (content old) r r m.own n core.now) size (subst (λ o. StandsAfter anyone (content old) r r o (cluster_size core.now) core.now) own at))

-- how it has ended, and how many outputs it has made
pub node_whole : {S : Type 0} (content : S → Content) (is_clean : S → Bool) (IsSound : S → Type 0) (m : Member) (core : CoreState) (store : S) (status : Status)
    → IsNode content is_clean IsSound (record { member = m; core = core }) store → IsTrue (is_clean store) → status ≡ status_of (move_of core)
    → IsWholeRun m.program m.own m.n status (queue_end (outputs_of core))
node_whole content is_clean IsSound m core store status is clean at =
    let told : status ≡ status_of (next_move m.own m.n core.now.machine (made core.now.queues)) = subst (λ n. status ≡ status_of (next_move m.own n core.now.machine (made core.now.queues))) is.size (subst (λ o. status ≡ status_of (next_move o (cluster_size core.now) core.now.machine (made core.now.queues))) is.own at) in
    let count : queue_end (outputs_of core) ≡ outputs_made m.n core.now = ap (λ n. outputs_made n core.now) is.size in
    subst (λ k. IsWholeRun m.program m.own m.n status k) (sym count)
    (subst (λ s. IsWholeRun m.program m.own m.n s (outputs_made m.n core.now)) (sym told) (way_whole m core.now (is.stands clean)))

-- what it keeps as an output is one that its program makes
pub node_output : {S : Type 0} (content : S → Content) (is_clean : S → Bool) (IsSound : S → Type 0) (m : Member) (core : CoreState) (store : S) (output : Made)
    → IsNode content is_clean IsSound (record { member = m; core = core }) store → IsTrue (is_clean store)
    → HasEntry core.now.queues (cluster_size core.now) output.seq (made_entry output) → IsOutputOf m.program m.own m.n output.seq (held_as output)
node_output content is_clean IsSound m core store output is clean has =
    let on = is.stands clean in
    let here : HasEntry core.now.queues m.n output.seq (made_entry output) = subst (λ n. HasEntry core.now.queues n output.seq (made_entry output)) is.size has in
    ∣ (on.0, (on.1.0, on.1.1, part_has on.1.0.queues core.now.queues m.n output.seq (made_entry output) on.1.2.queues here)) ∣₁
