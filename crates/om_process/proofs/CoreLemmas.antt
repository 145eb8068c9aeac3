-- What holds of every core is kept.
use Rattle.std.proofs.Common.{◌≡◌, ℕ, ◌+◌, ◌-◌, ◌%◌, ◌≤◌, ◌<◌, List, [], ◌∷◌, ◌++◌, length, map, set, get_or, length-set, Some, refl, sym, ap, ◌∙◌, subst, None, ◌≢◌, arith}
use Rattle.std.specs.Prelude.{min, sum, Bool, true, false, if◌then◌else◌}
use Rattle.std.proofs.lemmas.Bool.{leb-true}
use Rattle.std.specs.List.{range_with_len}
use Rattle.std.proofs.lemmas.List.{get_or-set_same, length-append, length-map, map-append, map-id}
use Rattle.std.proofs.lemmas.List.FromFn.{map-range_with_len_more}
use Rattle.std.proofs.lemmas.List.Sums.{sum_by-set, get_or-le-sum_by}
use Rattle.om_machine.specs.State.{State}
use Rattle.om_machine.specs.derived.NextStep.{next_of}
use Rattle.om_machine.specs.declared.event.Event.{Event}
use Rattle.om_machine.specs.declared.event.Event.TheVariants.{Went, Call, Trap}
use Rattle.om_machine.specs.declared.event.EnvCall.TheVariants.{Exit, Send, Receive, Output, Who}
use Rattle.om_machine.specs.declared.event.Cause.{Cause}
use Rattle.om_machine.specs.Finishing.{TakesBody}
use Rattle.om_format.specs.Queues.{QueueRecord, queue_end, are_entries, all_entries}
use Rattle.om_process.specs.declared.plan.Plan.{Plan}
use Rattle.om_process.specs.declared.status.Status.{Status}
use Rattle.om_process.specs.declared.status.Status.TheVariants.{Ready, Waiting, Ended, Trapped}
use Rattle.om_process.specs.Process.{Process, Move, Waits, Ends, Traps, Goes, Emits, made, moved, emitted, raised}
use Rattle.om_process.specs.steps.Pieces.{with_entry}
use Rattle.om_process.specs.Turns.{next_move, next_turn, after_event, emits, is_refused_send, refused_sends, Turns, IsWaiting}
use Rattle.om_process.specs.steps.Planned.{planned, stopped}
use Rattle.om_process.specs.Core.{CoreState, cluster_size, core_refuses, move_of, status_of, LoggedRecord, AreLast}
use Rattle.om_process.specs.steps.Lawful.{CoreParts, IsCore}
use Rattle.om_isa.specs.declared.ext.Ext.{Ext}
use Rattle.om_format.specs.Checkpoints.{IsCheckpoint}
use Rattle.om_isa.specs.Memory.{is_memory_size}
use Rattle.om_format.specs.Versions.{is_cluster_size}
use Rattle.om_format.specs.declared.version.Version.TheVariants.{V2}
use Rattle.om_format.proofs.Entries.{are_entries-drop, are_entries-push, are_entries_later, all_entries_later}
use Rattle.om_process.specs.Trims.{trimmed_queue, trimmed_queues}
use Rattle.om_process.specs.declared.row.PendingRow.{PendingRow}
use Rattle.om_process.proofs.Going.{refused_add, refused_one, turns_add}
use Rattle.om_process.proofs.QueueLemmas.{all_entries_trimmed, end_trimmed, ends_trimmed, ends-append, emitted-append, emitted-last, ends_emitted, all_entries_emitted, end_with}
use Rattle.om_format.specs.declared.queue.QueueEntry.{QueueEntry}
use Rattle.om_format.specs.declared.limits.TheConstants.{MAX_BODY}

-- the machine counted on
pub counted_on : (c : CoreParts) (count : ℕ) → c.count ≤ count → IsCore c → IsCore (record c { count = count })
counted_on c count le is = record {
  cluster = is.cluster;
  own = is.own;
  counted = omega (arith, is.counted);
  own_place = is.own_place;
  got = is.got;
  received = is.received;
  sent = is.sent;
  ends = is.ends;
  outputs_end = is.outputs_end;
  made = omega (arith, is.made);
  messages = is.messages;
  outputs = is.outputs;
  logged = is.logged;
  starts = is.starts;
}

-- the counters are those of the queues
pub made_by : (outbox : List QueueRecord) (outputs : QueueRecord) (sent : List ℕ) (count : ℕ) → map queue_end outbox ≡ sent → queue_end outputs ≡ count → made (outbox ++ outputs ∷ []) ≡ sent ++ count ∷ []
made_by outbox outputs sent count ends last = ends-append outbox outputs ∙ ap (λ es. es ++ queue_end outputs ∷ []) ends ∙ ap (λ x. sent ++ x ∷ []) last

-- what is planned at the machine's event is what comes next
pub planned_move : (own n size : ℕ) (m : State) (counts queues_made : List ℕ) (event : Event) (plan : Plan) → event ≡ (next_of m).0 → queues_made ≡ counts → n ≡ size
    → planned own n m (next_of m).1 plan ≡ after_event own n m counts event (next_of m).1 → next_move own size m queues_made ≡ planned own size m (next_of m).1 plan
unfolding next_move
planned_move own n size m counts queues_made event plan at same all is =
    ap (λ c. after_event own size m c (next_of m).0 (next_of m).1) same ∙ ap (λ e. after_event own size m counts e (next_of m).1) (sym at)
    ∙ sym (subst (λ k. planned own k m (next_of m).1 plan ≡ after_event own k m counts event (next_of m).1) all is)

pub status_stopped : (next : State) (status : Status) → status_of (stopped next status) ≡ status
status_stopped next Ready = refl
status_stopped next Waiting = refl
status_stopped next (Ended code) = refl
status_stopped next (Trapped cause) = refl

-- a message more
pub core_sent : (c : CoreParts) (count place : ℕ) (e : QueueEntry) (sent : List ℕ) (outbox : List QueueRecord) → c.count ≤ count → e.interval ≡ c.interval → length e.body ≤ MAX_BODY
    → outbox ≡ emitted place e c.outbox → sent ≡ set c.sent place (get_or c.sent place 0 + 1) → IsCore c → IsCore (record c { count = count; sent = sent; outbox = outbox })
core_sent c count place e sent outbox le at short box counts is = record {
  cluster = is.cluster;
  own = is.own;
  counted = omega (arith, is.counted);
  own_place = is.own_place;
  got = is.got;
  received = is.received;
  sent = ap length counts ∙ length-set c.sent place _ ∙ is.sent;
  ends = ap (map queue_end) box ∙ ends_emitted place e c.outbox ∙ ap (λ s. set s place (get_or s place 0 + 1)) is.ends ∙ sym counts;
  outputs_end = is.outputs_end;
  made = omega (arith, is.made);
  messages = subst (λ qs. all_entries c.interval qs ≡ true) (sym box) (all_entries_emitted c.interval place e c.outbox at short is.messages);
  outputs = is.outputs;
  logged = is.logged;
  starts = is.starts;
}

-- an output more
pub core_put_out : (c : CoreParts) (count made : ℕ) (e : QueueEntry) (outputs : QueueRecord) → count ≡ c.count + 1 → made ≡ c.made + 1 → e.interval ≡ c.interval → length e.body ≤ MAX_BODY
    → outputs ≡ with_entry e c.outputs → IsCore c → IsCore (record c { count = count; made = made; outputs = outputs })
core_put_out c count made e outputs one more at short box is = record {
  cluster = is.cluster;
  own = is.own;
  counted = omega (arith, is.counted);
  own_place = is.own_place;
  got = is.got;
  received = is.received;
  sent = is.sent;
  ends = is.ends;
  outputs_end = ap queue_end box ∙ end_with e c.outputs ∙ ap (λ x. x + 1) is.outputs_end ∙ sym more;
  made = omega (arith, is.made);
  messages = is.messages;
  outputs = subst (λ (q : QueueRecord). are_entries c.interval 0 q.entries ≡ true) (sym box) (are_entries-push c.interval 0 c.outputs.entries e (omega arith) at short is.outputs);
  logged = is.logged;
  starts = is.starts;
}

-- one more at a place is one more in all
sum_raised : (xs : List ℕ) (i : ℕ) → i < length xs → sum (set xs i (get_or xs i 0 + 1)) ≡ sum xs + 1
sum_raised xs i within = omega (arith, sum_by-set (λ (x : ℕ). x) xs i (get_or xs i 0 + 1) 0 within)

-- no place is above the sum
pub place-le-sum : (xs : List ℕ) (i : ℕ) → i < length xs → get_or xs i 0 ≤ sum xs
place-le-sum xs i within = get_or-le-sum_by (λ (x : ℕ). x) xs i 0 within

-- one receipt more, that of the next interval
pub last_more : (interval next : ℕ) (log : List LoggedRecord) (l : LoggedRecord) → next ≡ interval + 1 → l.receipt.interval ≡ next → AreLast interval log → AreLast next (log ++ l ∷ [])
last_more interval next log l is at last =
    let long : length (log ++ l ∷ []) ≡ length log + 1 = length-append log (l ∷ []) in
    let within : length log ≤ interval = last.within in
    let first : next + 1 - length (log ++ l ∷ []) ≡ interval + 1 - length log = omega arith in
    record {
      within = omega arith;
      intervals =
          map-append (λ (x : LoggedRecord). x.receipt.interval) log (l ∷ [])
          ∙ ap (λ xs. xs ++ l.receipt.interval ∷ []) last.intervals
          ∙ ap (λ x. range_with_len (interval + 1 - length log) (length log) ++ x ∷ []) at
          ∙ sym (one_more (interval + 1 - length log) (length log) next (omega arith))
          ∙ ap (range_with_len (interval + 1 - length log)) (sym long)
          ∙ ap (λ x. range_with_len x (length (log ++ l ∷ []))) (sym first);
    }
  where
    one_more : (a n j : ℕ) → a + n ≡ j → range_with_len a (n + 1) ≡ range_with_len a n ++ j ∷ []
    one_more a n j is = sym (map-id (range_with_len a (n + 1))) ∙ map-range_with_len_more (λ (x : ℕ). x) a n j is ∙ ap (λ xs. xs ++ j ∷ []) (map-id (range_with_len a n))

-- there may be none
pub last_of_none : (interval : ℕ) → AreLast interval []
last_of_none interval = record { within = omega arith; intervals = refl }

-- a delivery
pub core_delivered : (c : CoreParts) (count interval from x : ℕ) (log : List LoggedRecord) (vec got : List ℕ) → count ≡ c.count + 1 → interval ≡ c.interval + 1 → from < length c.vec → AreLast interval log
    → vec ≡ set (raised c.vec from x) c.own interval → got ≡ set c.got from (get_or c.got from 0 + 1) → IsCore c → IsCore (record c { count = count; interval = interval; vec = vec; got = got; log = log })
core_delivered c count interval from x log vec got one next within last vec_is got_is is =
    let long : length vec ≡ length c.vec = ap length vec_is ∙ length-set (raised c.vec from x) c.own interval ∙ length-set c.vec from _ in
    let raised_long : length (raised c.vec from x) ≡ length c.vec = length-set c.vec from _ in
    let got_long : length got ≡ length c.got = ap length got_is ∙ length-set c.got from _ in
    let own_in : c.own < length (raised c.vec from x) = omega (arith, is.own) in
    let from_in : from < length c.got = omega (arith, is.got) in
    record {
      cluster = subst (λ k. is_cluster_size V2 k ≡ true) (sym long) is.cluster;
      own = omega (arith, is.own);
      counted = omega (arith, is.counted);
      own_place = ap (λ v. get_or v c.own 0) vec_is ∙ get_or-set_same (raised c.vec from x) c.own interval 0 own_in;
      got = got_long ∙ is.got ∙ sym long;
      received = ap sum got_is ∙ sum_raised c.got from from_in ∙ ap (λ s. s + 1) is.received ∙ sym next;
      sent = is.sent ∙ sym long;
      ends = is.ends;
      outputs_end = is.outputs_end;
      made = omega (arith, is.made);
      messages = subst (λ i. all_entries i c.outbox ≡ true) (sym next) (all_entries_later c.interval (c.interval + 1) c.outbox (omega arith) is.messages);
      outputs = subst (λ i. are_entries i 0 c.outputs.entries ≡ true) (sym next) (are_entries_later c.interval (c.interval + 1) 0 c.outputs.entries (omega arith) is.outputs);
      logged = last;
      starts = is.starts ∙ sym long;
    }

-- ---- what a wait says of the machine
-- only a receive whose buffer lies in memory is waited at
Takes : State → Event → Move → Type 0
Takes m e Waits = TakesBody m e
Takes m e _ = Unit {0}

takes_if : (m : State) (e : Event) (test : Bool) (a b : Move) → (test ≡ true → Takes m e a) → (test ≡ false → Takes m e b) → Takes m e (if test then a else b)
takes_if m e true a b x y = x refl
takes_if m e false a b x y = y refl

takes_goes : (m : State) (e : Event) (next : State) → Takes m e (Goes next)
unfolding Takes
takes_goes m e next = tt

takes_traps : (m : State) (e : Event) (cause : Cause) → Takes m e (Traps cause)
unfolding Takes
takes_traps m e cause = tt

takes_ends : (m : State) (e : Event) (code : ℕ) → Takes m e (Ends code)
unfolding Takes
takes_ends m e code = tt

takes_emits : (m : State) (e : Event) (place : ℕ) (body : List ℕ) (next : State) → Takes m e (Emits place body next)
unfolding Takes
takes_emits m e place body next = tt

takes_waits : (m : State) (addr cap : ℕ) → addr + cap ≤ length m.memory → Takes m (Call (Receive addr cap)) Waits
unfolding Takes
takes_waits m addr cap inside = inside

takes_buffer : (m : State) (e : Event) (place addr len : ℕ) → Takes m e (emits place addr len m)
takes_buffer m e place addr len = takes_if m e _ _ _ (λ _. takes_emits m e place _ _) (λ _. takes_traps m e _)

takes_event : (own n : ℕ) (m : State) (counts : List ℕ) (e : Event) (next : State) → Takes m e (after_event own n m counts e next)
takes_event own n m counts Went next = takes_goes m Went next
takes_event own n m counts (Trap cause) next = takes_traps m (Trap cause) cause
takes_event own n m counts (Call (Exit code)) next = takes_ends m (Call (Exit code)) code
takes_event own n m counts (Call (Send to addr len)) next = takes_if m (Call (Send to addr len)) _ _ _ (λ _. takes_goes m (Call (Send to addr len)) _) (λ _. takes_buffer m (Call (Send to addr len)) to addr len)
takes_event own n m counts (Call (Receive addr cap)) next = takes_if m (Call (Receive addr cap)) _ _ _ (λ test. takes_waits m addr cap (leb-true (addr + cap) (length m.memory) test)) (λ _. takes_traps m (Call (Receive addr cap)) _)
takes_event own n m counts (Call (Output addr len)) next = takes_if m (Call (Output addr len)) _ _ _ (λ _. takes_goes m (Call (Output addr len)) _) (λ _. takes_buffer m (Call (Output addr len)) n addr len)
takes_event own n m counts (Call Who) next = takes_goes m (Call Who) _

takes_move : (own n : ℕ) (m : State) (counts : List ℕ) → Takes m (next_of m).0 (next_move own n m counts)
unfolding next_move
takes_move own n m counts = takes_event own n m counts (next_of m).0 (next_of m).1

-- a process that waits can be handed a body
pub takes_body : (own n : ℕ) (m : State) (counts : List ℕ) → next_move own n m counts ≡ Waits → TakesBody m (next_of m).0
unfolding Takes
takes_body own n m counts waits = subst (Takes m (next_of m).0) waits (takes_move own n m counts)

-- as many queues of messages as processes
pub box_long : (c : CoreParts) → IsCore c → length c.outbox ≡ length c.vec
box_long c is = sym (length-map c.outbox queue_end) ∙ ap length is.ends ∙ is.sent

abbrev pub process_with : ℕ → List ℕ → List ℕ → State → List QueueRecord → Process
process_with interval vec got m qs = record { machine = m; interval = interval; vec = vec; got = got; queues = qs }

-- processes that differ in the machine and the queues alone
pub same_process : (interval : ℕ) (vec got : List ℕ) (m n : State) (qs rs : List QueueRecord) → m ≡ n → qs ≡ rs → Some (process_with interval vec got m qs) ≡ Some (process_with interval vec got n rs)
same_process interval vec got m n qs rs same alike = ap (λ (x : State). Some (process_with interval vec got x qs)) same ∙ ap (λ (x : List QueueRecord). Some (process_with interval vec got n x)) alike

abbrev pub core_with : ℕ → State → ℕ → List ℕ → List ℕ → List LoggedRecord → List PendingRow → ℕ → ℕ → List (List ℕ) → List QueueRecord → CoreState
core_with own m interval vec got log pending inc round starts qs =
    record { own = own; now = process_with interval vec got m qs; log = log; pending = pending; inc = inc; round = round; starts = starts }

-- cores that differ in the queues alone
pub same_core : (own : ℕ) (m : State) (interval : ℕ) (vec got : List ℕ) (log : List LoggedRecord) (pending : List PendingRow) (inc round : ℕ) (starts : List (List ℕ)) (qs rs : List QueueRecord) → qs ≡ rs
    → core_with own m interval vec got log pending inc round starts qs ≡ core_with own m interval vec got log pending inc round starts rs
same_core own m interval vec got log pending inc round starts qs rs alike = ap (core_with own m interval vec got log pending inc round starts) alike

-- fewer entries are kept
pub core_trimmed : (c : CoreParts) (bounds : List ℕ) (bound : ℕ) (outbox : List QueueRecord) (outputs : QueueRecord) → outbox ≡ trimmed_queues bounds c.outbox → outputs ≡ trimmed_queue bound c.outputs
    → IsCore c → IsCore (record c { outbox = outbox; outputs = outputs })
core_trimmed c bounds bound outbox outputs box last is = record {
  cluster = is.cluster;
  own = is.own;
  counted = is.counted;
  own_place = is.own_place;
  got = is.got;
  received = is.received;
  sent = is.sent;
  ends = ap (map queue_end) box ∙ ends_trimmed bounds c.outbox ∙ is.ends;
  outputs_end = ap queue_end last ∙ end_trimmed bound c.outputs ∙ is.outputs_end;
  made = is.made;
  messages = subst (λ qs. all_entries c.interval qs ≡ true) (sym box) (all_entries_trimmed c.interval bounds c.outbox is.messages);
  outputs = subst (λ (q : QueueRecord). are_entries c.interval 0 q.entries ≡ true) (sym last) (are_entries-drop c.interval 0 (min (bound - c.outputs.first) (length c.outputs.entries)) c.outputs.entries is.outputs);
  logged = is.logged;
  starts = is.starts;
}

-- the queues after a message more
pub queues_sent : (place : ℕ) (d e : QueueEntry) (box new : List QueueRecord) (outputs : QueueRecord) → place < length box → d ≡ e → new ≡ emitted place d box → emitted place e (box ++ outputs ∷ []) ≡ new ++ outputs ∷ []
queues_sent place d e box new outputs within same is =
    emitted-append place e box (outputs ∷ []) within ∙ ap (λ qs. qs ++ outputs ∷ []) (ap (λ x. emitted place x box) (sym same) ∙ sym is)

-- the queues after an output more
pub queues_put_out : (size : ℕ) (d e : QueueEntry) (box : List QueueRecord) (outputs new : QueueRecord) → length box ≡ size → d ≡ e → new ≡ with_entry d outputs → emitted size e (box ++ outputs ∷ []) ≡ box ++ new ∷ []
queues_put_out size d e box outputs new long same is =
    ap (λ k. emitted k e (box ++ outputs ∷ [])) (sym long) ∙ emitted-last e box outputs ∙ ap (λ q. box ++ q ∷ []) (ap (λ x. with_entry x outputs) (sym same) ∙ sym is)

-- what comes next in a core, by its plan
pub move_planned : (c : CoreState) (m : State) (sent : List ℕ) (outputs : ℕ) (event : Event) (plan : Plan) → m ≡ c.now.machine → made c.now.queues ≡ sent ++ outputs ∷ [] → length sent ≡ cluster_size c.now → event ≡ (next_of c.now.machine).0
    → ((own made : ℕ) (next : State) → planned own (length sent) m next plan ≡ after_event own (length sent) m (sent ++ made ∷ []) event next)
    → move_of c ≡ planned c.own (cluster_size c.now) c.now.machine (next_of c.now.machine).1 plan
move_planned c m sent outputs event plan same counts all at is =
    planned_move c.own (length sent) (cluster_size c.now) c.now.machine (sent ++ outputs ∷ []) (made c.now.queues) event plan at counts all
    (subst (λ x. planned c.own (length sent) x (next_of c.now.machine).1 plan ≡ after_event c.own (length sent) x (sent ++ outputs ∷ []) event (next_of c.now.machine).1) same (is c.own outputs (next_of c.now.machine).1))

-- turns after turns, in cores of one process
pub turns_on : (s t u : CoreState) (j k : ℕ) → t.own ≡ s.own → cluster_size t.now ≡ cluster_size s.now → Turns s.own (cluster_size s.now) j s.now t.now → Turns t.own (cluster_size t.now) k t.now u.now → Turns s.own (cluster_size s.now) (j + k) s.now u.now
turns_on s t u j k own size first more =
    turns_add s.own (cluster_size s.now) j k s.now t.now u.now first
    (subst (λ n. Turns s.own n k t.now u.now) size (subst (λ o. Turns o (cluster_size t.now) k t.now u.now) own more))

-- sends that are refused on the way to a state, and on from it
pub refuses_on : (s t : CoreState) (j k : ℕ) → t.own ≡ s.own → cluster_size t.now ≡ cluster_size s.now → Turns s.own (cluster_size s.now) j s.now t.now → core_refuses (j + k) s ≡ core_refuses j s + core_refuses k t
refuses_on s t j k own size first =
    refused_add s.own (cluster_size s.now) j k s.now t.now first
    ∙ ap (λ x. core_refuses j s + refused_sends x (cluster_size s.now) k t.now) (sym own)
    ∙ ap (λ x. core_refuses j s + refused_sends t.own x k t.now) (sym size)

-- those of one turn, at an event
pub refuses_one : (t : CoreState) (event : Event) → (next_of t.now.machine).0 ≡ event → core_refuses 1 t ≡ (if is_refused_send (cluster_size t.now) (made t.now.queues) event then 1 else 0)
refuses_one t event at =
    refused_one t.own (cluster_size t.now) t.now ∙ ap (λ e. if is_refused_send (cluster_size t.now) (made t.now.queues) e then 1 else 0) at

-- and one turn more
pub turn_on : (s t u : CoreState) (j : ℕ) → t.own ≡ s.own → cluster_size t.now ≡ cluster_size s.now → Turns s.own (cluster_size s.now) j s.now t.now → next_turn t.own (cluster_size t.now) t.now ≡ Some u.now → Turns s.own (cluster_size s.now) (j + 1) s.now u.now
turn_on s t u j own size first more = turns_on s t u j 1 own size first (u.now, more, refl)

-- the parts of a core make a checkpoint
pub core_lawful : (c : CoreParts) (ext : Ext) (pc : ℕ) (regs memory : List ℕ) (kept : List QueueRecord) (outputs : QueueRecord) → IsCore c → pc % 4 ≡ 0 → length regs ≡ 31 → is_memory_size (length memory) ≡ true → kept ≡ c.outbox → outputs ≡ c.outputs
    → IsCheckpoint (record { n = length c.vec; head = record { ext = ext; pid = c.own; interval = c.interval; count = c.count; pc = pc; regs = regs; vec = c.vec; got = c.got; sent = c.sent; made = c.made }; memory = memory; kept = kept; outputs = outputs })
core_lawful c ext pc regs memory kept outputs is aligned long size same last = record {
  n = is.cluster;
  pid = is.own;
  count = is.counted;
  pc = aligned;
  regs = long;
  vec = refl;
  own = is.own_place;
  got = is.got;
  received = is.received;
  sent = is.sent;
  made = is.made;
  memory = size;
  kept = ap (map queue_end) same ∙ is.ends;
  outputs = ap queue_end last ∙ is.outputs_end;
  messages = subst (λ qs. all_entries c.interval qs ≡ true) (sym same) is.messages;
  out = subst (λ (q : QueueRecord). are_entries c.interval 0 q.entries ≡ true) (sym last) is.outputs;
}

-- a process that is told not to be ready has no turn
pub no_turn_at : (s : CoreState) (status : Status) → status ≡ status_of (move_of s) → status ≢ Ready → next_turn s.own (cluster_size s.now) s.now ≡ None
no_turn_at s status is other = none (move_of s) (λ ready. other (is ∙ ready))
  where
    none : (move : Move) → status_of move ≢ Ready → moved s.now move ≡ None
    none Waits not = refl
    none (Ends code) not = refl
    none (Traps cause) not = refl
    none (Goes next) not = absurd (not refl)
    none (Emits place body next) not = absurd (not refl)

waits_of : (move : Move) → status_of move ≡ Waiting → move ≡ Waits
waits_of Waits is = refl
waits_of (Ends code) is = cc
waits_of (Traps cause) is = cc
waits_of (Goes next) is = cc
waits_of (Emits place body next) is = cc

-- a core that is told to wait waits, by the numbers of an earlier one of its process
pub waits_by_status : (s t : CoreState) → t.own ≡ s.own → cluster_size t.now ≡ cluster_size s.now → status_of (move_of t) ≡ Waiting → IsWaiting s.own (cluster_size s.now) t.now
waits_by_status s t own size is =
    subst (λ o. IsWaiting o (cluster_size s.now) t.now) own (subst (λ n. IsWaiting t.own n t.now) size (waits_of (move_of t) is))
