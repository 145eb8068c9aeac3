-- What the turns of a process and the taking of a message keep.
use Rattle.std.proofs.Common.{◌≡◌, ◌≢◌, ◌⊎◌, inl, inr, ℕ, zero, suc, ◌+◌, ◌-◌, ◌≤◌, ◌<◌, List, [], ◌∷◌, ◌++◌, length, take, set, Option, Some, Bool, true, false, refl, sym, ap, ◌∙◌, subst, arith, length-append, length-set}
use Rattle.std.specs.Prelude.{nat_eq, slice_get, slice_index}
use Rattle.std.specs.FinMap.{get}
use Rattle.std.proofs.lemmas.Bool.Decides.{nat_tests}
use Rattle.std.proofs.lemmas.List.{take-append-le}
use Rattle.om_interval.specs.Starts.{IsOrphan, is_named, newest_of}
use Rattle.om_format.specs.declared.message.Message.{Message}
use Rattle.om_format.specs.Queues.{QueueRecord}
use Rattle.om_stable.specs.Content.{Content}
use Rattle.om_process.specs.Process.{Process, Program, Received, delivered, started}
use Rattle.om_process.specs.Turns.{Turns, Reaches, IsWaiting}
use Rattle.om_process.specs.Replays.{FitsReceipt, received_of, process_of_checkpoint}
use Rattle.om_process.specs.Parts.{Grow}
use Rattle.om_process.specs.Dependencies.{count_from}
use Rattle.om_process.specs.Core.{CoreState, LoggedRecord, cluster_size, with_now}
use Rattle.om_process.specs.Accepts.{IsDue, taken, receipt_for}
use Rattle.om_process.specs.steps.Pieces.{as_received}
use Rattle.om_process.specs.Claims.{AtInterval, Makes, RowOf, CheckpointOf, RecordOf, LeadsToWait}
use Rattle.om_process.specs.Stores.{first_logged}
use Rattle.om_process.proofs.Runs.{turns_then, turns_grow, leads_more}
use Rattle.om_process.proofs.Parts.{keeps_turns, keeps_waits, keeps_delivered}
use Rattle.om_process.proofs.Vectors.{row_along, places_at}
use Rattle.om_process.proofs.Making.{interval_along}
use Rattle.om_manager.specs.Gatherings.{presence_of, presences_of}
use Rattle.om_manager.specs.Sound.{IsManager}
use Rattle.om_manager.specs.State.{ManagerState, process_count, released_by}
use Rattle.om_manager.specs.declared.presence.Presence.{Presence}
use Rattle.om_manager.specs.declared.presence.Presence.TheVariants.{Away, Joined}
use Rattle.om_world.specs.declared.entry.Entry.{Entry}
use Rattle.om_world.specs.declared.process_state.ProcessState.{ProcessState}
use Rattle.om_world.specs.Failures.{HasNews}
use Rattle.om_world.specs.Live.{program_at, receipt_of, received, MayFollow}
use Rattle.om_world.specs.World.{Health, WorldState, recovered, entry_of, output_entry}
use Rattle.om_world.specs.steps.Past.{Past, past_of, history}
use Rattle.om_world.specs.steps.Sound.{Sound, HasShape, Said, IsFrame, KeptWithin, IsStored, NothingAbove, LogAlong, LogOf, receipts_in, EndsAt, IsCoreOf, IsRunning, IsUpIn, Runs}
use Rattle.om_world.proofs.Legal.{at_more, one_more, received-append}
use Rattle.om_world.proofs.Lists.{none_in, once, at_change, set_apart, there, inside, either, none_some}

-- a world with these parts changed
abbrev pub remade : WorldState → List Entry → List Message → List (Option CoreState) → ManagerState → List Content → List Health → WorldState
remade w live frames cores manager contents health = record { programs = w.programs; live = live; frames = frames; cores = cores; places = w.places; rounds = w.rounds; manager = manager; contents = contents; health = health; origins = w.origins; since = w.since }

-- ---- the shape
pub shape_same : (w : WorldState) (live : List Entry) (frames : List Message) (m : ManagerState) (contents : List Content) (health : List Health) → HasShape w → length contents ≡ length w.contents → IsManager m → process_count m ≡ process_count w.manager
    → HasShape (remade w live frames w.cores m contents health)
shape_same w live frames m contents health s long is size = record { few = s.few; stores = long ∙ s.stores; cores = s.cores; places = s.places; own = s.own; rounds = s.rounds; there = s.there; inside = s.inside; manager = is; size = size ∙ s.size }

pub shape_core : (w : WorldState) (p : ℕ) (c d : CoreState) (live : List Entry) (frames : List Message) (m : ManagerState) (contents : List Content) (health : List Health) → HasShape w → slice_get w.cores p ≡ Some (Some c) → d.own ≡ c.own → cluster_size d.now ≡ cluster_size c.now
    → length contents ≡ length w.contents → IsManager m → process_count m ≡ process_count w.manager → HasShape (remade w live frames (set w.cores p (Some d)) m contents health)
shape_core w p c d live frames m contents health s at own size long is many = record {
  few = s.few;
  stores = long ∙ s.stores;
  cores = length-set w.cores p (Some d) ∙ s.cores;
  places = s.places;
  own = λ q e f. elim (at_change w.cores p q (Some e) (Some d) f) [
    | inl same ↦ let o = s.own p c at in subst (λ i. IsCoreOf (length w.programs) i e) (sym same.0) (subst (IsCoreOf (length w.programs) p) (sym (once e d same.1)) (record { own = own ∙ o.own; size = size ∙ o.size }))
    | inr other ↦ s.own q e other.1
  ];
  rounds = s.rounds;
  there = λ q up. still q (s.there q up);
  inside = λ q joined. still q (s.inside q joined);
  manager = is;
  size = many ∙ s.size;
}
  where
    here : (cs : List (Option CoreState)) (p : ℕ) → p < length cs → slice_get (set cs p (Some d)) p ≡ Some (Some d)
    here [] p lt = absurd (omega arith)
    here (x ∷ cs) zero lt = refl
    here (x ∷ cs) (suc p) lt = here cs p (omega arith)

    still : (q : ℕ) → (e : CoreState) × (slice_get w.cores q ≡ Some (Some e)) → (e : CoreState) × (slice_get (set w.cores p (Some d)) q ≡ Some (Some e))
    still q t = elim (either q p) [
      | inl same ↦ (d, subst (λ i. slice_get (set w.cores p (Some d)) i ≡ Some (Some d)) (sym same) (here w.cores p (inside w.cores p (Some c) at)))
      | inr other ↦ (t.0, set_apart w.cores p q (Some d) other ∙ t.1)
    ]

-- ---- one core changes
pub sound_core : (w : WorldState) (p : ℕ) (c d : CoreState) → Sound w → slice_get w.cores p ≡ Some (Some c)
    → ((held : Content) → IsRunning (past_of w) p held c → IsRunning (past_of w) p held d) → (IsUpIn w.manager p c → IsUpIn w.manager p d)
    → d.inc ≡ c.inc → d.now.interval ≡ c.now.interval → Sound (remade w w.live w.frames (set w.cores p (Some d)) w.manager w.contents w.health)
sound_core w p c d s at run know inc interval = record {
  legal = s.legal;
  frames = s.frames;
  outputs = s.outputs;
  rows = s.rows;
  stored = s.stored;
  backed = s.backed;
  running = λ q e held f holds runs. elim (at_change w.cores p q (Some e) (Some d) f) [
    | inl is ↦ subst (λ o. IsRunning (past_of w) o held e) (sym is.0)
        (subst (IsRunning (past_of w) p held) (sym (once e d is.1))
        (run held (s.running p c held at (subst (λ o. slice_get w.contents o ≡ Some held) is.0 holds) (subst (Runs w) is.0 runs))))
    | inr is ↦ s.running q e held is.1 holds runs
  ];
  up = λ q e f place. elim (at_change w.cores p q (Some e) (Some d) f) [
    | inl is ↦ subst (λ o. IsUpIn w.manager o e) (sym is.0) (subst (IsUpIn w.manager p) (sym (once e d is.1)) (know (s.up p c at (subst (λ o. slice_get w.places o ≡ Some ProcessState.Up) is.0 place))))
    | inr is ↦ s.up q e is.1 place
  ];
  joined = s.joined;
  failed = s.failed;
  gathered = s.gathered;
  current = s.current;
  known = s.known;
  ends = s.ends;
  behind = s.behind;
  inside = λ q e f place runs. elim (at_change w.cores p q (Some e) (Some d) f) [
    | inl is ↦ subst (λ o. e.inc ≡ newest_of w.manager.starts o) (sym is.0)
        (ap (λ (x : CoreState). x.inc) (once e d is.1) ∙ inc ∙ s.inside p c at (subst (λ o. slice_get w.places o ≡ Some ProcessState.In) is.0 place) (subst (Runs w) is.0 runs))
    | inr is ↦ s.inside q e is.1 place runs
  ];
  beyond = λ q e f place news back. elim (at_change w.cores p q (Some e) (Some d) f) [
    | inl is ↦ subst (λ o. slice_index w.manager.last o < e.now.interval) (sym is.0)
        (subst (λ x. slice_index w.manager.last p < x) (sym (ap (λ (x : CoreState). x.now.interval) (once e d is.1) ∙ interval))
        (s.beyond p c at (subst (λ o. slice_get w.places o ≡ Some ProcessState.In) is.0 place) (subst (HasNews w) is.0 news) (subst (λ o. is_named w.manager.backs o ≡ true) is.0 back)))
    | inr is ↦ s.beyond q e is.1 place news back
  ];
}

-- ---- turns
grow_first : (x : ℕ) (ps qs : List QueueRecord) (q : ℕ) (b : QueueRecord) → Grow x ps qs → slice_get qs q ≡ Some b → (a : QueueRecord) × (slice_get ps q ≡ Some a) × (b.first ≡ a.first)
grow_first x [] [] q b g e = absurd (none_in q b e)
grow_first x [] (c ∷ qs) q b g e = absurd g
grow_first x (a ∷ ps) [] q b g e = absurd g
grow_first x (a ∷ ps) (c ∷ qs) zero b g e = (a, refl, ap (λ (d : QueueRecord). d.first) (sym (once c b e)) ∙ g.0.0)
grow_first x (a ∷ ps) (c ∷ qs) (suc q) b g e = grow_first x ps qs q b g.1 e

pub kept_grown : (v : Past) (p x : ℕ) (ps qs : List QueueRecord) → Grow x ps qs → KeptWithin v p ps → KeptWithin v p qs
kept_grown v p x ps qs g k q b e =
    let a = grow_first x ps qs q b g e in let old = k q a.0 a.1 in let f = a.2 in
    ((λ lt. subst (λ y. y ≤ count_from p (take (recovered v.manager q) (history v q))) (sym f) (old.0 lt)), (λ is. subst (λ y. y ≤ length (released_by v.manager p)) (sym f) (old.1 is)))

running_turns : (v : Past) (p k : ℕ) (held : Content) (c : CoreState) (t : Process) → Turns p (length v.programs) k c.now t → IsRunning v p held c → IsRunning v p held (with_now c t)
running_turns v p k held c t turns r =
    let n = length v.programs in
    let whole = r.state.0 in let reach = r.state.1 in let keeps = r.state.2 in
    let on = keeps_turns p n k whole c.now t keeps turns in
    let far = turns_then p n reach.0 k reach.1.0 whole on.0 reach.1.2 on.1 in
    record {
      state = (on.0, (far.0, (reach.1.0, reach.1.1, far.1)), on.2);
      kept = kept_grown v p c.now.interval c.now.queues t.queues (turns_grow p n k c.now t turns).1 r.kept;
      log = r.log;
      pending = r.pending;
      above = record { receipts = λ y le. r.above.receipts y (subst (λ x. x + 1 - length c.log ≤ y) (turns_grow p n k c.now t turns).0 le); checkpoints = r.above.checkpoints };
    }

pub sound_turns : (w : WorldState) (p k : ℕ) (c : CoreState) (t : Process) → HasShape w → Sound w → slice_get w.cores p ≡ Some (Some c) → Turns c.own (cluster_size c.now) k c.now t
    → Sound (remade w w.live w.frames (set w.cores p (Some (with_now c t))) w.manager w.contents w.health)
sound_turns w p k c t h s at turns =
    let own = h.own p c at in
    let mine : Turns p (length w.programs) k c.now t = subst (λ o. Turns o (length w.programs) k c.now t) own.own (subst (λ n. Turns c.own n k c.now t) own.size turns) in
    sound_core w p c (with_now c t) s at (λ held. running_turns (past_of w) p k held c t mine) (λ u. record { round = u.round; starts = u.starts; inc = u.inc; away = u.away }) refl (turns_grow p (length w.programs) k c.now t mine).0

-- ---- a receipt more
abbrev with_entry : Past → Entry → Past
with_entry v e = record { programs = v.programs; live = v.live ++ e ∷ []; manager = v.manager }

one_receipt : (e : Entry) → received e.to (e ∷ []) ≡ receipt_of e ∷ []
one_receipt e = go (nat_eq e.to e.to) (grind (arith, nat_tests)) refl
  where
    go : (b : Bool) → b ≡ true → nat_eq e.to e.to ≡ b → received e.to (e ∷ []) ≡ receipt_of e ∷ []
    go b t is = rw (is, t) refl

mine : (v : Past) (e : Entry) → history (with_entry v e) e.to ≡ history v e.to ++ receipt_of e ∷ []
mine v e = received-append e.to v.live (e ∷ []) ∙ ap (λ h. history v e.to ++ h) (one_receipt e)

nothing_more : (h : List Received) → h ++ [] ≡ h
nothing_more [] = refl
nothing_more (r ∷ h) = ap (λ g. r ∷ g) (nothing_more h)

theirs : (v : Past) (e : Entry) (q : ℕ) → q ≢ e.to → history (with_entry v e) q ≡ history v q
theirs v e q other = received-append q v.live (e ∷ []) ∙ go (nat_eq e.to q) (grind (arith, nat_tests)) refl
  where
    go : (b : Bool) → b ≡ false → nat_eq e.to q ≡ b → received q v.live ++ received q (e ∷ []) ≡ received q v.live
    go b f is = rw (is, f) (nothing_more (received q v.live))

at_entry : (v : Past) (e : Entry) (q x : ℕ) (P : List Received → Type 0) → AtInterval (history v q) x P → AtInterval (history (with_entry v e) q) x P
at_entry v e q x P a = subst (λ h. AtInterval h x P) (sym (received-append q v.live (e ∷ []))) (at_more (received q v.live) (received q (e ∷ [])) x P a)

longer : (v : Past) (e : Entry) (q : ℕ) → length (history v q) ≤ length (history (with_entry v e) q)
longer v e q = let f : length (history (with_entry v e) q) ≡ length (received q v.live) + length (received q (e ∷ [])) = ap length (received-append q v.live (e ∷ [])) ∙ length-append (received q v.live) (received q (e ∷ [])) in omega arith

take_entry : (v : Past) (e : Entry) (q x : ℕ) → x ≤ length (history v q) → take x (history (with_entry v e) q) ≡ take x (history v q)
take_entry v e q x le = ap (take x) (received-append q v.live (e ∷ [])) ∙ take-append-le x (received q v.live) (received q (e ∷ [])) le

kept_more : (v : Past) (e : Entry) (p : ℕ) (qs : List QueueRecord) → ((q : ℕ) → recovered v.manager q ≤ length (history v q)) → KeptWithin v p qs → KeptWithin (with_entry v e) p qs
kept_more v e p qs within k q queue at =
    let old = k q queue at in
    ((λ lt. subst (λ h. queue.first ≤ count_from p h) (sym (take_entry v e q (recovered v.manager q) (within q))) (old.0 lt)), old.1)

up_to : (x y : ℕ) → (x ≤ y) ⊎ (y < x)
up_to x y = grind arith

stored_more : (v : Past) (e : Entry) (q : ℕ) (held : Content) → ((q : ℕ) → recovered v.manager q ≤ length (history v q)) → (q ≡ e.to → (c : CoreState) × NothingAbove held c (length (history v q)) × (first_logged c ≤ length (history v q) + 1)) → IsStored v q held → IsStored (with_entry v e) q held
stored_more v e q held within above s = record {
  checkpoints = λ x bytes le at. elim (up_to x (length (history v q))) [
    | inl old ↦ let c = s.checkpoints x bytes old at in (c.0, c.1, c.2, c.3, at_entry v e q x (CheckpointOf (program_at v.programs q) q (length v.programs) (process_of_checkpoint c.0)) c.4, kept_more v e q (process_of_checkpoint c.0).queues within c.5)
    | inr new ↦ absurd (none_some (get held.checkpoints x) bytes ((above (only x le new)).1.checkpoints x new) at)
  ];
  receipts = λ x bytes some le at. elim (up_to x (length (history v q))) [
    | inl old ↦ let r = s.receipts x bytes some old at in (r.0, r.1, at_entry v e q x (RecordOf (program_at v.programs q) q (length v.programs) r.0) r.2)
    | inr new ↦ absurd (none_some (get held.receipts x) bytes ((above (only x le new)).1.receipts x (let low = (above (only x le new)).2 in omega arith)) at)
  ];
}
  where
    only : (x : ℕ) → x ≤ length (history (with_entry v e) q) → length (history v q) < x → q ≡ e.to
    only x le lt = elim (either q e.to) [ inl is ↦ is | inr other ↦ absurd (no (ap length (theirs v e q other)) le lt) ]
      where
        no : length (history (with_entry v e) q) ≡ length (history v q) → x ≤ length (history (with_entry v e) q) → length (history v q) < x → ⊥
        no f le lt = omega arith

running_other : (v : Past) (e : Entry) (q : ℕ) (held : Content) (c : CoreState) → ((q : ℕ) → recovered v.manager q ≤ length (history v q)) → q ≢ e.to → IsRunning v q held c → IsRunning (with_entry v e) q held c
running_other v e q held c within other r =
    let same = sym (theirs v e q other) in
    record {
      state = subst (CheckpointOf (program_at v.programs q) q (length v.programs) c.now) same r.state;
      kept = kept_more v e q c.now.queues within r.kept;
      log = subst (LogOf (program_at v.programs q) q (length v.programs) c.log) same r.log;
      pending = λ i row at. let old = r.pending i row at in record { row_of = at_entry v e q row.x (RowOf q (length v.programs) row.vec row.got) old.row_of; begun = old.begun; backed = old.backed };
      above = subst (λ h. NothingAbove held c (length h)) same r.above;
    }

-- ---- the log
log_more : (program : Program) (own n : ℕ) (h : List Received) (ls : List LoggedRecord) (l : LoggedRecord) → LogAlong program own n h ls
    → (w : Process) × Reaches program own n (h ++ receipts_in ls) w × FitsReceipt own n w l.receipt → RowOf own n l.vec l.got ((h ++ receipts_in ls) ++ received_of l.receipt ∷ []) → LogAlong program own n h (ls ++ l ∷ [])
log_more program own n h [] l a fits row =
    let same : h ++ [] ≡ h = nothing_more h in
    ((fits.0, subst (λ g. Reaches program own n g fits.0) same fits.1, fits.2), subst (λ g. RowOf own n l.vec l.got (g ++ received_of l.receipt ∷ [])) same row, tt)
log_more program own n h (d ∷ ls) l a fits row =
    let same : h ++ (received_of d.receipt ∷ receipts_in ls) ≡ (h ++ received_of d.receipt ∷ []) ++ receipts_in ls = apart h (received_of d.receipt) (receipts_in ls) in
    (a.0, a.1, log_more program own n (h ++ received_of d.receipt ∷ []) ls l a.2 (fits.0, subst (λ g. Reaches program own n g fits.0) same fits.1, fits.2) (subst (λ g. RowOf own n l.vec l.got (g ++ received_of l.receipt ∷ [])) same row))
  where
    apart : (h : List Received) (r : Received) (g : List Received) → h ++ (r ∷ g) ≡ (h ++ r ∷ []) ++ g
    apart [] r g = refl
    apart (x ∷ h) r g = ap (λ l. x ∷ l) (apart h r g)

receipts_more : (ls : List LoggedRecord) (l : LoggedRecord) → receipts_in (ls ++ l ∷ []) ≡ receipts_in ls ++ received_of l.receipt ∷ []
receipts_more [] l = refl
receipts_more (d ∷ ls) l = ap (λ g. received_of d.receipt ∷ g) (receipts_more ls l)

append_apart : (a b c : List Received) → (a ++ b) ++ c ≡ a ++ (b ++ c)
append_apart [] b c = refl
append_apart (i ∷ a) b c = ap (λ d. i ∷ d) (append_apart a b c)

log_of_more : (program : Program) (own n : ℕ) (h : List Received) (ls : List LoggedRecord) (l : LoggedRecord) → LogOf program own n ls h
    → (w : Process) × Reaches program own n h w × FitsReceipt own n w l.receipt → RowOf own n l.vec l.got (h ++ received_of l.receipt ∷ []) → LogOf program own n (ls ++ l ∷ []) (h ++ received_of l.receipt ∷ [])
log_of_more program own n h ls l a fits row = (
  a.0,
  ap (λ g. g ++ received_of l.receipt ∷ []) a.1 ∙ append_apart a.0 (receipts_in ls) (received_of l.receipt ∷ []) ∙ ap (λ g. a.0 ++ g) (sym (receipts_more ls l)),
  log_more program own n a.0 ls l a.2 (fits.0, subst (λ g. Reaches program own n g fits.0) a.1 fits.1, fits.2) (subst (λ g. RowOf own n l.vec l.got (g ++ received_of l.receipt ∷ [])) a.1 row),
)

-- ---- the core that took a message
-- what a wait of the core says of the whole process
whole_waits : (program : Program) (own n : ℕ) (c : Process) (h : List Received) → CheckpointOf program own n c h → IsWaiting own n c → LeadsToWait program own n h
whole_waits program own n c h at waits = (at.0, at.1, keeps_waits own n at.0 c at.2 waits)

-- the numbers got by a core are the counts
pub got_counts : (program : Program) (own n q : ℕ) (c : Process) (h : List Received) → CheckpointOf program own n c h → q < n → slice_index c.got q ≡ count_from q h
got_counts program own n q c h at lt =
    ap (λ (p : Process). slice_index p.got q) at.2.same ∙ ap (λ g. slice_index g q) (row_along program own n h at.0 at.1).1 ∙ places_at n q (λ j. count_from j h) lt

delivered_at : (program : Program) (own n : ℕ) (c : Process) (h : List Received) (r : Received) → CheckpointOf program own n c h → IsWaiting own n c → CheckpointOf program own n (delivered own c r) (h ++ r ∷ [])
delivered_at program own n c h r at waits =
    let d = delivered own at.0 r in
    (d, (0, (d, leads_more own n h at.1.0 (started program n) at.0 r at.1.1 (keeps_waits own n at.0 c at.2 waits), refl)), keeps_delivered own at.0 c r at.2)

pub row_of : (program : Program) (own n : ℕ) (c : Process) (h : List Received) → CheckpointOf program own n c h → RowOf own n c.vec c.got h
row_of program own n c h at =
    let row = row_along program own n h at.0 at.1 in
    (ap (λ (p : Process). p.vec) at.2.same ∙ row.0, ap (λ (p : Process). p.got) at.2.same ∙ row.1)

running_taken : (v : Past) (e : Entry) (held : Content) (c : CoreState) (m : Message) → ((q : ℕ) → recovered v.manager q ≤ length (history v q)) → e ≡ entry_of m → c.own ≡ e.to → cluster_size c.now ≡ length v.programs → IsDue c m → IsRunning v e.to held c → IsRunning (with_entry v e) e.to held (taken c m)
running_taken v e held c m within is own size due r =
    let n = length v.programs in
    let program = program_at v.programs e.to in
    let h = history v e.to in
    let known = due.next.no_orphan.no_stranger in
    let waits : IsWaiting e.to n c.now = subst (λ o. IsWaiting o n c.now) own (subst (λ k. IsWaiting c.own k c.now) size due.waits) in
    let new : receipt_of e ≡ as_received m = ap receipt_of is in
    let now : CheckpointOf program e.to n (delivered e.to c.now (as_received m)) (h ++ as_received m ∷ []) = delivered_at program e.to n c.now h (as_received m) r.state waits in
    let here : CheckpointOf program e.to n (taken c m).now (h ++ as_received m ∷ []) = subst (λ o. CheckpointOf program e.to n (delivered o c.now (as_received m)) (h ++ as_received m ∷ [])) (sym own) now in
    let same : h ++ as_received m ∷ [] ≡ history (with_entry v e) e.to = sym (mine v e ∙ ap (λ g. h ++ g ∷ []) new) in
    let part = r.state.2 in
    let fits : FitsReceipt e.to n r.state.0 (receipt_for c m) = record {
      to = own;
      from = subst (λ k. m.from < k) size known.from;
      interval = ap (λ (p : Process). p.interval + 1) part.same;
      number = due.next.number ∙ ap (λ (p : Process). slice_index p.got m.from) part.same;
      count = ap (λ (p : Process). p.machine.count) part.same;
      waits = keeps_waits e.to n r.state.0 c.now part waits;
    } in
    record {
      state = subst (CheckpointOf program e.to n (taken c m).now) same here;
      kept = kept_more v e e.to c.now.queues within r.kept;
      log = subst (LogOf program e.to n (taken c m).log) same
          (log_of_more program e.to n h c.log (record { receipt = receipt_for c m; vec = (taken c m).now.vec; got = (taken c m).now.got }) r.log (r.state.0, r.state.1, fits) (row_of program e.to n (taken c m).now (h ++ as_received m ∷ []) here));
      pending = λ i row at. let old = r.pending i row at in record { row_of = at_entry v e e.to row.x (RowOf e.to n row.vec row.got) old.row_of; begun = old.begun; backed = old.backed };
      above = let le = longer v e e.to in record { receipts = λ y le. r.above.receipts y (same_first c.now.interval (length c.log) (length (c.log ++ record { receipt = receipt_for c m; vec = (taken c m).now.vec; got = (taken c m).now.got } ∷ [])) y (length-append c.log (record { receipt = receipt_for c m; vec = (taken c m).now.vec; got = (taken c m).now.got } ∷ [])) le); checkpoints = λ y lt. r.above.checkpoints y (further (length h) (length (history (with_entry v e) e.to)) y le lt) };
    }
  where
    further : (a b y : ℕ) → a ≤ b → b < y → a < y
    further a b y le lt = omega arith

    same_first : (x n more y : ℕ) → more ≡ n + 1 → (x + 1) + 1 - more ≤ y → x + 1 - n ≤ y
    same_first x n more y is le = omega arith

presence_apart : (x : ℕ) (p : Presence) → p ≡ Away → p ≡ Joined x → ⊥
presence_apart x p e f = cc

no_orphan : (v : Past) (c : CoreState) (m : Message) → c.starts ≡ v.manager.starts → (IsOrphan c.starts m.from m.tag.inc m.tag.interval → ⊥) → IsFrame v m → Said v m
no_orphan v c m same kept f = elim f.said [ inl cut ↦ absurd (kept (subst (λ s. IsOrphan s m.from m.tag.inc m.tag.interval) (sym same) cut)) | inr said ↦ said ]

-- the log is no longer than the receipts
low_first : (v : Past) (p : ℕ) (held : Content) (c : CoreState) → c.now.interval ≡ length (history v p) → first_logged c ≤ length (history v p) + 1
low_first v p held c is = omega arith

pub interval_is : (v : Past) (p : ℕ) (held : Content) (c : CoreState) (r : IsRunning v p held c) → c.now.interval ≡ length (history v p)
interval_is v p held c r = ap (λ (x : Process). x.interval) r.state.2.same ∙ interval_along (program_at v.programs p) p (length v.programs) r.state.1.0 (history v p) r.state.0 r.state.1.1

up_apart : (declared : Bool) → ProcessState.Up ≡ ProcessState.Down declared → ⊥
up_apart declared e = cc

pub sound_taken : (w : WorldState) (i : ℕ) (m : Message) (e : Entry) (c : CoreState) → HasShape w → Sound w → ((q : ℕ) → recovered w.manager q ≤ length (history (past_of w) q)) → slice_get w.frames i ≡ Some m → e ≡ entry_of m → slice_get w.places e.to ≡ Some ProcessState.Up → slice_get w.cores e.to ≡ Some (Some c) → IsDue c m
    → Sound (remade w (w.live ++ e ∷ []) w.frames (set w.cores e.to (Some (taken c m))) w.manager w.contents w.health)
sound_taken w i m e c h s within frame is place at due =
    let v = past_of w in
    let n = length w.programs in
    let p = e.to in
    let own = h.own p c at in
    let u = s.up p c at place in
    let short : p < length w.cores = inside w.cores p (Some c) at in
    let long = h.cores in let stores = h.stores in
    let store = there w.contents p (omega arith) in
    let r : IsRunning v p store.0 c = s.running p c store.0 at store.1 (inl place) in
    let waits : IsWaiting p n c.now = subst (λ o. IsWaiting o n c.now) own.own (subst (λ k. IsWaiting c.own k c.now) own.size due.waits) in
    let from : m.from < n = subst (λ k. m.from < k) own.size due.next.no_orphan.no_stranger.from in
    let follow : MayFollow w.programs w.live (entry_of m) = record {
      to = subst (λ (d : Entry). d.to < n) is (omega arith);
      from = from;
      number = due.next.number ∙ subst (λ (d : Entry). slice_index c.now.got m.from ≡ count_from m.from (received d.to w.live)) is (got_counts (program_at w.programs p) p n m.from c.now (history v p) r.state from);
      said = no_orphan v c m u.starts due.next.no_orphan.kept (s.frames i m frame);
      waits = subst (λ (d : Entry). LeadsToWait (program_at w.programs d.to) d.to n (received d.to w.live)) is (whole_waits (program_at w.programs p) p n c.now (history v p) r.state waits);
    } in
    record {
      legal = one_more w.programs w.live e s.legal (subst (MayFollow w.programs w.live) (sym is) follow);
      frames = λ j f there. let old = s.frames j f there in record { from = old.from; known = old.known; said = elim old.said [ inl cut ↦ inl cut | inr said ↦ inr (at_entry v e f.from f.tag.interval (Makes (program_at w.programs f.from) f.from (length w.programs) f.to f.ssn (record { interval = f.tag.interval; body = f.body })) said) ] };
      outputs = λ q j o b. at_entry v e q o.interval (Makes (program_at w.programs q) q (length w.programs) (length w.programs) j (output_entry o)) (s.outputs q j o b);
      rows = λ row a. at_entry v e row.pid row.interval (RowOf row.pid (length w.programs) row.vec row.got) (s.rows row a);
      stored = λ q held a. stored_more v e q held within (λ same.
          let t = s.running q c held (subst (λ o. slice_get w.cores o ≡ Some (Some c)) (sym same) at) a (inl (subst (λ o. slice_get w.places o ≡ Some ProcessState.Up) (sym same) place)) in
          (c, t.above, low_first v q held c (interval_is v q held c t))) (s.stored q held a);
      backed = s.backed;
      running = λ q d held f holds runs. elim (at_change w.cores p q (Some d) (Some (taken c m)) f) [
        | inl same ↦ subst (λ o. IsRunning (with_entry v e) o held d) (sym same.0)
            (subst (IsRunning (with_entry v e) p held) (sym (once d (taken c m) same.1))
            (running_taken v e held c m within is own.own own.size due (s.running p c held at (subst (λ o. slice_get w.contents o ≡ Some held) same.0 holds) (subst (Runs w) same.0 runs))))
        | inr other ↦ running_other v e q held d within other.0 (s.running q d held other.1 holds runs)
      ];
      up = λ q d f stands. elim (at_change w.cores p q (Some d) (Some (taken c m)) f) [
        | inl same ↦ subst (λ o. IsUpIn w.manager o d) (sym same.0) (subst (IsUpIn w.manager p) (sym (once d (taken c m) same.1)) (record { round = u.round; starts = u.starts; inc = u.inc; away = u.away }))
        | inr other ↦ s.up q d other.1 stands
      ];
      joined = λ q x f. elim (either q p) [
        | inl same ↦ absurd (presence_apart x (presence_of (presences_of w.manager.gathering) p) u.away (subst (λ o. presence_of (presences_of w.manager.gathering) o ≡ Joined x) same f))
        | inr other ↦ s.joined q x f ∙ ap length (sym (theirs v e q other))
      ];
      failed = s.failed;
      gathered = s.gathered;
      current = s.current;
      known = s.known;
      ends = λ q declared held stands old holds. elim (either q p) [
        | inl same ↦ absurd (up_apart declared (once ProcessState.Up (ProcessState.Down declared) (sym place ∙ subst (λ o. slice_get w.places o ≡ Some (ProcessState.Down declared)) same stands)))
        | inr other ↦ subst (λ k. EndsAt held k) (ap length (sym (theirs v e q other))) (s.ends q declared held stands old holds)
      ];
      behind = λ q lt news. elim (either q p) [
        | inl same ↦ absurd (no_news (subst (HasNews w) same news))
        | inr other ↦ ap length (theirs v e q other) ∙ s.behind q lt news
      ];
      inside = λ q d f stands runs. elim (at_change w.cores p q (Some d) (Some (taken c m)) f) [
        | inl same ↦ subst (λ o. d.inc ≡ newest_of w.manager.starts o) (sym same.0) (ap (λ (k : CoreState). k.inc) (once d (taken c m) same.1) ∙ u.inc)
        | inr other ↦ s.inside q d other.1 stands runs
      ];
      beyond = λ q d f stands news back. elim (at_change w.cores p q (Some d) (Some (taken c m)) f) [
        | inl same ↦ absurd (no_news (subst (HasNews w) same.0 news))
        | inr other ↦ s.beyond q d other.1 stands news back
      ];
    }
  where
    no_news : HasNews w e.to → ⊥
    no_news news = let same = s.current e.to place in omega arith
