-- In which interval the process of a store stands, and why it does not.
use Rattle.std.proofs.Common.{◌≡◌, inl, inr, ℕ, ◌+◌, ◌≤◌, List, [], ◌∷◌, ◌++◌, length, None, refl, sym, ap, ◌∙◌, subst, arith}
use Rattle.std.specs.Prelude.{Bool, IfErr, Result, Err}
use Rattle.std.specs.FinMap.{get}
use Rattle.std.proofs.lemmas.Bool.{cases_lt}
use Rattle.om_stable.specs.Calls.{UsesStore}
use Rattle.om_stable.specs.Count.{Rose}
use Rattle.om_stable.specs.declared.stable.TheConstants.{LAST_COUNT}
use Rattle.om_format.specs.Checkpoints.{CheckpointRecord, IsSpelled}
use Rattle.om_format.proofs.Checkpoints.{one_checkpoint}
use Rattle.om_format.specs.Receipts.{ReceiptRecord}
use Rattle.om_machine.specs.State.{State}
use Rattle.om_process.specs.Core.{CoreState, cluster_size, settled}
use Rattle.om_process.specs.Replays.{process_of_checkpoint}
use Rattle.om_process.specs.Stored.{anyone, BeginsWith, IsNoMatterOfContent, IsReplay, Refuses}
use Rattle.om_process.specs.declared.limits.TheConstants.{LAST_INTERVAL}
use Rattle.om_process.specs.declared.replay.ReplayFault.{ReplayFault}
use Rattle.om_process.specs.declared.replay.ReplayFault.TheVariants as faults
use Rattle.om_process.specs.steps.Rows.{RefusesStart}
use Rattle.om_process.proofs.Basics.{some_once}
use Rattle.om_stable.specs.Content.{Content, IsEffective, Records, between, rows_of}
use Rattle.om_timeline.specs.Timeline.{TimelineState, at, machine_here, told_timeline}
use Rattle.om_timeline.specs.declared.deed.Deed.TheVariants.{Ran}
use Rattle.om_world.specs.declared.event.Event.TheVariants as events
use Rattle.om_stored_timeline.specs.declared.following.Follower.{Follower}
use Rattle.om_stored_timeline.specs.Following.{IsFollowed, IsToldFrom, deeds_of, events_of}
use Rattle.om_stored_timeline.specs.Stored.{IsLastStored, IsTimelineAt, RefusesStored, event_of}
use Rattle.om_stored_timeline.specs.steps.Walking.{Found, IsLed}
use Rattle.om_stored_timeline.proofs.Rows.{followed_of, received_many}

-- ---- the last interval
pub last_as : (held : Content) (cp : CheckpointRecord) (x : ℕ) (begun f : Follower) (found : Found) → BeginsWith anyone held LAST_INTERVAL cp → rows_of found ≡ between held.receipts cp.head.interval LAST_INTERVAL
    → IsLed begun found f → begun.alone.own ≡ cp.head.pid → begun.alone.n ≡ cp.n → begun.interval ≡ cp.head.interval → begun.alone.machine ≡ (process_of_checkpoint cp).machine → x ≡ f.interval → IsLastStored held x
last_as held cp x begun f found begins is led is_own is_n at machine last =
    let along = led.along in
    let rs : List ReceiptRecord = along.receipts in
    let within : cp.head.interval ≤ LAST_INTERVAL = begins.effective.within in
    let low : begun.interval ≤ LAST_INTERVAL = omega (arith, within, at) in
    let followed : IsFollowed held.receipts begun.alone.own begun.alone.n begun.interval begun.alone.machine rs =
    followed_of held.receipts begun.alone.own begun.alone.n begun.interval led.k f.interval begun.alone.machine found rs (is ∙ ap (λ b. between held.receipts b LAST_INTERVAL) (sym at)) low led.within
    along.gapless along.spelled along.fit along.interval led.ends in
    let many = received_many found led.k rs led.within along.spelled in
    let far : f.interval ≡ begun.interval + led.k = along.interval in
    record {
      checkpoint = cp;
      begins = begins;
      receipts = rs;
      followed = subst (λ m. IsFollowed held.receipts cp.head.pid cp.n cp.head.interval m rs) machine
          (subst (λ b. IsFollowed held.receipts cp.head.pid cp.n b begun.alone.machine rs) at
          (subst (λ k. IsFollowed held.receipts cp.head.pid k begun.interval begun.alone.machine rs) is_n
          (subst (λ o. IsFollowed held.receipts o begun.alone.n begun.interval begun.alone.machine rs) is_own followed)));
      is = omega (arith, last, far, at, many);
    }

-- ---- where it stands
begin_replay : (held : Content) (x : ℕ) (cp : CheckpointRecord) → BeginsWith anyone held x cp → cp.n ≡ length cp.head.vec → IsReplay held cp.head.interval (settled cp.head.pid (process_of_checkpoint cp) 0 0 [])
begin_replay held x cp begins size =
    let here : cp.head.interval ≤ cp.head.interval = omega arith in
    let e : cp.head.interval ≡ cp.head.interval + 0 = omega arith in
    record {
      checkpoint = cp;
      begins = record {
        effective = record { within = here; has = begins.effective.has; greatest = λ y low there. low };
        stored = begins.stored;
        meant = tt;
      };
      all_there = λ z low high. absurd (omega (arith, low, high));
      pid = refl;
      size = size;
      receipts = [];
      stored = tt;
      last = e;
      replayed = refl;
    }

pub at_begin : (held : Content) (x own n begin event : ℕ) (cp : CheckpointRecord) (there : CoreState) (m : State) (told t : TimelineState) → BeginsWith anyone held x cp → IsReplay held x there → cp.n ≡ length cp.head.vec
    → own ≡ cp.head.pid → n ≡ cp.n → begin ≡ cp.head.interval → m ≡ (process_of_checkpoint cp).machine → event ≡ event_of begin x → IsToldFrom held.receipts own n begin m told
    → t ≡ at told event 0 → machine_here t ≡ there.now.machine → IsTimelineAt held x own t
at_begin held x own n begin event cp there m told t begins replay size is_own is_n at_interval machine is_event is_told stands here = record {
  begin = begin;
  first = settled cp.head.pid (process_of_checkpoint cp) 0 0 [];
  is_first = subst (λ b. IsReplay held b (settled cp.head.pid (process_of_checkpoint cp) 0 0 [])) (sym at_interval) (begin_replay held x cp begins size);
  is_own = sym is_own;
  told = told;
  is_told = subst (λ k. IsToldFrom held.receipts own k begin (process_of_checkpoint cp).machine told) (is_n ∙ size) (subst (λ s. IsToldFrom held.receipts own n begin s told) machine is_told);
  stands = stands ∙ ap (λ e. at told e 0) is_event;
  there = there;
  is_there = replay;
  is_here = here;
  from = inl (subst (IsEffective held.checkpoints x) (sym at_interval) begins.effective);
}

same_effective : (held : Records) (x c d : ℕ) → IsEffective held x c → IsEffective held x d → c ≡ d
same_effective held x c d one other =
    let up : c ≤ d = other.greatest c one.within one.has in
    let down : d ≤ c = one.greatest d other.within other.has in
    omega (arith, up, down)

same_checkpoint : (held : Content) (x : ℕ) (a b : CheckpointRecord) → BeginsWith anyone held x a → BeginsWith anyone held x b → a ≡ b
same_checkpoint held x a b one other =
    let at_same : a.head.interval ≡ b.head.interval = same_effective held.checkpoints x a.head.interval b.head.interval one.effective other.effective in
    let bytes : one.stored.0 ≡ other.stored.0 = some_once one.stored.0 other.stored.0 (sym one.stored.1 ∙ ap (get held.checkpoints) at_same ∙ other.stored.1) in
    let spelled : IsSpelled a other.stored.0 = subst (IsSpelled a) bytes one.stored.2 in
    (one_checkpoint other.stored.0 spelled.0 other.stored.2.0 a b spelled.1 other.stored.2.1).1

pub at_replay : (held : Content) (x own n begin event : ℕ) (cp : CheckpointRecord) (there : CoreState) (m : State) (astray told t : TimelineState) → BeginsWith anyone held x cp → IsReplay held x there → cp.n ≡ length cp.head.vec
    → own ≡ cp.head.pid → n ≡ cp.n → begin ≡ cp.head.interval → m ≡ (process_of_checkpoint cp).machine → event ≡ event_of begin x → IsToldFrom held.receipts own n begin m astray
    → (event ≤ length astray.deeds → machine_here (at astray event 0) ≡ there.now.machine → ⊥)
    → IsToldFrom held.receipts own n x there.now.machine t → IsTimelineAt held x own t
at_replay held x own n begin event cp there m astray told t begins replay size is_own is_n at_interval machine is_event is_astray elsewhere is_told =
    let same : replay.checkpoint ≡ cp = same_checkpoint held x replay.checkpoint cp replay.begins begins in
    let theirs : there.own ≡ own = sym replay.pid ∙ ap (λ (c : CheckpointRecord). c.head.pid) same ∙ sym is_own in
    let many : n ≡ cluster_size there.now = is_n ∙ ap (λ (c : CheckpointRecord). c.n) (sym same) ∙ replay.size in
    let none : event_of x x ≡ 0 = omega arith in
    let whole : IsToldFrom held.receipts own (cluster_size there.now) x there.now.machine t = subst (λ k. IsToldFrom held.receipts own k x there.now.machine t) many is_told in
    record {
      begin = x;
      first = there;
      is_first = replay;
      is_own = theirs;
      told = t;
      is_told = whole;
      stands = whole.is ∙ ap (λ e. at (told_timeline own (cluster_size there.now) there.now.machine (events_of own (cluster_size there.now) there.now.machine whole.receipts ++ events.Run own whole.rest ∷ []) (deeds_of own (cluster_size there.now) there.now.machine whole.receipts ++ Ran whole.rest ∷ [])) e 0) (sym none) ∙ ap (λ s. at s (event_of x x) 0) (sym whole.is);
      there = there;
      is_there = replay;
      is_here = ap machine_here whole.is;
      from = inr (
        refl,
        record {
          checkpoint = cp;
          begins = begins;
          told = astray;
          is_told = subst (λ b. IsToldFrom held.receipts cp.head.pid cp.n b (process_of_checkpoint cp).machine astray) at_interval
              (subst (λ s. IsToldFrom held.receipts cp.head.pid cp.n begin s astray) machine
              (subst (λ k. IsToldFrom held.receipts cp.head.pid k begin m astray) is_n
              (subst (λ o. IsToldFrom held.receipts o n begin m astray) is_own is_astray)));
          not_there = subst (λ e. e ≤ length astray.deeds → machine_here (at astray e 0) ≡ there.now.machine → ⊥) (is_event ∙ ap (λ b. event_of b x) at_interval) elsewhere;
        },
      );
    }

-- ---- why it does not
pub start_refuses : (held : Content) (x : ℕ) (fault : ReplayFault) → RefusesStart held x fault → Refuses anyone held x fault
start_refuses held x faults.NoCheckpoint why = why
start_refuses held x (faults.Damaged y) why = inl why
start_refuses held x (faults.MissingReceipt y) why = absurd why
start_refuses held x (faults.Mismatch y) why = absurd why
start_refuses held x faults.Fault why = tt
start_refuses held x faults.Memory why = tt

pub no_matter_refuses : (held : Content) (x : ℕ) (fault : ReplayFault) → IsNoMatterOfContent fault → Refuses anyone held x fault
no_matter_refuses held x why (inl is) = subst (Refuses anyone held x) (sym is) tt
no_matter_refuses held x why (inr is) = subst (Refuses anyone held x) (sym is) tt

pub no_matter_start : (held : Content) (x : ℕ) (fault : ReplayFault) → IsNoMatterOfContent fault → RefusesStart held x fault
no_matter_start held x why (inl is) = subst (RefusesStart held x) (sym is) tt
no_matter_start held x why (inr is) = subst (RefusesStart held x) (sym is) tt

-- one who is refused at the last interval
pub last_refused : {A : Type 0} (held : Content) (r : Result A ReplayFault) (fault : ReplayFault) → r ≡ Err fault → RefusesStart held LAST_INTERVAL fault → IfErr r (RefusesStored held None)
last_refused {A} held r why is refused =
    let P : Result A ReplayFault → Type 0 = λ (x : Result A ReplayFault). IfErr x (RefusesStored held None) in
    subst P (sym is) (LAST_INTERVAL, start_refuses held LAST_INTERVAL why refused)

-- ---- two calls that use a store
rises : (old mid new : ℕ) → old ≤ mid → Rose mid new → Rose old new
rises old mid new up (inl more) = inl (omega (arith, up, more))
rises old mid new up (inr last) =
    let full : mid ≡ LAST_COUNT = last.0 in
    let same : new ≡ mid = last.1 in
    elim (cases_lt old new) [ inl less ↦ inl less | inr most ↦ inr (omega (arith, up, full, same, most), omega (arith, up, same, most)) ]

pub uses_more : {S : Type 0} (failed : S → ℕ) (is_clean : S → Bool) (IsSound : S → Type 0) (old mid new : S) (First Second : Type 0) → UsesStore failed is_clean IsSound old First mid → UsesStore failed is_clean IsSound mid Second new
    → UsesStore failed is_clean IsSound old Second new
uses_more failed is_clean IsSound old mid new First Second first second =
    let low : failed old ≤ failed mid = first.count in
    let high : failed mid ≤ failed new = second.count in
    record {
      fault = λ fails. rises (failed old) (failed mid) (failed new) low (second.fault fails);
      count = omega (arith, low, high);
      clean = λ clean. first.clean (second.clean clean);
      sound = λ clean sound. second.sound clean (first.sound (second.clean clean) sound);
    }
