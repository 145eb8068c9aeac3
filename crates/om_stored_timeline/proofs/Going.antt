-- A process on its way along receipts.
use Rattle.std.proofs.Common.{◌≡◌, ◌≢◌, inl, inr, ℕ, ◌+◌, ◌<◌, List, [], ◌∷◌, ◌++◌, length, drop, get_or, add_assoc, append_assoc, refl, sym, ap, ◌∙◌, subst, arith}
use Rattle.std.specs.Prelude.{Vec}
use Rattle.std.specs.declared.alloc.Global.{Global}
use Rattle.std.proofs.lemmas.List.{append-nil, drop_all}
use Rattle.om_format.specs.Receipts.{ReceiptRecord}
use Rattle.om_machine.specs.State.{State}
use Rattle.om_process.proofs.RowLemmas.{gapless_more, rows_from, spelled_more}
use Rattle.om_stable.specs.Content.{rows_of}
use Rattle.om_timeline.specs.Alone.{HasTurns, turns_alone}
use Rattle.om_timeline.specs.declared.deed.Deed.{Deed}
use Rattle.om_timeline.specs.declared.deed.Deed.TheVariants.{Ran, Took}
use Rattle.om_world.specs.declared.event.Event.{Event}
use Rattle.om_world.specs.declared.event.Event.TheVariants as events
use Rattle.om_stored_timeline.specs.declared.following.Follower.{Follower}
use Rattle.om_stored_timeline.specs.Following.{FitAlone, FitsAlone, behind_receipt, behind_receipts, deeds_of, events_of, turns_to}
use Rattle.om_stored_timeline.specs.steps.Walking.{EndsRows, Found, IsAlong, IsAtReceipt, IsGoneOn, IsLed, IsTakenIn, IsUnfit}

-- ---- one receipt more
behind_more : (own n : ℕ) (m : State) (rs : List ReceiptRecord) (r : ReceiptRecord) → behind_receipts own n m (rs ++ r ∷ []) ≡ behind_receipt own n (behind_receipts own n m rs) r
behind_more own n m [] r = refl
behind_more own n m (x ∷ rs) r = behind_more own n (behind_receipt own n m x) rs r

fit_more : (own n : ℕ) (m : State) (rs : List ReceiptRecord) (r : ReceiptRecord) → FitAlone own n m rs → FitsAlone own n (behind_receipts own n m rs) r → FitAlone own n m (rs ++ r ∷ [])
fit_more own n m [] r fit fits = (fits, tt)
fit_more own n m (x ∷ rs) r fit fits = (fit.0, fit_more own n (behind_receipt own n m x) rs r fit.1 fits)

deeds_more : (own n : ℕ) (m : State) (rs : List ReceiptRecord) (r : ReceiptRecord)
    → deeds_of own n m (rs ++ r ∷ []) ≡ deeds_of own n m rs ++ Ran (turns_to (behind_receipts own n m rs) r) ∷ Took r.from r.body ∷ []
deeds_more own n m [] r = refl
deeds_more own n m (x ∷ rs) r = ap (λ ds. Ran (turns_to m x) ∷ Took x.from x.body ∷ ds) (deeds_more own n (behind_receipt own n m x) rs r)

events_more : (own n : ℕ) (m : State) (rs : List ReceiptRecord) (r : ReceiptRecord)
    → events_of own n m (rs ++ r ∷ []) ≡ events_of own n m rs ++ events.Run own (turns_to (behind_receipts own n m rs) r) ∷ events.Give own r.interval ∷ []
events_more own n m [] r = refl
events_more own n m (x ∷ rs) r = ap (λ es. events.Run own (turns_to m x) ∷ events.Give own x.interval ∷ es) (events_more own n (behind_receipt own n m x) rs r)

-- ---- where it stands
pub gone_still : (f : Follower) → IsAtReceipt f → IsGoneOn f f
gone_still f at = record {
  turns = subst (λ k. HasTurns f.alone.own f.alone.n k f.alone.machine) (sym at.still) (record { takes = tt });
  machine = ap (λ k. turns_alone f.alone.own f.alone.n k f.alone.machine) (sym at.still);
  own = refl;
  n = refl;
  interval = refl;
  events = refl;
  deeds = refl;
}

pub along_none : (f : Follower) (found : Found) → IsAtReceipt f → IsAlong f found 0 f
along_none f found at = record {
  gapless = tt;
  receipts = [];
  spelled = tt;
  fit = tt;
  machine = ap (λ k. turns_alone f.alone.own f.alone.n k f.alone.machine) (sym at.still);
  turns = subst (λ k. HasTurns f.alone.own f.alone.n k f.alone.machine) (sym at.still) (record { takes = tt });
  own = refl;
  n = refl;
  interval = omega arith;
  events = sym (append-nil f.events.items);
  deeds = sym (append-nil f.deeds.items);
}

-- what the receipts came to, right behind the last of them
machine_at : (begun f : Follower) (found : Found) (k : ℕ) (along : IsAlong begun found k f) → IsAtReceipt f → f.alone.machine ≡ behind_receipts begun.alone.own begun.alone.n begun.alone.machine along.receipts
machine_at begun f found k along at =
    along.machine ∙ ap (λ i. turns_alone begun.alone.own begun.alone.n i (behind_receipts begun.alone.own begun.alone.n begun.alone.machine along.receipts)) at.still

-- some turns more
pub along_gone : (begun f next : Follower) (found : Found) (k : ℕ) → IsAlong begun found k f → IsAtReceipt f → IsGoneOn f next → IsAlong begun found k next
along_gone begun f next found k along at gone =
    let own : ℕ = begun.alone.own in
    let n : ℕ = begun.alone.n in
    let there : State = behind_receipts own n begun.alone.machine along.receipts in
    let here : f.alone.machine ≡ there = machine_at begun f found k along at in
    record {
      gapless = along.gapless;
      receipts = along.receipts;
      spelled = along.spelled;
      fit = along.fit;
      machine = gone.machine ∙ ap (λ i. turns_alone i f.alone.n next.done f.alone.machine) along.own ∙ ap (λ i. turns_alone own i next.done f.alone.machine) along.n ∙ ap (turns_alone own n next.done) here;
      turns = subst (HasTurns own n next.done) here (subst (λ i. HasTurns own i next.done f.alone.machine) along.n (subst (λ i. HasTurns i f.alone.n next.done f.alone.machine) along.own gone.turns));
      own = gone.own ∙ along.own;
      n = gone.n ∙ along.n;
      interval = gone.interval ∙ along.interval;
      events = gone.events ∙ along.events;
      deeds = gone.deeds ∙ along.deeds;
    }

-- one receipt more
pub along_more : (begun f next : Follower) (found : Found) (k : ℕ) (item : ℕ × Vec ℕ Global) → IsAlong begun found k f → IsAtReceipt f → k < length found → item ≡ get_or found k item → item.0 ≡ f.interval + 1
    → IsTakenIn f item.0 item.1.items next → IsAlong begun found (k + 1) next
along_more begun f next found k item along at within is follows taken =
    let own : ℕ = begun.alone.own in
    let n : ℕ = begun.alone.n in
    let m : State = begun.alone.machine in
    let rs : List ReceiptRecord = along.receipts in
    let r : ReceiptRecord = taken.receipt in
    let there : State = behind_receipts own n m rs in
    let here : f.alone.machine ≡ there = machine_at begun f found k along at in
    let far : f.interval ≡ begun.interval + k = along.interval in
    let number : item.0 ≡ begun.interval + k + 1 = omega (arith, far, follows) in
    let fits : FitsAlone own n there r =
    subst (λ x. FitsAlone own n x r) here (subst (λ i. FitsAlone own i f.alone.machine r) along.n (subst (λ i. FitsAlone i f.alone.n f.alone.machine r) along.own taken.fits)) in
    let came : next.alone.machine ≡ behind_receipts own n m (rs ++ r ∷ []) =
    taken.machine ∙ ap (λ i. behind_receipt i f.alone.n f.alone.machine r) along.own ∙ ap (λ i. behind_receipt own i f.alone.machine r) along.n
    ∙ ap (λ x. behind_receipt own n x r) here ∙ sym (behind_more own n m rs r) in
    let told : List Event = events.Run own (turns_to there r) ∷ events.Give own r.interval ∷ [] in
    let done : List Deed = Ran (turns_to there r) ∷ Took r.from r.body ∷ [] in
    record {
      gapless = gapless_more begun.interval found k item within is along.gapless number;
      receipts = rs ++ r ∷ [];
      spelled = spelled_more found k item rs r within is along.spelled taken.spells taken.named;
      fit = fit_more own n m rs r along.fit fits;
      machine = came ∙ ap (λ i. turns_alone own n i (behind_receipts own n m (rs ++ r ∷ []))) (sym taken.done);
      turns = subst (λ i. HasTurns own n i (behind_receipts own n m (rs ++ r ∷ []))) (sym taken.done) (record { takes = tt });
      own = taken.own ∙ along.own;
      n = taken.n ∙ along.n;
      interval = taken.interval ∙ number ∙ add_assoc begun.interval k 1;
      events = taken.events ∙ ap (λ i. f.events.items ++ events.Run i (turns_to f.alone.machine r) ∷ events.Give i r.interval ∷ []) along.own
          ∙ ap (λ x. f.events.items ++ events.Run own (turns_to x r) ∷ events.Give own r.interval ∷ []) here
          ∙ ap (λ es. es ++ told) along.events ∙ append_assoc begun.events.items (events_of own n m rs) told ∙ ap (λ es. begun.events.items ++ es) (sym (events_more own n m rs r));
      deeds = taken.deeds ∙ ap (λ x. f.deeds.items ++ Ran (turns_to x r) ∷ Took r.from r.body ∷ []) here
          ∙ ap (λ ds. ds ++ done) along.deeds ∙ append_assoc begun.deeds.items (deeds_of own n m rs) done ∙ ap (λ ds. begun.deeds.items ++ ds) (sym (deeds_more own n m rs r));
    }

-- ---- where it ends
pub led_all : (begun f : Follower) (found : Found) (k : ℕ) → IsAlong begun found k f → k ≡ length found → IsLed begun found f
led_all begun f found k along all =
    let own : ℕ = begun.alone.own in
    let n : ℕ = begun.alone.n in
    let none : rows_of (drop k found) ≡ [] = ap rows_of (drop_all k found (omega arith)) in
    record {
      k = k;
      within = omega arith;
      along = along;
      ends = subst (EndsRows own n (behind_receipts own n begun.alone.machine along.receipts) f.interval) (sym none) tt;
    }

pub led_gap : (begun f : Follower) (found : Found) (k : ℕ) (item : ℕ × Vec ℕ Global) → IsAlong begun found k f → k < length found → item ≡ get_or found k item → item.0 ≢ f.interval + 1 → IsLed begun found f
led_gap begun f found k item along within is other =
    let own : ℕ = begun.alone.own in
    let n : ℕ = begun.alone.n in
    record {
      k = k;
      within = omega arith;
      along = along;
      ends = subst (EndsRows own n (behind_receipts own n begun.alone.machine along.receipts) f.interval) (sym (rows_from found k item within is)) (inl other);
    }

pub led_unfit : (begun f next : Follower) (found : Found) (k : ℕ) (item : ℕ × Vec ℕ Global) → IsAlong begun found k f → IsAtReceipt f → k < length found → item ≡ get_or found k item → item.0 ≡ f.interval + 1
    → IsUnfit f.alone.own f.alone.n f.alone.machine item.0 item.1.items → IsGoneOn f next → IsLed begun found next
unfolding along_gone
led_unfit begun f next found k item along at within is follows unfit gone =
    let own : ℕ = begun.alone.own in
    let n : ℕ = begun.alone.n in
    let there : State = behind_receipts own n begun.alone.machine along.receipts in
    let here : f.alone.machine ≡ there = machine_at begun f found k along at in
    let none : IsUnfit own n there item.0 item.1.items =
    subst (λ x. IsUnfit own n x item.0 item.1.items) here (subst (λ i. IsUnfit own i f.alone.machine item.0 item.1.items) along.n (subst (λ i. IsUnfit i f.alone.n f.alone.machine item.0 item.1.items) along.own unfit)) in
    record {
      k = k;
      within = omega arith;
      along = along_gone begun f next found k along at gone;
      ends = subst (EndsRows own n there next.interval) (sym (rows_from found k item within is)) (inr (follows ∙ ap (λ i. i + 1) (sym gone.interval), none));
    }
