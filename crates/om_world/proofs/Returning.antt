-- A process that comes back: what its store has suffices, and what is replayed from it stands where the process was cut to.
use Rattle.std.proofs.Common.{◌≡◌, ◌≢◌, ◌⊎◌, inl, inr, ℕ, zero, suc, ◌+◌, ◌-◌, ◌≤◌, ◌<◌, List, [], ◌∷◌, ◌++◌, length, take, set, Option, Some, None, Bool, true, false, refl, sym, ap, ◌∙◌, subst, arith, length-append, length-set}
use Rattle.std.specs.Prelude.{cond, nat_le, slice_get, slice_index, IsSome}
use Rattle.std.specs.FinMap.{get, retain_keys}
use Rattle.std.proofs.lemmas.Bool.Decides.{nat_tests}
use Rattle.std.proofs.lemmas.List.{append-nil, length-take-le, take_all, take_at}
use Rattle.std.proofs.Math.Seq.{append_snoc}
use Rattle.om_format.proofs.Checkpoints.{one_checkpoint}
use Rattle.om_format.proofs.Receipts.{one_receipt}
use Rattle.om_format.specs.Checkpoints.{CheckpointRecord, IsSpelled}
use Rattle.om_format.specs.Receipts.{ReceiptRecord}
use Rattle.om_stable.specs.Content.{Content, Records, IsEffective, kept_by_cut}
use Rattle.om_stable.proofs.RecordLemmas.{get-retained}
use Rattle.om_process.specs.Process.{Process}
use Rattle.om_process.specs.Turns.{Reaches}
use Rattle.om_process.specs.Replays.{FitsReceipt, Replayed, received_of, process_of_checkpoint}
use Rattle.om_process.specs.steps.Pieces.{receipts_of}
use Rattle.om_process.specs.Claims.{CheckpointOf, RecordOf, RecordsAlong}
use Rattle.om_process.specs.Core.{CoreState, cluster_size}
use Rattle.om_process.specs.Resumes.{resumed}
use Rattle.om_process.specs.Stored.{AreReceiptsAfter, CanReplay, IsReceiptAt, IsReplay, the_process}
use Rattle.om_process.proofs.Making.{interval_along}
use Rattle.om_process.proofs.Replays.{replayed_along, replays}
use Rattle.om_process.proofs.Runs.{leads_grow, replay_leads}
use Rattle.om_recover.specs.Rows.{Has, HasRow}
use Rattle.om_recover.specs.Recoverable.{IsStable}
use Rattle.om_recover.specs.declared.row.Row.{Row}
use Rattle.om_recover.specs.declared.row.RowKind.{RowKind}
use Rattle.om_recover.specs.declared.row.RowKind.TheVariants.{Checkpoint, Log}
use Rattle.om_manager.specs.Gatherings.{presence_of, presences_of}
use Rattle.om_manager.specs.declared.presence.Presence.{Presence}
use Rattle.om_manager.specs.declared.presence.Presence.TheVariants.{Away, Failed, Joined}
use Rattle.om_world.specs.declared.process_state.ProcessState.{ProcessState}
use Rattle.om_world.specs.Failures.{HasNews, IsToGoOn, put_up}
use Rattle.om_world.specs.Live.{program_at}
use Rattle.om_world.specs.World.{Health, WorldState, recovered}
use Rattle.om_world.specs.steps.Past.{Past, past_of, history}
use Rattle.om_world.specs.steps.Returning.{IsBackIn, IsBeyond}
use Rattle.om_world.specs.steps.Sound.{HasBytes, HasShape, IsCoreOf, IsOld, IsRunning, IsStored, IsUpIn, KeptWithin, LogOf, Runs, Sound}
use Rattle.om_world.proofs.Kept.{kept_grown}
use Rattle.om_world.proofs.Legal.{take_take}
use Rattle.om_world.proofs.Lists.{at_change, either, none_in, none_some, once, set_apart, set_there, there}
use Rattle.om_world.proofs.Raising.{recovery_within}
use Rattle.om_world.proofs.Recording.{set_back}

-- ---- records of a store
has_some : (o : Option (List ℕ)) (x : List ℕ) → o ≡ Some x → IsSome o
has_some o x e = cc

none_has : (o : Option (List ℕ)) → o ≡ None → IsSome o → ⊥
none_has o e f = cc

pub what : (o : Option (List ℕ)) → IsSome o → (x : List ℕ) × (o ≡ Some x)
what None h = absurd (none_has None refl h)
what (Some x) h = (x, refl)

-- the greatest interval within x that has a record, where one has
last_record : (m : Records) (x y : ℕ) → y ≤ x → IsSome (get m y) → (c : ℕ) × IsEffective m x c × (y ≤ c)
last_record m zero y le has = (y, record { within = le; has = has; greatest = λ z low h. nothing z low }, same y)
  where
    nothing : (z : ℕ) → z ≤ 0 → z ≤ y
    nothing z low = omega arith

    same : (y : ℕ) → y ≤ y
    same y = omega arith
last_record m (suc x) y le has = go (get m (suc x)) refl (λ low. last_record m x y low has)
  where
    go : (o : Option (List ℕ)) → get m (suc x) ≡ o → (y ≤ x → (c : ℕ) × IsEffective m x c × (y ≤ c)) → (c : ℕ) × IsEffective m (suc x) c × (y ≤ c)
    go (Some b) at below = (suc x, record { within = same (suc x); has = has_some (get m (suc x)) b at; greatest = λ z low h. low }, le)
      where
        same : (z : ℕ) → z ≤ z
        same z = omega arith
    go None at below = elim (either y (suc x)) [
      | inl is ↦ absurd (none_has (get m (suc x)) at (subst (λ z. IsSome (get m z)) is has))
      | inr not ↦
          let r = below (omega arith) in let low = r.1.within in (
            r.0,
            record {
              within = omega arith;
              has = r.1.has;
              greatest = λ z le2 h. elim (either z (suc x)) [
                | inl is ↦ absurd (none_has (get m (suc x)) at (subst (λ k. IsSome (get m k)) is h))
                | inr other ↦ r.1.greatest z (omega arith) h
              ];
            },
            r.2,
          )
    ]

kept_below : (m : Records) (x y : ℕ) → y ≤ x → get (retain_keys m (λ k. nat_le k x)) y ≡ get m y
kept_below m x y le = get-retained m (λ k. nat_le k x) y ∙ go (nat_le y x) (grind (arith, nat_tests))
  where
    go : (b : Bool) → b ≡ true → cond b (get m y) None ≡ get m y
    go b e = rw e refl

none_above : (m : Records) (x y : ℕ) → x < y → get (retain_keys m (λ k. nat_le k x)) y ≡ None
none_above m x y lt = get-retained m (λ k. nat_le k x) y ∙ go (nat_le y x) (grind (arith, nat_tests))
  where
    go : (b : Bool) → b ≡ false → cond b (get m y) None ≡ None
    go b e = rw e refl

was_kept : (m : Records) (x y : ℕ) (bytes : List ℕ) → get (retain_keys m (λ k. nat_le k x)) y ≡ Some bytes → get m y ≡ Some bytes
was_kept m x y bytes at = elim (up_to y x) [
  | inl le ↦ sym (kept_below m x y le) ∙ at
  | inr lt ↦ absurd (none_some (get (retain_keys m (λ k. nat_le k x)) y) bytes (none_above m x y lt) at)
]
  where
    up_to : (a b : ℕ) → (a ≤ b) ⊎ (b < a)
    up_to a b = grind arith

-- ---- receipts of a store
-- a stored receipt of this process's next interval: the receipts up to it are those before and this one, and it fits
record IsNext (v : Past) (p y : ℕ) (r : ReceiptRecord) : Type 0 where
  more : take (y + 1) (history v p) ≡ take y (history v p) ++ received_of r ∷ []
  wait : Process
  reaches : Reaches (program_at v.programs p) p (length v.programs) (take y (history v p)) wait
  fits : FitsReceipt p (length v.programs) wait r

next_of : (v : Past) (p y : ℕ) (r : ReceiptRecord) → y + 1 ≤ length (history v p) → RecordOf (program_at v.programs p) p (length v.programs) r (take (y + 1) (history v p)) → IsNext v p y r
next_of v p y r le of =
    let h = history v p in
    let long : length (take (y + 1) h) ≡ y + 1 = length-take-le (y + 1) h le in
    let parts : length (of.0 ++ received_of r ∷ []) ≡ length of.0 + 1 = length-append of.0 (received_of r ∷ []) in
    let same : length (take (y + 1) h) ≡ length (of.0 ++ received_of r ∷ []) = ap length of.1 in
    let front : of.0 ≡ take y h = sym (take_at of.0 (received_of r ∷ []) y (omega arith)) ∙ sym (ap (take y) of.1) ∙ take_take y (y + 1) h (omega arith) in
    record {
      more = of.1 ∙ ap (λ g. g ++ received_of r ∷ []) front;
      wait = of.2;
      reaches = subst (λ g. Reaches (program_at v.programs p) p (length v.programs) g of.2) front of.3;
      fits = of.4;
    }

-- a receipt that is read where one is stored is that one
read_next : (v : Past) (p : ℕ) (held : Content) (y : ℕ) (r : ReceiptRecord) → IsStored v p held → y + 1 ≤ length (history v p) → IsReceiptAt held.receipts (y + 1) r → IsNext v p y r
read_next v p held y r s le at =
    let d = s.receipts (y + 1) at.0 (omega arith) le at.1 in
    next_of v p y r le (subst (λ x. RecordOf (program_at v.programs p) p (length v.programs) x (take (y + 1) (history v p))) (one_receipt at.0 d.0 r d.1 at.2) d.2.1)

-- a stored receipt is read
stored_next : (v : Past) (p : ℕ) (held : Content) (y : ℕ) → IsStored v p held → y + 1 ≤ length (history v p) → IsSome (get held.receipts (y + 1)) → (r : ReceiptRecord) × IsReceiptAt held.receipts (y + 1) r × IsNext v p y r
stored_next v p held y s le has =
    let bytes = what (get held.receipts (y + 1)) has in
    let d = s.receipts (y + 1) bytes.0 (omega arith) le bytes.1 in
    let n = next_of v p y d.0 le d.2.1 in
    let long : n.wait.interval ≡ length (take y (history v p)) = interval_along (program_at v.programs p) p (length v.programs) n.reaches.0 (take y (history v p)) n.wait n.reaches.1 in
    let few : length (take y (history v p)) ≡ y = length-take-le y (history v p) (omega arith) in
    let is = n.fits.interval in
    (d.0, (bytes.0, bytes.1, d.1, omega arith), n)

-- the receipts that are read lead on along the history
read_along : (v : Past) (p : ℕ) (held : Content) (y : ℕ) (rs : List ReceiptRecord) → IsStored v p held → y + length rs ≤ length (history v p) → AreReceiptsAfter held.receipts y rs → take y (history v p) ++ receipts_of rs ≡ take (y + length rs) (history v p)
read_along v p held y [] s le at = append-nil (take y (history v p)) ∙ ap (λ k. take k (history v p)) (plain y)
  where
    plain : (y : ℕ) → y ≡ y + 0
    plain y = omega arith
read_along v p held y (r ∷ rs) s le at =
    let n = read_next v p held y r s (omega arith) at.0 in
    sym (append_snoc (take y (history v p)) (received_of r) (receipts_of rs)) ∙ ap (λ g. g ++ receipts_of rs) (sym n.more)
    ∙ read_along v p held (y + 1) rs s (omega arith) at.1 ∙ ap (λ k. take k (history v p)) (next y (length rs))
  where
    next : (y n : ℕ) → y + 1 + n ≡ y + suc n
    next y n = omega arith

-- all that are stored are read, and are those of the history
stored_along : (v : Past) (p : ℕ) (held : Content) (k y : ℕ) → IsStored v p held → y + k ≤ length (history v p) → ((z : ℕ) → y < z → z ≤ y + k → IsSome (get held.receipts z))
    → (rs : List ReceiptRecord) × (length rs ≡ k) × AreReceiptsAfter held.receipts y rs × RecordsAlong (program_at v.programs p) p (length v.programs) (take y (history v p)) rs
stored_along v p held zero y s le has = ([], refl, tt, tt)
stored_along v p held (suc k) y s le has =
    let n = stored_next v p held y s (omega arith) (has (y + 1) (omega arith) (omega arith)) in
    let rest = stored_along v p held k (y + 1) s (omega arith) (λ z above within. has z (omega arith) (omega arith)) in (
      n.0 ∷ rest.0,
      ap suc rest.1,
      (n.1, rest.2),
      ((n.2.wait, n.2.reaches, n.2.fits), subst (λ g. RecordsAlong (program_at v.programs p) p (length v.programs) g rest.0) n.2.more rest.3),
    )

-- ---- what the manager's rows say of a store
-- from this checkpoint on the store has all that a replay to x wants
pub record Serves (held : Content) (c x : ℕ) : Type 0 where
  pub within : c ≤ x
  pub checkpoint : IsSome (get held.checkpoints c)
  pub receipts : (y : ℕ) → c < y → y ≤ x → IsSome (get held.receipts y)

backed_has : (w : WorldState) (p x : ℕ) (kind : RowKind) (held : Content) → Sound w → slice_get w.contents p ≡ Some held → Has w.manager.rows kind p x → HasBytes held kind x ⊎ IsOld w.manager p kind x
backed_has w p x kind held s at has =
    subst (λ i. HasBytes held kind i ⊎ IsOld w.manager p kind i) has.interval_is
    (subst (λ k. HasBytes held k has.row.interval ⊎ IsOld w.manager p k has.row.interval) has.kind_is
    (subst (λ o. HasBytes held has.row.kind has.row.interval ⊎ IsOld w.manager o has.row.kind has.row.interval) has.pid_is
    (s.backed has.row held has.there (subst (λ o. slice_get w.contents o ≡ Some held) (sym has.pid_is) at))))

-- a later checkpoint is noted
abbrev IsLater : WorldState → ℕ → ℕ → Type 0
IsLater w p d = (c : ℕ) × Has w.manager.rows Checkpoint p c × (c ≤ recovered w.manager p) × (d < c)

logs_or_later : (w : WorldState) (p d j : ℕ) (held : Content) → Sound w → slice_get w.contents p ≡ Some held → ((y : ℕ) → d < y → y ≤ d + j → Has w.manager.rows Log p y) → ((y : ℕ) → d < y → y ≤ d + j → IsSome (get held.receipts y)) ⊎ IsLater w p d
logs_or_later w p d zero held s at logged = inl (λ y above within. absurd (none y above within))
  where
    none : (y : ℕ) → d < y → y ≤ d + 0 → ⊥
    none y above within = omega arith
logs_or_later w p d (suc j) held s at logged = elim (logs_or_later w p d j held s at (λ y above within. logged y above (omega arith))) [
  | inr later ↦ inr later
  | inl all ↦ elim (backed_has w p (d + suc j) Log held s at (logged (d + suc j) (omega arith) (omega arith))) [
    | inr old ↦ inr (old.checkpoint, old.there, old.within, above d j old.checkpoint old.before)
    | inl has ↦ inl (λ y low high. elim (either y (d + suc j)) [
      | inl is ↦ subst (λ z. IsSome (get held.receipts z)) (sym is) (has_some (get held.receipts (d + suc j)) has.0 has.1)
      | inr not ↦ all y low (omega arith)
    ])
  ]
]
  where
    above : (d j c : ℕ) → d + suc j ≤ c → d < c
    above d j c le = omega arith

here_or_later : (w : WorldState) (p d : ℕ) (held : Content) → Sound w → slice_get w.contents p ≡ Some held → d ≤ recovered w.manager p → Has w.manager.rows Checkpoint p d
    → ((y : ℕ) → d < y → y ≤ recovered w.manager p → Has w.manager.rows Log p y) → Serves held d (recovered w.manager p) ⊎ IsLater w p d
here_or_later w p d held s at le there logged = elim (backed_has w p d Checkpoint held s at there) [
  | inr old ↦ inr (old.checkpoint, old.there, old.within, old.before)
  | inl has ↦ elim (logs_or_later w p d (recovered w.manager p - d) held s at (λ y low high. logged y low (omega arith))) [
    | inl all ↦ inl (record { within = le; checkpoint = has_some (get held.checkpoints d) has.0 has.1; receipts = λ y low high. all y low (omega arith) })
    | inr later ↦ inr later
  ]
]

pub serves : (w : WorldState) (p : ℕ) (held : Content) (k d : ℕ) → Sound w → slice_get w.contents p ≡ Some held → recovered w.manager p ≤ d + k → d ≤ recovered w.manager p → Has w.manager.rows Checkpoint p d
    → ((y : ℕ) → d < y → y ≤ recovered w.manager p → Has w.manager.rows Log p y) → (c : ℕ) × Serves held c (recovered w.manager p)
serves w p held zero d s at enough le there logged = elim (here_or_later w p d held s at le there logged) [
  | inl here ↦ (d, here)
  | inr later ↦ let within = later.2 in let above = later.3 in absurd (omega arith)
]
serves w p held (suc k) d s at enough le there logged = elim (here_or_later w p d held s at le there logged) [
  | inl here ↦ (d, here)
  | inr later ↦ let above = later.3 in serves w p held k later.0 s at (omega arith) later.2 later.1 (λ y low high. logged y (omega arith) high)
]

-- ---- the process whom a round found
-- it stands at its place of the recovery state, as of the last finished round
at_recovered : (w : WorldState) (p : ℕ) → HasShape w → Sound w → p < length w.programs → HasNews w p → recovered w.manager p ≡ length (history (past_of w) p)
at_recovered w p h s lt news =
    let size = h.size in
    let low = recovery_within w h s p in
    let high : slice_index w.manager.last p ≤ recovered w.manager p = h.manager.last.below.each p (let same = h.manager.last.below.same_places in omega arith) in
    let at = s.behind p lt news in
    omega arith

pub can_replay : (w : WorldState) (p : ℕ) (held : Content) → HasShape w → Sound w → p < length w.programs → HasNews w p → slice_get w.contents p ≡ Some held → CanReplay (the_process p (length w.programs)) held (slice_index w.manager.last p)
can_replay w p held h s lt news at =
    let v = past_of w in
    let n = length w.programs in
    let x = slice_index w.manager.last p in
    let size = h.size in
    let behind = s.behind p lt news in
    let is = at_recovered w p h s lt news in
    let stable : IsStable w.manager.rows p (recovered w.manager p) = h.manager.exact.greatest.recoverable.stable p (omega arith) in
    let store = serves w p held (recovered w.manager p) stable.from s at (omega arith) stable.below stable.checkpoint stable.logged in
    let least = store.1.within in
    let e = last_record held.checkpoints x store.0 (omega arith) store.1.checkpoint in
    let low = e.1.within in let high = e.2 in
    let bytes = what (get held.checkpoints e.0) e.1.has in
    let kept = s.stored p held at in
    let c = kept.checkpoints e.0 bytes.0 (omega arith) bytes.1 in
    let whole = c.4.1 in
    let interval : whole.0.interval ≡ length (take e.0 (history v p)) = interval_along (program_at v.programs p) p n whole.1.0 (take e.0 (history v p)) whole.0 whole.1.1 in
    let part : c.0.head.interval ≡ whole.0.interval = ap (λ (q : Process). q.interval) whole.2.same in
    let few : length (take e.0 (history v p)) ≡ e.0 = length-take-le e.0 (history v p) (omega arith) in
    let named : c.0.head.interval ≡ e.0 = omega arith in
    let wanted : (y : ℕ) → e.0 < y → y ≤ x → IsSome (get held.receipts y) = λ y above within. store.1.receipts y (omega arith) (omega arith) in
    let all = stored_along v p held (x - e.0) e.0 kept (omega arith) (λ y above within. wanted y above (omega arith)) in
    let t = replays (program_at v.programs p) p n (process_of_checkpoint c.0) (take e.0 (history v p)) all.0 whole all.3 in
    let many = all.1 in (
      p,
      n,
      t.0,
      record {
        checkpoint = c.0;
        begins = record {
          effective = subst (λ i. IsEffective held.checkpoints x i) (sym named) e.1;
          stored = (bytes.0, ap (get held.checkpoints) named ∙ bytes.1, c.1, refl);
          meant = (c.2, c.3);
        };
        all_there = λ y above within. wanted y (omega arith) within;
        pid = c.2;
        size = c.3;
        receipts = all.0;
        stored = subst (λ i. AreReceiptsAfter held.receipts i all.0) (sym named) all.2;
        last = omega arith;
        replayed = t.1;
      },
    )

-- what is replayed stands at the end of the history, and keeps what others may want again
pub replayed_at : (w : WorldState) (p : ℕ) (held : Content) (core : CoreState) → HasShape w → Sound w → p < length w.programs → HasNews w p → slice_get w.contents p ≡ Some held → core.own ≡ p → cluster_size core.now ≡ length w.programs → IsReplay held (slice_index w.manager.last p) core
    → CheckpointOf (program_at w.programs p) p (length w.programs) core.now (history (past_of w) p) × KeptWithin (past_of w) p core.now.queues
replayed_at w p held core h s lt news at own size r =
    let v = past_of w in
    let n = length w.programs in
    let behind = s.behind p lt news in
    let kept = s.stored p held at in
    let first = r.begins.stored in
    let least = r.begins.effective.within in
    let d = kept.checkpoints r.checkpoint.head.interval first.0 (omega arith) first.1 in
    let is : d.0 ≡ r.checkpoint = one_reading d.0 r.checkpoint first.0 d.1 first.2 in
    let from : CheckpointOf (program_at v.programs p) p n (process_of_checkpoint r.checkpoint) (take r.checkpoint.head.interval (history v p)) = subst (λ c. CheckpointOf (program_at v.programs p) p n (process_of_checkpoint c) (take r.checkpoint.head.interval (history v p))) is d.4.1 in
    let within : KeptWithin v p (process_of_checkpoint r.checkpoint).queues = subst (λ c. KeptWithin v p (process_of_checkpoint c).queues) is d.5 in
    let mine : Replayed p n (process_of_checkpoint r.checkpoint) r.receipts core.now = subst (λ o. Replayed o n (process_of_checkpoint r.checkpoint) r.receipts core.now) own (subst (λ k. Replayed core.own k (process_of_checkpoint r.checkpoint) r.receipts core.now) size r.replayed) in
    let far = r.last in
    let all : take r.checkpoint.head.interval (history v p) ++ receipts_of r.receipts ≡ history v p = read_along v p held r.checkpoint.head.interval r.receipts kept (omega arith) r.stored ∙ take_all (r.checkpoint.head.interval + length r.receipts) (history v p) (omega arith) in (
      subst (CheckpointOf (program_at v.programs p) p n core.now) all (replayed_along (program_at v.programs p) p n (process_of_checkpoint r.checkpoint) core.now (take r.checkpoint.head.interval (history v p)) r.receipts from mine),
      kept_grown v p (process_of_checkpoint r.checkpoint).interval (process_of_checkpoint r.checkpoint).queues core.now.queues (leads_grow p n (receipts_of r.receipts) (process_of_checkpoint r.checkpoint) core.now (replay_leads p n r.receipts (process_of_checkpoint r.checkpoint) core.now mine)).1 within,
    )
  where
    one_reading : (a b : CheckpointRecord) (bytes : List ℕ) → IsSpelled a bytes → IsSpelled b bytes → a ≡ b
    one_reading a b bytes x y = (one_checkpoint bytes x.0 y.0 a b x.1 y.1).1

-- ---- the world in which it is up again
abbrev pub come_back : WorldState → ℕ → CoreState → List Content → List Health → WorldState
come_back w p core contents health = record (put_up w p core) { contents = contents; health = health }

round_here : (rounds : List ℕ) (p x : ℕ) → p < length rounds → slice_index (set rounds p x) p ≡ x
round_here [] p x lt = absurd (omega arith)
round_here (r ∷ rounds) zero x lt = refl
round_here (r ∷ rounds) (suc p) x lt = round_here rounds p x (omega arith)

round_apart : (rounds : List ℕ) (p q x : ℕ) → q ≢ p → slice_index (set rounds p x) q ≡ slice_index rounds q
round_apart [] p q x other = refl
round_apart (r ∷ rounds) zero zero x other = absurd (other refl)
round_apart (r ∷ rounds) zero (suc q) x other = refl
round_apart (r ∷ rounds) (suc p) zero x other = refl
round_apart (r ∷ rounds) (suc p) (suc q) x other = round_apart rounds p q x (omega arith)

in_or_up : ProcessState.In ≡ ProcessState.Up → ⊥
in_or_up e = cc

joined_before : (places : List ProcessState) (p q : ℕ) → slice_get (set places p ProcessState.Up) q ≡ Some ProcessState.In → (q ≢ p) × (slice_get places q ≡ Some ProcessState.In)
joined_before places p q at = elim (at_change places p q ProcessState.In ProcessState.Up at) [ inl is ↦ absurd (in_or_up is.1) | inr other ↦ other ]

-- whether another has news, and runs, is as before
other_news : (w : WorldState) (p q : ℕ) → q ≢ p → slice_index (set w.rounds p w.manager.round) q < w.manager.round → HasNews w q
other_news w p q other news = subst (λ r. r < w.manager.round) (round_apart w.rounds p q w.manager.round other) news

other_runs : (w : WorldState) (p q : ℕ) (core : CoreState) → q ≢ p → Runs (put_up w p core) q → Runs w q
other_runs w p q core other runs = elim runs [
  | inl up ↦ inl (sym (set_apart w.places p q ProcessState.Up other) ∙ up)
  | inr joined ↦ inr (sym (set_apart w.places p q ProcessState.Up other) ∙ joined.0, λ news. joined.1 (subst (λ r. r < w.manager.round) (sym (round_apart w.rounds p q w.manager.round other)) news))
]

-- who has news is in no gathering
is_away : (w : WorldState) (p : ℕ) → Sound w → HasNews w p → presence_of (presences_of w.manager.gathering) p ≡ Away
is_away w p s news = go (presence_of (presences_of w.manager.gathering) p) refl
  where
    apart_failed : Failed ≡ Away → ⊥
    apart_failed e = cc

    apart_joined : (x : ℕ) → Joined x ≡ Away → ⊥
    apart_joined x e = cc

    not_in : (presence_of (presences_of w.manager.gathering) p ≢ Away) → ⊥
    not_in not = let same = s.gathered p not in omega arith

    go : (a : Presence) → presence_of (presences_of w.manager.gathering) p ≡ a → presence_of (presences_of w.manager.gathering) p ≡ Away
    go Away is = is
    go Failed is = absurd (not_in (λ e. apart_failed (sym is ∙ e)))
    go (Joined x) is = absurd (not_in (λ e. apart_joined x (sym is ∙ e)))

cut_stored : (v : Past) (p x : ℕ) (a : Content) → IsStored v p a → IsStored v p (kept_by_cut a x)
cut_stored v p x a s = record {
  checkpoints = λ y bytes le at. s.checkpoints y bytes le (was_kept a.checkpoints x y bytes at);
  receipts = λ y bytes some le at. s.receipts y bytes some le (was_kept a.receipts x y bytes at);
}

record_kept : (a : Content) (x y : ℕ) (kind : RowKind) → y ≤ x → HasBytes a kind y → HasBytes (kept_by_cut a x) kind y
record_kept a x y Checkpoint le has = (has.0, kept_below a.checkpoints x y le ∙ has.1)
record_kept a x y Log le has = (has.0, kept_below a.receipts x y le ∙ has.1)

pub back_interval : (w : WorldState) (p : ℕ) (a : Content) (core : CoreState) → HasShape w → Sound w → p < length w.programs → HasNews w p → slice_get w.contents p ≡ Some a → IsBackIn w.manager p core → IsReplay a (slice_index w.manager.last p) core → core.now.interval ≡ slice_index w.manager.last p
back_interval w p a core h s lt news at b r =
    let v = past_of w in
    let n = length w.programs in
    let state = (replayed_at w p a core h s lt news at b.own (b.size ∙ h.size) r).0 in
    let behind = s.behind p lt news in
    let whole : state.0.interval ≡ length (history v p) = interval_along (program_at v.programs p) p n state.1.0 (history v p) state.0 state.1.1 in
    let part : core.now.interval ≡ state.0.interval = ap (λ (q : Process). q.interval) state.2.same in
    omega arith

back_running : (w : WorldState) (p : ℕ) (a : Content) (core : CoreState) → HasShape w → Sound w → p < length w.programs → HasNews w p → slice_get w.contents p ≡ Some a → IsBackIn w.manager p core → IsReplay a (slice_index w.manager.last p) core
    → IsRunning (past_of w) p (kept_by_cut a (slice_index w.manager.last p)) core
back_running w p a core h s lt news at b r =
    let v = past_of w in
    let n = length w.programs in
    let x = slice_index w.manager.last p in
    let stands = replayed_at w p a core h s lt news at b.own (b.size ∙ h.size) r in
    let behind = s.behind p lt news in
    let interval = back_interval w p a core h s lt news at b r in
    let none : length core.log ≡ 0 = ap length b.log in
    record {
      state = stands.0;
      kept = stands.1;
      log = subst (λ l. LogOf (program_at v.programs p) p n l (history v p)) (sym b.log) (history v p, sym (append-nil (history v p)), tt);
      pending = λ i row f. absurd (none_in i row (ap (λ l. slice_get l i) (sym b.pending) ∙ f));
      above = record {
        receipts = λ y le. none_above a.receipts x y (omega arith);
        checkpoints = λ y above. none_above a.checkpoints x y (omega arith);
      };
    }

pub shape_back : (w : WorldState) (p : ℕ) (core : CoreState) (contents : List Content) (health : List Health) → HasShape w → p < length w.programs → core.own ≡ p → cluster_size core.now ≡ length w.programs → length contents ≡ length w.contents
    → HasShape (come_back w p core contents health)
shape_back w p core contents health h lt own size long = record {
  few = h.few;
  stores = long ∙ h.stores;
  cores = length-set w.cores p (Some core) ∙ h.cores;
  places = length-set w.places p ProcessState.Up ∙ h.places;
  own = λ q c at. elim (at_change w.cores p q (Some c) (Some core) at) [
    | inl same ↦ subst (λ o. IsCoreOf (length w.programs) o c) (sym same.0) (subst (IsCoreOf (length w.programs) p) (sym (once c core same.1)) (record { own = own; size = size }))
    | inr other ↦ h.own q c other.1
  ];
  rounds = length-set w.rounds p w.manager.round ∙ h.rounds;
  there = λ q up. elim (either q p) [
    | inl same ↦ (core, subst (λ o. slice_get (set w.cores p (Some core)) o ≡ Some (Some core)) (sym same) here)
    | inr other ↦ let was = h.there q (sym (set_apart w.places p q ProcessState.Up other) ∙ up) in (was.0, set_apart w.cores p q (Some core) other ∙ was.1)
  ];
  inside = λ q joined. let before = joined_before w.places p q joined in let was = h.inside q before.1 in (was.0, set_apart w.cores p q (Some core) before.0 ∙ was.1);
  manager = h.manager;
  size = h.size;
}
  where
    here : slice_get (set w.cores p (Some core)) p ≡ Some (Some core)
    here = let long = h.cores in let was = there w.cores p (omega arith) in set_there w.cores p was.0 (Some core) was.1

-- a world whose process p is up with this core, where its claims hold
up_again : (w : WorldState) (p : ℕ) (core : CoreState) (a b : Content) (health : List Health) → HasShape w → Sound w → p < length w.programs → HasNews w p → slice_get w.contents p ≡ Some a → IsUpIn w.manager p core → IsRunning (past_of w) p b core → IsStored (past_of w) p b
    → ((row : Row) → HasRow w.manager.rows row → row.pid ≡ p → HasBytes a row.kind row.interval → HasBytes b row.kind row.interval) → Sound (come_back w p core (set w.contents p b) health)
up_again w p core a b health h s lt news at up run stored keeps =
    let v = past_of w in
    let round = w.manager.round in
    record {
      legal = s.legal;
      frames = s.frames;
      outputs = s.outputs;
      rows = s.rows;
      stored = λ q held f. elim (at_change w.contents p q held b f) [
        | inl same ↦ subst (λ o. IsStored v o held) (sym same.0) (subst (IsStored v p) (sym same.1) stored)
        | inr other ↦ s.stored q held other.1
      ];
      backed = λ row held has f. elim (at_change w.contents p row.pid held b f) [
        | inl same ↦ elim (s.backed row a has (subst (λ o. slice_get w.contents o ≡ Some a) (sym same.0) at)) [
          | inl old ↦ inl (subst (λ (d : Content). HasBytes d row.kind row.interval) (sym same.1) (keeps row has same.0 old))
          | inr gone ↦ inr gone
        ]
        | inr other ↦ s.backed row held has other.1
      ];
      running = λ q c held f holds runs. elim (at_change w.cores p q (Some c) (Some core) f) [
        | inl same ↦ elim (at_change w.contents p q held b holds) [
          | inl too ↦ subst (λ o. IsRunning v o held c) (sym same.0) (subst (λ (d : Content). IsRunning v p d c) (sym too.1) (subst (IsRunning v p b) (sym (once c core same.1)) run))
          | inr rest ↦ absurd (rest.0 same.0)
        ]
        | inr other ↦ elim (at_change w.contents p q held b holds) [
          | inl too ↦ absurd (other.0 too.0)
          | inr rest ↦ s.running q c held other.1 rest.1 (other_runs w p q core other.0 runs)
        ]
      ];
      up = λ q c f place. elim (at_change w.cores p q (Some c) (Some core) f) [
        | inl same ↦ subst (λ o. IsUpIn w.manager o c) (sym same.0) (subst (IsUpIn w.manager p) (sym (once c core same.1)) up)
        | inr other ↦ s.up q c other.1 (sym (set_apart w.places p q ProcessState.Up other.0) ∙ place)
      ];
      joined = s.joined;
      failed = λ q f. elim (either q p) [
        | inl same ↦ absurd (apart (sym f ∙ ap (presence_of (presences_of w.manager.gathering)) same ∙ is_away w p s news))
        | inr other ↦ set_apart w.places p q ProcessState.Up other ∙ s.failed q f
      ];
      gathered = λ q not. elim (either q p) [
        | inl same ↦ ap (slice_index (set w.rounds p round)) same ∙ now
        | inr other ↦ round_apart w.rounds p q round other ∙ s.gathered q not
      ];
      current = λ q place. elim (either q p) [
        | inl same ↦ ap (slice_index (set w.rounds p round)) same ∙ now
        | inr other ↦ round_apart w.rounds p q round other ∙ s.current q (sym (set_apart w.places p q ProcessState.Up other) ∙ place)
      ];
      known = λ q. elim (either q p) [
        | inl same ↦ same_le (slice_index (set w.rounds p round) q) round (ap (slice_index (set w.rounds p round)) same ∙ now)
        | inr other ↦ subst (λ r. r ≤ round) (sym (round_apart w.rounds p q round other)) (s.known q)
      ];
      ends = λ q declared held place old f. elim (at_change w.places p q (ProcessState.Down declared) ProcessState.Up place) [
        | inl same ↦ absurd (down_apart declared same.1)
        | inr other ↦ elim (at_change w.contents p q held b f) [
          | inl too ↦ absurd (other.0 too.0)
          | inr rest ↦ s.ends q declared held other.1 (λ more. old (subst (λ r. r < round) (sym (round_apart w.rounds p q round other.0)) more)) rest.1
        ]
      ];
      behind = λ q few more. elim (either q p) [
        | inl same ↦ absurd (no_more (slice_index (set w.rounds p round) q) round (ap (slice_index (set w.rounds p round)) same ∙ now) more)
        | inr other ↦ s.behind q few (other_news w p q other more)
      ];
      inside = λ q c f joined runs.
          let was = joined_before w.places p q joined in
          s.inside q c (sym (set_apart w.cores p q (Some core) was.0) ∙ f) was.1 (other_runs w p q core was.0 runs);
      beyond = λ q c f joined more back.
          let was = joined_before w.places p q joined in
          s.beyond q c (sym (set_apart w.cores p q (Some core) was.0) ∙ f) was.1 (other_news w p q was.0 more) back;
    }
  where
    now : slice_index (set w.rounds p w.manager.round) p ≡ w.manager.round
    now = let long = h.rounds in round_here w.rounds p w.manager.round (omega arith)

    apart : Failed ≡ Away → ⊥
    apart e = cc

    down_apart : (declared : Bool) → ProcessState.Down declared ≡ ProcessState.Up → ⊥
    down_apart declared e = cc

    same_le : (a b : ℕ) → a ≡ b → a ≤ b
    same_le a b e = omega arith

    no_more : (a b : ℕ) → a ≡ b → a < b → ⊥
    no_more a b e lt = omega arith

pub sound_back : (w : WorldState) (p : ℕ) (a : Content) (core : CoreState) (health : List Health) → HasShape w → Sound w → p < length w.programs → HasNews w p → slice_get w.contents p ≡ Some a → IsBackIn w.manager p core → IsReplay a (slice_index w.manager.last p) core
    → Sound (come_back w p core (set w.contents p (kept_by_cut a (slice_index w.manager.last p))) health)
sound_back w p a core health h s lt news at b r =
    let x = slice_index w.manager.last p in
    up_again w p core a (kept_by_cut a x) health h s lt news at (record { round = b.round; starts = b.starts; inc = b.inc; away = is_away w p s news }) (back_running w p a core h s lt news at b r) (cut_stored (past_of w) p x a (s.stored p a at))
    (λ row has same old. record_kept a x row.interval row.kind
    (let behind = s.behind p lt news in let le = (s.rows row has).0 in subst (λ k. row.interval ≤ k) behind (subst (λ o. row.interval ≤ length (history (past_of w) o)) same le)) old)

-- it goes on as it was
pub sound_on : (w : WorldState) (p : ℕ) (c : CoreState) → HasShape w → Sound w → p < length w.programs → IsToGoOn w p → slice_get w.cores p ≡ Some (Some c) → Sound (put_up w p (resumed c w.manager.round w.manager.starts))
sound_on w p c h s lt due at =
    let stores = h.stores in
    let store = there w.contents p (omega arith) in
    let runs : Runs w p = inr (due.joined, λ news. due.kept) in
    let r = s.running p c store.0 at store.1 runs in
    let d = resumed c w.manager.round w.manager.starts in
    subst (λ l. Sound (come_back w p d l w.health)) (set_back w.contents p store.0 store.1)
    (up_again w p d store.0 store.0 w.health h s lt due.news store.1 (record { round = refl; starts = refl; inc = s.inside p c at due.joined runs; away = is_away w p s due.news })
    (record { state = r.state; kept = r.kept; log = r.log; pending = r.pending; above = record { receipts = r.above.receipts; checkpoints = r.above.checkpoints } }) (s.stored p store.0 store.1) (λ row has same old. old))

-- whom the round rolls back without a failure was beyond its place of the recovery state
pub is_beyond : (w : WorldState) (p : ℕ) → HasShape w → Sound w → p < length w.programs → IsBeyond w p
is_beyond w p h s lt c joined at news back =
    let over = s.beyond p c at joined news back in let is = at_recovered w p h s lt news in let behind = s.behind p lt news in
    omega arith
