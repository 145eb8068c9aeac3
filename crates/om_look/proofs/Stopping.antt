-- Where replays stop: what an outcome at one interval says of those below.
use Rattle.std.proofs.Common.{◌≡◌, ◌⊎◌, inl, inr, ℕ, zero, suc, ◌+◌, ◌-◌, ◌<◌, ◌≤◌, List, [], ◌∷◌, length, refl, sym, subst, arith}
use Rattle.std.specs.Prelude.{Option, Some, None, Result, Ok, Err, IsSome, IfOk}
use Rattle.std.specs.FinMap.{get}
use Rattle.om_format.specs.Receipts.{ReceiptRecord}
use Rattle.om_format.specs.Checkpoints.{CheckpointRecord}
use Rattle.om_stable.specs.Content.{Content, Records, IsEffective}
use Rattle.om_process.specs.declared.replay.ReplayFault.{ReplayFault}
use Rattle.om_process.specs.declared.replay.ReplayFault.TheVariants.{NoCheckpoint, Damaged, MissingReceipt, Mismatch, Fault, Memory}
use Rattle.om_process.specs.Process.{Process, delivered}
use Rattle.om_process.specs.Replays.{Replayed, process_of_checkpoint, received_of}
use Rattle.om_process.specs.Stored.{anyone, AreReceiptsAfter, BeginsWith, CanReplay, ContentReplaysTo, IsNoMatterOfContent, Refuses, StandsAfter}
use Rattle.om_process.proofs.Exactly.{only_refused}
use Rattle.om_look.specs.declared.fault.LookFault.{LookFault}
use Rattle.om_look.specs.steps.Stops.{StopsAt}
use Rattle.om_look.specs.steps.Told.{NoneMissing, stop_told}

effective_below : (held : Records) (x z c : ℕ) → IsEffective held x c → c ≤ z → z ≤ x → IsEffective held z c
effective_below held x z c e low high = record {
  within = low;
  has = e.has;
  greatest = λ y le has. e.greatest y (omega arith) has;
}

one_effective : (held : Records) (x b c : ℕ) → IsEffective held x b → IsEffective held x c → b ≡ c
one_effective held x b c first second =
    let low : b ≤ c = second.greatest b first.within first.has in
    let high : c ≤ b = first.greatest c second.within second.has in
    omega arith

begins_below : (held : Content) (x z : ℕ) (k : CheckpointRecord) → BeginsWith anyone held x k → k.head.interval ≤ z → z ≤ x → BeginsWith anyone held z k
begins_below held x z k begins low high = record {
  effective = effective_below held.checkpoints x z k.head.interval begins.effective low high;
  stored = begins.stored;
  meant = tt;
}

stands_below : (held : Content) (x y z own n : ℕ) (t : Process) → StandsAfter anyone held x y own n t → y ≤ z → z ≤ x → StandsAfter anyone held z y own n t
stands_below held x y z own n t s low high =
    let at : y ≡ s.checkpoint.head.interval + length s.receipts = s.last in
    let above : s.checkpoint.head.interval ≤ z = omega arith in
    record {
      checkpoint = s.checkpoint;
      begins = begins_below held x z s.checkpoint s.begins above high;
      all_there = λ y low within. s.all_there y low (omega arith);
      pid = s.pid;
      size = s.size;
      receipts = s.receipts;
      stored = s.stored;
      last = s.last;
      replayed = s.replayed;
    }

-- the first k of the receipts, and where they lead
abbrev Front : ℕ → ℕ → ℕ → Records → ℕ → Process → Type 0
Front own n k held after s =
    (qs : List ReceiptRecord) × (m : Process) × AreReceiptsAfter held after qs × (length qs ≡ k) × Replayed own n s qs m

front : (own n k : ℕ) (held : Records) (after : ℕ) (rs : List ReceiptRecord) (s t : Process) → AreReceiptsAfter held after rs → Replayed own n s rs t → k ≤ length rs → Front own n k held after s
front own n zero held after rs s t stored replayed le = ([], s, tt, refl, refl)
front own n (suc k) held after [] s t stored replayed le = absurd (omega arith)
front own n (suc k) held after (r ∷ rs) s t stored replayed le =
    let rest = front own n k held (after + 1) rs (delivered own replayed.1 (received_of r)) t stored.1 replayed.4 (omega arith) in
    let long : length rest.0 ≡ k = rest.3 in (
      r ∷ rest.0,
      rest.1,
      (stored.0, rest.2),
      omega arith,
      (replayed.0, replayed.1, replayed.2, replayed.3, rest.4),
    )

-- what is replayed to an interval is replayed to each before it, from the checkpoint on
can_below : (held : Content) (x w y own n : ℕ) (t : Process) (s : StandsAfter anyone held x w own n t) → w ≤ x → s.checkpoint.head.interval ≤ y → y ≤ w → CanReplay anyone held y
can_below held x w y own n t s le low high =
    let at : w ≡ s.checkpoint.head.interval + length s.receipts = s.last in
    let part = front own n (y - s.checkpoint.head.interval) held.receipts s.checkpoint.head.interval s.receipts (process_of_checkpoint s.checkpoint) t s.stored s.replayed (omega arith) in
    let long : length part.0 ≡ y - s.checkpoint.head.interval = part.3 in (
      own,
      n,
      part.1,
      record {
        checkpoint = s.checkpoint;
        begins = begins_below held x y s.checkpoint s.begins low (omega arith);
        all_there = λ z low within. s.all_there z low (omega arith);
        pid = s.pid;
        size = s.size;
        receipts = part.0;
        stored = part.2;
        last = omega arith;
        replayed = part.4;
      },
    )

-- ---- what is replayed to x stops behind it
pub stops_behind : (held : Content) (x c : ℕ) → IsEffective held.checkpoints x c → CanReplay anyone held x → StopsAt held c x (x + 1)
stops_behind held x c e can =
    let same = one_effective held.checkpoints x can.3.checkpoint.head.interval c can.3.begins.effective e in
    let within : c ≤ x = e.within in
    record {
      above = omega arith;
      within = omega arith;
      replayed = λ y low high. can_below held x x y can.0 can.1 can.2 can.3 (omega arith) (omega arith) (omega arith);
      no_more = λ y low high more. absurd (omega arith);
    }

-- ---- what is refused at a receipt stops there
before_at : (held : Content) (x y own n : ℕ) (s : Process) (c : ℕ) → IsEffective held.checkpoints x c → ContentReplaysTo anyone held x y own n s → (z : ℕ) → c ≤ z → z < y → CanReplay anyone held z
before_at held x y own n s c e comes z low high =
    let some : 0 < y = comes.0 in
    let within : y ≤ x = comes.1 in
    let same = one_effective held.checkpoints x comes.2.checkpoint.head.interval c comes.2.begins.effective e in
    can_below held x (y - 1) z own n s comes.2 (omega arith) (omega arith) (omega arith)

above_checkpoint : (held : Content) (x y own n : ℕ) (s : Process) (c : ℕ) → IsEffective held.checkpoints x c → ContentReplaysTo anyone held x y own n s → c < y
above_checkpoint held x y own n s c e comes =
    let some : 0 < y = comes.0 in
    let at : y - 1 ≡ comes.2.checkpoint.head.interval + length comes.2.receipts = comes.2.last in
    let same = one_effective held.checkpoints x comes.2.checkpoint.head.interval c comes.2.begins.effective e in
    omega arith

comes_below : (held : Content) (x y z own n : ℕ) (s : Process) → ContentReplaysTo anyone held x y own n s → y ≤ z → z ≤ x → ContentReplaysTo anyone held z y own n s
comes_below held x y z own n s comes low high =
    let some : 0 < y = comes.0 in
    (some, low, stands_below held x (y - 1) z own n s comes.2 (omega arith) high)

no_damage : (y : ℕ) → IsNoMatterOfContent (Damaged y) → ⊥
no_damage y (inl is) = cc
no_damage y (inr is) = cc

no_mismatch : (y : ℕ) → IsNoMatterOfContent (Mismatch y) → ⊥
no_mismatch y (inl is) = cc
no_mismatch y (inr is) = cc

is_some_none : (o : Option (List ℕ)) → IsSome o → o ≡ None → ⊥
is_some_none None some none = cc
is_some_none (Some bytes) some none = cc

-- a stop at a receipt up to which all is replayed, and behind which nothing is
stops_there : (held : Content) (x y own n : ℕ) (s : Process) (c : ℕ) → IsEffective held.checkpoints x c → ContentReplaysTo anyone held x y own n s → ((z : ℕ) → y ≤ z → z ≤ x → CanReplay anyone held z → ⊥) → StopsAt held c x y
stops_there held x y own n s c e comes never =
    let above : c < y = above_checkpoint held x y own n s c e comes in
    let within : y ≤ x = comes.1 in
    record {
      above = omega arith;
      within = omega arith;
      replayed = before_at held x y own n s c e comes;
      no_more = never;
    }

pub stops_refused : (held : Content) (x c : ℕ) (fault : ReplayFault) (stop : ℕ) → IsEffective held.checkpoints x c → NoneMissing held c x ⊎ ((y : ℕ) → fault ≡ MissingReceipt y → ⊥) → Refuses anyone held x fault → stop_told fault ≡ Ok stop → StopsAt held c x stop
stops_refused held x c NoCheckpoint stop e all why at =
    let within : c ≤ x = e.within in
    absurd (is_some_none (get held.checkpoints c) e.has (why c (omega arith) (omega arith)))
stops_refused held x c (Damaged y) stop e all (inl why) at =
    let here : y ≡ stop = cc in
    let same = one_effective held.checkpoints x c y e why.effective in
    let within : c ≤ x = e.within in
    record {
      above = omega arith;
      within = omega arith;
      replayed = λ z low high. absurd (omega arith);
      no_more = λ z low high can. no_damage y
          (only_refused anyone held z (Damaged y) (inl (record { effective = effective_below held.checkpoints x z y why.effective (omega arith) high; damaged = why.damaged })) can);
    }
stops_refused held x c (Damaged y) stop e all (inr why) at =
    let here : y ≡ stop = cc in
    subst (StopsAt held c x) here (stops_there held x y why.0 why.1 why.2 c e why.3
    (λ z low high can. no_damage y (only_refused anyone held z (Damaged y) (inr (why.0, why.1, why.2, comes_below held x y z why.0 why.1 why.2 why.3 low high, why.4)) can)))
stops_refused held x c (MissingReceipt y) stop e (inl all) why at =
    let same = one_effective held.checkpoints x c why.checkpoint.head.interval e why.begins.effective in
    let above : why.checkpoint.head.interval < y = why.above in
    absurd (is_some_none (get held.receipts y) (all y (omega arith) why.within) why.none)
stops_refused held x c (MissingReceipt y) stop e (inr never) why at = absurd (never y refl)
stops_refused held x c (Mismatch y) stop e all why at =
    let here : y ≡ stop = cc in
    subst (StopsAt held c x) here (stops_there held x y why.0 why.1 why.2 c e why.3
    (λ z low high can. no_mismatch y (only_refused anyone held z (Mismatch y) (why.0, why.1, why.2, comes_below held x y z why.0 why.1 why.2 why.3 low high, why.4, why.5, why.6) can)))
stops_refused held x c Fault stop e all why at = cc
stops_refused held x c Memory stop e all why at = cc

-- ---- where a receipt is missing, what holds below it
pub missing_above : (held : Content) (x c y : ℕ) → IsEffective held.checkpoints x c → Refuses anyone held x (MissingReceipt y) → c < y
missing_above held x c y e why =
    let same = one_effective held.checkpoints x c why.checkpoint.head.interval e why.begins.effective in
    let above : why.checkpoint.head.interval < y = why.above in
    omega arith

pub missing_effective : (held : Content) (x c y : ℕ) → IsEffective held.checkpoints x c → Refuses anyone held x (MissingReceipt y) → IsEffective held.checkpoints (y - 1) c
missing_effective held x c y e why =
    let above = missing_above held x c y e why in
    let within : y ≤ x = why.within in
    effective_below held.checkpoints x (y - 1) c e (omega arith) (omega arith)

pub none_missing : (held : Content) (x c y : ℕ) → IsEffective held.checkpoints x c → Refuses anyone held x (MissingReceipt y) → NoneMissing held c (y - 1)
none_missing held x c y e why z low high =
    let same = one_effective held.checkpoints x c why.checkpoint.head.interval e why.begins.effective in
    let above : why.checkpoint.head.interval < y = why.above in
    why.before z (omega arith) (omega arith)

trans : {a b d : ℕ} → a ≤ b → b ≤ d → a ≤ d
trans p q = omega arith

pub stops_missing : (held : Content) (x c y stop : ℕ) → IsEffective held.checkpoints x c → Refuses anyone held x (MissingReceipt y) → StopsAt held c (y - 1) stop → StopsAt held c x stop
stops_missing held x c y stop e why below =
    let above : c < y = missing_above held x c y e why in
    let within : y ≤ x = why.within in
    let low : c ≤ stop = below.above in
    let high : stop ≤ y - 1 + 1 = below.within in
    record {
      above = omega arith;
      within = omega arith;
      replayed = below.replayed;
      no_more = λ z from to can. either z to can (cases z (y - 1)) from;
    }
  where
    cases : (a b : ℕ) → (a ≤ b) ⊎ (b < a)
    cases a b = grind arith

    either : (z : ℕ) → z ≤ x → CanReplay anyone held z → (z ≤ y - 1) ⊎ (y - 1 < z) → stop ≤ z → ⊥
    either z to can (inl le) from = below.no_more z from le can
    either z to can (inr lt) from =
        let effective = can.3.begins.effective in
        let at : can.3.checkpoint.head.interval ≤ c = e.greatest can.3.checkpoint.head.interval (trans effective.within to) effective.has in
        let above : c < y = missing_above held x c y e why in
        is_some_none (get held.receipts y) (can.3.all_there y (omega arith) (omega arith)) why.none

-- what a refusal tells
pub told_stops : (held : Content) (x c : ℕ) (fault : ReplayFault) (outcome : Result ℕ LookFault) → IsEffective held.checkpoints x c → NoneMissing held c x ⊎ ((y : ℕ) → fault ≡ MissingReceipt y → ⊥) → Refuses anyone held x fault → outcome ≡ stop_told fault → IfOk outcome (StopsAt held c x)
told_stops held x c reason (Ok stop) e all why at = stops_refused held x c reason stop e all why (sym at)
told_stops held x c reason (Err error) e all why at = tt
