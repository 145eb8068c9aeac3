-- What is ahead as a walk goes on, ends and turns back.
use Rattle.std.proofs.Common.{◌≡◌, ◌⊎◌, inl, inr, ℕ, ◌+◌, ◌<◌, ◌≤◌, arith, List, [], ◌∷◌, ◌++◌, length, Bool, true, false, refl, sym, ap, subst, ◌∙◌}
use Rattle.std.specs.Prelude.{IsTrue, slice_index_or, take}
use Rattle.std.specs.List.{IsAmong}
use Rattle.std.proofs.Math.Seq.{get_or-append_seam}
use Rattle.std.proofs.lemmas.List.{append_assoc, get_or_append_left, length-append, take_more}
use Rattle.om_process.specs.Process.{Program}
use Rattle.om_world.specs.Live.{Legal, MayFollow}
use Rattle.om_world.specs.World.{WorldState}
use Rattle.om_world.specs.declared.entry.Entry.{Entry}
use Rattle.om_check.specs.declared.exploring.Delivery.{Delivery}
use Rattle.om_check.specs.declared.walk.Choice.{Choice}
use Rattle.om_check.specs.Orders.{HasAll, IsOver, IsSameRun}
use Rattle.om_check.specs.Whole.{IsUnderWay}
use Rattle.om_check.specs.steps.Playing.{HasDelivered, IsGoingOn}
use Rattle.om_check.specs.steps.Walks.{AreSeenOrAhead, HasShown, HasTaken, IsAhead, IsAtEnd, IsExcluded, IsLeft, IsOpen, IsSeenOrAhead, IsWalked, LeavesNone, StaysAhead, TurnsTo, declining, deliveries_of, taken_of, taking}
use Rattle.om_check.proofs.AtRest.{not_over, over_same}
use Rattle.om_check.proofs.Orders.{comes_to_it, declined_more, deliveries_more, goes_on, left_back, left_more, left_now, left_turned, taken_more}

abbrev delivery : ℕ → ℕ → Delivery
delivery from to = record { from = from; to = to }

-- ---- one delivery more
pub taken_on : (programs : List Program) (old new : WorldState) (walk : List Choice) (from to : ℕ) → IsUnderWay programs old
    → HasDelivered old new from to → HasTaken old walk → HasTaken new (walk ++ taking (record { from = from; to = to }) ∷ [])
taken_on programs old new walk from to way got taken =
    let e = got programs way in
    let is : record { from = e.0.from; to = e.0.to } ≡ delivery from to =
    ap (λ (k : ℕ). record { from = k; to = e.0.to }) e.2 ∙ ap (λ (k : ℕ). record { from = from; to = k }) e.3 in
    ap deliveries_of e.1 ∙ deliveries_more old.live e.0
    ∙ ap (λ ds. ds ++ record { from = e.0.from; to = e.0.to } ∷ []) taken
    ∙ ap (λ d. taken_of walk ++ d ∷ []) is ∙ sym (taken_more walk (delivery from to))

pub declined_on : (w : WorldState) (walk : List Choice) (d : Delivery) → HasTaken w walk → HasTaken w (walk ++ declining d ∷ [])
declined_on w walk d taken = taken ∙ sym (declined_more walk d)

pub ahead_on : (programs : List Program) (old new : WorldState) (first walk : List Choice) (from to : ℕ) → IsUnderWay programs old → IsUnderWay programs new
    → HasDelivered old new from to → HasTaken old walk → StaysAhead programs first walk
    → StaysAhead programs first (walk ++ taking (record { from = from; to = to }) ∷ [])
ahead_on programs old new first walk from to way next got taken ahead run over before = by (ahead run over before)
  where
    e : (e : Entry) × (new.live ≡ old.live ++ e ∷ []) × (e.from ≡ from) × (e.to ≡ to)
    e = got programs way

    is : record { from = e.0.from; to = e.0.to } ≡ delivery from to
    is = ap (λ (k : ℕ). record { from = k; to = e.0.to }) e.2 ∙ ap (λ (k : ℕ). record { from = from; to = k }) e.3

    may : MayFollow programs old.live e.0
    may = subst (λ ps. MayFollow ps old.live e.0) next.these (next.holds.legal old.live [] e.0 e.1)

    legal : Legal programs old.live
    legal = subst (λ ps. Legal ps old.live) way.these way.holds.legal

    by : IsAhead programs run walk → IsAhead programs run (walk ++ taking (delivery from to) ∷ [])
    by (inl left) = inl (left_more programs run walk (taking (delivery from to)) left)
    by (inr opened) = subst (λ d. IsAhead programs run (walk ++ taking d ∷ [])) is (either (goes_on programs run old.live walk e.0 over legal taken may opened))
      where
        either : IsOpen programs run (walk ++ taking (record { from = e.0.from; to = e.0.to }) ∷ []) ⊎ IsOpen programs run (walk ++ declining (record { from = e.0.from; to = e.0.to }) ∷ [])
            → IsAhead programs run (walk ++ taking (record { from = e.0.from; to = e.0.to }) ∷ [])
        either (inl on) = inr on
        either (inr off) = inl (left_now programs run walk (record { from = e.0.from; to = e.0.to }) off)

pub ahead_same : (programs : List Program) (walk : List Choice) → StaysAhead programs walk walk
ahead_same programs walk run over before = before

-- ---- the way back
pub declined_is : (c : Choice) → c.taken ≡ false → c ≡ declining c.delivery
declined_is c is = ap (λ (b : Bool). record { delivery = c.delivery; taken = b }) is

pub taken_is : (c : Choice) → c.taken ≡ true → c ≡ taking c.delivery
taken_is c is = ap (λ (b : Bool). record { delivery = c.delivery; taken = b }) is

pub popped_declined : (programs : List Program) (run : List Entry) (walk : List Choice) (c : Choice) → c.taken ≡ false
    → IsLeft programs run (walk ++ c ∷ []) → IsLeft programs run walk
popped_declined programs run walk c is left =
    left_back programs run walk c.delivery (subst (λ x. IsLeft programs run (walk ++ x ∷ [])) (declined_is c is) left)

pub popped_taken : (programs : List Program) (run : List Entry) (walk : List Choice) (c : Choice) → c.taken ≡ true
    → IsLeft programs run (walk ++ c ∷ []) → IsAhead programs run (walk ++ declining c.delivery ∷ [])
popped_taken programs run walk c is left =
    by (left_turned programs run walk c.delivery (subst (λ x. IsLeft programs run (walk ++ x ∷ [])) (taken_is c is) left))
  where
    by : IsLeft programs run walk ⊎ IsOpen programs run (walk ++ declining c.delivery ∷ []) → IsAhead programs run (walk ++ declining c.delivery ∷ [])
    by (inl before) = inl (left_more programs run walk (declining c.delivery) before)
    by (inr opened) = inr opened

-- ---- at the end of a walk
seen_or_left : (programs : List Program) (HasSeen Sees : List Entry → Type 0) (old new : List Choice) (w : WorldState) (n : ℕ)
    → n ≡ length w.programs → IsWalked programs old new w → ((live : List Entry) → HasSeen live → Sees live) → Sees w.live ⊎ IsGoingOn w n
    → (run : List Entry) → IsOver programs run → IsSeenOrAhead HasSeen programs run old
    → ((live : List Entry) × Sees live × IsSameRun run live) ⊎ IsLeft programs run new
seen_or_left programs HasSeen Sees old new w n all walked keeps shown run over before = by before
  where
    legal : Legal programs w.live
    legal = subst (λ ps. Legal ps w.live) walked.way.these walked.way.holds.legal

    end : (x : Entry) → MayFollow programs w.live x → IsExcluded new (record { from = x.from; to = x.to })
    end = subst (λ ps. (x : Entry) → MayFollow ps w.live x → IsExcluded new (record { from = x.from; to = x.to })) walked.way.these walked.ended

    here : IsSameRun run w.live → ((live : List Entry) × Sees live × IsSameRun run live) ⊎ IsLeft programs run new
    here same = either shown
      where
        either : Sees w.live ⊎ IsGoingOn w n → ((live : List Entry) × Sees live × IsSameRun run live) ⊎ IsLeft programs run new
        either (inl sees) = inl (w.live, sees, same)
        either (inr going) = absurd (not_over programs w n walked.way all going (over_same programs run w.live over legal same))

    on : IsAhead programs run new → ((live : List Entry) × Sees live × IsSameRun run live) ⊎ IsLeft programs run new
    on (inl left) = inr left
    on (inr opened) = here (comes_to_it programs run w.live new over.0 legal walked.taken end opened)

    by : IsSeenOrAhead HasSeen programs run old → ((live : List Entry) × Sees live × IsSameRun run live) ⊎ IsLeft programs run new
    by (inl seen) = inl (seen.0, keeps seen.0 seen.1, seen.2)
    by (inr ahead) = on (walked.ahead run over ahead)

pub walk_turns : (programs : List Program) (HasSeen Sees : List Entry → Type 0) (old new next : List Choice) (w : WorldState) (n : ℕ)
    → n ≡ length w.programs → IsWalked programs old new w → ((live : List Entry) → HasSeen live → Sees live) → Sees w.live ⊎ IsGoingOn w n
    → TurnsTo programs new next → ((run : List Entry) → IsOver programs run → IsSeenOrAhead HasSeen programs run old)
    → (run : List Entry) → IsOver programs run → IsSeenOrAhead Sees programs run next
walk_turns programs HasSeen Sees old new next w n all walked keeps shown turns before run over =
    by (seen_or_left programs HasSeen Sees old new w n all walked keeps shown run over (before run over))
  where
    by : ((live : List Entry) × Sees live × IsSameRun run live) ⊎ IsLeft programs run new → IsSeenOrAhead Sees programs run next
    by (inl seen) = inl seen
    by (inr left) = inr (turns run left)

pub walk_ends : (programs : List Program) (HasSeen Sees : List Entry → Type 0) (old new : List Choice) (w : WorldState) (n : ℕ)
    → n ≡ length w.programs → IsWalked programs old new w → ((live : List Entry) → HasSeen live → Sees live) → Sees w.live ⊎ IsGoingOn w n
    → LeavesNone programs new → ((run : List Entry) → IsOver programs run → IsSeenOrAhead HasSeen programs run old)
    → (run : List Entry) → IsOver programs run → (live : List Entry) × Sees live × IsSameRun run live
walk_ends programs HasSeen Sees old new w n all walked keeps shown none before run over =
    by (seen_or_left programs HasSeen Sees old new w n all walked keeps shown run over (before run over))
  where
    by : ((live : List Entry) × Sees live × IsSameRun run live) ⊎ IsLeft programs run new → (live : List Entry) × Sees live × IsSameRun run live
    by (inl seen) = seen
    by (inr left) = absurd (none run left)

-- ---- the runs that were shown, one more of them
among_before : (runs : List (List Entry)) (live run : List Entry) → IsAmong runs run → IsAmong (runs ++ live ∷ []) run
among_before runs live run among = (
  among.0,
  (more (length-append runs (live ∷ [])) among.1.0, among.1.1 ∙ sym (get_or_append_left runs (live ∷ []) run among.0 among.1.0)),
)
  where
    more : {k m n : ℕ} → n ≡ m + 1 → k < m → k < n
    more is lt = omega (arith, is, lt)

among_last : (runs : List (List Entry)) (live : List Entry) → IsAmong (runs ++ live ∷ []) live
among_last runs live =
    (length runs, (less (length-append runs (live ∷ [])), sym (get_or-append_seam runs live [] live)))
  where
    less : {m n : ℕ} → n ≡ m + 1 → m < n
    less is = omega (arith, is)

-- the walk turns back with what was shown
pub all_turn : (programs : List Program) (HasSeen Sees : List (List Entry) → Type 0) (old new next : List Choice) (w : WorldState) (n : ℕ)
    → n ≡ length w.programs → IsWalked programs old new w → ((runs : List (List Entry)) → HasSeen runs → HasShown Sees runs w n)
    → TurnsTo programs new next → AreSeenOrAhead HasSeen programs old → AreSeenOrAhead Sees programs next
all_turn programs HasSeen Sees old new next w n all walked shown turns before = by (shown before.0 before.1)
  where
    by : HasShown Sees before.0 w n → AreSeenOrAhead Sees programs next
    by (inl sees) = (
      before.0 ++ w.live ∷ [],
      sees,
      walk_turns programs (IsAmong before.0) (IsAmong (before.0 ++ w.live ∷ [])) old new next w n all walked
          (among_before before.0 w.live) (inl (among_last before.0 w.live)) turns before.2,
    )
    by (inr going) = (
      before.0,
      going.0,
      walk_turns programs (IsAmong before.0) (IsAmong before.0) old new next w n all walked (λ live among. among) (inr going.1)
          turns before.2,
    )

-- with no next walk all were shown
pub all_end : (programs : List Program) (HasSeen Sees : List (List Entry) → Type 0) (old new : List Choice) (w : WorldState) (n : ℕ)
    → n ≡ length w.programs → IsWalked programs old new w → ((runs : List (List Entry)) → HasSeen runs → HasShown Sees runs w n)
    → LeavesNone programs new → AreSeenOrAhead HasSeen programs old
    → (runs : List (List Entry)) × Sees runs × (IsTrue true → HasAll programs runs)
all_end programs HasSeen Sees old new w n all walked shown none before = by (shown before.0 before.1)
  where
    by : HasShown Sees before.0 w n → (runs : List (List Entry)) × Sees runs × (IsTrue true → HasAll programs runs)
    by (inl sees) = (
      before.0 ++ w.live ∷ [],
      sees,
      λ is. walk_ends programs (IsAmong before.0) (IsAmong (before.0 ++ w.live ∷ [])) old new w n all walked
          (among_before before.0 w.live) (inl (among_last before.0 w.live)) none before.2,
    )
    by (inr going) = (
      before.0,
      going.0,
      λ is. walk_ends programs (IsAmong before.0) (IsAmong before.0) old new w n all walked (λ live among. among) (inr going.1)
          none before.2,
    )

-- where it was not all, some were shown
pub all_ahead : (programs : List Program) (HasSeen : List (List Entry) → Type 0) (walk : List Choice) → AreSeenOrAhead HasSeen programs walk
    → (runs : List (List Entry)) × HasSeen runs × (IsTrue false → HasAll programs runs)
all_ahead programs HasSeen walk before = (before.0, before.1, λ is. cc)

-- ---- from the start of a walk to its end
pub walked_so : (programs : List Program) (mid last new : WorldState) (before walk choices first : List Choice) → IsUnderWay programs mid → IsUnderWay programs last
    → IsUnderWay programs new → new.live ≡ last.live → HasTaken last walk → IsAtEnd last walk → StaysAhead mid.programs before walk
    → before ≡ [] ++ first → choices ≡ walk → IsWalked programs first choices new
walked_so programs mid last new before walk choices first mid_way last_way way live taken end ahead is same = record {
  way = way;
  taken = ap deliveries_of live ∙ taken ∙ ap taken_of (sym same);
  ended = λ e may. subst (λ cs. IsExcluded cs (record { from = e.from; to = e.to })) (sym same)
      (end e (subst (λ ps. MayFollow ps last.live e) (way.these ∙ sym last_way.these) (subst (λ es. MayFollow new.programs es e) live may)));
  ahead = subst (StaysAhead programs first) (sym same) (subst (λ cs. StaysAhead programs cs walk) is (subst (λ ps. StaysAhead ps before walk) mid_way.these ahead));
}

-- a list of no length is none
pub is_none : (walk : List Choice) → length walk ≡ 0 → walk ≡ []
is_none [] nought = refl
is_none (c ∷ walk) nought = cc

-- one choice more of those that are made anew
pub walk_more : (before walk new choices : List Choice) (i : ℕ) (c : Choice) → i < length choices → c ≡ slice_index_or choices i c
    → walk ≡ before ++ take i choices → new ≡ walk ++ c ∷ [] → new ≡ before ++ take (i + 1) choices
walk_more before walk new choices i c lt at is more =
    more ∙ ap (λ cs. cs ++ c ∷ []) is ∙ append_assoc before (take i choices) (c ∷ [])
    ∙ ap (λ x. before ++ (take i choices ++ x ∷ [])) at ∙ ap (λ cs. before ++ cs) (sym (take_more choices i c lt))
