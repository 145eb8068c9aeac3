-- What does not stop the process on a way.
use Rattle.std.proofs.Common.{◌≡◌, ℕ, zero, suc, ◌+◌, ◌-◌, ◌<◌, ◌≤◌, ◌⊎◌, inl, inr, List, [], ◌∷◌, ◌++◌, length, get_or, Bool, true, false, Option, Some, None, refl, sym, ap, subst, ◌∙◌, arith}
use Rattle.std.specs.Prelude.{◌&&◌, ◌==◌, nat_lt, if◌then◌else◌, slice_get}
use Rattle.std.specs.List.{list_any}
use Rattle.std.proofs.lemmas.List.{take-append-le}
use Rattle.std.proofs.lemmas.Option.{slice_get_past, slice_get_read}
use Rattle.std.proofs.lemmas.Bool.Decides.{nat_tests}
use Rattle.om_machine.specs.State.{State}
use Rattle.om_machine.specs.derived.NextStep.{next_of}
use Rattle.om_timeline.proofs.Placing.{none_behind, turns_there}
use Rattle.om_requests.specs.declared.request.Watch.{Watch}
use Rattle.om_timeline.specs.declared.deed.Deed.{Deed}
use Rattle.om_timeline.specs.declared.deed.Deed.TheVariants.{Nothing, Ran, Took, Fell, Back}
use Rattle.om_timeline.specs.Alone.{turns_alone}
use Rattle.om_timeline.specs.Deeds.{after_deeds, at_position, turns_at, turns_in}
use Rattle.om_timeline.specs.Timeline.{TimelineState, at, with_deeds}
use Rattle.om_debug.specs.declared.moment.Next.{Next}
use Rattle.om_debug.specs.declared.moment.Next.TheVariants.{Still, Instructions, Receipt, Failure, Return}
use Rattle.om_debug.specs.declared.stop.Stop.{Stop}
use Rattle.om_debug.specs.declared.watching.Access.{Access}
use Rattle.om_debug.specs.declared.stop.Stop.TheVariants as stops
use Rattle.om_debug.specs.Moments.{is_at_instruction, is_down, is_fall, next_at, next_of_deed}
use Rattle.om_debug.specs.Stops.{DebugState, IsBefore, IsFrom, IsMoved, IsPassed, IsQuiet, IsQuietRest, IsWithin, machine_at, stop_at, stop_here, watch_stop, with_timeline}
use Rattle.om_debug.specs.Watching.{first_met, inst_access, ran_met, receipt_access, watch_met}

-- ---- positions
pub split : (a b : ℕ) → (a < b) ⊎ (b ≤ a)
split zero zero = inr (omega arith)
split zero (suc b) = inl (omega arith)
split (suc a) zero = inr (omega arith)
split (suc a) (suc b) = elim (split a b) [ inl h ↦ inl (omega (arith, h)) | inr h ↦ inr (omega (arith, h)) ]

order_at : (e k f j : ℕ) → e ≡ f → IsBefore e k f j ⊎ IsFrom f j e k
order_at e k f j same = elim (split k j) [ inl l ↦ inl (inr (same, l)) | inr l ↦ inr (inr (sym same, l)) ]

order_from : (e k f j : ℕ) → f ≤ e → IsBefore e k f j ⊎ IsFrom f j e k
order_from e k f j h = elim (split f e) [ inl g ↦ inr (inl g) | inr g ↦ order_at e k f j (omega (arith, h, g)) ]

pub order : (e k f j : ℕ) → IsBefore e k f j ⊎ IsFrom f j e k
order e k f j = elim (split e f) [ inl h ↦ inl (inl h) | inr h ↦ order_from e k f j h ]

pub never : (e k f j : ℕ) → IsFrom f j e k → IsBefore e k f j → ⊥
never e k f j (inl a) (inl b) = omega (arith, a, b)
never e k f j (inl a) (inr b) = let same = b.0 in omega (arith, a, same)
never e k f j (inr a) (inl b) = let same = a.0 in omega (arith, b, same)
never e k f j (inr a) (inr b) = let x = a.1 in let y = b.1 in omega (arith, x, y)

-- ---- longer tapes
get_longer : {A : Type 0} (xs ys : List A) (i : ℕ) → i < length xs → slice_get (xs ++ ys) i ≡ slice_get xs i
get_longer [] ys i h = absurd (omega (arith, h))
get_longer (x ∷ xs) ys zero h = refl
get_longer (x ∷ xs) ys (suc i) h = get_longer xs ys i (omega (arith, h))

turns_longer : (ds more : List Deed) (e : ℕ) → e < length ds → turns_at (ds ++ more) e ≡ turns_at ds e
turns_longer [] more e h = absurd (omega (arith, h))
turns_longer (d ∷ ds) more zero h = refl
turns_longer (d ∷ ds) more (suc e) h = turns_longer ds more e (omega (arith, h))

turns_some : (ds : List Deed) (e : ℕ) → 0 < turns_at ds e → e < length ds
turns_some [] e h = absurd (omega (arith, h))
turns_some (d ∷ ds) zero h = omega arith
turns_some (d ∷ ds) (suc e) h = let r = turns_some ds e h in omega (arith, r)

-- ---- what is read at a place
pub turns_read : (ds : List Deed) (e : ℕ) (d : Deed) → e < length ds → d ≡ get_or ds e d → turns_at ds e ≡ turns_in d
turns_read ds e d there read = turns_there ds e d (slice_get_read ds (length ds) e d refl there read)

pub turns_past : (ds : List Deed) (e : ℕ) → length ds ≤ e → turns_at ds e ≡ 0
turns_past ds e past = none_behind ds e past

pub down_first : (ds : List Deed) (e : ℕ) → e ≡ 0 → is_down ds e ≡ false
down_first ds e first = ap (is_down ds) first

below_some : (e : ℕ) → 0 < e → nat_lt 0 e ≡ true
below_some e some = grind (arith, nat_tests)

pub down_read : (ds : List Deed) (e : ℕ) (d : Deed) → 0 < e → e ≤ length ds → d ≡ get_or ds (e - 1) d → is_down ds e ≡ is_fall (Some d)
down_read ds e d some within read =
    ap (λ b. b && is_fall (slice_get ds (e - 1))) (below_some e some)
    ∙ ap is_fall (slice_get_read ds (length ds) (e - 1) d refl (omega (arith, some, within)) read)

pub down_past : (ds : List Deed) (e : ℕ) → length ds < e → is_down ds e ≡ false
down_past ds e past =
    ap (λ b. b && is_fall (slice_get ds (e - 1))) (below_some e (omega (arith, past)))
    ∙ ap is_fall (slice_get_past ds (e - 1) (omega (arith, past)))

pub next_read : (ds : List Deed) (e k : ℕ) (d : Deed) → e < length ds → d ≡ get_or ds e d → next_at ds e k ≡ next_of_deed (is_down ds e) (Some d) k
next_read ds e k d there read = ap (λ o. next_of_deed (is_down ds e) o k) (slice_get_read ds (length ds) e d refl there read)

pub next_past : (ds : List Deed) (e k : ℕ) → length ds ≤ e → next_at ds e k ≡ Still
next_past ds e k past = ap (λ o. next_of_deed (is_down ds e) o k) (slice_get_past ds e past)

pub watch_read : (watches : List Watch) (m : State) (next : Next) (ds : List Deed) (e : ℕ) (d : Deed) → e < length ds → d ≡ get_or ds e d → watch_met watches m (slice_get ds e) next ≡ watch_met watches m (Some d) next
watch_read watches m next ds e d there read = ap (λ o. watch_met watches m o next) (slice_get_read ds (length ds) e d refl there read)

pub watch_past : (watches : List Watch) (m : State) (next : Next) (ds : List Deed) (e : ℕ) → length ds ≤ e → watch_met watches m (slice_get ds e) next ≡ None
watch_past watches m next ds e past = ap (λ o. watch_met watches m o next) (slice_get_past ds e past)

ran_of : (d : Deed) → 0 < turns_in d → d ≡ Ran (turns_in d)
ran_of Nothing h = absurd (omega (arith, h))
ran_of (Ran n) h = refl
ran_of (Took from body) h = absurd (omega (arith, h))
ran_of Fell h = absurd (omega (arith, h))
ran_of (Back m) h = absurd (omega (arith, h))

turns_ran : (ds : List Deed) (e : ℕ) → 0 < turns_at ds e → slice_get ds e ≡ Some (Ran (turns_at ds e))
turns_ran [] e h = absurd (omega (arith, h))
turns_ran (d ∷ ds) zero h = ap (λ x. Some x) (ran_of d h)
turns_ran (d ∷ ds) (suc e) h = turns_ran ds e h

down_longer : (ds more : List Deed) (e : ℕ) → e < length ds → is_down (ds ++ more) e ≡ is_down ds e
down_longer ds more e h = ap (λ o. nat_lt 0 e && is_fall o) (get_longer ds more (e - 1) (omega (arith, h)))

next_longer : (ds more : List Deed) (e k : ℕ) → e < length ds → next_at (ds ++ more) e k ≡ next_at ds e k
next_longer ds more e k h =
    ap (λ b. next_of_deed b (slice_get (ds ++ more) e) k) (down_longer ds more e h)
    ∙ ap (λ o. next_of_deed (is_down ds e) o k) (get_longer ds more e h)

machine_longer : (p n : ℕ) (first : State) (ds more : List Deed) (e k : ℕ) → e < length ds → at_position p n first (ds ++ more) e k ≡ at_position p n first ds e k
machine_longer p n first ds more e k h = ap (λ l. turns_alone p n k (after_deeds p n first l)) (take-append-le e ds more (omega (arith, h)))

-- by what comes next, the machine and the deed
stop_of : List ℕ → List Watch → State → Option Deed → Next → Option Stop
stop_of breaks watches m deed next =
    if is_at_instruction next && list_any (λ address. address == m.pc) breaks then Some stops.Break else watch_stop (watch_met watches m deed next)

stop_longer : (breaks : List ℕ) (watches : List Watch) (t : TimelineState) (more : List Deed) (event turns e k : ℕ) → e < length t.deeds
    → stop_at breaks watches (record t { deeds = t.deeds ++ more; event = event; turns = turns }) e k ≡ stop_at breaks watches t e k
unfolding stop_of
stop_longer breaks watches t more event turns e k h =
    let m : State = machine_at t e k in
    let ds : List Deed = t.deeds ++ more in
    ap (λ x. stop_of breaks watches x (slice_get ds e) (next_at ds e k)) (machine_longer t.process t.n t.first t.deeds more e k h)
    ∙ ap (λ o. stop_of breaks watches m o (next_at ds e k)) (get_longer t.deeds more e h)
    ∙ ap (λ x. stop_of breaks watches m (slice_get t.deeds e) x) (next_longer t.deeds more e k h)

stop_moved : (breaks : List ℕ) (watches : List Watch) (b c : TimelineState) (e k : ℕ) → IsMoved b c → e < length b.deeds → stop_at breaks watches c e k ≡ stop_at breaks watches b e k
stop_moved breaks watches b c e k moved h =
    ap (λ t. stop_at breaks watches t e k) moved.is ∙ stop_longer breaks watches b moved.more c.event c.turns e k h

-- ---- ways
pub inside_of : (t : TimelineState) (e k : ℕ) → IsBefore e k t.event t.turns → IsWithin t → e < length t.deeds
inside_of t e k (inl before) within = let played = within.played in omega (arith, before, played)
inside_of t e k (inr before) within =
    let few : t.turns ≤ turns_at t.deeds e = subst (λ x. t.turns ≤ turns_at t.deeds x) (sym before.0) within.few in
    let less = before.1 in
    turns_some t.deeds e (omega (arith, few, less))

quiet_moved : (breaks : List ℕ) (watches : List Watch) (b c : TimelineState) (e0 k0 : ℕ) → IsMoved b c → IsWithin b → IsQuiet breaks watches b e0 k0 b.event b.turns → IsQuiet breaks watches c e0 k0 b.event b.turns
quiet_moved breaks watches b c e0 k0 moved within quiet = λ e k from before few.
    let h : e < length b.deeds = inside_of b e k before within in
    let turns : turns_at c.deeds e ≡ turns_at b.deeds e = ap (λ (t : TimelineState). turns_at t.deeds e) moved.is ∙ turns_longer b.deeds moved.more e h in
    stop_moved breaks watches b c e k moved h ∙ quiet e k from before (subst (λ x. k ≤ x) turns few)

pub quiet_join : (breaks : List ℕ) (watches : List Watch) (t : TimelineState) (e0 k0 e1 k1 e2 k2 : ℕ) → IsQuiet breaks watches t e0 k0 e1 k1 → IsQuiet breaks watches t e1 k1 e2 k2 → IsQuiet breaks watches t e0 k0 e2 k2
quiet_join breaks watches t e0 k0 e1 k1 e2 k2 first second = λ e k from before few.
    elim (order e k e1 k1) [ inl h ↦ first e k from h few | inr h ↦ second e k h before few ]

-- one way behind another
pub passed_then : (a b c : DebugState) → c ≡ with_timeline b c.timeline → IsWithin b.timeline → IsMoved b.timeline c.timeline → IsPassed a b → IsPassed b c → IsPassed a c
passed_then a b c same within moved first second =
    let breaks : c.breaks ≡ b.breaks = ap (λ (d : DebugState). d.breaks) same in
    let watches : c.watches ≡ b.watches = ap (λ (d : DebugState). d.watches) same in
    let t : TimelineState = b.timeline in
    let longer : IsQuiet b.breaks b.watches c.timeline a.timeline.event a.timeline.turns t.event t.turns =
    quiet_moved b.breaks b.watches t c.timeline a.timeline.event a.timeline.turns moved within first.quiet in
    let there : IsQuiet c.breaks c.watches c.timeline a.timeline.event a.timeline.turns t.event t.turns =
    subst (λ ws. IsQuiet c.breaks ws c.timeline a.timeline.event a.timeline.turns t.event t.turns) (sym watches)
    (subst (λ bs. IsQuiet bs b.watches c.timeline a.timeline.event a.timeline.turns t.event t.turns) (sym breaks) longer) in
    record { quiet = quiet_join c.breaks c.watches c.timeline a.timeline.event a.timeline.turns t.event t.turns c.timeline.event c.timeline.turns there second.quiet }

-- no way
pub passed_none : (a b : DebugState) → b.timeline.event ≡ a.timeline.event → b.timeline.turns ≡ a.timeline.turns → IsPassed a b
passed_none a b event turns = record {
  quiet = λ e k from before few.
      absurd (never e k a.timeline.event a.timeline.turns from (subst (λ x. IsBefore e k a.timeline.event x) turns (subst (λ x. IsBefore e k x b.timeline.turns) event before)));
}

pub passed_not : (d : DebugState) → IsPassed d d
passed_not d = passed_none d d refl refl

-- a timeline at another position
stop_placed : (breaks : List ℕ) (watches : List Watch) (t u : TimelineState) (event turns e k : ℕ) → u ≡ at t event turns → stop_at breaks watches u e k ≡ stop_at breaks watches t e k
stop_placed breaks watches t u event turns e k is = ap (λ x. stop_at breaks watches x e k) is

-- so does nothing of the rest of the event
passed_rest : (a : DebugState) (u : TimelineState) (event turns : ℕ) → u ≡ at a.timeline event turns
    → ((e k : ℕ) → IsFrom a.timeline.event a.timeline.turns e k → IsBefore e k event turns → e ≡ a.timeline.event)
    → IsQuietRest a → (e k : ℕ) → IsFrom a.timeline.event a.timeline.turns e k → IsBefore e k event turns → a.timeline.turns ≤ k → k ≤ turns_at u.deeds e
    → stop_at a.breaks a.watches u e k ≡ None
passed_rest a u event turns is only rest e k from before least few =
    let t : TimelineState = a.timeline in
    let same : e ≡ t.event = only e k from before in
    let turned : turns_at u.deeds e ≡ turns_at t.deeds t.event = ap (λ (x : TimelineState). turns_at x.deeds e) is ∙ ap (turns_at t.deeds) same in
    stop_placed a.breaks a.watches t u event turns e k is
    ∙ ap (λ x. stop_at a.breaks a.watches t x k) same
    ∙ rest.quiet k least (subst (λ x. k ≤ x) turned few)

pub only_event : (event turns e k : ℕ) → IsFrom event turns e k → IsBefore e k (event + 1) 0 → e ≡ event
only_event event turns e k (inl a) (inl b) = omega (arith, a, b)
only_event event turns e k (inl a) (inr b) = let none = b.1 in absurd (omega (arith, none))
only_event event turns e k (inr a) b = sym a.0

pub least_of : (event turns e k : ℕ) → e ≡ event → IsFrom event turns e k → turns ≤ k
least_of event turns e k same (inl a) = absurd (omega (arith, a, same))
least_of event turns e k same (inr a) = a.1

with_same : (a b : DebugState) (e k : ℕ) (r : Option Stop) → b ≡ with_timeline a b.timeline → stop_at a.breaks a.watches b.timeline e k ≡ r → stop_at b.breaks b.watches b.timeline e k ≡ r
with_same a b e k r same is =
    ap (λ (d : DebugState). stop_at d.breaks d.watches b.timeline e k) same ∙ is

-- the rest of an event, where nothing in it stops the process
pub passed_event : (a b : DebugState) → b ≡ with_timeline a b.timeline → b.timeline ≡ at a.timeline (a.timeline.event + 1) 0 → IsQuietRest a → IsPassed a b
passed_event a b same is rest = record {
  quiet = λ e k from before few.
      let t : TimelineState = a.timeline in
      let end : IsBefore e k (t.event + 1) 0 = subst (λ (u : TimelineState). IsBefore e k u.event u.turns) is before in
      let event : e ≡ t.event = only_event t.event t.turns e k from end in
      with_same a b e k None same
      (passed_rest a b.timeline (t.event + 1) 0 is (λ x y f g. only_event t.event t.turns x y f g) rest e k from end (least_of t.event t.turns e k event from) few);
}

pub one_turn : (event turns e k : ℕ) → IsFrom event turns e k → IsBefore e k event (turns + 1) → (e ≡ event) × (k ≡ turns)
one_turn event turns e k (inl a) (inl b) = absurd (omega (arith, a, b))
one_turn event turns e k (inl a) (inr b) = let same = b.0 in absurd (omega (arith, a, same))
one_turn event turns e k (inr a) (inl b) = let same = a.0 in absurd (omega (arith, b, same))
one_turn event turns e k (inr a) (inr b) = let x = a.1 in let y = b.1 in (sym a.0, omega (arith, x, y))

-- one instruction
pub passed_one : (a b : DebugState) → b ≡ with_timeline a b.timeline → b.timeline ≡ at a.timeline a.timeline.event (a.timeline.turns + 1) → stop_here a ≡ None → IsPassed a b
passed_one a b same is none = record {
  quiet = λ e k from before few.
      let t : TimelineState = a.timeline in
      let end : IsBefore e k t.event (t.turns + 1) = subst (λ (u : TimelineState). IsBefore e k u.event u.turns) is before in
      let there = one_turn t.event t.turns e k from end in
      with_same a b e k None same
      (stop_placed a.breaks a.watches t b.timeline t.event (t.turns + 1) e k is
      ∙ ap (λ x. stop_at a.breaks a.watches t x k) there.0
      ∙ ap (λ x. stop_at a.breaks a.watches t t.event x) there.1
      ∙ none);
}

-- ---- where nothing stops the process
none_first : (a : Option Access) → first_met a [] ≡ None
none_first None = refl
none_first (Some a) = refl

none_ran : (m : State) (next : Next) → ran_met [] m next ≡ None
none_ran m Still = refl
none_ran m (Instructions left) = none_first (inst_access m)
none_ran m Receipt = refl
none_ran m Failure = refl
none_ran m Return = refl

none_met : (m : State) (deed : Option Deed) (next : Next) → watch_met [] m deed next ≡ None
none_met m None next = refl
none_met m (Some Nothing) next = refl
none_met m (Some (Ran all)) next = none_ran m next
none_met m (Some (Took from body)) next = none_first (receipt_access (next_of m).0 (length body))
none_met m (Some Fell) next = refl
none_met m (Some (Back after)) next = refl

-- where nothing is watched
pub none_met_of : (watches : List Watch) (m : State) (deed : Option Deed) (next : Next) → watches ≡ [] → watch_met watches m deed next ≡ None
none_met_of watches m deed next none = ap (λ ws. watch_met ws m deed next) none ∙ none_met m deed next

free_next : (b : Bool) (o : Option Watch) → o ≡ None → (if b && false then Some stops.Break else watch_stop o) ≡ None
free_next true o none = ap watch_stop none
free_next false o none = ap watch_stop none

-- without breakpoints and watchpoints
pub rest_free : (d : DebugState) → d.breaks ≡ [] → d.watches ≡ [] → IsQuietRest d
rest_free d breaks watches = record {
  quiet = λ k least few.
      let t : TimelineState = d.timeline in
      ap (λ bs. stop_at bs d.watches t t.event k) breaks
      ∙ ap (λ ws. stop_at [] ws t t.event k) watches
      ∙ free_next (is_at_instruction (next_at t.deeds t.event k)) _ (none_met (machine_at t t.event k) (slice_get t.deeds t.event) (next_at t.deeds t.event k));
}

not_below : (k : ℕ) → nat_lt k k ≡ false
not_below k = grind (arith, nat_tests)

-- behind the last instruction of an event
end_stop : (breaks : List ℕ) (watches : List Watch) (m : State) (down : Bool) (k : ℕ) → stop_of breaks watches m (Some (Ran k)) (next_of_deed down (Some (Ran k)) k) ≡ None
unfolding stop_of
end_stop breaks watches m down k = rw (not_below k) refl

pub end_quiet : (breaks : List ℕ) (watches : List Watch) (t : TimelineState) (e k : ℕ) → turns_at t.deeds e ≡ k → 0 < k → stop_at breaks watches t e k ≡ None
unfolding stop_of
end_quiet breaks watches t e k is some =
    let ran : slice_get t.deeds e ≡ Some (Ran k) = turns_ran t.deeds e (subst (λ x. 0 < x) (sym is) some) ∙ ap (λ x. Some (Ran x)) is in
    ap (λ o. stop_of breaks watches (machine_at t e k) o (next_of_deed (is_down t.deeds e) o k)) ran
    ∙ end_stop breaks watches (machine_at t e k) (is_down t.deeds e) k

-- with at most one instruction left
pub rest_last : (d : DebugState) → stop_here d ≡ None → turns_at d.timeline.deeds d.timeline.event - d.timeline.turns ≤ 1 → IsQuietRest d
rest_last d none left = record {
  quiet = λ k least few.
      let t : TimelineState = d.timeline in
      let all : ℕ = turns_at t.deeds t.event in
      elim (split t.turns k) [ inl h ↦ end_quiet d.breaks d.watches t t.event k (omega (arith, h, left, few)) (omega (arith, h)) | inr h ↦ ap (λ x. stop_at d.breaks d.watches t t.event x) (omega (arith, h, least)) ∙ none ];
}

-- ---- by whether it went
passed_same : (a b : DebugState) → b.timeline ≡ a.timeline → IsPassed a b
passed_same a b same = passed_none a b (ap (λ (t : TimelineState). t.event) same) (ap (λ (t : TimelineState). t.turns) same)

pub event_if : (a b : DebugState) (went : Bool) → b ≡ with_timeline a b.timeline → (went ≡ true → b.timeline ≡ at a.timeline (a.timeline.event + 1) 0) → (went ≡ false → b.timeline ≡ a.timeline) → IsQuietRest a → IsPassed a b
event_if a b true same step none rest = passed_event a b same (step refl) rest
event_if a b false same step none rest = passed_same a b (none refl)

pub one_if : (a b : DebugState) (went : Bool) → b ≡ with_timeline a b.timeline → (went ≡ true → b.timeline ≡ at a.timeline a.timeline.event (a.timeline.turns + 1)) → (went ≡ false → b.timeline ≡ a.timeline) → stop_here a ≡ None → IsPassed a b
one_if a b true same step none quiet = passed_one a b same (step refl) quiet
one_if a b false same step none quiet = passed_same a b (none refl)

-- nothing is in a list without items
empty_of : {A : Type 0} (xs : List A) → length xs ≡ 0 → xs ≡ []
empty_of [] none = refl
empty_of (x ∷ xs) none = absurd (omega (arith, none))

pub rest_empty : (d : DebugState) → length d.breaks ≡ 0 → length d.watches ≡ 0 → IsQuietRest d
rest_empty d breaks watches = rest_free d (empty_of d.breaks breaks) (empty_of d.watches watches)

-- the position is one of the tape
pub within_of : (t : TimelineState) (event turns : ℕ) → event ≡ t.event → turns ≡ t.turns → event ≤ length t.deeds → turns ≤ turns_at t.deeds event → IsWithin t
within_of t event turns at done played few = record {
  played = subst (λ e. e ≤ length t.deeds) at played;
  few = subst (λ e. t.turns ≤ turns_at t.deeds e) at (subst (λ k. k ≤ turns_at t.deeds event) done few);
}

-- where only the tape is longer
pub passed_look : (a : DebugState) (t : TimelineState) → ((deeds : List Deed) × (t ≡ with_deeds a.timeline (a.timeline.deeds ++ deeds))) → IsPassed a (with_timeline a t)
passed_look a t more = passed_none a (with_timeline a t) (ap (λ (x : TimelineState). x.event) more.1) (ap (λ (x : TimelineState). x.turns) more.1)

pub end_look : (a : DebugState) (t : TimelineState) → ((deeds : List Deed) × (t ≡ with_deeds a.timeline (a.timeline.deeds ++ deeds))) → length a.timeline.events ≤ a.timeline.event → length t.events ≤ t.event
end_look a t more past = subst (λ (x : TimelineState). length x.events ≤ x.event) (sym more.1) past

some_event : (event turns end e k : ℕ) → IsFrom event turns e k → IsBefore e k event end → e ≡ event
some_event event turns end e k (inl a) (inl b) = absurd (omega (arith, a, b))
some_event event turns end e k (inl a) (inr b) = b.0
some_event event turns end e k (inr a) b = sym a.0

-- some instructions of an event in whose rest nothing stops the process
pub passed_some : (a b : DebugState) (end : ℕ) → b ≡ with_timeline a b.timeline → b.timeline ≡ at a.timeline a.timeline.event end → IsQuietRest a → IsPassed a b
passed_some a b end same is rest = record {
  quiet = λ e k from before few.
      let t : TimelineState = a.timeline in
      let less : IsBefore e k t.event end = subst (λ (u : TimelineState). IsBefore e k u.event u.turns) is before in
      let event : e ≡ t.event = some_event t.event t.turns end e k from less in
      with_same a b e k None same
      (passed_rest a b.timeline t.event end is (λ x y f g. some_event t.event t.turns end x y f g) rest e k from less (least_of t.event t.turns e k event from) few);
}
