-- Outputs that are handed in.
use Rattle.std.proofs.Common.{◌≡◌, ◌⊎◌, inl, inr, ℕ, zero, suc, ◌+◌, ◌-◌, ◌≤◌, ◌<◌, List, [], ◌∷◌, ◌++◌, length, take, drop, replicate, get_or, Some, Result, Ok, Err, refl, sym, ap, ◌∙◌, subst, arith, length-append}
use Rattle.std.specs.Prelude.{max, slice_get, slice_set, OnOk, IfErr, slice_index}
use Rattle.std.proofs.lemmas.List.{append_assoc, append-nil, get_or-set_same, get_or-set_other, length-drop, set-get_or, set-set, take-take}
use Rattle.om_format.specs.declared.queue.QueueEntry.{QueueEntry}
use Rattle.om_format.specs.Queues.{QueueRecord}
use Rattle.om_stable.specs.Content.{Content}
use Rattle.om_process.specs.declared.queues.Made.{Made}
use Rattle.om_process.specs.Process.{Process, Program, Received, empty_queue, started}
use Rattle.om_process.specs.Turns.{Reaches}
use Rattle.om_process.specs.Parts.{Grow}
use Rattle.om_process.specs.Core.{CoreState, cluster_size}
use Rattle.om_process.specs.Claims.{AtInterval, HasEntry, Makes}
use Rattle.om_process.specs.Frames.{outputs_of}
use Rattle.om_process.specs.Kept.{made_as, numbered, queue_at}
use Rattle.om_process.proofs.Making.{below_along, made_at, part_has, same_entry}
use Rattle.om_process.proofs.Numbering.{has_entry_at, length-numbered}
use Rattle.om_process.proofs.Runs.{leads_grow, turns_grow}
use Rattle.om_recover.specs.Rows.{HasRow}
use Rattle.om_manager.specs.Notes.{IsDifferent, IsLatest, NotesOutput, earlier, other, with_output}
use Rattle.om_manager.specs.steps.Offers.{Offer}
use Rattle.om_manager.specs.Outputs.{HeldOutput}
use Rattle.om_manager.specs.Sound.{IsManager, KeepsReleased}
use Rattle.om_manager.specs.State.{ManagerState, held_by, process_count, released_by}
use Rattle.om_manager.specs.declared.answers.OutputNote.{OutputNote}
use Rattle.om_manager.specs.declared.answers.OutputNote.TheVariants as notes
use Rattle.om_manager.specs.declared.answers.OutputError.{OutputError}
use Rattle.om_manager.specs.declared.answers.OutputError.TheVariants as refused
use Rattle.om_world.specs.Changes.{HoldsMore, IsUp, made_by}
use Rattle.om_world.specs.Live.{program_at}
use Rattle.om_world.specs.World.{WorldState, output_entry}
use Rattle.om_world.specs.steps.Past.{Past, past_of, history}
use Rattle.om_world.specs.steps.Running.{AreHanded, AreHandedUpTo, HasHandedIn, IsHanded, held_as, offer_of, outputs_from}
use Rattle.om_world.specs.steps.Sound.{HasShape, IsCoreOf, IsRunning, IsWorld, Sound, before_of}
use Rattle.om_world.proofs.Keeping.{keeps_same, prefix_then}
use Rattle.om_world.proofs.Kept.{remade, shape_same}
use Rattle.om_world.proofs.Lists.{either, inside, none_in, once, there}
use Rattle.om_world.proofs.Raising.{less, sound_manager}
use Rattle.om_world.proofs.Released.{made_stays, split_at}
use Rattle.om_world.proofs.Telling.{goes_on_by, released_all}
use Rattle.om_world.proofs.Between.{between_more}

-- ---- outputs are made in the order of their numbers
abbrev FromZero : List QueueRecord → Type 0
FromZero [] = Unit {0}
FromZero (q ∷ qs) = (q.first ≡ 0) × FromZero qs

zero_started : (n : ℕ) → FromZero (replicate n empty_queue ++ empty_queue ∷ [])
zero_started zero = (refl, tt)
zero_started (suc n) = (refl, zero_started n)

zero_grown : (x : ℕ) (ps qs : List QueueRecord) → Grow x ps qs → FromZero ps → FromZero qs
zero_grown x [] [] g z = tt
zero_grown x [] (q ∷ qs) g z = absurd g
zero_grown x (p ∷ ps) [] g z = absurd g
zero_grown x (p ∷ ps) (q ∷ qs) g z = (g.0.0 ∙ z.0, zero_grown x ps qs g.1 z.1)

zero_along : (program : Program) (own n : ℕ) (h : List Received) (t : Process) → Reaches program own n h t → FromZero t.queues
zero_along program own n h t a =
    let b = a.1.0 in
    zero_grown b.interval b.queues t.queues (turns_grow own n a.0 b t a.1.2).1 (zero_grown (started program n).interval (started program n).queues b.queues (leads_grow own n h (started program n) b a.1.1).1 (zero_started n))

-- a queue from 0 on has each entry before one that it has
before_entry : (qs : List QueueRecord) (place i j : ℕ) (e : QueueEntry) → FromZero qs → i ≤ j → HasEntry qs place j e → (d : QueueEntry) × HasEntry qs place i d
before_entry [] place i j e z le h = absurd h
before_entry (q ∷ qs) zero i j e z le h =
    let lt = inside q.entries h.0 e h.2 in
    let at : j ≡ q.first + h.0 = h.1 in
    let none : q.first ≡ 0 = z.0 in
    let d = there q.entries i (omega arith) in
    (d.0, (i, omega arith, d.1))
before_entry (q ∷ qs) (suc place) i j e z le h = before_entry qs place i j e z.1 le h

length-take : {A : Type 0} (xs : List A) (k : ℕ) → k ≤ length xs → length (take k xs) ≡ k
length-take xs zero le = refl
length-take [] (suc k) le = absurd (omega arith)
length-take (x ∷ xs) (suc k) le = ap suc (length-take xs k (omega arith))

-- what has a lower number was made no later
pub made_in_order : (program : Program) (own n place i j : ℕ) (h : List Received) (d e : QueueEntry) → i ≤ j → AtInterval h d.interval (Makes program own n place i d) → AtInterval h e.interval (Makes program own n place j e) → d.interval ≤ e.interval
made_in_order program own n place i j h d e le a b = elim (less e.interval d.interval) [
  | inr ge ↦ ge
  | inl lt ↦
      let u = b.1 in
      let f = before_entry u.0.queues place i j e (zero_along program own n (take e.interval h) u.0 u.1) le u.2 in
      let low : f.0.interval ≤ length (take e.interval h) = below_along program own n (take e.interval h) u.0 u.1 place i f.0 f.1 in
      let short = length-take h e.interval b.0 in
      let long = length-take h d.interval a.0 in
      let s = split_at e.interval (take d.interval h) (omega arith) in
      let parts : take d.interval h ≡ take e.interval h ++ s.0 ∷ s.1 = s.2 ∙ ap (λ l. l ++ s.0 ∷ s.1) (take-take e.interval d.interval h (omega arith)) in
      let stays = made_stays program own n place i (take e.interval h) s.1 s.0 f.0 a.1.0 (u.0, u.1, f.1) (subst (λ l. Reaches program own n l a.1.0) parts a.1.1) in
      let same = same_entry program own n place i d.interval d.interval h d f.0 a.0 a.0 (omega arith) (omega arith) a.1 (a.1.0, a.1.1, stays) in
      let x : d.interval ≡ f.0.interval = ap (λ (k : QueueEntry). k.interval) same in
      omega arith
]

-- ---- what the manager holds
abbrev IsMade : Past → ℕ → ℕ → QueueEntry → Type 0
IsMade v p number e = AtInterval (history v p) e.interval (Makes (program_at v.programs p) p (length v.programs) (length v.programs) number e)

abbrev with_m : WorldState → ManagerState → WorldState
with_m w m = remade w w.live w.frames w.cores m w.contents w.health

last_or : (xs : List HeldOutput) (x o : HeldOutput) (i : ℕ) → slice_get (xs ++ x ∷ []) i ≡ Some o → (slice_get xs i ≡ Some o) ⊎ ((i ≡ length xs) × (o ≡ x))
last_or [] x o zero at = inr (refl, sym (once x o at))
last_or [] x o (suc i) at = absurd (none_in i o at)
last_or (y ∷ xs) x o zero at = inl at
last_or (y ∷ xs) x o (suc i) at = elim (last_or xs x o i at) [ inl old ↦ inl old | inr new ↦ let e = new.0 in inr (omega arith, new.1) ]

held_last : (m : ManagerState) (p q i : ℕ) (out o : HeldOutput) → p < length m.outputs → slice_get (held_by (with_output m p out) q) i ≡ Some o
    → (slice_get (held_by m q) i ≡ Some o) ⊎ ((q ≡ p) × (i ≡ length (held_by m p)) × (o ≡ out))
held_last m p q i out o lt at = elim (either q p) [
  | inl same ↦
      let here : slice_get (held_by m p ++ out ∷ []) i ≡ Some o = ap (λ l. slice_get l i) (sym (get_or-set_same m.outputs p (held_by m p ++ out ∷ []) [] lt)) ∙ ap (λ k. slice_get (held_by (with_output m p out) k) i) (sym same) ∙ at in
      elim (last_or (held_by m p) out o i here) [ inl old ↦ inl (ap (λ k. slice_get (held_by m k) i) same ∙ old) | inr new ↦ inr (same, new.0, new.1) ]
  | inr apart ↦ inl (ap (λ l. slice_get l i) (sym (get_or-set_other m.outputs p q (held_by m p ++ out ∷ []) [] apart)) ∙ at)
]

held_long : (m : ManagerState) (p : ℕ) (out : HeldOutput) → p < length m.outputs → length (held_by (with_output m p out) p) ≡ length (held_by m p) + 1
held_long m p out lt = ap length (get_or-set_same m.outputs p (held_by m p ++ out ∷ []) [] lt) ∙ length-append (held_by m p) (out ∷ [])

-- an output that is not refused is there, or it is the next one
taken : (old new : ManagerState) (o : Offer) (note : OutputNote) → NotesOutput old o.pid o.round o.seq o.output (Ok note) new → ((slice_get (held_by old o.pid) o.seq ≡ Some o.output) × (new ≡ old)) ⊎ (new ≡ with_output old o.pid o.output)
taken old new o notes.Known n = inl (n.1, n.2)
taken old new o notes.Released n = inr n.2
taken old new o notes.Held n = inr n.2

more_none : (m : ManagerState) (p : ℕ) → HoldsMore m p m
more_none m p = ([], ap (λ l. record m { outputs = l }) (sym (ap (slice_set m.outputs p) (append-nil (held_by m p)) ∙ set-get_or m.outputs p [])))

more_then : (a b c : ManagerState) (p : ℕ) → p < length a.outputs → HoldsMore a p b → HoldsMore b p c → HoldsMore a p c
more_then a b c p lt f g =
    let h = held_by a p in (
      f.0 ++ g.0,
      g.1 ∙ ap (λ (m : ManagerState). record m { outputs = slice_set m.outputs p (held_by m p ++ g.0) }) f.1
          ∙ ap (λ l. record a { outputs = slice_set (slice_set a.outputs p (h ++ f.0)) p (l ++ g.0) }) (get_or-set_same a.outputs p (h ++ f.0) [] lt)
          ∙ ap (λ l. record a { outputs = l }) (set-set a.outputs p (h ++ f.0) ((h ++ f.0) ++ g.0))
          ∙ ap (λ l. record a { outputs = slice_set a.outputs p l }) (append_assoc h f.0 g.0),
    )

pub handed_more : (old new : ManagerState) (round p : ℕ) (ms : List Made) → p < process_count old → IsManager old → AreHanded old round p ms new → HoldsMore old p new × KeepsReleased old new × IsManager new × (process_count new ≡ process_count old)
handed_more old new round p [] lt is same = subst (λ m. HoldsMore old p m × KeepsReleased old m × IsManager m × (process_count m ≡ process_count old)) (sym same) (more_none old p, keeps_same old, is, refl)
handed_more old new round p (m ∷ ms) lt is h =
    let mid = h.0 in let t = h.2 in
    let places = t.keeps.below.same_places in let many = is.places in
    let rest = handed_more mid new round p ms (omega arith) t.keeps.sound h.3 in
    let one : HoldsMore old p mid = elim (taken old mid (offer_of round p m) h.1 t.answers) [ inl known ↦ subst (HoldsMore old p) (sym known.1) (more_none old p) | inr new ↦ (record { interval = m.interval; bytes = m.bytes } ∷ [], new) ] in (
      more_then old mid new p (omega arith) one rest.0,
      λ q few. prefix_then (released_by old q) (released_by mid q) (released_by new q) (t.keeps.released q few) (rest.1 q (omega arith)),
      rest.2,
      rest.3 ∙ sym places,
    )

-- ---- one output more, which was made
abbrev IsAfter : WorldState → ℕ → ManagerState → ℕ → Type 0
IsAfter w p m next = HasShape (with_m w m) × Sound (with_m w m) × (m.round ≡ w.manager.round) × (next ≡ length (held_by m p))

one_handed : (w : WorldState) (mid : ManagerState) (round p next : ℕ) (e : QueueEntry) (note : OutputNote) → HasShape w → Sound w → p < length w.programs → next ≡ length (held_by w.manager p) → IsMade (past_of w) p next e
    → IsHanded w.manager round p (made_as next e) (Ok note) mid → IsAfter w p mid (next + 1)
one_handed w mid round p next e note h s lt at made t = elim (taken w.manager mid (offer_of round p (made_as next e)) note t.answers) [
  | inl known ↦ let short = inside (held_by w.manager p) next (record { interval = e.interval; bytes = e.body }) known.0 in absurd (omega arith)
  | inr new ↦
      let out : HeldOutput = record { interval = e.interval; bytes = e.body } in
      let size = h.size in let places = h.manager.places in let here : p < length w.manager.outputs = omega arith in
      let long : length (held_by mid p) ≡ length (held_by w.manager p) + 1 = ap (λ (m : ManagerState). length (held_by m p)) new ∙ held_long w.manager p out here in
      let g = goes_on_by w.manager mid h.manager t.keeps.below t.keeps.released (λ row has. subst (λ (m : ManagerState). HasRow m.rows row) (sym new) has)
      (ap (λ (m : ManagerState). m.starts) new) (ap (λ (m : ManagerState). m.round) new) (ap (λ (m : ManagerState). m.gathering) new) (ap (λ (m : ManagerState). m.backs) new) (ap (λ (m : ManagerState). m.last) new) in (
        shape_same w w.live w.frames mid w.contents w.health h refl t.keeps.sound (sym t.keeps.below.same_places),
        sound_manager w mid s g
            (λ q i o f. elim (held_last w.manager p q i out o here (subst (λ (m : ManagerState). slice_get (held_by m q) i ≡ Some o) new f)) [
              | inl old ↦ s.outputs q i o old
              | inr last ↦ subst (λ k. IsMade (past_of w) k i (output_entry o)) (sym last.0) (subst (λ k. IsMade (past_of w) p k (output_entry o)) (at ∙ sym last.1) (subst (λ (x : HeldOutput). IsMade (past_of w) p next (output_entry x)) (sym last.2) made))
            ])
            (λ row has. inl (subst (λ (m : ManagerState). HasRow m.rows row) new has)),
        ap (λ (m : ManagerState). m.round) new,
        omega arith,
      )
]

at_get : (xs : List HeldOutput) (i : ℕ) (x d : HeldOutput) → slice_get xs i ≡ Some x → get_or xs i d ≡ x
at_get [] i x d at = absurd (none_in i x at)
at_get (y ∷ xs) zero x d at = once y x at
at_get (y ∷ xs) (suc i) x d at = at_get xs i x d at

-- and it is refused for want of memory alone
not_refused : (w : WorldState) (new : ManagerState) (round p next : ℕ) (e : QueueEntry) (fault : OutputError) → HasShape w → Sound w → p < length w.programs → round ≡ w.manager.round → next ≡ length (held_by w.manager p) → IsMade (past_of w) p next e
    → NotesOutput w.manager p round next (held_as (made_as next e)) (Err fault) new → fault ≡ refused.Memory
not_refused w new round p next e refused.Memory h s lt now at made n = refl
not_refused w new round p next e refused.Stranger h s lt now at made n = let le = n.0 in let size = h.size in absurd (omega arith)
not_refused w new round p next e (refused.Stale told) h s lt now at made n = absurd (n.1 now)
not_refused w new round p next e (refused.Gap told) h s lt now at made n = let is = n.1 in let le = n.2 in absurd (omega arith)
not_refused w new round p next e refused.Differs h s lt now at made n = absurd (same n.1)
  where
    latest : IsLatest w.manager p (held_as (made_as next e))
    latest = λ k d below.
        let o = there (held_by w.manager p) k below in
        subst (λ (x : HeldOutput). x.interval ≤ e.interval) (sym (at_get (held_by w.manager p) k o.0 d o.1))
        (made_in_order (program_at w.programs p) p (length w.programs) (length w.programs) k next (history (past_of w) p) (output_entry o.0) e (omega arith) (s.outputs p k o.0 o.1) made)

    same : IsDifferent w.manager p next (held_as (made_as next e)) → ⊥
    same (other below differs) = omega arith
    same (earlier is late) = late latest

-- ---- outputs in order
-- these are made, from this number on
abbrev AreMade : Past → ℕ → ℕ → List QueueEntry → Type 0
AreMade v p next es = (k : ℕ) (e : QueueEntry) → slice_get es k ≡ Some e → IsMade v p (next + k) e

next_made : (v : Past) (p next : ℕ) (d : QueueEntry) (es : List QueueEntry) → AreMade v p next (d ∷ es) → AreMade v p (next + 1) es
next_made v p next d es all k e at = subst (λ j. IsMade v p j e) (more next k) (all (suc k) e at)
  where
    more : (next k : ℕ) → next + suc k ≡ (next + 1) + k
    more next k = omega arith

all_handed : (w : WorldState) (m : ManagerState) (round p next : ℕ) (es : List QueueEntry) → HasShape w → Sound w → p < length w.programs → next ≡ length (held_by w.manager p) → AreMade (past_of w) p next es
    → AreHanded w.manager round p (numbered made_as next es) m → IsAfter w p m (next + length es)
all_handed w m round p next [] h s lt at all same = subst (λ k. IsAfter w p k (next + 0)) (sym same) (h, s, refl, plain next ∙ at)
  where
    plain : (n : ℕ) → n + 0 ≡ n
    plain n = omega arith
all_handed w m round p next (e ∷ es) h s lt at all handed =
    let mid = handed.0 in
    let made : IsMade (past_of w) p next e = subst (λ k. IsMade (past_of w) p k e) (plain next) (all 0 e refl) in
    let one = one_handed w mid round p next e handed.1 h s lt at made handed.2 in
    let rest = all_handed (with_m w mid) m round p (next + 1) es one.0 one.1 lt one.3 (next_made (past_of w) p next e es all) handed.3 in
    (rest.0, rest.1, rest.2 ∙ one.2, more next (length es) ∙ rest.3)
  where
    plain : (n : ℕ) → n + 0 ≡ n
    plain n = omega arith

    more : (n k : ℕ) → n + suc k ≡ (n + 1) + k
    more n k = omega arith

take_numbered : (next k : ℕ) (es : List QueueEntry) → take k (numbered made_as next es) ≡ numbered made_as next (take k es)
take_numbered next zero es = refl
take_numbered next (suc k) [] = refl
take_numbered next (suc k) (e ∷ es) = ap (λ l. made_as next e ∷ l) (take_numbered (next + 1) k es)

at_numbered : (next k : ℕ) (es : List QueueEntry) (m : Made) → slice_get (numbered made_as next es) k ≡ Some m → (e : QueueEntry) × (slice_get es k ≡ Some e) × (m ≡ made_as (next + k) e)
at_numbered next k [] m at = absurd (none_in k m at)
at_numbered next zero (e ∷ es) m at = (e, refl, sym (once (made_as next e) m at) ∙ ap (λ j. made_as j e) (plain next))
  where
    plain : (n : ℕ) → n ≡ n + 0
    plain n = omega arith
at_numbered next (suc k) (e ∷ es) m at = let r = at_numbered (next + 1) k es m at in (r.0, r.1, r.2 ∙ ap (λ j. made_as j r.0) (more next k))
  where
    more : (n k : ℕ) → (n + 1) + k ≡ n + suc k
    more n k = omega arith

at_take : (es : List QueueEntry) (n k : ℕ) (e : QueueEntry) → slice_get (take n es) k ≡ Some e → slice_get es k ≡ Some e
at_take es zero k e at = absurd (none_in k e at)
at_take [] (suc n) k e at = at
at_take (d ∷ es) (suc n) zero e at = at
at_take (d ∷ es) (suc n) (suc k) e at = at_take es n k e at

at_drop : (es : List QueueEntry) (n k : ℕ) (e : QueueEntry) → slice_get (drop n es) k ≡ Some e → slice_get es (n + k) ≡ Some e
at_drop es zero k e at = ap (slice_get es) (plain k) ∙ at
  where
    plain : (k : ℕ) → 0 + k ≡ k
    plain k = omega arith
at_drop [] (suc n) k e at = absurd (none_in k e at)
at_drop (d ∷ es) (suc n) k e at = ap (slice_get (d ∷ es)) (next n k) ∙ at_drop es n k e at
  where
    next : (n k : ℕ) → suc n + k ≡ suc (n + k)
    next n k = omega arith

-- ---- the outputs of a process that runs
first_of : (qs : List QueueRecord) (place x : ℕ) → ((queue : QueueRecord) → slice_get qs place ≡ Some queue → queue.first ≤ x) → (queue_at qs place).first ≤ x
first_of [] place x low = omega arith
first_of (q ∷ qs) zero x low = low q refl
first_of (q ∷ qs) (suc place) x low = first_of qs place x low

-- those that the manager has not are made, and numbered from its next one on
abbrev IsBehind : WorldState → ℕ → CoreState → Type 0
IsBehind w p c =
    ((outputs_of c).first ≤ length (held_by w.manager p))
    × AreMade (past_of w) p (length (held_by w.manager p)) (drop (length (held_by w.manager p) - (outputs_of c).first) (outputs_of c).entries)

behind : (w : WorldState) (p : ℕ) (held : Content) (c : CoreState) → HasShape w → p < length w.programs → IsCoreOf (length w.programs) p c → IsRunning (past_of w) p held c → IsBehind w p c
behind w p held c h lt own r =
    let n = length w.programs in
    let size = h.size in
    let prefix = h.manager.released p (omega arith) in
    let parts : length (released_by w.manager p ++ prefix.0) ≡ length (released_by w.manager p) + length prefix.0 = length-append (released_by w.manager p) prefix.0 in
    let whole = ap length prefix.1 in
    let bound : (queue_at c.now.queues n).first ≤ length (released_by w.manager p) = first_of c.now.queues n (length (released_by w.manager p)) (λ queue at. (r.kept n queue at).1 refl) in
    let low : (outputs_of c).first ≤ length (held_by w.manager p) = subst (λ k. (queue_at c.now.queues k).first ≤ length (held_by w.manager p)) (sym own.size) (omega arith) in (
      low,
      λ k e at.
          let q = outputs_of c in
          let next = length (held_by w.manager p) in
          let has : HasEntry c.now.queues (cluster_size c.now) (next + k) e = has_entry_at c.now.queues (cluster_size c.now) ((next - q.first) + k) (next + k) e (number q.first next k low) (at_drop q.entries (next - q.first) k e at) in
          made_at (program_at w.programs p) p n n (next + k) (history (past_of w) p) e (r.state.0, r.state.1, part_has r.state.0.queues c.now.queues n (next + k) e r.state.2.queues (subst (λ j. HasEntry c.now.queues j (next + k) e) own.size has)),
    )
  where
    number : (first next k : ℕ) → first ≤ next → next + k ≡ first + ((next - first) + k)
    number first next k le = omega arith

-- ---- a process that is up hands in
abbrev pub IsHandedIn : WorldState → ℕ → Result (Unit {0}) OutputError → ManagerState → Type 0
IsHandedIn w p end m = (c : CoreState) × (slice_get w.cores p ≡ Some (Some c)) × AreHandedUpTo w.manager c.round p (outputs_from c (length (held_by w.manager p))) end m

-- what is known then: so many of the outputs are held
record IsHeld (w : WorldState) (p : ℕ) (c : CoreState) (count : ℕ) (m : ManagerState) : Type 0 where
  pub shape : HasShape (with_m w m)
  pub sound : Sound (with_m w m)
  pub round : c.round ≡ m.round
  pub inside : p < length w.programs
  pub behind : IsBehind w p c
  pub numbers : outputs_from c (length (held_by w.manager p)) ≡ numbered made_as (length (held_by w.manager p)) (drop (length (held_by w.manager p) - (outputs_of c).first) (outputs_of c).entries)
  pub long : length (held_by m p) ≡ length (held_by w.manager p) + count

is_held : (w : WorldState) (p : ℕ) (c : CoreState) (end : Result (Unit {0}) OutputError) (m : ManagerState) → HasShape w → Sound w → IsUp w p → slice_get w.cores p ≡ Some (Some c)
    → (t : AreHandedUpTo w.manager c.round p (outputs_from c (length (held_by w.manager p))) end m) → IsHeld w p c t.0 m
is_held w p c end m h s up at t =
    let short = inside w.cores p (Some c) at in let cores = h.cores in let stores = h.stores in
    let lt : p < length w.programs = omega arith in
    let store = there w.contents p (omega arith) in
    let b = behind w p store.0 c h lt (h.own p c at) (s.running p c store.0 at store.1 (inl up)) in
    let q = outputs_of c in
    let next = length (held_by w.manager p) in
    let es = drop (next - q.first) q.entries in
    let numbers : outputs_from c next ≡ numbered made_as next es = ap (λ k. numbered made_as k es) (high q.first next b.0) in
    let within : t.0 ≤ length es = subst (λ k. t.0 ≤ k) (ap length numbers ∙ length-numbered made_as next es) t.1.within in
    let handed : AreHanded w.manager c.round p (numbered made_as next (take t.0 es)) m = subst (λ ms. AreHanded w.manager c.round p ms m) (ap (take t.0) numbers ∙ take_numbered next t.0 es) t.1.done in
    let all = all_handed w m c.round p next (take t.0 es) h s lt refl (λ k e f. b.1 k e (at_take es t.0 k e f)) handed in
    record { shape = all.0; sound = all.1; round = (s.up p c at up).round ∙ sym all.2; inside = lt; behind = b; numbers = numbers; long = sym all.3 ∙ ap (λ k. next + k) (length-take es t.0 within) }
  where
    high : (first next : ℕ) → first ≤ next → max first next ≡ next
    high first next le = omega arith

pub after_handed : {S : Type 0} (IsSound : S → Type 0) (xs : List S) (w : WorldState) (p : ℕ) (end : Result (Unit {0}) OutputError) (m : ManagerState) → IsWorld IsSound xs w → IsUp w p → IsHandedIn w p end m
    → IsWorld IsSound xs (remade w w.live w.frames w.cores m w.contents w.health)
after_handed IsSound xs w p end m i up n =
    let c = n.0 in let t = n.2 in
    let short = inside w.cores p (Some c) n.1 in let cores = i.shape.cores in let size = i.shape.size in
    let more = handed_more w.manager m c.round p (take t.0 (outputs_from c (length (held_by w.manager p)))) (omega arith) i.shape.manager t.1.done in
    record {
      shape = shape_same w w.live w.frames m w.contents w.health i.shape refl more.2 more.3;
      clean = λ all. let s = i.clean all in (s.0, (is_held w p c end m i.shape s.1 up n.1 t).sound);
      between = λ all free. between_more (before_of w) m w.live w.contents (λ q. ap (λ r. slice_index r q) (ap (λ (k : ManagerState). k.recovery) more.0.1)) (λ q lt. released_all w.manager m i.shape.manager more.1 q) (i.between all free);
    }

all_held : (w : WorldState) (p : ℕ) (c : CoreState) (end : Result (Unit {0}) OutputError) (m : ManagerState) → (t : AreHandedUpTo w.manager c.round p (outputs_from c (length (held_by w.manager p))) end m) → IsHeld w p c t.0 m
    → OnOk end (made_by c ≤ length (held_by m p))
all_held w p c (Err fault) m t k = tt
all_held w p c (Ok done) m t k =
    let q = outputs_of c in
    let next = length (held_by w.manager p) in
    let es = drop (next - q.first) q.entries in
    let count : t.0 ≡ length es = t.1.all ∙ ap length k.numbers ∙ length-numbered made_as next es in
    let rest = length-drop (next - q.first) q.entries in
    let low = k.behind.0 in let long = k.long in
    omega arith

memory_alone : (w : WorldState) (p : ℕ) (c : CoreState) (end : Result (Unit {0}) OutputError) (m : ManagerState) → (t : AreHandedUpTo w.manager c.round p (outputs_from c (length (held_by w.manager p))) end m) → IsHeld w p c t.0 m
    → IfErr end (λ fault. fault ≡ refused.Memory)
memory_alone w p c (Ok done) m t k = tt
memory_alone w p c (Err fault) m t k =
    let q = outputs_of c in
    let next = length (held_by w.manager p) in
    let es = drop (next - q.first) q.entries in
    let f = t.1.refused in
    let e = at_numbered next t.0 es f.0 (ap (λ ms. slice_get ms t.0) (sym k.numbers) ∙ f.1) in
    not_refused (with_m w m) m c.round p (next + t.0) e.0 fault k.shape k.sound k.inside k.round (sym k.long) (k.behind.1 t.0 e.0 e.1)
    (subst (λ (x : Made). NotesOutput m p c.round x.seq (held_as x) (Err fault) m) e.2 f.2)

pub has_handed : {S : Type 0} (IsSound : S → Type 0) (xs : List S) (w : WorldState) (p : ℕ) (end : Result (Unit {0}) OutputError) (m : ManagerState) → IsWorld IsSound xs w → IsUp w p → IsHandedIn w p end m
    → HasHandedIn w p end (remade w w.live w.frames w.cores m w.contents w.health)
has_handed IsSound xs w p end m i up n =
    let c = n.0 in let t = n.2 in
    let short = inside w.cores p (Some c) n.1 in let cores = i.shape.cores in let size = i.shape.size in
    let more = handed_more w.manager m c.round p (take t.0 (outputs_from c (length (held_by w.manager p)))) (omega arith) i.shape.manager t.1.done in
    record {
      core = c;
      there = n.1;
      others = refl;
      more = more.0;
      released = more.1;
      all = λ known. all_held w p c end m t (is_held w p c end m i.shape (i.clean known).1 up n.1 t);
      memory = λ known. memory_alone w p c end m t (is_held w p c end m i.shape (i.clean known).1 up n.1 t);
    }
