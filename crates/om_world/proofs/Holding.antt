-- What is told of a world follows from what it keeps.
use Rattle.std.proofs.Common.{◌≡◌, ◌⊎◌, inl, inr, ℕ, zero, suc, ◌+◌, ◌-◌, ◌≤◌, ◌<◌, List, [], ◌∷◌, ◌++◌, length, map, take, Some, Bool, true, false, refl, sym, ap, ◌∙◌, subst, arith}
use Rattle.std.specs.Prelude.{nat_eq, slice_get, slice_index}
use Rattle.om_format.specs.declared.queue.QueueEntry.{QueueEntry}
use Rattle.om_format.specs.Queues.{QueueRecord}
use Rattle.om_stable.specs.Content.{Content}
use Rattle.om_process.specs.Process.{Received}
use Rattle.om_process.specs.Core.{CoreState}
use Rattle.om_process.specs.steps.Pieces.{KeepQueues}
use Rattle.om_process.specs.Dependencies.{count_from}
use Rattle.om_process.specs.Claims.{AtInterval, HasEntry, Makes}
use Rattle.om_recover.specs.Cutting.{IsEffective}
use Rattle.om_recover.specs.declared.row.Row.{Row}
use Rattle.om_recover.specs.declared.row.RowKind.{RowKind}
use Rattle.om_recover.specs.declared.row.RowKind.TheVariants.{Checkpoint, Log}
use Rattle.om_manager.specs.State.{held_by, released_by}
use Rattle.om_world.specs.Live.{program_at}
use Rattle.om_world.specs.World.{WorldState, recovered, output_entry, IsKnown}
use Rattle.om_world.specs.steps.Past.{past_of, history}
use Rattle.om_world.specs.Holds.{HasRecord, Holds, IsWanted, ReleasedFirst, StandsAt}
use Rattle.om_world.specs.steps.Sound.{HasBytes, HasShape, IsBefore, IsOld, IsRunning, IsStored, IsWorld, Runs, Sound}
use Rattle.om_world.proofs.Kept.{row_of}
use Rattle.om_world.proofs.Lists.{inside, map_at, none_in, once, there}
use Rattle.om_world.proofs.Released.{released_first}

-- ---- what a part keeps of the whole
ahead : (gone rest : List QueueEntry) (i : ℕ) (e : QueueEntry) → length gone ≤ i → slice_get (gone ++ rest) i ≡ Some e → slice_get rest (i - length gone) ≡ Some e
ahead [] rest i e le h = ap (slice_get rest) (plain i) ∙ h
  where
    plain : (i : ℕ) → i - 0 ≡ i
    plain i = omega arith
ahead (d ∷ gone) rest zero e le h = absurd (omega arith)
ahead (d ∷ gone) rest (suc i) e le h = ap (slice_get rest) (less i (length gone)) ∙ ahead gone rest i e (omega arith) h
  where
    less : (i n : ℕ) → suc i - suc n ≡ i - n
    less i n = omega arith

kept_has : (ps qs : List QueueRecord) (place number : ℕ) (e : QueueEntry) → KeepQueues ps qs → ((queue : QueueRecord) → slice_get qs place ≡ Some queue → queue.first ≤ number) → HasEntry ps place number e → HasEntry qs place number e
kept_has [] [] place number e k low h = absurd h
kept_has [] (q ∷ qs) place number e k low h = absurd k
kept_has (p ∷ ps) [] place number e k low h = absurd k
kept_has (p ∷ ps) (q ∷ qs) zero number e k low h =
    let f : q.first ≡ p.first + length k.0.0 = k.0.2 in
    let g : number ≡ p.first + h.0 = h.1 in
    let le = low q refl in
    (h.0 - length k.0.0, omega arith, ahead k.0.0 q.entries h.0 e (omega arith) (sym (ap (λ l. slice_get l h.0) k.0.1) ∙ h.2))
kept_has (p ∷ ps) (q ∷ qs) (suc place) number e k low h = kept_has ps qs place number e k.1 low h

count_within : (q x : ℕ) (h : List Received) → count_from q (take x h) ≤ count_from q h
count_within q zero h = omega arith
count_within q (suc x) [] = omega arith
count_within q (suc x) (r ∷ h) = go (nat_eq r.from q) refl (count_within q x h)
  where
    go : (b : Bool) → nat_eq r.from q ≡ b → count_from q (take x h) ≤ count_from q h → count_from q (take (suc x) (r ∷ h)) ≤ count_from q (r ∷ h)
    go true e le = rw e (omega arith)
    go false e le = rw e le

stands : (w : WorldState) (p : ℕ) (c : CoreState) → HasShape w → Sound w → slice_get w.cores p ≡ Some (Some c) → Runs w p → StandsAt w p c
stands w p c h s at runs =
    let short = inside w.cores p (Some c) at in
    let long = h.cores in
    let stores = h.stores in
    let store = there w.contents p (omega arith) in
    let r : IsRunning (past_of w) p store.0 c = s.running p c store.0 at store.1 runs in
    record {
      whole = r.state.0;
      reaches = r.state.1;
      keeps = r.state.2;
      row = row_of (program_at w.programs p) p (length w.programs) c.now (history (past_of w) p) r.state;
      undelivered = λ q number e lt low has. kept_has r.state.0.queues c.now.queues q number e r.state.2.queues
          (λ queue there. under queue.first (count_from p (take (recovered w.manager q) (history (past_of w) q))) (count_from p (history (past_of w) q)) number
          ((r.kept q queue there).0 lt) (count_within p (recovered w.manager q) (history (past_of w) q)) low) has;
    }
  where
    under : (a b c d : ℕ) → a ≤ b → b ≤ c → c ≤ d → a ≤ d
    under a b c d x y z = omega arith

-- ---- what is released
at_front : {A : Type 0} (xs ys : List A) (i : ℕ) (x : A) → slice_get xs i ≡ Some x → slice_get (xs ++ ys) i ≡ Some x
at_front [] ys i x at = absurd (none_in i x at)
at_front (y ∷ xs) ys zero x at = at
at_front (y ∷ xs) ys (suc i) x at = at_front xs ys i x at

pub before_map : {A B : Type 0} (f : A → B) (xs : List A) (i : ℕ) (y : B) → slice_get (map f xs) i ≡ Some y → (x : A) × (slice_get xs i ≡ Some x) × (f x ≡ y)
before_map f [] i y at = absurd (none_in i y at)
before_map f (x ∷ xs) zero y at = (x, refl, once (f x) y at)
before_map f (x ∷ xs) (suc i) y at = before_map f xs i y at

released : (w : WorldState) (p : ℕ) → HasShape w → Sound w → p < length w.programs → ReleasedFirst w p
released w p h s lt =
    let n = length w.programs in
    let outputs = released_by w.manager p in
    let size = h.size in
    let front = h.manager.released p (omega arith) in
    let all = released_first w.programs p w.live (map output_entry outputs) s.legal (λ i e at.
    let o = before_map output_entry outputs i e at in
    let held : slice_get (held_by w.manager p) i ≡ Some o.0 = ap (λ l. slice_get l i) (sym front.1) ∙ at_front outputs front.0 i o.0 o.1 in
    subst (λ (d : QueueEntry). AtInterval (history (past_of w) p) d.interval (Makes (program_at w.programs p) p n n i d)) o.2 (s.outputs p i o.0 held)) in
    (all.0, all.1, λ i o at. all.2 i (output_entry o) (map_at output_entry outputs i o at))

-- ---- records
not_old : (kind : RowKind) (x c d : ℕ) → IsWanted c kind x → IsBefore kind x d → d ≤ c → ⊥
not_old Checkpoint x c d wanted before le = below x c d wanted before le
  where
    below : (x c d : ℕ) → c ≤ x → x < d → d ≤ c → ⊥
    below x c d a b e = omega arith
not_old Log x c d wanted before le = below x c d wanted before le
  where
    below : (x c d : ℕ) → c < x → x ≤ d → d ≤ c → ⊥
    below x c d a b e = omega arith

wanted_has : (w : WorldState) (row : Row) (held : Content) (c : ℕ) → IsEffective w.manager.rows row.pid (recovered w.manager row.pid) c → IsWanted c row.kind row.interval
    → HasBytes held row.kind row.interval ⊎ IsOld w.manager row.pid row.kind row.interval → HasBytes held row.kind row.interval
wanted_has w row held c e wanted (inl has) = has
wanted_has w row held c e wanted (inr old) = absurd (not_old row.kind row.interval c old.checkpoint wanted old.before (e.greatest old.checkpoint old.there old.within))

true_record : (w : WorldState) (p c : ℕ) (held : Content) (kind : RowKind) (x : ℕ) → IsStored (past_of w) p held → x ≤ length (history (past_of w) p) → IsWanted c kind x → HasBytes held kind x
    → HasRecord w p held kind x
true_record w p c held Checkpoint x stored within wanted has = let t = stored.checkpoints x has.0 within has.1 in (has.0, has.1, t.0, t.1, t.2, t.3, t.4)
true_record w p c held Log x stored within wanted has = let t = stored.receipts x has.0 (omega (arith, wanted)) within has.1 in (has.0, has.1, t.0, t.1, t.2)

-- ---- all of it
pub holds : (w : WorldState) → HasShape w → Sound w → Holds w
holds w h s = record {
  legal = s.legal;
  up = λ p c at place. (stands w p c h s at (inl place), (s.up p c at place).round);
  gathered = λ p c at place same. stands w p c h s at (inr (place, λ lt. absurd (apart (slice_index w.rounds p) w.manager.round same lt)));
  released = λ p lt. released w p h s lt;
  backed = λ row held c has at e wanted.
      true_record w row.pid c held row.kind row.interval (s.stored row.pid held at) (s.rows row has).0 wanted (wanted_has w row held c e wanted (s.backed row held has at));
}
  where
    apart : (a b : ℕ) → a ≡ b → a < b → ⊥
    apart a b e lt = omega arith

pub world_holds : {S : Type 0} (IsSound : S → Type 0) (xs : List S) (w : WorldState) → IsWorld IsSound xs w → IsKnown w → Holds w
world_holds IsSound xs w i known = holds w i.shape (i.clean known).1
