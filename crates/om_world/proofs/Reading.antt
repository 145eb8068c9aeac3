-- A world whose stores are read, and whose rows a manager is told.
use Rattle.std.proofs.Common.{◌≡◌, ◌≢◌, inl, inr, ℕ, ◌+◌, ◌<◌, List, [], length, map, set, Some, Bool, true, refl, sym, ap, ◌∙◌, subst, arith, length-set}
use Rattle.std.specs.List.{AllByRecursion}
use Rattle.std.specs.Prelude.{All, slice_get, slice_index_or}
use Rattle.om_look.specs.Rows.{AreRowsOf}
use Rattle.om_look.specs.declared.rows.RowsFault.{RowsFault}
use Rattle.om_look.specs.declared.rows.RowsFault.TheVariants as rows_faults
use Rattle.om_format.specs.declared.message.Message.{Message}
use Rattle.om_process.specs.Process.{Program}
use Rattle.om_process.specs.declared.row.PendingRow.{PendingRow}
use Rattle.om_recover.specs.declared.note.NoteError.TheVariants as notes
use Rattle.om_stable.specs.Calls.{IsCleanCall, UsesStore}
use Rattle.om_stable.specs.Content.{Content, nothing}
use Rattle.om_member.specs.Handed.{made_of}
use Rattle.om_member.specs.declared.member.Member.{Member}
use Rattle.om_manager.specs.Outputs.{AreNumbered, HeldOutput, held_of}
use Rattle.om_manager.specs.Sound.{IsManager}
use Rattle.om_manager.specs.State.{ManagerState, held_by, process_count, released_by}
use Rattle.om_manager.specs.declared.output_log.Output.{Output}
use Rattle.om_manager.specs.declared.answers.OutputError.{OutputError}
use Rattle.om_manager.specs.declared.answers.OutputError.TheVariants as outputs
use Rattle.om_manager.specs.declared.answers.RecordError.{RecordError}
use Rattle.om_manager.specs.declared.answers.RecordError.TheVariants as records
use Rattle.om_take_up.specs.TakenUp.{HasTakenUp}
use Rattle.om_take_up.specs.declared.taking.TakeUpFault.{TakeUpFault}
use Rattle.om_take_up.specs.declared.taking.TakeUpFault.TheVariants as take_ups
use Rattle.om_take_up.specs.steps.Handing.{Holds}
use Rattle.om_take_up.proofs.HandingLemmas.{released_held}
use Rattle.om_world.specs.declared.entry.Entry.{Entry}
use Rattle.om_world.specs.declared.event.Refusal.TheVariants as why
use Rattle.om_world.specs.Changes.{HasFailed}
use Rattle.om_world.specs.Disk.{held_in}
use Rattle.om_world.specs.Started.{IsNew}
use Rattle.om_world.specs.World.{Health, IsEmpty, IsKnown, WorldState, all_clean}
use Rattle.om_world.specs.steps.Members.{Besides, content_in, core_in, health_in, health_of, place_in, round_in, seen, sound_in}
use Rattle.om_world.specs.steps.Moves.{IsCalled, refusal_of_record}
use Rattle.om_world.specs.steps.Restarting.{HasLearned, HasRead, HasRowsUpTo, HasToldStores, IsRefusal, refusal_of_rows, refusal_of_take_up}
use Rattle.om_world.specs.steps.Running.{refusal_of_output}
use Rattle.om_world.specs.steps.Sound.{IsBetween, IsWorld, Sound, before_of}
use Rattle.om_world.proofs.Beginning.{index_same}
use Rattle.om_world.proofs.Disk.{index_at}
use Rattle.om_world.proofs.FailureCounts.{called_counts, counted, counts_stay, counts_then, failed_after}
use Rattle.om_world.proofs.Gaining.{sound_clean}
use Rattle.om_world.proofs.Kept.{remade, shape_same}
use Rattle.om_world.proofs.Lists.{clean_before, either, length-map, map_at, map_set, sound_at, sound_set}
use Rattle.om_world.proofs.Noting.{over}
use Rattle.om_world.proofs.Recording.{set_back}
use Rattle.om_take_up.specs.steps.Telling.{IsToldRows}
use Rattle.om_take_up.proofs.RowsLemmas.{AreAdded, are_added}
use Rattle.om_world.proofs.RowsTold.{no_rows, one_store}
use Rattle.om_world.proofs.Seats.{called_in, restored}
use Rattle.om_world.specs.Stopped.{IsLeft, IsWhole, AreCurrent}
use Rattle.om_world.specs.Failures.{HasNews}

abbrev IsSame : Content → Content → Type 0
IsSame before after = after ≡ before

-- ---- one store is read
module _ {S Failed : Type 0} (content : S → Content) (health : S → Health) (IsSound : S → Type 0) (w : WorldState) (p : ℕ) (xs ys : List S) (i : IsWorld IsSound xs (over content health w xs w.cores)) (k : IsCalled content health IsSound Failed xs ys p IsSame) where
  same_contents : IsKnown (over content health w ys w.cores) → map content ys ≡ map content xs
  same_contents known =
      let before = clean_before health xs p k.before k.after k.there k.clean (subst (λ zs. all_clean (map health zs) ≡ true) k.stores known.1) in
      let s = i.clean (known.0, before.0) in
      let did = k.did before.1 (sound_at IsSound xs p k.before s.0 k.there) in
      ap (map content) k.stores ∙ sym (map_set content xs p k.after) ∙ ap (set (map content xs) p) did ∙ set_back (map content xs) p (content k.before) (map_at content xs p k.before k.there)

  pub after_read_store : IsWorld IsSound ys (over content health w ys w.cores)
  after_read_store =
      record {
        shape = (shape_same (over content health w xs w.cores) w.live w.frames w.manager (map content ys) (map health ys) i.shape
            (length-map content ys ∙ ap length k.stores ∙ length-set xs p k.after ∙ sym (length-map content xs)) i.shape.manager refl);
        clean = λ all.
            let before = clean_before health xs p k.before k.after k.there k.clean (subst (λ zs. all_clean (map health zs) ≡ true) k.stores all.1) in
            let s = i.clean (all.0, before.0) in
            let was = sound_at IsSound xs p k.before s.0 k.there in (
              (subst (λ zs. AllByRecursion IsSound zs) (sym k.stores) (sound_set IsSound xs p k.after s.0 (k.sound before.1 was))),
              subst (λ l. Sound (remade w w.live w.frames w.cores w.manager l (map health ys))) (sym (same_contents all)) (sound_clean w (map content xs) (map health xs) (map health ys) s.1),
            );
        between = λ all free.
            let before = clean_before health xs p k.before k.after k.there k.clean (subst (λ zs. all_clean (map health zs) ≡ true) k.stores all.1) in
            subst (IsBetween (before_of w) w.live) (sym (same_contents all)) (i.between (all.0, before.0) free);
      }

  pub has_read_store : HasRead (over content health w xs w.cores) (over content health w ys w.cores)
  has_read_store = record {
    others = refl;
    was_clean = λ all. (clean_before health xs p k.before k.after k.there k.clean (subst (λ zs. all_clean (map health zs) ≡ true) k.stores all)).0;
    counts = called_counts content health IsSound p xs ys IsSame k;
    same = same_contents;
  }

-- ---- in a world
module _ {S : Type 0} (content : S → Content) (is_clean : S → Bool) (failed : S → ℕ) (IsSound : S → Type 0) (P : List Program) (L : List Entry) (F : List Message) (ms : List (Member S)) (M : ManagerState) (O : Besides) (p : ℕ) (m : Member S) (at : slice_get ms p ≡ Some m) (n : Member S) (v : WorldState)
    (i : IsWorld (sound_in IsSound) ms (seen content (health_of is_clean failed) P L F ms M O)) (e : seen content (health_of is_clean failed) P L F ms M O ≡ v) (others : n ≡ record m { store = n.store })
    (Failed : Type 0) (used : UsesStore failed is_clean IsSound m.store Failed n.store) (same : IsCleanCall is_clean IsSound m.store n.store → content n.store ≡ content m.store) where
  abbrev pub seen_before : WorldState
  seen_before = seen content (health_of is_clean failed) P L F ms M O

  abbrev pub seen_after : WorldState
  seen_after = seen content (health_of is_clean failed) P L F (set ms p n) M O

  called : IsCalled (content_in content) (health_in (health_of is_clean failed)) (sound_in IsSound) Failed ms (set ms p n) p IsSame
  called = called_in content is_clean failed IsSound Failed IsSame ms p m n at (record { used = used; did = λ clean sound. same (clean, sound) })

  as_seen : over (content_in content) (health_in (health_of is_clean failed)) seen_before (set ms p n) seen_before.cores ≡ seen_after
  as_seen = restored content (health_of is_clean failed) IsSound P L F ms M O p m at n (ap core_in others) (ap place_in others) (ap round_in others)

  pub after_read : IsWorld (sound_in IsSound) (set ms p n) seen_after
  after_read = subst (IsWorld (sound_in IsSound) (set ms p n)) as_seen (after_read_store (content_in content) (health_in (health_of is_clean failed)) (sound_in IsSound) seen_before p ms (set ms p n) i called)

  pub was_read : HasRead v seen_after
  was_read = subst (λ (x : WorldState). HasRead x seen_after) e (subst (HasRead seen_before) as_seen (has_read_store (content_in content) (health_in (health_of is_clean failed)) (sound_in IsSound) seen_before p ms (set ms p n) i called))

  pub read_clean : IsKnown seen_after → IsCleanCall is_clean IsSound m.store n.store
  read_clean known =
      let before = clean_before (health_in (health_of is_clean failed)) ms p m n at used.clean known.1 in
      (before.1, sound_at (sound_in IsSound) ms p m (i.clean (known.0, before.0)).0 at)

  pub read_held : held_in v p ≡ content m.store
  read_held = ap (λ (x : WorldState). held_in x p) (sym e) ∙ index_at (map (content_in content) ms) p (content m.store) (map_at (content_in content) ms p m at)

  pub read_failed : Failed → HasFailed v p seen_after
  read_failed is = subst (λ (x : WorldState). HasFailed x p seen_after) e (counted (content_in content) (health_in (health_of is_clean failed)) (sound_in IsSound) p ms (set ms p n) IsSame called is)

-- ---- one after another
pub none_read : (w : WorldState) → HasRead w w
none_read w = record { others = refl; was_clean = λ all. all; counts = counts_stay w.health; same = λ known. refl }

pub known_read : (old new : WorldState) → HasRead old new → IsKnown new → IsKnown old
known_read old new r known = (subst (λ l. All IsEmpty l) (ap (λ (x : WorldState). x.origins) r.others) known.0, r.was_clean known.1)

pub read_then : (old mid new : WorldState) → HasRead old mid → HasRead mid new → HasRead old new
read_then old mid new a b = record {
  others = b.others ∙ ap (λ (x : WorldState). record x { contents = new.contents; health = new.health }) a.others;
  was_clean = λ all. a.was_clean (b.was_clean all);
  counts = counts_then old.health mid.health new.health a.counts b.counts;
  same = λ known. b.same known ∙ a.same (known_read mid new b known);
}

pub held_same : (old new : WorldState) → HasRead old new → IsKnown new → (p : ℕ) → held_in old p ≡ held_in new p
held_same old new r known p = ap (λ l. slice_index_or l p nothing) (sym (r.same known))

-- where what the stores hold is known, reads change their health alone
pub same_but : (old mid : WorldState) → HasRead old mid → IsKnown mid → mid ≡ record old { health = mid.health }
same_but old mid r known = r.others ∙ ap (λ c. record old { contents = c; health = mid.health }) (r.same known)

pub current_after : (old mid : WorldState) → HasRead old mid → AreCurrent old → AreCurrent mid
current_after old mid r current = subst AreCurrent (sym r.others) current

pub news_after : (old mid : WorldState) → HasRead old mid → ((p : ℕ) × (p < length old.programs) × HasNews old p) → (p : ℕ) × (p < length mid.programs) × HasNews mid p
news_after old mid r news = subst (λ (w : WorldState). (p : ℕ) × (p < length w.programs) × HasNews w p) (sym r.others) news

pub left_with : (w : WorldState) (run : List Entry) (contents : List Content) (health : List Health) → IsLeft w run → IsLeft (record w { contents = contents; health = health }) run
left_with w run contents health (IsLeft.current none is) = IsLeft.current none is
left_with w run contents health (IsLeft.between p lt news free is) = IsLeft.between p lt news free is

pub left_after : (old mid : WorldState) (run : List Entry) → HasRead old mid → IsLeft old run → IsLeft mid run
left_after old mid run r left = subst (λ (w : WorldState). IsLeft w run) (sym r.others) (left_with old run mid.contents mid.health left)

-- and the other way round
pub left_back : (old mid : WorldState) (run : List Entry) → HasRead old mid → IsLeft mid run → IsLeft old run
left_back old mid run r left = by (subst (λ (w : WorldState). IsLeft w run) r.others left)
  where
    by : IsLeft (record old { contents = mid.contents; health = mid.health }) run → IsLeft old run
    by (IsLeft.current none is) = IsLeft.current none is
    by (IsLeft.between p lt news free is) = IsLeft.between p lt news free is

pub whole_after : (old mid : WorldState) → HasRead old mid → IsWhole old → IsWhole mid
whole_after old mid r whole = (whole.0, left_after old mid whole.0 r whole.1)

pub failed_read : (old mid new : WorldState) (p : ℕ) → HasRead old mid → HasFailed mid p new → HasFailed old p new
failed_read old mid new p r f = failed_after old.health mid.health new.health p r.counts f

-- ---- what a manager is told of one store after another
learned_same : (m : ManagerState) → IsManager m → HasLearned m m
learned_same m sound = record { sound = sound; size = refl; others = refl }

learned_then : (first m mid next : ManagerState) (p : ℕ) (outputs : List HeldOutput) → HasLearned first m → IsToldRows m mid → Holds mid p outputs next → HasLearned first next
learned_then first m mid next p outputs t a h = record {
  sound = h.sound;
  size = ap process_count h.others ∙ a.size ∙ t.size;
  others = h.others
      ∙ ap (λ (k : ManagerState). record k { outputs = next.outputs }) a.others
      ∙ ap (λ (k : ManagerState). record k { rows = mid.rows; recovery = mid.recovery; outputs = next.outputs; version = mid.version }) t.others
      ∙ ap (λ (k : ManagerState). record first { rows = k.rows; recovery = k.recovery; outputs = k.outputs; version = k.version }) (sym h.others);
}

pub none_told : (w : WorldState) (m : ManagerState) → IsManager m → IsNew (length w.programs) m → HasToldStores w m 0 w m
none_told w m sound fresh = record {
  read = none_read w;
  told = learned_same m sound;
  rows = λ known. no_rows (length w.programs) (held_in w) m.rows (λ row has. (fresh.rows row).0 has);
  held = λ p lt. absurd (omega arith);
  none = λ p le. ap (λ l. slice_index_or l p []) fresh.outputs ∙ index_same (length w.programs) p [];
}

pub one_told : (old mid new : WorldState) (first m next : ManagerState) (p : ℕ) (rows : List PendingRow) (outputs : List Output) → p < length old.programs → HasToldStores old first p mid m → HasRead mid new
    → (IsKnown new → AreRowsOf p (length mid.programs) (held_in mid p) rows) → map held_of outputs ≡ released_by new.manager p → AreNumbered outputs → HasTakenUp m 0 p rows (map made_of outputs) next
    → HasToldStores old first (p + 1) new next
one_told old mid new first m next p rows outputs lt t r are is numbered u =
    let told = u.0 in
    let added : AreAdded m p rows told = are_added m 0 p rows told t.told.sound u.1 in
    let held : (q : ℕ) → held_by told q ≡ held_by m q = λ q. ap (λ (k : ManagerState). held_by k q) added.told.others in
    let none : held_by told p ≡ [] = held p ∙ t.none p (omega arith) in
    let h : Holds told p (released_by new.manager p) next = released_held new.manager told p 0 outputs added.told.sound none is numbered next u.2 in
    let read = read_then old mid new t.read r in
    let manager : new.manager ≡ old.manager = ap (λ (x : WorldState). x.manager) read.others in
    record {
      read = read;
      told = learned_then first m told next p (released_by new.manager p) t.told added.told h;
      rows = λ known.
          let before = known_read mid new r known in
          let many : length mid.programs ≡ length old.programs = ap (λ (x : WorldState). length x.programs) t.read.others in
          subst (λ (k : ManagerState). HasRowsUpTo (p + 1) (length old.programs) (held_in old) k.rows) (sym h.others)
          (one_store (length old.programs) p (held_in old) m told rows lt (t.rows before)
          (subst (λ c. AreRowsOf p (length old.programs) c rows) (sym (held_same old mid t.read before p)) (subst (λ n. AreRowsOf p n (held_in mid p) rows) many (are known))) added);
      held = λ q small. elim (either q p) [
        | inl same ↦ ap (held_by next) same ∙ h.here ∙ ap (λ (k : ManagerState). released_by k p) manager ∙ ap (released_by old.manager) (sym same)
        | inr other ↦ h.there q other ∙ held q ∙ t.held q (omega arith)
      ];
      none = λ q le. h.there q (λ same. absurd (omega arith)) ∙ held q ∙ t.none q (omega arith);
    }

-- ---- why it stops
pub rows_refusal : (fault : RowsFault) → IsRefusal (refusal_of_rows fault)
rows_refusal (rows_faults.Damaged x) = IsRefusal.damaged refl
rows_refusal (rows_faults.Mismatch x) = IsRefusal.damaged refl
rows_refusal rows_faults.Fault = IsRefusal.fault refl
rows_refusal rows_faults.Memory = IsRefusal.memory refl

pub rows_fault : (fault : RowsFault) → refusal_of_rows fault ≡ why.Fault → fault ≡ rows_faults.Fault
rows_fault (rows_faults.Damaged x) is = cc
rows_fault (rows_faults.Mismatch x) is = cc
rows_fault rows_faults.Fault is = refl
rows_fault rows_faults.Memory is = cc

pub record_refusal : (fault : RecordError) → IsRefusal (refusal_of_record fault) × (refusal_of_record fault ≢ why.Fault)
record_refusal (records.Stale told) = (IsRefusal.damaged refl, λ is. cc)
record_refusal (records.Refused notes.Stranger) = (IsRefusal.damaged refl, λ is. cc)
record_refusal (records.Refused notes.BadVector) = (IsRefusal.damaged refl, λ is. cc)
record_refusal (records.Refused notes.Differs) = (IsRefusal.damaged refl, λ is. cc)
record_refusal (records.Refused (notes.Disorder y)) = (IsRefusal.damaged refl, λ is. cc)
record_refusal (records.Refused notes.Memory) = (IsRefusal.memory refl, λ is. cc)

pub output_refusal : (fault : OutputError) → IsRefusal (refusal_of_output fault) × (refusal_of_output fault ≢ why.Fault)
output_refusal outputs.Stranger = (IsRefusal.damaged refl, λ is. cc)
output_refusal (outputs.Stale told) = (IsRefusal.damaged refl, λ is. cc)
output_refusal outputs.Differs = (IsRefusal.damaged refl, λ is. cc)
output_refusal (outputs.Gap next) = (IsRefusal.damaged refl, λ is. cc)
output_refusal outputs.Memory = (IsRefusal.memory refl, λ is. cc)

pub taking_refusal : (fault : TakeUpFault) → IsRefusal (refusal_of_take_up fault) × (refusal_of_take_up fault ≢ why.Fault)
taking_refusal (take_ups.Row fault) = record_refusal fault
taking_refusal (take_ups.Output fault) = output_refusal fault
