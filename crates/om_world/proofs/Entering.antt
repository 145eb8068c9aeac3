-- What a join comes to.
use Rattle.std.proofs.Common.{◌≡◌, ◌≢◌, inl, inr, ℕ, ◌≤◌, List, [], ◌∷◌, length, set, Some, None, true, false, Result, Ok, Err, refl, sym, ap, ◌∙◌, subst, arith}
use Rattle.std.specs.Prelude.{slice_get}
use Rattle.std.proofs.lemmas.List.{drop_all, take_all}
use Rattle.om_stable.specs.declared.error.StoreError.{StoreError}
use Rattle.om_stable.specs.declared.error.StoreError.TheVariants as store_errors
use Rattle.om_process.specs.declared.row.PendingRow.{PendingRow}
use Rattle.om_process.specs.Core.{CoreState, with_pending}
use Rattle.om_process.specs.Stores.{flushed}
use Rattle.om_recover.specs.declared.note.Note.{Note}
use Rattle.om_recover.specs.declared.note.Note.TheVariants.{Noted, Known}
use Rattle.om_recover.specs.declared.note.NoteError.TheVariants as notes
use Rattle.om_member.specs.declared.batch.Batch.TheVariants.{Log}
use Rattle.om_recover.specs.Rows.{Rows}
use Rattle.om_manager.specs.Notes.{after_note}
use Rattle.om_manager.specs.Rounds.{Gathers}
use Rattle.om_manager.specs.steps.Presences.{with_joined}
use Rattle.om_manager.specs.State.{ManagerState, held_by, process_count, released_by}
use Rattle.om_manager.specs.declared.answers.Gathered.{Gathered}
use Rattle.om_manager.specs.declared.answers.JoinError.{JoinError}
use Rattle.om_manager.specs.declared.answers.OutputError.{OutputError}
use Rattle.om_manager.specs.declared.answers.RecordError.{RecordError}
use Rattle.om_manager.specs.declared.answers.RecordError.TheVariants.{Refused}
use Rattle.om_world.specs.declared.event.Answer.{Answer}
use Rattle.om_world.specs.declared.event.Answer.TheVariants as answers
use Rattle.om_world.specs.declared.event.Event.{Event}
use Rattle.om_world.specs.declared.event.Refusal.{Refusal}
use Rattle.om_member.specs.Told.{AreTold}
use Rattle.om_world.specs.Changes.{IsUp, made_by}
use Rattle.om_world.specs.Failures.{HasHanded, JoinHappened}
use Rattle.om_world.specs.Happened.{Happened}
use Rattle.om_world.specs.World.{IsKnown, WorldState, all_clean}
use Rattle.om_world.specs.steps.Gathering.{HasEntered}
use Rattle.om_world.specs.steps.Moves.{HasCalled, HasTold, Keeps, answered, refusal_of_join, refusal_of_record, refusal_of_store}
use Rattle.om_world.specs.steps.Running.{HasHandedIn, refusal_of_output}
use Rattle.om_world.proofs.FailureCounts.{counts_by, counts_then}
use Rattle.om_world.proofs.Declared.{known_by}
use Rattle.om_world.proofs.Keeping.{keeps_recorded, prefix_then}
use Rattle.om_world.proofs.Lists.{once, set_there}
use Rattle.om_world.proofs.Recording.{has_noted, has_stored, known_mid, some_noted, store_refused}
use Rattle.om_world.proofs.Staying.{all_stay}

-- ---- the gathering stays open while rows and outputs are told
noted_gathering : (m : ManagerState) (note : Note) (rows : Rows) (state : List ℕ) → (after_note m note rows state).gathering ≡ m.gathering
noted_gathering m (Noted true) rows state = refl
noted_gathering m (Noted false) rows state = refl
noted_gathering m Known rows state = refl

all_gathering : (old new : ManagerState) (round p : ℕ) (rows : List PendingRow) → AreTold old round p rows new → new.gathering ≡ old.gathering
all_gathering old new round p [] same = ap (λ (m : ManagerState). m.gathering) same
all_gathering old new round p (row ∷ rows) n = all_gathering n.0 new round p rows n.3 ∙ ap (λ (m : ManagerState). m.gathering) n.2.answers.3 ∙ noted_gathering old n.1 n.0.rows n.0.recovery

-- ---- stored, noted and handed in
known_handed : (v z : WorldState) (p : ℕ) (end : Result (Unit {0}) OutputError) → HasHandedIn v p end z → IsKnown z → IsKnown v
known_handed v z p end h = known_by v z (ap (λ (x : WorldState). x.origins) h.others) (ap (λ (x : WorldState). x.health) h.others)

-- the core is that of the process once it had stored and noted all
core_handed : (w mid v z : WorldState) (p count : ℕ) (end : Result (Unit {0}) OutputError) → IsUp w p → (h : HasCalled Log w p (Ok tt) mid) → HasTold mid p count (Ok tt) v → (k : HasHandedIn v p end z) → k.core ≡ with_pending (flushed h.core) []
core_handed w mid v z p count end up h t k =
    let n = has_noted Log w mid v p count (Ok tt) up h t in
    let rest = flushed h.core in
    let all = n.1.all in
    once k.core (with_pending rest []) (once (Some k.core) (Some (with_pending rest [])) (
    sym k.there ∙ ap (λ l. slice_get l p) (n.0.changes.cores ∙ ap (λ rows. set w.cores p (Some (with_pending rest rows))) (drop_all count rest.pending (omega arith)))
    ∙ set_there w.cores p (Some h.core) (Some (with_pending rest [])) h.there
    ))

handed_over : (w mid v z : WorldState) (p count : ℕ) (end : Result (Unit {0}) OutputError) → IsUp w p → (h : HasCalled Log w p (Ok tt) mid) → HasTold mid p count (Ok tt) v → HasHandedIn v p end z → IsKnown v → HasHanded w p h.core z
handed_over w mid v z p count end up h t k known =
    let n = has_noted Log w mid v p count (Ok tt) up h t in
    let s = has_stored Log w mid v p count (Ok tt) h t h (known_mid mid v p count (Ok tt) t known) in
    let rest = flushed h.core in
    let all = n.1.all in
    let stays = n.0.changes.stays in
    record {
      changes = record {
        up = up;
        before = h.there;
        cores = ap (λ (x : WorldState). x.cores) k.others ∙ n.0.changes.cores ∙ ap (λ rows. set w.cores p (Some (with_pending rest rows))) (drop_all count rest.pending (omega arith));
        stays = all_stay w z
            (ap (λ (x : WorldState). x.programs) k.others ∙ ap (λ (x : WorldState). x.programs) stays)
            (ap (λ (x : WorldState). x.live) k.others ∙ ap (λ (x : WorldState). x.live) stays)
            (ap (λ (x : WorldState). x.places) k.others ∙ ap (λ (x : WorldState). x.places) stays)
            (ap (λ (x : WorldState). x.rounds) k.others ∙ ap (λ (x : WorldState). x.rounds) stays)
            (ap (λ (x : WorldState). x.origins) k.others ∙ ap (λ (x : WorldState). x.origins) stays);
      };
      stored = (s.0, s.1, s.2, s.3, ap (λ (x : WorldState). x.contents) k.others ∙ s.4, ap (λ (x : WorldState). x.since) k.others ∙ s.5);
      told = v.manager;
      noted = subst (λ rows. AreTold w.manager w.manager.round p rows v.manager) (take_all count rest.pending (omega arith)) n.0.manager;
      handed = k.more;
      frames = ap (λ (x : WorldState). x.frames) k.others ∙ n.0.frames;
    }

-- ---- it is in
known_entered : (z u : WorldState) (p : ℕ) (told : Gathered) → HasEntered z p (Ok told) u → IsKnown u → IsKnown z
known_entered z u p told e = known_by z u (ap (λ (x : WorldState). x.origins) e.others) (ap (λ (x : WorldState). x.health) e.others)

pub join_happened : (w mid v z u : WorldState) (p count : ℕ) (told : Gathered) → IsUp w p → w.manager.gathering ≢ None → HasCalled Log w p (Ok tt) mid → HasTold mid p count (Ok tt) v → HasHandedIn v p (Ok tt) z → HasEntered z p (Ok told) u → IsKnown u
    → JoinHappened w p told u
join_happened w mid v z u p count told up opened h t k e known =
    let known_z = known_entered z u p told e known in
    let known_v = known_handed v z p (Ok tt) k known_z in
    let at = core_handed w mid v z p count (Ok tt) up h t k in
    let same : e.core ≡ k.core = once e.core k.core (once (Some e.core) (Some k.core) (sym e.there ∙ ap (λ (x : WorldState). slice_get x.cores p) k.others ∙ k.there)) in
    record {
      opened = opened;
      core = h.core;
      ready = z;
      handed = handed_over w mid v z p count (Ok tt) up h t k known_v;
      all = subst (λ (c : CoreState). made_by c ≤ length (held_by z.manager p)) at (k.all known_v);
      manager = subst (λ (c : CoreState). Gathers (with_joined z.manager p c.now.interval) z.manager told u.manager) (same ∙ at) e.manager;
      others = e.others;
    }

-- ---- it is refused
pub join_not_stored : (w v : WorldState) (p : ℕ) (fault : StoreError) (told : Result Answer Refusal) → IsUp w p → w.manager.gathering ≢ None → HasCalled Log w p (Err fault) v → told ≡ Err (refusal_of_store fault) → IsKnown v
    → Happened w (Event.Join p) (answered told) v
join_not_stored w v p fault told up opened h is known = subst (λ r. Happened w (Event.Join p) (answered r) v) (sym is) (by fault h)
  where
    by : (fault : StoreError) → HasCalled Log w p (Err fault) v → Happened w (Event.Join p) (answers.Refused (refusal_of_store fault)) v
    by store_errors.Present h = absurd (h.free known tt refl)
    by store_errors.Fault h = (up, (opened, (store_refused Log w v p store_errors.Fault up h known).1))
    by store_errors.Memory h = (up, (opened, inl (store_refused Log w v p store_errors.Memory up h known).1))

pub join_not_noted : (w mid v : WorldState) (p count : ℕ) (fault : RecordError) (told : Result Answer Refusal) → IsUp w p → w.manager.gathering ≢ None → HasCalled Log w p (Ok tt) mid → HasTold mid p count (Err fault) v → told ≡ Err (refusal_of_record fault) → IsKnown v
    → Happened w (Event.Join p) (answered told) v
join_not_noted w mid v p count fault told up opened h t is known =
    let memory = t.memory (known_mid mid v p count (Err fault) t known) in
    let stopped = (some_noted Log w mid v p count (Refused notes.Memory) up h (subst (λ f. HasTold mid p count (Err f) v) memory t) known).1 in
    subst (λ r. Happened w (Event.Join p) (answered r) v) (sym (is ∙ ap (λ f. Err (refusal_of_record f)) memory)) (up, (opened, inl stopped))

pub join_not_handed : (w mid v z : WorldState) (p count : ℕ) (fault : OutputError) (told : Result Answer Refusal) → IsUp w p → w.manager.gathering ≢ None → HasCalled Log w p (Ok tt) mid → HasTold mid p count (Ok tt) v → HasHandedIn v p (Err fault) z
    → told ≡ Err (refusal_of_output fault) → IsKnown z → Happened w (Event.Join p) (answered told) z
join_not_handed w mid v z p count fault told up opened h t k is known =
    let known_v = known_handed v z p (Err fault) k known in
    subst (λ r. Happened w (Event.Join p) (answered r) z) (sym (is ∙ ap (λ f. Err (refusal_of_output f)) (k.memory known_v))) (up, (opened, inr (h.core, handed_over w mid v z p count (Err fault) up h t k known_v)))

pub join_not_entered : (w mid v z u : WorldState) (p count : ℕ) (fault : JoinError) (told : Result Answer Refusal) → IsUp w p → w.manager.gathering ≢ None → HasCalled Log w p (Ok tt) mid → HasTold mid p count (Ok tt) v → HasHandedIn v p (Ok tt) z → HasEntered z p (Err fault) u
    → told ≡ Err (refusal_of_join fault) → IsKnown u → Happened w (Event.Join p) (answered told) u
join_not_entered w mid v z u p count fault told up opened h t k e is known =
    let known_z = subst IsKnown e.refused known in
    let known_v = known_handed v z p (Ok tt) k known_z in
    let over = handed_over w mid v z p count (Ok tt) up h t k known_v in
    let still : z.manager.gathering ≡ w.manager.gathering = ap (λ (m : ManagerState). m.gathering) over.handed.1 ∙ all_gathering w.manager over.told w.manager.round p (flushed h.core).pending over.noted in
    let memory = e.memory known_z (λ none. opened (sym still ∙ none)) in
    subst (λ r. Happened w (Event.Join p) (answered r) u) (sym (is ∙ ap (λ f. Err (refusal_of_join f)) memory)) (up, (opened, inr (h.core, subst (HasHanded w p h.core) (sym e.refused) over)))

-- ---- what it leaves
keeps_then : (a b c : WorldState) → Keeps a b → Keeps b c → Keeps a c
keeps_then a b c f g = record {
  size = g.size ∙ f.size;
  released = λ q few. let size = f.size in prefix_then (released_by a.manager q) (released_by b.manager q) (released_by c.manager q) (f.released q few) (g.released q (omega arith));
  clean = λ all. f.clean (g.clean all);
  counts = counts_then a.health b.health c.health f.counts g.counts;
  origins = g.origins ∙ f.origins;
}

handed_keeps : (v z : WorldState) (p : ℕ) (end : Result (Unit {0}) OutputError) → HasHandedIn v p end z → Keeps v z
handed_keeps v z p end k = record {
  size = ap process_count k.more.1;
  released = k.released;
  clean = λ all. ap all_clean (sym (ap (λ (x : WorldState). x.health) k.others)) ∙ all;
  counts = counts_by v.health z.health (ap (λ (x : WorldState). x.health) k.others);
  origins = ap (λ (x : WorldState). x.origins) k.others;
}

pub join_handed_keeps : (w mid v z : WorldState) (p count : ℕ) (a : Result (Unit {0}) StoreError) (b : Result (Unit {0}) RecordError) (end : Result (Unit {0}) OutputError) → HasCalled Log w p a mid → HasTold mid p count b v → HasHandedIn v p end z → Keeps w z
join_handed_keeps w mid v z p count a b end h t k = keeps_then w v z (keeps_recorded Log w mid v p count a b h t) (handed_keeps v z p end k)

entered_keeps : (z u : WorldState) (p : ℕ) (told : Result Gathered JoinError) → HasEntered z p told u → Keeps z u
entered_keeps z u p (Ok told) e = record {
  size = e.size;
  released = e.released;
  clean = λ all. ap all_clean (sym (ap (λ (x : WorldState). x.health) e.others)) ∙ all;
  counts = counts_by z.health u.health (ap (λ (x : WorldState). x.health) e.others);
  origins = ap (λ (x : WorldState). x.origins) e.others;
}
entered_keeps z u p (Err fault) e = record {
  size = e.size;
  released = e.released;
  clean = λ all. ap all_clean (sym (ap (λ (x : WorldState). x.health) e.refused)) ∙ all;
  counts = counts_by z.health u.health (ap (λ (x : WorldState). x.health) e.refused);
  origins = ap (λ (x : WorldState). x.origins) e.refused;
}

pub join_keeps : (w mid v z u : WorldState) (p count : ℕ) (a : Result (Unit {0}) StoreError) (b : Result (Unit {0}) RecordError) (end : Result (Unit {0}) OutputError) (told : Result Gathered JoinError) → HasCalled Log w p a mid → HasTold mid p count b v → HasHandedIn v p end z
    → HasEntered z p told u → Keeps w u
join_keeps w mid v z u p count a b end told h t k e = keeps_then w z u (join_handed_keeps w mid v z p count a b end h t k) (entered_keeps z u p told e)
