-- What the acts of a member do to its world.
use Rattle.std.proofs.Common.{◌≡◌, ◌≢◌, ℕ, ◌<◌, List, length, map, set, Some, Result, Ok, Err, refl, sym, ap, ◌∙◌, subst}
use Rattle.std.specs.Prelude.{slice_get, drop, Bool, IfErr, IfOk, OnErr, OnOk}
use Rattle.std.specs.declared.alloc.AllocError.{AllocError}
use Rattle.om_format.specs.declared.message.Message.{Message}
use Rattle.om_stable.specs.Content.{Content}
use Rattle.om_stable.specs.declared.error.StoreError.{StoreError}
use Rattle.om_stable.specs.declared.error.StoreError.TheVariants as store_errors
use Rattle.om_process.specs.Core.{CoreState, cluster_size, with_pending}
use Rattle.om_process.specs.Process.{Program}
use Rattle.om_process.specs.declared.accept.Accept.{Accept}
use Rattle.om_process.specs.declared.turns.RunEnd.{RunEnd}
use Rattle.om_recover.specs.Cutting.{IsEffective}
use Rattle.om_member.specs.declared.batch.Batch.{Batch}
use Rattle.om_manager.specs.Bounds.{AreGotFrom}
use Rattle.om_manager.specs.State.{ManagerState, held_by, released_by}
use Rattle.om_manager.specs.declared.answers.OutputError.{OutputError}
use Rattle.om_manager.specs.declared.answers.RecordError.{RecordError}
use Rattle.om_member.specs.Handed.{AreHandedUpTo, outputs_from}
use Rattle.om_member.specs.Members.{Gained, HasNoted, HasRun, HasStored, HasTrimmed, IsNotUp, IsOffered, TakesTurns, WasCalled, WasPruned, after_store, core_of, trimmed_core}
use Rattle.om_member.specs.declared.member.Member.{Member}
use Rattle.om_member.specs.declared.member.NotUp.{NotUp}
use Rattle.om_member.specs.declared.member.MemberState.TheVariants as stands
use Rattle.om_world.specs.declared.entry.Entry.{Entry}
use Rattle.om_world.specs.declared.event.Refusal.{Refusal}
use Rattle.om_world.specs.declared.event.Refusal.TheVariants as why
use Rattle.om_world.specs.Changes.{IsUp, has_rows, has_stored as since_stored}
use Rattle.om_world.specs.World.{Health, WorldState, recovered, SinceState}
use Rattle.om_world.specs.steps.Members.{Besides, content_in, core_in, health_in, place_in, place_of, round_in, seen, sound_in, health_of}
use Rattle.om_world.specs.steps.Moves.{HasCalled, HasRunAt, HasTold, IsOfferedAt, IsToldUpTo, TakesTurnsAt, TellsStored, rows_of, told_of, refusal_of_store, since_called, since_told}
use Rattle.om_world.specs.steps.Pruning.{HasPruned}
use Rattle.om_world.specs.steps.Running.{HasHandedIn}
use Rattle.om_world.specs.steps.Sound.{IsWorld}
use Rattle.om_world.proofs.Giving.{given_at, offered}
use Rattle.om_world.proofs.Handing.{IsHandedIn, after_handed, has_handed}
use Rattle.om_world.proofs.Lists.{map_at, once, set_there}
use Rattle.om_world.proofs.Moved.{after_turns}
use Rattle.om_world.proofs.Noting.{IsCalledIn, IsNotedIn, after_called, after_note, has_called, has_told, stored_since, with_since, world_since}
use Rattle.om_world.proofs.Pending.{stored_if}
use Rattle.om_world.proofs.Pruning.{IsPrunedIn, after_pruned_store, has_pruned}
use Rattle.om_world.proofs.Seats.{called_in, core_was, cores_set, is_up, kept, restored, seated, still, was_up}
use Rattle.om_world.proofs.Kept.{remade}
use Rattle.om_world.proofs.Trimming.{IsTrimmedIn, after_trim}

module _ {S : Type 0} (content : S → Content) (is_clean : S → Bool) (failed : S → ℕ) (IsSound : S → Type 0) (P : List Program) (L : List Entry) (F : List Message) (ms : List (Member S)) (M : ManagerState) (O : Besides) (p : ℕ) (m : Member S) (at : slice_get ms p ≡ Some m) (n : Member S) (v : WorldState) (i : IsWorld (sound_in IsSound) ms (seen content (health_of is_clean failed) P L F ms M O)) (e : seen content (health_of is_clean failed) P L F ms M O ≡ v) where
  -- ---- it stored
  module _ (kind : Batch) (r : Result (Result (Unit {0}) StoreError) NotUp) (up : IsUp v p) (did : IfOk r (λ a. HasStored content failed is_clean IsSound kind m a n)) (not : OnErr r (IsNotUp m.standing)) where
    stored : (a : Result (Unit {0}) StoreError) × (r ≡ Ok a) × HasStored content failed is_clean IsSound kind m a n
    stored = was_up r (λ a. HasStored content failed is_clean IsSound kind m a n) m.standing (is_up content (health_of is_clean failed) IsSound P L F ms M O p m at v e up) did not

    abbrev stored_in : (a : Result (Unit {0}) StoreError) → HasStored content failed is_clean IsSound kind m a n → IsCalledIn (content_in content) (health_in (health_of is_clean failed)) (sound_in IsSound) kind (map core_in ms) p a ms (set ms p n) (map core_in (set ms p n))
    stored_in a h = (
      h.core,
      core_was content (health_of is_clean failed) IsSound P L F ms M O p m at n h.core h.up,
      cores_set content (health_of is_clean failed) IsSound P L F ms M O p m at n (Some (after_store kind h.core a)) (ap core_in h.others),
      called_in content is_clean failed IsSound (a ≡ Err store_errors.Fault) (Gained kind h.core a) ms p m n at h.called,
    )

    module _ (told : Result (Unit {0}) Refusal) (is : told ≡ told_of refusal_of_store r) (rows : Bool) (are : rows ≡ rows_of (core_of n.standing)) (since : SinceState) (kept : since ≡ since_told rows told O.since) where
      abbrev called : Besides
      called = record O { since = since_called kind stored.2.core stored.0 O.since }

      since_is : since ≡ since_called kind stored.2.core stored.0 O.since
      since_is = kept ∙ ap (λ t. since_told rows t O.since) (is ∙ ap (told_of refusal_of_store) stored.1) ∙ by stored.0 stored.2.core (are ∙ ap (λ (x : Member S). rows_of (core_of x.standing)) stored.2.others)
        where
          by : (a : Result (Unit {0}) StoreError) (c : CoreState) → rows ≡ has_rows (after_store kind c a).pending → since_told rows (told_of refusal_of_store (Ok a)) O.since ≡ since_called kind c a O.since
          by (Ok done) c e = ap (λ b. since_stored b O.since) e
          by (Err other) c e = refl

      pub after_stored : IsWorld (sound_in IsSound) (set ms p n) (seen content (health_of is_clean failed) P L F (set ms p n) M (record O { since = since }))
      after_stored =
          let a = stored.0 in let h = stored.2 in
          subst (λ z. IsWorld (sound_in IsSound) (set ms p n) (seen content (health_of is_clean failed) P L F (set ms p n) M (record O { since = z }))) (sym since_is)
          (subst (IsWorld (sound_in IsSound) (set ms p n)) (seated content (health_of is_clean failed) IsSound P L F ms M called p m at n (ap place_in h.others ∙ sym (ap place_of h.up)) (ap round_in h.others) L F M)
          (after_called (content_in content) (health_in (health_of is_clean failed)) (sound_in IsSound) kind (seen content (health_of is_clean failed) P L F ms M called) p a ms (set ms p n) (map core_in (set ms p n))
          (world_since (sound_in IsSound) ms (seen content (health_of is_clean failed) P L F ms M O) kind h.core a i) (subst (λ (x : WorldState). IsUp x p) (sym e) up) (stored_since kind (map core_in ms) p h.core (core_was content (health_of is_clean failed) IsSound P L F ms M O p m at n h.core h.up) a O.since) (stored_in a h)))

      pub has_stored : (a : Result (Unit {0}) StoreError) × HasCalled kind v p a (seen content (health_of is_clean failed) P L F (set ms p n) M (record O { since = since })) × (r ≡ Ok a)
      has_stored =
          let a = stored.0 in let h = stored.2 in (
            a,
            subst (λ z. HasCalled kind v p a (seen content (health_of is_clean failed) P L F (set ms p n) M (record O { since = z }))) (sym since_is)
                (subst (λ (x : WorldState). HasCalled kind x p a (seen content (health_of is_clean failed) P L F (set ms p n) M called)) e
                (subst (λ (x : WorldState). HasCalled kind (seen content (health_of is_clean failed) P L F ms M O) p a (with_since kind h.core a x)) (seated content (health_of is_clean failed) IsSound P L F ms M O p m at n (ap place_in h.others ∙ sym (ap place_of h.up)) (ap round_in h.others) L F M)
                (has_called (content_in content) (health_in (health_of is_clean failed)) (sound_in IsSound) kind (seen content (health_of is_clean failed) P L F ms M O) p a ms (set ms p n) (map core_in (set ms p n)) i (subst (λ (x : WorldState). IsUp x p) (sym e) up) (stored_in a h)))),
            stored.1,
          )

      pub since_told_ok : OnOk told (TellsStored (seen content (health_of is_clean failed) P L F (set ms p n) M (record O { since = since })) p)
      since_told_ok = subst (λ (z : SinceState). OnOk told (TellsStored (seen content (health_of is_clean failed) P L F (set ms p n) M (record O { since = z })) p)) (sym kept) (by told)
        where
          by : (t : Result (Unit {0}) Refusal) → OnOk t (TellsStored (seen content (health_of is_clean failed) P L F (set ms p n) M (record O { since = since_told rows t O.since })) p)
          by (Ok done) = record { tells = λ c there have. stored_if rows O.since (are ∙ ap rows_of (once (core_in n) (Some c) (sym (map_at core_in (set ms p n) p n (set_there ms p m n at)) ∙ there)) ∙ have) }
          by (Err refusal) = tt

  -- ---- its store was pruned
  module _ (c : ℕ) (a : Result (Unit {0}) StoreError) (effective : IsEffective M.rows p (recovered M p) c) (others : n ≡ record m { store = n.store }) (called : WasCalled content failed is_clean IsSound (a ≡ Err store_errors.Fault) m.store n.store (WasPruned c a)) where
    pruned_in : IsPrunedIn (content_in content) (health_in (health_of is_clean failed)) (sound_in IsSound) (seen content (health_of is_clean failed) P L F ms M O) p c a ms (set ms p n)
    pruned_in = (effective, called_in content is_clean failed IsSound (a ≡ Err store_errors.Fault) (WasPruned c a) ms p m n at called)

    pub after_prune : IsWorld (sound_in IsSound) (set ms p n) (seen content (health_of is_clean failed) P L F (set ms p n) M O)
    after_prune = subst (IsWorld (sound_in IsSound) (set ms p n)) (restored content (health_of is_clean failed) IsSound P L F ms M O p m at n (ap core_in others) (ap place_in others) (ap round_in others)) (after_pruned_store (content_in content) (health_in (health_of is_clean failed)) (sound_in IsSound) (seen content (health_of is_clean failed) P L F ms M O) p c a ms (set ms p n) i pruned_in)

    pub was_pruned : a ≢ Err store_errors.Present → HasPruned v p a (seen content (health_of is_clean failed) P L F (set ms p n) M O)
    was_pruned never =
        subst (λ (x : WorldState). HasPruned x p a (seen content (health_of is_clean failed) P L F (set ms p n) M O)) e
        (subst (HasPruned (seen content (health_of is_clean failed) P L F ms M O) p a) (restored content (health_of is_clean failed) IsSound P L F ms M O p m at n (ap core_in others) (ap place_in others) (ap round_in others)) (has_pruned (content_in content) (health_in (health_of is_clean failed)) (sound_in IsSound) (seen content (health_of is_clean failed) P L F ms M O) p c a ms (set ms p n) i pruned_in never))

  -- ---- its rows were told
  module _ (q : ℕ) (is : q ≡ p) (k : ManagerState) (r : Result (ℕ × Result (Unit {0}) RecordError) NotUp) (up : IsUp v p) (since : TellsStored v p) (did : IfOk r (λ a. HasNoted M q m a.0 a.1 k n)) (not : OnErr r (IsNotUp m.standing)) where
    noted : (a : ℕ × Result (Unit {0}) RecordError) × (r ≡ Ok a) × HasNoted M q m a.0 a.1 k n
    noted = was_up r (λ a. HasNoted M q m a.0 a.1 k n) m.standing (is_up content (health_of is_clean failed) IsSound P L F ms M O p m at v e up) did not

    noted_in : (count : ℕ) (end : Result (Unit {0}) RecordError) → HasNoted M q m count end k n → IsNotedIn (seen content (health_of is_clean failed) P L F ms M O) p count end k (map core_in (set ms p n))
    noted_in count end h = (
      h.core,
      core_was content (health_of is_clean failed) IsSound P L F ms M O p m at n h.core h.up,
      subst (λ (x : ℕ). IsToldUpTo M h.core.round x h.core.pending count end k) is h.told,
      cores_set content (health_of is_clean failed) IsSound P L F ms M O p m at n (Some (with_pending h.core (drop count h.core.pending))) (ap core_in h.others),
    )

    pub after_noted : IsWorld (sound_in IsSound) (set ms p n) (seen content (health_of is_clean failed) P L F (set ms p n) k O)
    after_noted =
        let a = noted.0 in let h = noted.2 in
        still content (health_of is_clean failed) IsSound P L F ms M O p m at n (ap (λ (x : Member S). x.store) h.others) (seen content (health_of is_clean failed) P L F (set ms p n) k O)
        (subst (IsWorld (sound_in IsSound) ms) (kept content (health_of is_clean failed) IsSound P L F ms M O p m at n (ap place_in h.others ∙ sym (ap place_of h.up)) (ap round_in h.others) (ap (λ (x : Member S). x.store) h.others) L F k)
        (after_note (sound_in IsSound) ms (seen content (health_of is_clean failed) P L F ms M O) p a.0 a.1 k (map core_in (set ms p n)) i (subst (λ (x : WorldState). IsUp x p) (sym e) up) (subst (λ (x : WorldState). TellsStored x p) (sym e) since) (noted_in a.0 a.1 h)))

    pub has_noted : (count : ℕ) × (end : Result (Unit {0}) RecordError) × HasTold v p count end (seen content (health_of is_clean failed) P L F (set ms p n) k O) × (r ≡ Ok (count, end))
    has_noted =
        let a = noted.0 in let h = noted.2 in (
          a.0,
          a.1,
          subst (λ (x : WorldState). HasTold x p a.0 a.1 (seen content (health_of is_clean failed) P L F (set ms p n) k O)) e
              (subst (HasTold (seen content (health_of is_clean failed) P L F ms M O) p a.0 a.1) (kept content (health_of is_clean failed) IsSound P L F ms M O p m at n (ap place_in h.others ∙ sym (ap place_of h.up)) (ap round_in h.others) (ap (λ (x : Member S). x.store) h.others) L F k)
              (has_told (sound_in IsSound) ms (seen content (health_of is_clean failed) P L F ms M O) p a.0 a.1 k (map core_in (set ms p n)) i (subst (λ (x : WorldState). IsUp x p) (sym e) up) (noted_in a.0 a.1 h))),
          noted.1,
        )

  -- ---- it ran
  module _ (fuel : ℕ) (r : Result (Result RunEnd AllocError) NotUp) (up : IsUp v p) (goes : OnOk r (TakesTurns m fuel n)) (not : OnErr r (IsNotUp m.standing)) where
    went : (a : Result RunEnd AllocError) × (r ≡ Ok a) × TakesTurns m fuel n
    went = was_up r (λ a. TakesTurns m fuel n) m.standing (is_up content (health_of is_clean failed) IsSound P L F ms M O p m at v e up) goes not

    goes_in : TakesTurns m fuel n → TakesTurnsAt (map core_in ms) p fuel (map core_in (set ms p n))
    goes_in h = record {
      before = h.before;
      after = h.after;
      there = core_was content (health_of is_clean failed) IsSound P L F ms M O p m at n h.before h.up;
      turns = h.turns;
      rest = h.rest;
      size = h.size;
      cores = cores_set content (health_of is_clean failed) IsSound P L F ms M O p m at n (Some h.after) (ap core_in h.others);
    }

    pub after_run : IsWorld (sound_in IsSound) (set ms p n) (seen content (health_of is_clean failed) P L F (set ms p n) M O)
    after_run =
        let h = went.2 in
        still content (health_of is_clean failed) IsSound P L F ms M O p m at n (ap (λ (x : Member S). x.store) h.others) (seen content (health_of is_clean failed) P L F (set ms p n) M O)
        (subst (IsWorld (sound_in IsSound) ms) (kept content (health_of is_clean failed) IsSound P L F ms M O p m at n (ap place_in h.others ∙ sym (ap place_of h.up)) (ap round_in h.others) (ap (λ (x : Member S). x.store) h.others) L F M)
        (after_turns (sound_in IsSound) ms (seen content (health_of is_clean failed) P L F ms M O) p fuel (map core_in (set ms p n)) i (goes_in h)))

    pub has_gone_on : TakesTurnsAt v.cores p fuel (map core_in (set ms p n))
    has_gone_on = subst (λ (x : WorldState). TakesTurnsAt x.cores p fuel (map core_in (set ms p n))) e (goes_in went.2)

    -- no part of the world but its cores changes
    pub rest_runs : seen content (health_of is_clean failed) P L F (set ms p n) M O ≡ record v { cores = map core_in (set ms p n) }
    rest_runs =
        let h = went.2 in
        sym (kept content (health_of is_clean failed) IsSound P L F ms M O p m at n (ap place_in h.others ∙ sym (ap place_of h.up)) (ap round_in h.others) (ap (λ (x : Member S). x.store) h.others) L F M) ∙ ap (λ (x : WorldState). record x { cores = map core_in (set ms p n) }) e

    pub has_run : (told : Result RunEnd Refusal) → told ≡ told_of (λ _. why.Memory) r → IfOk r (λ a. IfOk a (λ ran. HasRun m fuel ran n)) → IfOk told (λ ran. HasRunAt v.cores p fuel ran (map core_in (set ms p n)))
    has_run told is ran =
        let a = went.0 in
        subst (λ t. IfOk t (λ ran. HasRunAt v.cores p fuel ran (map core_in (set ms p n)))) (sym (is ∙ ap (told_of (λ _. why.Memory)) went.1)) (by a (subst (λ x. IfOk x (λ b. IfOk b (λ ran. HasRun m fuel ran n))) went.1 ran))
      where
        by : (a : Result RunEnd AllocError) → IfOk a (λ ran. HasRun m fuel ran n) → IfOk (told_of (λ _. why.Memory) (Ok a)) (λ ran. HasRunAt v.cores p fuel ran (map core_in (set ms p n)))
        by (Ok ran) h = (
          h.before,
          h.after,
          subst (λ (x : WorldState). slice_get x.cores p ≡ Some (Some h.before)) e (core_was content (health_of is_clean failed) IsSound P L F ms M O p m at n h.before h.up),
          h.run,
          cores_set content (health_of is_clean failed) IsSound P L F ms M O p m at n (Some h.after) (ap core_in h.others) ∙ ap (λ (x : WorldState). set x.cores p (Some h.after)) e,
        )
        by (Err fault) h = tt

    pub has_stopped : (told : Result RunEnd Refusal) → told ≡ told_of (λ _. why.Memory) r → IfErr told (λ reason. reason ≡ why.Memory)
    has_stopped told is = subst (λ t. IfErr t (λ reason. reason ≡ why.Memory)) (sym (is ∙ ap (told_of (λ _. why.Memory)) went.1)) (by went.0)
      where
        by : (a : Result RunEnd AllocError) → IfErr (told_of (λ _. why.Memory) (Ok a)) (λ reason. reason ≡ why.Memory)
        by (Ok ran) = tt
        by (Err fault) = refl

  -- ---- it was offered a message
  module _ (msg : Message) (answer : Accept) (h : IsOffered m msg answer n) where
    pub offered_in : (a : Accept) → answer ≡ a → IsOfferedAt (map core_in ms) p msg a (map core_in (set ms p n))
    offered_in a is =
        let at_core = core_was content (health_of is_clean failed) IsSound P L F ms M O p m at n h.before h.up in
        subst (λ b. IsOfferedAt (map core_in ms) p msg b (map core_in (set ms p n))) is (subst (IsOfferedAt (map core_in ms) p msg answer) (sym (cores_set content (health_of is_clean failed) IsSound P L F ms M O p m at n (Some h.after) (ap core_in h.others)))
        (offered (map core_in ms) p h.before h.after msg answer at_core (given_at (map core_in ms) p h.before at_core) h.answers h.took h.refused))

    offered_seen : (live : List Entry) → remade (seen content (health_of is_clean failed) P L F ms M O) live F (map core_in (set ms p n)) M (map (content_in content) ms) (map (health_in (health_of is_clean failed)) ms) ≡ seen content (health_of is_clean failed) P live F (set ms p n) M O
    offered_seen live = kept content (health_of is_clean failed) IsSound P L F ms M O p m at n (ap place_in h.others ∙ sym (ap place_of h.up)) (ap round_in h.others) (ap (λ (x : Member S). x.store) h.others) live F M

    pub offered_world : (live : List Entry) → IsWorld (sound_in IsSound) ms (remade (seen content (health_of is_clean failed) P L F ms M O) live F (map core_in (set ms p n)) M (map (content_in content) ms) (map (health_in (health_of is_clean failed)) ms)) → IsWorld (sound_in IsSound) (set ms p n) (seen content (health_of is_clean failed) P live F (set ms p n) M O)
    offered_world live x = still content (health_of is_clean failed) IsSound P L F ms M O p m at n (ap (λ (y : Member S). y.store) h.others) (seen content (health_of is_clean failed) P live F (set ms p n) M O) (subst (IsWorld (sound_in IsSound) ms) (offered_seen live) x)

    pub offered_as_seen : (live : List Entry) (Did : WorldState → WorldState → Type 0) → Did (seen content (health_of is_clean failed) P L F ms M O) (remade (seen content (health_of is_clean failed) P L F ms M O) live F (map core_in (set ms p n)) M (map (content_in content) ms) (map (health_in (health_of is_clean failed)) ms)) → Did v (seen content (health_of is_clean failed) P live F (set ms p n) M O)
    offered_as_seen live Did x = subst (λ (y : WorldState). Did y (seen content (health_of is_clean failed) P live F (set ms p n) M O)) e (subst (Did (seen content (health_of is_clean failed) P L F ms M O)) (offered_seen live) x)

  -- ---- it was trimmed
  module _ (got : List ℕ) (released : ℕ) (r : Result (Unit {0}) NotUp) (up : IsUp v p) (did : OnOk r (HasTrimmed m got released n)) (not : OnErr r (IsNotUp m.standing)) where
    trimmed : (a : Unit {0}) × (r ≡ Ok a) × HasTrimmed m got released n
    trimmed = was_up r (λ a. HasTrimmed m got released n) m.standing (is_up content (health_of is_clean failed) IsSound P L F ms M O p m at v e up) did not

    trimmed_in : HasTrimmed m got released n → IsTrimmedIn (seen content (health_of is_clean failed) P L F ms M O) p got released (map core_in (set ms p n))
    trimmed_in h = (h.core, core_was content (health_of is_clean failed) IsSound P L F ms M O p m at n h.core h.up, cores_set content (health_of is_clean failed) IsSound P L F ms M O p m at n (Some (trimmed_core h.core got released)) (ap core_in h.others))

    pub after_trimmed : p < length v.programs → AreGotFrom M.rows M.recovery p got → released ≡ length (released_by M p) → IsWorld (sound_in IsSound) (set ms p n) (seen content (health_of is_clean failed) P L F (set ms p n) M O)
    after_trimmed lt g is =
        let h = trimmed.2 in
        still content (health_of is_clean failed) IsSound P L F ms M O p m at n (ap (λ (x : Member S). x.store) h.others) (seen content (health_of is_clean failed) P L F (set ms p n) M O)
        (subst (IsWorld (sound_in IsSound) ms) (kept content (health_of is_clean failed) IsSound P L F ms M O p m at n (ap place_in h.others ∙ sym (ap place_of h.up)) (ap round_in h.others) (ap (λ (x : Member S). x.store) h.others) L F M)
        (after_trim (sound_in IsSound) ms (seen content (health_of is_clean failed) P L F ms M O) p got released (map core_in (set ms p n)) i (subst (λ (x : WorldState). p < length x.programs) (sym e) lt) g is (trimmed_in h)))

    pub has_trimmed : (c : CoreState) × (slice_get v.cores p ≡ Some (Some c)) × (seen content (health_of is_clean failed) P L F (set ms p n) M O ≡ record v { cores = set v.cores p (Some (trimmed_core c got released)) })
    has_trimmed =
        let h = trimmed.2 in (
          h.core,
          subst (λ (x : WorldState). slice_get x.cores p ≡ Some (Some h.core)) e (core_was content (health_of is_clean failed) IsSound P L F ms M O p m at n h.core h.up),
          sym (kept content (health_of is_clean failed) IsSound P L F ms M O p m at n (ap place_in h.others ∙ sym (ap place_of h.up)) (ap round_in h.others) (ap (λ (x : Member S). x.store) h.others) L F M)
              ∙ ap (λ l. record (seen content (health_of is_clean failed) P L F ms M O) { cores = l }) (cores_set content (health_of is_clean failed) IsSound P L F ms M O p m at n (Some (trimmed_core h.core got released)) (ap core_in h.others))
              ∙ ap (λ (x : WorldState). record x { cores = set x.cores p (Some (trimmed_core h.core got released)) }) e,
        )

-- bounds by the manager's rows have a place for each process
pub bounds_fit : {S : Type 0} (content : S → Content) (health : S → Health) (IsSound : S → Type 0) (P : List Program) (L : List Entry) (F : List Message) (ms : List (Member S)) (M : ManagerState) (O : Besides) (p : ℕ) (m : Member S) → slice_get ms p ≡ Some m → IsWorld (sound_in IsSound) ms (seen content health P L F ms M O)
    → (core : CoreState) → m.standing ≡ stands.Up core → {q : ℕ} (got : List ℕ) → AreGotFrom M.rows M.recovery q got → length got ≡ cluster_size core.now
bounds_fit content health IsSound P L F ms M O p m at i core up got g = g.places ∙ i.shape.size ∙ sym (i.shape.own p core (core_was content health IsSound P L F ms M O p m at m core up)).size

-- ---- its outputs were handed in
module _ {S : Type 0} (content : S → Content) (health : S → Health) (IsSound : S → Type 0) (P : List Program) (L : List Entry) (F : List Message) (ms : List (Member S)) (M : ManagerState) (O : Besides) (p : ℕ) (m : Member S) (at : slice_get ms p ≡ Some m) (v : WorldState) (i : IsWorld (sound_in IsSound) ms (seen content health P L F ms M O)) (e : seen content health P L F ms M O ≡ v)
    (q : ℕ) (is : q ≡ p) (k : ManagerState) (r : Result (Result (Unit {0}) OutputError) NotUp) (up : IsUp v p) (did : IfOk r (λ end. (core : CoreState) × (m.standing ≡ stands.Up core) × AreHandedUpTo M core.round q (outputs_from core (length (held_by M q))) end k)) (not : OnErr r (IsNotUp m.standing)) where
  handed : (end : Result (Unit {0}) OutputError) × (r ≡ Ok end) × ((core : CoreState) × (m.standing ≡ stands.Up core) × AreHandedUpTo M core.round q (outputs_from core (length (held_by M q))) end k)
  handed = was_up r (λ end. (core : CoreState) × (m.standing ≡ stands.Up core) × AreHandedUpTo M core.round q (outputs_from core (length (held_by M q))) end k) m.standing (is_up content health IsSound P L F ms M O p m at v e up) did not

  handed_in : IsHandedIn (seen content health P L F ms M O) p handed.0 k
  handed_in = (
    handed.2.0,
    core_was content health IsSound P L F ms M O p m at m handed.2.0 handed.2.1,
    subst (λ (x : ℕ). AreHandedUpTo M handed.2.0.round x (outputs_from handed.2.0 (length (held_by M x))) handed.0 k) is handed.2.2,
  )

  pub after_hand : IsWorld (sound_in IsSound) ms (seen content health P L F ms k O)
  after_hand = after_handed (sound_in IsSound) ms (seen content health P L F ms M O) p handed.0 k i (subst (λ (x : WorldState). IsUp x p) (sym e) up) handed_in

  pub has_handed_in : (end : Result (Unit {0}) OutputError) × HasHandedIn v p end (seen content health P L F ms k O) × (r ≡ Ok end)
  has_handed_in = (
    handed.0,
    subst (λ (x : WorldState). HasHandedIn x p handed.0 (seen content health P L F ms k O)) e (has_handed (sound_in IsSound) ms (seen content health P L F ms M O) p handed.0 k i (subst (λ (x : WorldState). IsUp x p) (sym e) up) handed_in),
    handed.1,
  )
