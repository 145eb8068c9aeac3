-- What a failure, a join and a return of a member do to its world.
use Rattle.std.proofs.Common.{◌≡◌, ◌≢◌, ℕ, ◌<◌, List, length, map, set, None, Some, Bool, true, false, Result, Ok, Err, refl, sym, ap, ◌∙◌, subst}
use Rattle.std.specs.Prelude.{slice_get, slice_index, IfErr, IfOk, OnErr, OnOk}
use Rattle.std.specs.declared.alloc.AllocError.{AllocError}
use Rattle.om_interval.specs.Starts.{newest_of}
use Rattle.om_interval.specs.declared.verdict.Verdict.{Verdict}
use Rattle.om_format.specs.declared.message.Message.{Message}
use Rattle.om_stable.specs.Content.{Content, kept_by_cut}
use Rattle.om_process.specs.Core.{CoreState, cluster_size}
use Rattle.om_process.specs.Process.{Program}
use Rattle.om_process.specs.Resumes.{resumed}
use Rattle.om_process.specs.Stored.{CanReplay, IsReplay, the_process}
use Rattle.om_process.specs.declared.down.Down.{Down}
use Rattle.om_process.specs.declared.replay.ReplayFault.{ReplayFault}
use Rattle.om_process.specs.declared.replay.ReplayFault.TheVariants as replays
use Rattle.om_manager.specs.Rounds.{Fails, Failing, Gathers, Joining, first, again}
use Rattle.om_manager.specs.State.{ManagerState, process_count}
use Rattle.om_manager.specs.declared.answers.FailError.{FailError}
use Rattle.om_manager.specs.declared.answers.Gathered.{Gathered}
use Rattle.om_manager.specs.declared.answers.Gathered.TheVariants.{Finished, Waiting}
use Rattle.om_manager.specs.declared.answers.JoinError.{JoinError}
use Rattle.om_manager.specs.declared.presence.Presence.{Presence}
use Rattle.om_member.specs.Members.{HasComeBack, HasDeclared, HasJoined, IsNotIn, IsNotUp, StaysDown, core_of}
use Rattle.om_member.specs.declared.member.Member.{Member}
use Rattle.om_member.specs.declared.member.NotIn.{NotIn}
use Rattle.om_member.specs.declared.member.NotUp.{NotUp}
use Rattle.om_member.specs.declared.member.MemberState.{MemberState}
use Rattle.om_member.specs.declared.member.MemberState.TheVariants as stands
use Rattle.om_world.specs.declared.entry.Entry.{Entry}
use Rattle.om_world.specs.declared.event.Refusal.{Refusal}
use Rattle.om_world.specs.declared.event.Refusal.TheVariants as why
use Rattle.om_world.specs.declared.process_state.ProcessState.{ProcessState}
use Rattle.om_world.specs.Changes.{IsUp}
use Rattle.om_world.specs.Failures.{HasNews, IsToGoOn, live_after, taken_down, since_after}
use Rattle.om_world.specs.Live.{cut_list}
use Rattle.om_world.specs.World.{Health, WorldState, SinceState}
use Rattle.om_world.specs.steps.Gathering.{HasDeclaredAt, HasEntered, HasGathered, StandsIn}
use Rattle.om_world.specs.steps.Members.{Besides, content_in, core_in, health_in, place_in, place_of, round_in, seen, sound_in, health_of}
use Rattle.om_world.specs.steps.Moves.{IsCalled, refusal_of_join, told_of}
use Rattle.om_world.specs.steps.Returning.{IsBackIn, IsRolledBack, KnowsRound, Returns}
use Rattle.om_world.specs.Failures.{HasGoneOn}
use Rattle.om_world.specs.steps.Sound.{IsWorld}
use Rattle.om_world.proofs.Declaring.{after_declare, after_join, has_declared, has_entered, not_declared, not_entered, placed_with}
use Rattle.om_world.proofs.Lists.{map_at, once, once_err}
use Rattle.om_world.proofs.Returned.{IsFault, after_back, after_fault, after_on, has_come_back, stays_down, up_as}
use Rattle.om_world.proofs.Seats.{called_in, core_was, is_up, placed_as, restored, risen, round_is, set_core, set_round, still, told_err, told_ok, unchanged, unmoved, was_up}
use Rattle.om_world.proofs.TakenDown.{after_down}

-- ---- a cut by the manager after a round, and by the one before it
live_gathers : (told : Gathered) (presences : List Presence) (old new : ManagerState) (live : List Entry) → Gathers presences old told new → live_after told new live ≡ live_after told old live
live_gathers Waiting presences old new live g = refl
live_gathers Finished presences old new live g = ap (λ (r : List ℕ). cut_list r live) g.1.recovery

live_fails : (told : Gathered) (old : ManagerState) (q : ℕ) (new : ManagerState) (live : List Entry) → Fails old q told new → live_after told new live ≡ live_after told old live
live_fails told old q new live f = elim f [
  | first fresh g ↦ live_gathers told _ old new live g
  | again failed waits same ↦ ap (λ (k : ManagerState). live_after told k live) same
]

module _ {S : Type 0} (content : S → Content) (health : S → Health) (IsSound : S → Type 0) (P : List Program) (L : List Entry) (F : List Message) (ms : List (Member S)) (M : ManagerState) (O : Besides) (p : ℕ) (m : Member S) (at : slice_get ms p ≡ Some m) (n : Member S) (v : WorldState) (i : IsWorld (sound_in IsSound) ms (seen content health P L F ms M O)) (e : seen content health P L F ms M O ≡ v) where
  -- ---- it failed
  module _ (others : n ≡ record m { standing = stands.Down false }) where
    down_seen : taken_down (seen content health P L F ms M O) p false ≡ seen content health P L F (set ms p n) M O
    down_seen =
        ap (λ l. record (taken_down (seen content health P L F ms M O) p false) { rounds = l }) (sym (set_round content health IsSound P L F ms M O p m at n))
        ∙ placed_as content health IsSound P L F ms M O p m at n None (ProcessState.Down false) m.round (ap core_in others) (ap place_in others) (ap round_in others) (ap (λ (x : Member S). x.store) others) L M

    pub after_taken : slice_get v.places p ≢ Some (ProcessState.Down true) → IsWorld (sound_in IsSound) (set ms p n) (seen content health P L F (set ms p n) M O)
    after_taken undeclared =
        still content health IsSound P L F ms M O p m at n (ap (λ (x : Member S). x.store) others) (seen content health P L F (set ms p n) M O)
        (subst (IsWorld (sound_in IsSound) ms) down_seen (after_down (sound_in IsSound) ms (seen content health P L F ms M O) p i (subst (λ (x : WorldState). slice_get x.places p ≢ Some (ProcessState.Down true)) (sym e) undeclared)))

    pub was_taken : seen content health P L F (set ms p n) M O ≡ taken_down v p false
    was_taken = sym down_seen ∙ ap (λ (x : WorldState). taken_down x p false) e

  -- ---- its failure was declared
  module _ (q : ℕ) (is : q ≡ p) (k : ManagerState) (at_down : slice_get v.places p ≡ Some (ProcessState.Down false)) where
    was_down : slice_get (map place_in ms) p ≡ Some (ProcessState.Down false)
    was_down = subst (λ (x : WorldState). slice_get x.places p ≡ Some (ProcessState.Down false)) (sym e) at_down

    no_core : core_of m.standing ≡ None
    no_core = of_down m.standing (once (place_in m) (ProcessState.Down false) (sym (map_at place_in ms p m at) ∙ was_down))
      where
        of_down : (s : MemberState) → place_of s ≡ ProcessState.Down false → core_of s ≡ None
        of_down (stands.Up core) d = cc
        of_down (stands.In core) d = cc
        of_down (stands.Down declared) d = refl

    module _ (told : Gathered) (h : HasDeclared M q m (Ok told) k n) (live : List Entry) (cut : live ≡ live_after told k L) (since : SinceState) (kept : since ≡ since_after told L O.since) where
      failing : Failing M p m.round (Ok told) k
      failing = subst (λ x. Failing M x m.round (Ok told) k) is h.failing

      gathered : HasGathered {E = FailError} M L (Ok told) k live
      gathered = record { sound = h.keeps.sound; size = sym h.keeps.below.same_places; released = h.keeps.released; live = cut ∙ live_fails told M p k L failing.2; refused = tt }

      declared_seen : placed_with (seen content health P L F ms M O) p (ProcessState.Down true) live k since ≡ seen content health P live F (set ms p n) k (record O { since = since })
      declared_seen =
          ap (λ l. record (placed_with (seen content health P L F ms M O) p (ProcessState.Down true) live k since) { cores = l }) (set_core content health IsSound P L F ms M O p m at n ∙ ap (set (map core_in ms) p) no_core)
          ∙ ap (λ l. record (placed_with (seen content health P L F ms M O) p (ProcessState.Down true) live k since) { cores = set (map core_in ms) p None; rounds = l }) (sym (set_round content health IsSound P L F ms M O p m at n))
          ∙ placed_as content health IsSound P L F ms M (record O { since = since }) p m at n None (ProcessState.Down true) m.round (ap core_in h.declared) (ap place_in h.declared) (ap round_in h.declared) (ap (λ (x : Member S). x.store) h.declared) live k

      pub after_declared : IsWorld (sound_in IsSound) (set ms p n) (seen content health P live F (set ms p n) k (record O { since = since }))
      after_declared =
          still content health IsSound P L F ms M O p m at n (ap (λ (x : Member S). x.store) h.declared) (seen content health P live F (set ms p n) k (record O { since = since }))
          (subst (IsWorld (sound_in IsSound) ms) declared_seen
          (after_declare (sound_in IsSound) ms (seen content health P L F ms M O) p m.round told k live since i was_down (round_is content health IsSound P L F ms M O p m at) failing gathered kept))

      pub was_declared : HasDeclaredAt v p (Ok told) (seen content health P live F (set ms p n) k (record O { since = since }))
      was_declared =
          subst (λ (x : WorldState). HasDeclaredAt x p (Ok told) (seen content health P live F (set ms p n) k (record O { since = since }))) e
          (subst (HasDeclaredAt (seen content health P L F ms M O) p (Ok told)) declared_seen (has_declared (sound_in IsSound) ms (seen content health P L F ms M O) p m.round told k live since i was_down failing gathered kept))

    module _ (fault : FailError) (h : HasDeclared M q m (Err fault) k n) where
      refused : HasDeclaredAt (seen content health P L F ms M O) p (Err fault) (seen content health P L F ms k O)
      refused = not_declared (sound_in IsSound) ms (seen content health P L F ms M O) p m.round fault k L i was_down (round_is content health IsSound P L F ms M O p m at) (subst (λ x. Failing M x m.round (Err fault) k) is h.failing)
          (record { sound = h.keeps.sound; size = sym h.keeps.below.same_places; released = h.keeps.released; live = tt; refused = refl })

      pub after_refused : IsWorld (sound_in IsSound) (set ms p n) (seen content health P L F (set ms p n) k O)
      after_refused =
          still content health IsSound P L F ms M O p m at n (ap (λ (x : Member S). x.store) h.refused) (seen content health P L F (set ms p n) k O)
          (subst (IsWorld (sound_in IsSound) ms) (sym refused.refused ∙ unchanged content health IsSound P L F ms M O p m at n h.refused k) i)

      pub was_refused : (r : Result Gathered FailError) → r ≡ Err fault → HasDeclaredAt v p r (seen content health P L F (set ms p n) k O)
      was_refused r told = subst (λ a. HasDeclaredAt v p a (seen content health P L F (set ms p n) k O)) (sym told) (subst (λ (x : WorldState). HasDeclaredAt x p (Err fault) (seen content health P L F (set ms p n) k O)) e (subst (HasDeclaredAt (seen content health P L F ms M O) p (Err fault)) (unchanged content health IsSound P L F ms M O p m at n h.refused k) refused))

  -- ---- it joined
  module _ (q : ℕ) (is : q ≡ p) (k : ManagerState) (up : IsUp v p) where
    was_up_there : IsUp (seen content health P L F ms M O) p
    was_up_there = subst (λ (x : WorldState). IsUp x p) (sym e) up

    module _ (told : Gathered) (h : HasJoined M q m (Ok told) k n) (live : List Entry) (cut : live ≡ live_after told k L) (since : SinceState) (kept : since ≡ since_after told L O.since) where
      stands_so : StandsIn (map core_in ms) p (h.core.round, h.core.now.interval)
      stands_so = (h.core, core_was content health IsSound P L F ms M O p m at n h.core h.up, refl, refl)

      joining : Joining M p h.core.round h.core.now.interval (Ok told) k
      joining = subst (λ x. Joining M x h.core.round h.core.now.interval (Ok told) k) is h.joining

      joined : HasGathered {E = JoinError} M L (Ok told) k live
      joined = record { sound = h.keeps.sound; size = sym h.keeps.below.same_places; released = h.keeps.released; live = cut ∙ live_gathers told _ M k L joining.1; refused = tt }

      joined_seen : placed_with (seen content health P L F ms M O) p ProcessState.In live k since ≡ seen content health P live F (set ms p n) k (record O { since = since })
      joined_seen =
          ap (λ l. record (placed_with (seen content health P L F ms M O) p ProcessState.In live k since) { cores = l }) (set_core content health IsSound P L F ms M O p m at n ∙ ap (λ s. set (map core_in ms) p (core_of s)) h.up)
          ∙ ap (λ l. record (placed_with (seen content health P L F ms M O) p ProcessState.In live k since) { cores = set (map core_in ms) p (Some h.core); rounds = l }) (sym (set_round content health IsSound P L F ms M O p m at n))
          ∙ placed_as content health IsSound P L F ms M (record O { since = since }) p m at n (Some h.core) ProcessState.In m.round (ap core_in h.joined) (ap place_in h.joined) (ap round_in h.joined) (ap (λ (x : Member S). x.store) h.joined) live k

      pub after_joined : IsWorld (sound_in IsSound) (set ms p n) (seen content health P live F (set ms p n) k (record O { since = since }))
      after_joined =
          still content health IsSound P L F ms M O p m at n (ap (λ (x : Member S). x.store) h.joined) (seen content health P live F (set ms p n) k (record O { since = since }))
          (subst (IsWorld (sound_in IsSound) ms) joined_seen (after_join (sound_in IsSound) ms (seen content health P L F ms M O) p (h.core.round, h.core.now.interval) told k live since i was_up_there stands_so joining joined kept))

      pub was_joined : HasEntered v p (Ok told) (seen content health P live F (set ms p n) k (record O { since = since }))
      was_joined =
          subst (λ (x : WorldState). HasEntered x p (Ok told) (seen content health P live F (set ms p n) k (record O { since = since }))) e
          (subst (HasEntered (seen content health P L F ms M O) p (Ok told)) joined_seen (has_entered (seen content health P L F ms M O) p (h.core.round, h.core.now.interval) told k live since stands_so joining joined kept))

    module _ (fault : JoinError) (h : HasJoined M q m (Err fault) k n) where
      not_joined : HasEntered (seen content health P L F ms M O) p (Err fault) (seen content health P L F ms k O)
      not_joined = not_entered (sound_in IsSound) ms (seen content health P L F ms M O) p (h.core.round, h.core.now.interval) fault k L i was_up_there (h.core, core_was content health IsSound P L F ms M O p m at n h.core h.up, refl, refl)
          (subst (λ x. Joining M x h.core.round h.core.now.interval (Err fault) k) is h.joining) (record { sound = h.keeps.sound; size = sym h.keeps.below.same_places; released = h.keeps.released; live = tt; refused = refl })

      pub after_not_joined : IsWorld (sound_in IsSound) (set ms p n) (seen content health P L F (set ms p n) k O)
      after_not_joined =
          still content health IsSound P L F ms M O p m at n (ap (λ (x : Member S). x.store) h.refused) (seen content health P L F (set ms p n) k O)
          (subst (IsWorld (sound_in IsSound) ms) (sym not_joined.refused ∙ unchanged content health IsSound P L F ms M O p m at n h.refused k) i)

      pub was_not_joined : HasEntered v p (Err fault) (seen content health P L F (set ms p n) k O)
      was_not_joined = subst (λ (x : WorldState). HasEntered x p (Err fault) (seen content health P L F (set ms p n) k O)) e (subst (HasEntered (seen content health P L F ms M O) p (Err fault)) (unchanged content health IsSound P L F ms M O p m at n h.refused k) not_joined)

    -- by its answer
    module _ (r : Result (Result Gathered JoinError) NotUp) (did : IfOk r (λ a. HasJoined M q m a k n)) (not : OnErr r (IsNotUp m.standing)) where
      asked : (a : Result Gathered JoinError) × (r ≡ Ok a) × HasJoined M q m a k n
      asked = was_up r (λ a. HasJoined M q m a k n) m.standing (is_up content health IsSound P L F ms M O p m at v e up) did not

      took : (t : Result Gathered Refusal) (told : Gathered) → t ≡ told_of refusal_of_join r → t ≡ Ok told → HasJoined M q m (Ok told) k n
      took t told is was = subst (λ a. HasJoined M q m a k n) (told_ok refusal_of_join asked.0 t told (is ∙ ap (told_of refusal_of_join) asked.1) was) asked.2

      pub after_enter : (t : Result Gathered Refusal) (told : Gathered) → t ≡ told_of refusal_of_join r → t ≡ Ok told → (live : List Entry) → live ≡ live_after told k L → (since : SinceState) → since ≡ since_after told L O.since → IsWorld (sound_in IsSound) (set ms p n) (seen content health P live F (set ms p n) k (record O { since = since }))
      after_enter t told is was live cut since kept = after_joined told (took t told is was) live cut since kept

      pub entered : (t : Result Gathered Refusal) (told : Gathered) → t ≡ told_of refusal_of_join r → t ≡ Ok told → (live : List Entry) → live ≡ live_after told k L → (since : SinceState) → since ≡ since_after told L O.since → (a : Result Gathered JoinError) × HasEntered v p a (seen content health P live F (set ms p n) k (record O { since = since })) × (Ok told ≡ told_of refusal_of_join (Ok a))
      entered t told is was live cut since kept = (Ok told, was_joined told (took t told is was) live cut since kept, refl)

      refused_by : (t : Result Gathered Refusal) (reason : Refusal) → t ≡ told_of refusal_of_join r → t ≡ Err reason → (fault : JoinError) × HasJoined M q m (Err fault) k n × (reason ≡ refusal_of_join fault)
      refused_by t reason is was =
          let f = told_err refusal_of_join asked.0 t reason (is ∙ ap (told_of refusal_of_join) asked.1) was in
          (f.0, subst (λ a. HasJoined M q m a k n) f.1 asked.2, f.2)

      pub after_no_entry : (t : Result Gathered Refusal) (reason : Refusal) → t ≡ told_of refusal_of_join r → t ≡ Err reason → IsWorld (sound_in IsSound) (set ms p n) (seen content health P L F (set ms p n) k O)
      after_no_entry t reason is was = let f = refused_by t reason is was in after_not_joined f.0 f.1

      pub no_entry : (t : Result Gathered Refusal) (reason : Refusal) → t ≡ told_of refusal_of_join r → t ≡ Err reason → (a : Result Gathered JoinError) × HasEntered v p a (seen content health P L F (set ms p n) k O) × (Err reason ≡ told_of refusal_of_join (Ok a))
      no_entry t reason is was = let f = refused_by t reason is was in (Err f.0, was_not_joined f.0 f.1, ap Err f.2)

  -- ---- it goes on as it was
  module _ (due : IsToGoOn v p) (core : CoreState) (stood : m.standing ≡ stands.In core) (round : ℕ) (starts : List (List ℕ)) (same_round : round ≡ M.round) (same_starts : starts ≡ M.starts)
      (others : n ≡ record m { standing = stands.Up (resumed core round starts); round = round }) where
    knows : KnowsRound (map core_in ms) p M (set (map core_in ms) p (Some (resumed core round starts)))
    knows = (
      core,
      map_at core_in ms p m at ∙ ap (λ s. Some (core_of s)) stood,
      ap (λ r. set (map core_in ms) p (Some (resumed core r starts))) same_round ∙ ap (λ s. set (map core_in ms) p (Some (resumed core M.round s))) same_starts,
    )

    on_seen : up_as (seen content health P L F ms M O) p (set (map core_in ms) p (Some (resumed core round starts))) round (map (content_in content) ms) (map (health_in health) ms) ≡ seen content health P L F (set ms p n) M O
    on_seen = placed_as content health IsSound P L F ms M O p m at n (Some (resumed core round starts)) ProcessState.Up round (ap core_in others) (ap place_in others) (ap round_in others) (ap (λ (x : Member S). x.store) others) L M

    pub after_went_on : p < length v.programs → IsWorld (sound_in IsSound) (set ms p n) (seen content health P L F (set ms p n) M O)
    after_went_on lt =
        still content health IsSound P L F ms M O p m at n (ap (λ (x : Member S). x.store) others) (seen content health P L F (set ms p n) M O)
        (subst (IsWorld (sound_in IsSound) ms) on_seen
        (after_on (sound_in IsSound) ms (seen content health P L F ms M O) p round (set (map core_in ms) p (Some (resumed core round starts))) i (subst (λ (x : WorldState). p < length x.programs) (sym e) lt) (subst (λ (x : WorldState). IsToGoOn x p) (sym e) due) knows same_round))

    pub went_on : HasGoneOn v p (seen content health P L F (set ms p n) M O)
    unfolding knows
    went_on = (
      core,
      subst (λ (x : WorldState). slice_get x.cores p ≡ Some (Some core)) e knows.1,
      sym on_seen ∙ ap (λ l. up_as (seen content health P L F ms M O) p l round (map (content_in content) ms) (map (health_in health) ms)) knows.2
          ∙ ap (λ r. up_as (seen content health P L F ms M O) p (set (map core_in ms) p (Some (resumed core M.round M.starts))) r (map (content_in content) ms) (map (health_in health) ms)) same_round
          ∙ ap (λ (x : WorldState). up_as x p (set x.cores p (Some (resumed core x.manager.round x.manager.starts))) x.manager.round x.contents x.health) e,
    )

  -- by its answer
  module _ (due : IsToGoOn v p) (round : ℕ) (starts : List (List ℕ)) (same_round : round ≡ M.round) (same_starts : starts ≡ M.starts) (lt : p < length v.programs) (r : Result (Result (Unit {0}) AllocError) NotIn)
      (on : IfOk r (λ a. OnOk a ((core : CoreState) × (m.standing ≡ stands.In core) × (n ≡ record m { standing = stands.Up (resumed core round starts); round = round })))) (not : OnErr r (IsNotIn m.standing)) (stays : IfOk r (λ a. OnErr a (n ≡ m))) where
    not_out : IsNotIn m.standing → ⊥
    not_out out = in_or_out m.standing (once (place_in m) ProcessState.In (sym (map_at place_in ms p m at) ∙ subst (λ (x : WorldState). slice_get x.places p ≡ Some ProcessState.In) (sym e) due.joined)) out
      where
        in_or_out : (s : MemberState) → place_of s ≡ ProcessState.In → IsNotIn s → ⊥
        in_or_out (stands.Up core) joined out = cc
        in_or_out (stands.In core) joined out = out core refl
        in_or_out (stands.Down declared) joined out = cc

    pub after_go_on : IsWorld (sound_in IsSound) (set ms p n) (seen content health P L F (set ms p n) M O)
    after_go_on = by r on not stays
      where
        by : (r : Result (Result (Unit {0}) AllocError) NotIn) → IfOk r (λ a. OnOk a ((core : CoreState) × (m.standing ≡ stands.In core) × (n ≡ record m { standing = stands.Up (resumed core round starts); round = round }))) → OnErr r (IsNotIn m.standing) → IfOk r (λ a. OnErr a (n ≡ m)) → IsWorld (sound_in IsSound) (set ms p n) (seen content health P L F (set ms p n) M O)
        by (Ok (Ok done)) on not stays = after_went_on due on.0 on.1 round starts same_round same_starts on.2 lt
        by (Ok (Err fault)) on not stays = unmoved content health IsSound P L F ms M O p m at n stays i
        by (Err out) on not stays = absurd (not_out not)

    pub gone_on : (told : Result (Unit {0}) Refusal) → IfOk r (λ a. IfOk a (λ done. told ≡ Ok done)) → IfOk r (λ a. OnErr a (told ≡ Err why.Memory)) → OnOk told (HasGoneOn v p (seen content health P L F (set ms p n) M O)) × OnErr told (seen content health P L F (set ms p n) M O ≡ v) × IfErr told (λ reason. reason ≡ why.Memory)
    gone_on told did stopped = by r on not stays did stopped
      where
        Told : Result (Unit {0}) Refusal → Type 0
        Told t = OnOk t (HasGoneOn v p (seen content health P L F (set ms p n) M O)) × OnErr t (seen content health P L F (set ms p n) M O ≡ v) × IfErr t (λ reason. reason ≡ why.Memory)

        by : (r : Result (Result (Unit {0}) AllocError) NotIn) → IfOk r (λ a. OnOk a ((core : CoreState) × (m.standing ≡ stands.In core) × (n ≡ record m { standing = stands.Up (resumed core round starts); round = round }))) → OnErr r (IsNotIn m.standing) → IfOk r (λ a. OnErr a (n ≡ m)) → IfOk r (λ a. IfOk a (λ done. told ≡ Ok done)) → IfOk r (λ a. OnErr a (told ≡ Err why.Memory)) → Told told
        by (Ok (Ok done)) on not stays did stopped = subst Told (sym did) (went_on due on.0 on.1 round starts same_round same_starts on.2, tt, tt)
        by (Ok (Err fault)) on not stays did stopped = subst Told (sym stopped) (tt, sym (unchanged content health IsSound P L F ms M O p m at n stays M) ∙ e, refl)
        by (Err out) on not stays did stopped = absurd (not_out not)

-- the starts have a place for each process
pub starts_fit : {S : Type 0} (content : S → Content) (health : S → Health) (IsSound : S → Type 0) (P : List Program) (L : List Entry) (F : List Message) (ms : List (Member S)) (M : ManagerState) (O : Besides) (p : ℕ) (m : Member S) → slice_get ms p ≡ Some m → IsWorld (sound_in IsSound) ms (seen content health P L F ms M O)
    → (core : CoreState) → m.standing ≡ stands.In core → (starts : List (List ℕ)) → starts ≡ M.starts → length starts ≡ cluster_size core.now
starts_fit content health IsSound P L F ms M O p m at i core joined starts is =
    ap length is ∙ i.shape.manager.begun.places ∙ i.shape.size ∙ sym (i.shape.own p core (map_at core_in ms p m at ∙ ap (λ s. Some (core_of s)) joined)).size

-- ---- it is rolled back
module _ {S : Type 0} (content : S → Content) (is_clean : S → Bool) (failed : S → ℕ) (IsSound : S → Type 0) (P : List Program) (L : List Entry) (F : List Message) (ms : List (Member S)) (M : ManagerState) (O : Besides) (p : ℕ) (m : Member S) (at : slice_get ms p ≡ Some m) (n : Member S) (v : WorldState)
    (i : IsWorld (sound_in IsSound) ms (seen content (health_of is_clean failed) P L F ms M O)) (e : seen content (health_of is_clean failed) P L F ms M O ≡ v) (lt : p < length v.programs) (news : HasNews v p)
    (who : Down) (pid : who.pid ≡ p) (size : who.n ≡ process_count M) (starts : List (List ℕ)) (same_starts : starts ≡ M.starts) (verdict : Verdict) (same_round : verdict.round ≡ M.round) (same_inc : verdict.inc ≡ newest_of M.starts p) (same_place : verdict.r ≡ slice_index M.last p) where
  there : p < length P
  there = subst (λ (x : WorldState). p < length x.programs) (sym e) lt

  new_there : HasNews (seen content (health_of is_clean failed) P L F ms M O) p
  new_there = subst (λ (x : WorldState). HasNews x p) (sym e) news

  module _ (told : ℕ × ℕ) (h : HasComeBack content failed is_clean IsSound who starts verdict m told n) where
    back_in : IsBackIn M p h.core
    back_in = record {
      own = ap (λ (c : CoreState). c.own) h.fresh ∙ pid;
      size = h.size ∙ size;
      log = ap (λ (c : CoreState). c.log) h.fresh;
      pending = ap (λ (c : CoreState). c.pending) h.fresh;
      inc = ap (λ (c : CoreState). c.inc) h.fresh ∙ same_inc;
      round = ap (λ (c : CoreState). c.round) h.fresh ∙ same_round;
      starts = ap (λ (c : CoreState). c.starts) h.fresh ∙ same_starts;
    }

    back_called : IsCalled (content_in content) (health_in (health_of is_clean failed)) (sound_in IsSound) (IsFault (Ok h.core)) ms (set ms p n) p (IsRolledBack M p (Ok h.core))
    back_called = called_in content is_clean failed IsSound (IsFault (Ok h.core)) (IsRolledBack M p (Ok h.core)) ms p m n at (record {
      used = record {
        fault = λ fault. absurd (apart h.core fault);
        count = h.called.used.count;
        clean = h.called.used.clean;
        sound = h.called.used.sound;
      };
      did = λ clean sound. let d = h.called.did clean sound in (subst (λ r. IsReplay (content m.store) r h.core) same_place d.0, d.1 ∙ ap (kept_by_cut (content m.store)) same_place);
    })
      where
        apart : (c : CoreState) → Ok c ≡ Err replays.Fault → ⊥
        apart c f = cc

    back_seen : up_as (seen content (health_of is_clean failed) P L F ms M O) p (set (map core_in ms) p (Some h.core)) verdict.round (map (content_in content) (set ms p n)) (map (health_in (health_of is_clean failed)) (set ms p n)) ≡ seen content (health_of is_clean failed) P L F (set ms p n) M O
    back_seen = risen content (health_of is_clean failed) IsSound P L F ms M O p m at n (Some h.core) ProcessState.Up verdict.round (ap core_in h.others) (ap place_in h.others) (ap round_in h.others)

    pub after_come_back : IsWorld (sound_in IsSound) (set ms p n) (seen content (health_of is_clean failed) P L F (set ms p n) M O)
    after_come_back = subst (IsWorld (sound_in IsSound) (set ms p n)) back_seen
        (after_back (content_in content) (health_in (health_of is_clean failed)) (sound_in IsSound) (seen content (health_of is_clean failed) P L F ms M O) p verdict.round h.core ms (set ms p n) i there new_there back_in back_called same_round)

    pub came_back : Returns v p (Ok told) (seen content (health_of is_clean failed) P L F (set ms p n) M O)
    came_back =
        subst (λ (x : WorldState). Returns x p (Ok told) (seen content (health_of is_clean failed) P L F (set ms p n) M O)) e
        (subst (Returns (seen content (health_of is_clean failed) P L F ms M O) p (Ok told)) back_seen
        (has_come_back (content_in content) (health_in (health_of is_clean failed)) (sound_in IsSound) (seen content (health_of is_clean failed) P L F ms M O) p verdict.round told.0 told.1 h.core ms (set ms p n) i there new_there back_in back_called same_round (ap (λ (a : ℕ × ℕ). a.0) h.told) (ap (λ (a : ℕ × ℕ). a.1) h.told)))

  module _ (fault : ReplayFault) (h : StaysDown content failed is_clean IsSound who verdict m fault n) where
    fault_called : IsCalled (content_in content) (health_in (health_of is_clean failed)) (sound_in IsSound) (IsFault (Err fault)) ms (set ms p n) p (IsRolledBack M p (Err fault))
    fault_called = called_in content is_clean failed IsSound (IsFault (Err fault)) (IsRolledBack M p (Err fault)) ms p m n at (record {
      used = record {
        fault = λ f. h.called.used.fault (once_err _ fault replays.Fault refl f);
        count = h.called.used.count;
        clean = h.called.used.clean;
        sound = h.called.used.sound;
      };
      did = λ clean sound. let d = h.called.did clean sound in (
        d.0,
        λ can. d.1 (subst (λ x. CanReplay (the_process who.pid who.n) (content m.store) x) (sym same_place)
            (subst (λ x. CanReplay (the_process who.pid x) (content m.store) (slice_index M.last p)) (sym size)
            (subst (λ x. CanReplay (the_process x (process_count M)) (content m.store) (slice_index M.last p)) (sym pid) can))),
      );
    })

    pub after_stayed : IsWorld (sound_in IsSound) (set ms p n) (seen content (health_of is_clean failed) P L F (set ms p n) M O)
    after_stayed = subst (IsWorld (sound_in IsSound) (set ms p n)) (restored content (health_of is_clean failed) IsSound P L F ms M O p m at n (ap core_in h.others) (ap place_in h.others) (ap round_in h.others))
        (after_fault (content_in content) (health_in (health_of is_clean failed)) (sound_in IsSound) (seen content (health_of is_clean failed) P L F ms M O) p fault ms (set ms p n) i fault_called)

    pub stayed : Returns v p (Err fault) (seen content (health_of is_clean failed) P L F (set ms p n) M O)
    stayed =
        subst (λ (x : WorldState). Returns x p (Err fault) (seen content (health_of is_clean failed) P L F (set ms p n) M O)) e
        (subst (Returns (seen content (health_of is_clean failed) P L F ms M O) p (Err fault)) (restored content (health_of is_clean failed) IsSound P L F ms M O p m at n (ap core_in h.others) (ap place_in h.others) (ap round_in h.others))
        (stays_down (content_in content) (health_in (health_of is_clean failed)) (sound_in IsSound) (seen content (health_of is_clean failed) P L F ms M O) p fault ms (set ms p n) i there new_there fault_called))

  -- by its answer
  pub after_return : (r : Result (ℕ × ℕ) ReplayFault) → IfOk r (λ told. HasComeBack content failed is_clean IsSound who starts verdict m told n) → IfErr r (λ fault. StaysDown content failed is_clean IsSound who verdict m fault n)
      → IsWorld (sound_in IsSound) (set ms p n) (seen content (health_of is_clean failed) P L F (set ms p n) M O)
  after_return (Ok told) back stays = after_come_back told back
  after_return (Err fault) back stays = after_stayed fault stays

  pub returned : (r : Result (ℕ × ℕ) ReplayFault) → IfOk r (λ told. HasComeBack content failed is_clean IsSound who starts verdict m told n) → IfErr r (λ fault. StaysDown content failed is_clean IsSound who verdict m fault n)
      → Returns v p r (seen content (health_of is_clean failed) P L F (set ms p n) M O)
  returned (Ok told) back stays = came_back told back
  returned (Err fault) back stays = stayed fault stays
