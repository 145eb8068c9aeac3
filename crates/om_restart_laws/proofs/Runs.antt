-- However often a world stops and is taken up, it is a point of a run without failures, and what was released is.
use Rattle.std.proofs.Common.{◌≡◌, ℕ, ◌<◌, List, [], ◌∷◌, length, sym, ap, ◌∙◌, subst, arith}
use mathlib.Core.List.{IsPrefix}
use Rattle.om_manager.specs.Sound.{KeepsReleased}
use Rattle.om_manager.specs.State.{ManagerState, process_count, released_by}
use Rattle.om_member.proofs.KeepLemmas.{prefix_same, prefix_then}
use Rattle.om_world.specs.declared.event.Answer.{Answer}
use Rattle.om_world.specs.declared.event.Event.{Event}
use Rattle.om_world.specs.Holds.{Holds}
use Rattle.om_world.specs.Played.{Played}
use Rattle.om_world.specs.Stopped.{along, stopped}
use Rattle.om_world.specs.World.{WorldState}
use Rattle.om_world.proofs.Restarting.{no_core}
use Rattle.om_restart_laws.specs.Alone.{StandsOver}
use Rattle.om_restart_laws.specs.Runs.{AreRuns, Stop, WasTakenUp}
use Rattle.om_restart_laws.proofs.Alone.{are_left, stands_over, starts_over}

-- ---- a world that is played
played_holds : (old new : WorldState) (events : List Event) (answers : List Answer) → Holds old → Played old events answers new → Holds new
played_holds old new [] [] h p = subst Holds (sym p) h
played_holds old new [] (a ∷ answers) h p = absurd p
played_holds old new (e ∷ events) [] h p = absurd p
played_holds old new (e ∷ events) (a ∷ answers) h p = played_holds p.0 new events answers p.1.holds p.2

-- ---- a world that is taken up
taken_stands : (ended begun : WorldState) (t : WasTakenUp ended begun) → StandsOver ended.programs t.restarted.run ended.manager.recovery ended.contents (released_by ended.manager) begun.manager
taken_stands ended begun t = stands_over ended.programs t.restarted.run ended.manager.recovery ended.contents (released_by ended.manager) begun.manager (are_left (along (stopped ended) t.restarted.run) t.disk) (starts_over (stopped ended) begun t.restarted)

taken_holds : (ended begun : WorldState) → WasTakenUp ended begun → Holds begun
taken_holds ended begun t =
    let h = (taken_stands ended begun t).holds in
    subst Holds (sym t.restarted.others) (record {
      legal = h.legal;
      up = λ p c at. absurd (no_core (length ended.programs) p c at);
      gathered = λ p c at. absurd (no_core (length ended.programs) p c at);
      released = h.released;
      backed = h.backed;
    })

taken_size : (ended begun : WorldState) → WasTakenUp ended begun → process_count begun.manager ≡ process_count ended.manager
taken_size ended begun t = sym (taken_stands ended begun t).kept.same_places

taken_released : (ended begun : WorldState) → WasTakenUp ended begun → KeepsReleased ended.manager begun.manager
taken_released ended begun t p lt =
    let places = t.disk.places in
    subst (IsPrefix (released_by ended.manager p)) (sym ((taken_stands ended begun t).released p (omega arith))) (prefix_same (released_by ended.manager p))

-- ---- one after another
released_then : (a b c : ManagerState) → process_count b ≡ process_count a → KeepsReleased a b → KeepsReleased b c → KeepsReleased a c
released_then a b c size k l p lt = prefix_then (released_by a p) (released_by b p) (released_by c p) (k p lt) (l p (omega arith))

pub runs_hold : (first : WorldState) (stops : List Stop) (last : WorldState) → Holds first → AreRuns first stops last → Holds last
runs_hold first [] last h runs = played_holds first last runs.events runs.answers h runs.played
runs_hold first (stop ∷ stops) last h runs = runs_hold stop.begun stops last (taken_holds stop.ended stop.begun runs.1) runs.2

pub runs_keep : (first : WorldState) (stops : List Stop) (last : WorldState) → AreRuns first stops last → KeepsReleased first.manager last.manager
runs_keep first [] last runs = runs.released
runs_keep first (stop ∷ stops) last runs =
    let taken = taken_size stop.ended stop.begun runs.1 in
    released_then first.manager stop.ended.manager last.manager runs.0.size runs.0.released
    (released_then stop.ended.manager stop.begun.manager last.manager taken (taken_released stop.ended stop.begun runs.1) (runs_keep stop.begun stops last runs.2))
