use Rattle.std.proofs.Common.{◌≡◌, ◌<◌, ◌+◌, ◌^◌, arith, rules, subst, sym, ap, ◌∙◌, refl, List, [], ℕ, length, map, slice_index, slice_index_or, None}
use Rattle.std.proofs.lemmas.List.{length-map}
use Rattle.om_interval.specs.Starts.{BeginIncarnations, is_named}
use Rattle.om_manager.specs.steps.OutputLog.{LogState, log_within}
use Rattle.om_manager.specs.Gatherings.{begins, presence_of}
use Rattle.om_manager.specs.State.{ManagerState}
use Rattle.om_manager.specs.Rounds.{Finishes}
use Rattle.om_manager.specs.steps.Parts.{AreParts}
use Rattle.om_manager.proofs.ManagerLemmas.{room_for_version, parts_finished, released_after, whole}
use Rattle.om_manager.proofs.manager.Manager.finish.Goals as goal

pub overflow_add-self-2 : goal.overflow_add-self-2
overflow_add-self-2 c = let room : c.self.inside.version + 1 < 18446744073709551616 = room_for_version _ _ _ _ c.self.invariant.records c.self.invariant.few c.self.invariant.rounds in omega arith

pub invariant_of-self-2 : goal.invariant_of-self-2
invariant_of-self-2 c =
    let begin = subst (λ s. BeginIncarnations c.new_incarnations-who.result s c.self.inside.starts c.cut_all.new.self) c.recovery-state.ensures.state c.in_ok-cut_all.ensures.ok in
    let room : c.self.inside.round + 1 < 2 ^ 32 = subst (λ (m : ManagerState). m.round + 1 < 2 ^ 32) (sym c.self.view_is) c.requires in
    parts_finished _ _ _ _ _ _ _ _ _ _ _ _ _ c.self.invariant c.cut.ensures.state c.recovery-state.ensures.state c.cut.ensures.sound c.cut_all-2.ensures begin room

pub returns-clause-finished : goal.returns-clause-finished
returns-clause-finished c =
    let begin = subst (λ s. BeginIncarnations c.new_incarnations-who.result s c.self.inside.starts c.cut_all.new.self) c.recovery-state.ensures.state c.in_ok-cut_all.ensures.ok in
    let backs = subst (λ (s : List ℕ). (p : ℕ) → p < length s → is_named c.new_incarnations-who.result p ≡ begins (presence_of c.args.presences.now p) (slice_index s p)) c.recovery-state.ensures.state c.new_incarnations-who.ensures in
    subst (λ (m : ManagerState). Finishes c.args.presences.now m (record {
      rows = c.cut.new.self.rows;
      recovery = c.cut.new.self.state;
      outputs = map (λ (log : LogState). log.held) c.cut_all-2.new.logs.items;
      starts = c.cut_all.new.self;
      round = c.self.inside.round + 1;
      gathering = None;
      last = c.recovery-state.result;
      backs = c.new_incarnations-who.result;
      version = c.self.inside.version + 1;
    })) c.self.view_is
    (record {
      rows = c.cut.ensures.rows;
      recovery = c.cut.ensures.state;
      places = length-map c.cut_all-2.new.logs.items (λ (log : LogState). log.held) ∙ ap length c.cut_all-2.ensures ∙ length-map c.self.inside.logs.items log_within ∙ sym (length-map c.self.inside.logs.items (λ (log : LogState). log.held));
      outputs = λ p here. ap (λ (logs : List LogState). slice_index_or (map (λ (log : LogState). log.held) logs) p []) c.cut_all-2.ensures ∙ released_after _ _ p c.self.invariant.limits here;
      begin = begin;
      round = refl;
      closed = refl;
      last = c.recovery-state.ensures.state;
      backs = backs;
      version = refl;
    })

pub returns-clause-sound : goal.returns-clause-sound
returns-clause-sound c =
    let begin = subst (λ s. BeginIncarnations c.new_incarnations-who.result s c.self.inside.starts c.cut_all.new.self) c.recovery-state.ensures.state c.in_ok-cut_all.ensures.ok in
    let room : c.self.inside.round + 1 < 2 ^ 32 = subst (λ (m : ManagerState). m.round + 1 < 2 ^ 32) (sym c.self.view_is) c.requires in
    whole _ _ _ _ _ _ _ _ (parts_finished _ _ _ _ _ _ _ _ _ _ _ _ _ c.self.invariant c.cut.ensures.state c.recovery-state.ensures.state c.cut.ensures.sound c.cut_all-2.ensures begin room)

pub returns-in_err-cut_all-clause-sound : goal.returns-in_err-cut_all-clause-sound
returns-in_err-cut_all-clause-sound c =
    let i = c.self.inside in
    let parts : AreParts i.records i.logs.items c.cut_all.new.self i.round i.gathering i.last i.backs i.version = search rules in
    whole _ _ _ _ _ _ _ _ parts
