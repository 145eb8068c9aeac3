-- Machines that are kept, as the process moves and the tape grows.
use Rattle.std.proofs.Common.{◌≡◌, ℕ, ◌<◌, ◌++◌, ◌∷◌, [], List, length, get_or, take, drop, Result, Ok, Err, IfOk, OnErr, is_ok, if◌then◌else◌, refl, sym, subst}
use Rattle.std.specs.Prelude.{All, Contains}
use Rattle.std.specs.List.{insert}
use Rattle.std.proofs.lemmas.List.Elements.{All-append, All-cons, All-contains, All-drop, All-get_or, All-take, All-weaker}
use Rattle.om_machine.specs.State.{State}
use Rattle.om_timeline.specs.declared.deed.Deed.{Deed}
use Rattle.om_timeline.specs.declared.fault.PlayFault.{PlayFault}
use Rattle.om_timeline.specs.declared.stage.Stage.{Stage}
use Rattle.om_timeline.specs.declared.tape.Peek.{Peek}
use Rattle.om_timeline.specs.declared.tape.Peek.TheVariants as looks
use Rattle.om_timeline.specs.steps.Reels.{ReelState}
use Rattle.om_timeline.specs.steps.Kept.{IsKept, IsStage}
use Rattle.om_timeline.specs.steps.Placed.{IsPlaced}
use Rattle.om_timeline.proofs.Placing.{placed_longer}

-- at another position
pub kept_at : (t : ReelState) (m next : State) (own n event turns own2 n2 event2 turns2 : ℕ) (stages : List Stage) → IsKept t m own n event turns stages → IsPlaced t next own2 n2 event2 turns2
    → IsKept t next own2 n2 event2 turns2 stages
kept_at t m next own n event turns own2 n2 event2 turns2 stages kept placed = record { placed = placed; stages = kept.stages }

kept_longer : (t : ReelState) (more : List Deed) (m : State) (own n event turns : ℕ) (stages : List Stage) → IsKept t m own n event turns stages
    → IsKept (record t { deeds = t.deeds ++ more }) m own n event turns stages
kept_longer t more m own n event turns stages kept = record {
  placed = placed_longer t more m own n event turns kept.placed;
  stages = All-weaker (IsStage t) (IsStage (record t { deeds = t.deeds ++ more })) (λ s p. placed_longer t more s.machine t.own t.n s.at.event s.at.turns p) stages kept.stages;
}

-- with what came of one event more
pub kept_filmed : (result : Result Peek PlayFault) (old new : ReelState) (m : State) (own n event turns : ℕ) (stages : List Stage)
    → IfOk result (λ look. look ≡ looks.Next → (deed : Deed) × (new ≡ record old { deeds = old.deeds ++ deed ∷ [] }))
    → IfOk result (λ look. look ≡ looks.NotYet → new ≡ old) → IfOk result (λ look. look ≡ looks.End → new ≡ old) → OnErr result (new ≡ old)
    → IsKept old m own n event turns stages → IsKept new m own n event turns stages
kept_filmed (Ok looks.Next) old new m own n event turns stages more not_yet end refused kept =
    let longer = more refl in
    subst (λ t. IsKept t m own n event turns stages) (sym longer.1) (kept_longer old (longer.0 ∷ []) m own n event turns stages kept)
kept_filmed (Ok looks.NotYet) old new m own n event turns stages more not_yet end refused kept = subst (λ t. IsKept t m own n event turns stages) (sym (not_yet refl)) kept
kept_filmed (Ok looks.End) old new m own n event turns stages more not_yet end refused kept = subst (λ t. IsKept t m own n event turns stages) (sym (end refl)) kept
kept_filmed (Err fault) old new m own n event turns stages more not_yet end refused kept = subst (λ t. IsKept t m own n event turns stages) (sym refused) kept

-- fewer
pub kept_fewer : (t : ReelState) (m : State) (own n event turns : ℕ) (stages less : List Stage) → IsKept t m own n event turns stages → All (Contains stages) less → IsKept t m own n event turns less
kept_fewer t m own n event turns stages less kept fewer = record {
  placed = kept.placed;
  stages = All-weaker (Contains stages) (IsStage t) (λ s there. All-contains (IsStage t) stages s kept.stages there) less fewer;
}

-- the process goes to a position that is kept
pub kept_there : (t : ReelState) (m next : State) (own n event turns place : ℕ) (stages : List Stage) (stage : Stage) → IsKept t m own n event turns stages → place < length stages → stage ≡ get_or stages place stage
    → next ≡ stage.machine → IsKept t next own n stage.at.event stage.at.turns stages
kept_there t m next own n event turns place stages stage kept within read same =
    let there : IsStage t stage = subst (IsStage t) (sym read) (All-get_or (IsStage t) stages place stage within kept.stages) in
    record {
      placed = subst (λ x. IsPlaced t x own n stage.at.event stage.at.turns) (sym same)
          (record { is_own = kept.placed.is_own; is_n = kept.placed.is_n; within = there.within; few = there.few; here = there.here });
      stages = kept.stages;
    }

-- one more, of the position itself
kept_more : (t : ReelState) (m : State) (own n event turns place : ℕ) (stages : List Stage) (stage : Stage) → IsKept t m own n event turns stages → stage.machine ≡ m → stage.at.event ≡ event → stage.at.turns ≡ turns
    → IsKept t m own n event turns (insert stages place stage)
kept_more t m own n event turns place stages stage kept same at_event at_turns =
    let it = kept.placed in
    let here : IsPlaced t m t.own t.n event turns = record { is_own = refl; is_n = refl; within = it.within; few = it.few; here = it.here } in
    let moved : IsPlaced t stage.machine t.own t.n event turns = subst (λ x. IsPlaced t x t.own t.n event turns) (sym same) here in
    let before : IsPlaced t stage.machine t.own t.n stage.at.event turns = subst (λ x. IsPlaced t stage.machine t.own t.n x turns) (sym at_event) moved in
    let placed : IsStage t stage = subst (λ x. IsPlaced t stage.machine t.own t.n stage.at.event x) (sym at_turns) before in
    record {
      placed = it;
      stages = All-append (IsStage t) (take place stages) (stage ∷ drop place stages) (All-take (IsStage t) place stages kept.stages)
          (All-cons (IsStage t) stage (drop place stages) placed (All-drop (IsStage t) place stages kept.stages));
    }

-- the same, where there was room for one
pub kept_tried : {A E : Type 0} (result : Result A E) (t : ReelState) (m : State) (own n event turns place : ℕ) (stages after : List Stage) (stage : Stage)
    → after ≡ (if is_ok result then insert stages place stage else stages) → IsKept t m own n event turns stages → stage.machine ≡ m → stage.at.event ≡ event → stage.at.turns ≡ turns
    → IsKept t m own n event turns after
kept_tried (Ok _) t m own n event turns place stages after stage items kept same at_event at_turns =
    subst (IsKept t m own n event turns) (sym items) (kept_more t m own n event turns place stages stage kept same at_event at_turns)
kept_tried (Err _) t m own n event turns place stages after stage items kept same at_event at_turns = subst (IsKept t m own n event turns) (sym items) kept
