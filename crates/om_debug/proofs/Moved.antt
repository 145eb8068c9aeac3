-- A timeline stays one of its record, wherever it goes.
use Rattle.std.proofs.Common.{◌≡◌, ℕ, ◌++◌, List, [], refl, sym, ap, ◌∙◌, subst}
use Rattle.std.proofs.lemmas.List.{append-nil, append_assoc}
use Rattle.om_timeline.specs.declared.deed.Deed.{Deed}
use Rattle.om_timeline.specs.Timeline.{TimelineState, at, with_deeds}
use Rattle.om_debug.specs.Stops.{DebugState, IsMoved, with_timeline}

pub moved_not : (t : TimelineState) → IsMoved t t
moved_not t = record { more = []; is = ap (λ ds. record t { deeds = ds }) (sym (append-nil t.deeds)) }

pub moved_same : (old new : TimelineState) → new ≡ old → IsMoved old new
moved_same old new same = subst (IsMoved old) (sym same) (moved_not old)

pub moved_at : (old new : TimelineState) (event turns : ℕ) → new ≡ at old event turns → IsMoved old new
moved_at old new event turns same =
    subst (IsMoved old) (sym same) (record { more = []; is = ap (λ ds. record old { deeds = ds; event = event; turns = turns }) (sym (append-nil old.deeds)) })

-- to some position
pub moved_to : (old new : TimelineState) → ((event : ℕ) × (turns : ℕ) × (new ≡ at old event turns)) → IsMoved old new
moved_to old new there = moved_at old new there.0 there.1 there.2

pub moved_with : (old new : TimelineState) → ((deeds : List Deed) × (new ≡ with_deeds old (old.deeds ++ deeds))) → IsMoved old new
moved_with old new more = subst (IsMoved old) (sym more.1) (record { more = more.0; is = refl })

pub moved_then : (old mid new : TimelineState) → IsMoved old mid → IsMoved mid new → IsMoved old new
moved_then old mid new first second =
    record {
      more = first.more ++ second.more;
      is = second.is
          ∙ ap (λ (t : TimelineState). record t { deeds = t.deeds ++ second.more; event = new.event; turns = new.turns }) first.is
          ∙ ap (λ ds. record old { deeds = ds; event = new.event; turns = new.turns }) (append_assoc old.deeds first.more second.more);
    }

-- only the timeline is another, again
pub same_then : (a b c : DebugState) → b ≡ with_timeline a b.timeline → c ≡ with_timeline b c.timeline → c ≡ with_timeline a c.timeline
same_then a b c first second = second ∙ ap (λ (d : DebugState). with_timeline d c.timeline) first
