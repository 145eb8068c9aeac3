-- What is read of a world behind an event.
use Rattle.std.proofs.Common.{◌≡◌, ℕ, List, Some, refl, subst}
use Rattle.std.specs.Prelude.{slice_get}
use Rattle.om_format.specs.declared.message.Message.{Message}
use Rattle.om_machine.specs.State.{State}
use Rattle.om_process.specs.Core.{CoreState}
use Rattle.om_world.specs.declared.event.Answer.{Answer}
use Rattle.om_world.specs.declared.event.Event.{Event}
use Rattle.om_world.specs.World.{WorldState}
use Rattle.om_timeline.specs.declared.deed.Deed.{Deed}
use Rattle.om_timeline.specs.declared.deed.Deed.TheVariants.{Took, Back}
use Rattle.om_timeline.specs.declared.kind.Kind.{Kind}
use Rattle.om_timeline.specs.declared.kind.Kind.TheVariants as kinds
use Rattle.om_timeline.specs.steps.Filmed.{HasSeat, IsDeed, IsPlayedDeed, IsRead}
use Rattle.om_timeline.specs.steps.Parts.{IsPlayed, PlayerState}
use Rattle.om_timeline.specs.steps.Kinds.{IsKind}

pub is_received : (p : ℕ) (w : WorldState) (frame from : ℕ) (body : List ℕ) (m : Message) → slice_get w.frames frame ≡ Some m → from ≡ m.from → body ≡ m.body → IsDeed (Took from body) p w (kinds.Took frame)
is_received p w frame from body m there is_from is_body = (frame, refl, record { message = m; there = there; is_from = is_from; is_body = is_body })

pub is_machine : (p : ℕ) (w : WorldState) (m : State) (c : CoreState) → slice_get w.cores p ≡ Some (Some c) → m ≡ c.now.machine → IsDeed (Back m) p w kinds.Back
is_machine p w m c at same = (c, at, same)

pub is_read : (p n place : ℕ) (w : WorldState) (e : Event) (a : Answer) (kind : Kind) (deed : Deed) → HasSeat p n w → place ≡ p → IsKind place a e kind → IsDeed deed p w kind → IsRead p n e a deed w
is_read p n place w e a kind deed seat same is_kind is_deed = record {
  kind = kind;
  seat = seat;
  is_kind = subst (λ q. IsKind q a e kind) same is_kind;
  is_deed = is_deed;
}

-- a world that was played, and what was read of it
pub is_played : (p n : ℕ) (old w : WorldState) (new : PlayerState) (e : Event) (a : Answer) (deed : Deed) → IsPlayed old e a new → w ≡ new.before → IsRead p n e a deed w → IsPlayedDeed p n old e deed new
is_played p n old w new e a deed played same read =
    let r : IsRead p n e a deed new.before = subst (IsRead p n e a deed) same read in
    record {
      over = played.over;
      next = record { answer = a; kind = r.kind; step = played.step; known = played.known; seat = r.seat; is_kind = r.is_kind; is_deed = r.is_deed };
    }
