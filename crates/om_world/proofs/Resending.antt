-- Frames that are made of what processes keep.
use Rattle.std.proofs.Common.{◌≡◌, ◌⊎◌, inl, inr, ℕ, zero, suc, ◌+◌, ◌≤◌, ◌<◌, List, [], ◌∷◌, ◌++◌, length, drop, Option, Some, None, refl, sym, ◌∙◌, subst, arith, ap}
use Rattle.std.specs.Prelude.{slice_get}
use Rattle.om_interval.specs.Starts.{newest_of}
use Rattle.om_format.specs.declared.message.Message.{Message}
use Rattle.om_format.specs.declared.queue.QueueEntry.{QueueEntry}
use Rattle.om_process.specs.Claims.{AtInterval, Makes}
use Rattle.om_process.specs.Core.{CoreState}
use Rattle.om_process.specs.Frames.{IsFrameOf, frame_at, messages_to}
use Rattle.om_process.specs.steps.Pieces.{frame_of}
use Rattle.om_process.proofs.Making.{made_at, part_has}
use Rattle.om_process.proofs.Numbering.{has_entry_at}
use Rattle.om_world.specs.Changes.{IsUp, messages_behind}
use Rattle.om_world.specs.steps.Running.{messages_in}
use Rattle.om_world.specs.Live.{program_at}
use Rattle.om_world.specs.World.{WorldState}
use Rattle.om_world.specs.steps.Past.{past_of, history}
use Rattle.om_world.specs.steps.Sound.{HasShape, IsFrame, IsRunning, IsWorld, Sound}
use Rattle.om_world.proofs.Framing.{drop_get, message_at}
use Rattle.om_world.proofs.Kept.{remade, shape_same}
use Rattle.om_world.proofs.Lists.{inside, none_in, none_some, once, there}

either_part : (a b : List Message) (i : ℕ) (m : Message) → slice_get (a ++ b) i ≡ Some m → ((j : ℕ) × (slice_get a j ≡ Some m)) ⊎ ((j : ℕ) × (slice_get b j ≡ Some m))
either_part [] b i m at = inr (i, at)
either_part (x ∷ a) b zero m at = inl (zero, at)
either_part (x ∷ a) b (suc i) m at = elim (either_part a b i m at) [ inl f ↦ inl (suc f.0, f.1) | inr f ↦ inr f ]

-- an entry that is kept, as a message
frame_is : (c : CoreState) (to k : ℕ) (m : Message) (o : Option QueueEntry) → slice_get (messages_to c to).entries k ≡ o → frame_of c to ((messages_to c to).first + k) o ≡ Some m → IsFrameOf c m
frame_is c to k m None at e = absurd (none_some None m refl e)
frame_is c to k m (Some d) at e =
    let is = once _ m e in
    subst (IsFrameOf c) is (record { from = refl; inc = refl; sent = has_entry_at c.now.queues to k ((messages_to c to).first + k) d refl at })

message_is : (c : CoreState) (few : ℕ → ℕ) (n i : ℕ) (m : Message) → slice_get (messages_behind c few n) i ≡ Some m → IsFrameOf c m
message_is c few zero i m at = absurd (none_in i m at)
message_is c few (suc n) i m at = elim (either_part (messages_behind c few n) (drop (few n) (messages_in c n)) i m at) [
  | inl f ↦ message_is c few n f.0 m f.1
  | inr f ↦
      let k = few n + f.0 in
      let here : frame_at c n k ≡ Some m = sym (message_at c n k) ∙ sym (drop_get (messages_in c n) (few n) f.0) ∙ f.1 in
      frame_is c n k m (slice_get (messages_to c n).entries k) refl here
]

is_frame : (w : WorldState) (p : ℕ) (c : CoreState) (m : Message) → HasShape w → Sound w → slice_get w.cores p ≡ Some (Some c) → IsUp w p → IsFrameOf c m → IsFrame (past_of w) m
is_frame w p c m h s at up f =
    let n = length w.programs in
    let u = s.up p c at up in
    let own = h.own p c at in
    let short = inside w.cores p (Some c) at in let long = h.cores in let stores = h.stores in
    let store = there w.contents p (omega arith) in
    let r : IsRunning (past_of w) p store.0 c = s.running p c store.0 at store.1 (inl up) in
    let mine : p ≡ m.from = sym (f.from ∙ own.own) in
    let e : QueueEntry = record { interval = m.tag.interval; body = m.body } in
    let made : AtInterval (history (past_of w) p) m.tag.interval (Makes (program_at w.programs p) p n m.to m.ssn e) = made_at (program_at w.programs p) p n m.to m.ssn (history (past_of w) p) e (r.state.0, r.state.1, part_has r.state.0.queues c.now.queues m.to m.ssn e r.state.2.queues f.sent) in
    record {
      from = subst (λ o. o < n) mine (omega arith);
      known = subst (λ o. m.tag.inc ≤ newest_of w.manager.starts o) mine (known m.tag.inc (newest_of w.manager.starts p) (f.inc ∙ u.inc));
      said = inr (subst (λ o. AtInterval (history (past_of w) o) m.tag.interval (Makes (program_at w.programs o) o n m.to m.ssn e)) mine made);
    }
  where
    known : (a b : ℕ) → a ≡ b → a ≤ b
    known a b e = omega arith

-- messages that a process keeps are frames
pub after_frames : {S : Type 0} (IsSound : S → Type 0) (xs : List S) (w : WorldState) (p : ℕ) (c : CoreState) (few : ℕ → ℕ) (n : ℕ) (fs : List Message) → IsWorld IsSound xs w → IsUp w p → slice_get w.cores p ≡ Some (Some c) → fs ≡ w.frames ++ messages_behind c few n
    → IsWorld IsSound xs (remade w w.live fs w.cores w.manager w.contents w.health)
after_frames IsSound xs w p c few n fs i up at is = subst (λ l. IsWorld IsSound xs (remade w w.live l w.cores w.manager w.contents w.health)) (sym is) (record {
  shape = shape_same w w.live (w.frames ++ messages_behind c few n) w.manager w.contents w.health i.shape refl i.shape.manager refl;
  clean = λ all. let s = i.clean all in (
    s.0,
    record {
      legal = s.1.legal;
      frames = λ j m f. elim (either_part w.frames (messages_behind c few n) j m f) [ inl old ↦ s.1.frames old.0 m old.1 | inr new ↦ is_frame w p c m i.shape s.1 at up (message_is c few n new.0 m new.1) ];
      outputs = s.1.outputs;
      rows = s.1.rows;
      stored = s.1.stored;
      backed = s.1.backed;
      running = s.1.running;
      up = s.1.up;
      joined = s.1.joined;
      failed = s.1.failed;
      gathered = s.1.gathered;
      current = s.1.current;
      known = s.1.known;
      ends = s.1.ends;
      behind = s.1.behind;
      inside = s.1.inside;
      beyond = s.1.beyond;
    },
  );
  between = i.between;
})

-- no message became a frame
pub frames_stay : {S : Type 0} (IsSound : S → Type 0) (xs : List S) (w : WorldState) (frames : List Message) → IsWorld IsSound xs w → frames ≡ w.frames → IsWorld IsSound xs (remade w w.live frames w.cores w.manager w.contents w.health)
frames_stay IsSound xs w frames i same = subst (λ l. IsWorld IsSound xs (remade w w.live l w.cores w.manager w.contents w.health)) (sym same) i

pub resent : (w v : WorldState) (frames more all : List Message) → w ≡ v → frames ≡ w.frames ++ more → more ≡ all → record w { frames = frames } ≡ record v { frames = v.frames ++ all }
resent w v frames more all e is same = ap (λ l. record w { frames = l }) (is ∙ ap (λ l. w.frames ++ l) same) ∙ ap (λ (x : WorldState). record x { frames = x.frames ++ all }) e
