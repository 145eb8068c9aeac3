-- The ends of inboxes that a process has.
use Rattle.std.proofs.Common.{◌≡◌, ◌⊎◌, inl, inr, ℕ, zero, suc, ◌<◌, List, [], ◌∷◌, Option, Some, None, refl, sym, ap, ◌∙◌, subst, get_or, length, set, length-set}
use Rattle.std.specs.Prelude.{Vec, slice_get}
use Rattle.std.specs.declared.alloc.Global.{Global}
use Rattle.std.proofs.lemmas.Option.{none-some, same_Some, slice_get-get_or, slice_get_read}
use Rattle.om_format.specs.declared.message.Message.{Message}
use Rattle.om_format.specs.declared.queue.QueueEntry.{QueueEntry}
use Rattle.om_process.specs.Core.{CoreState}
use Rattle.om_process.specs.steps.Pieces.{frame_of}
use Rattle.om_board.specs.Inboxes.{Line, Traffic, Takings, MatchPut, MatchTake}
use Rattle.om_board.specs.declared.inbox.PutAnswer.{PutAnswer}
use Rattle.om_board.specs.declared.inbox.PutAnswer.TheVariants.{Put, Full, Gone}
use Rattle.om_board.proofs.ListLemmas.{none_in}
use Rattle.om_links.specs.Links.{AreLinks, EndsState}
use Rattle.om_links.specs.Network.{IsAt, Lines}

-- ---- lists
-- an element of a list of which one is set is that one or was there
pub set_at : {A : Type 0} (xs : List A) (i j : ℕ) (y x : A) → slice_get (set xs i y) j ≡ Some x → ((j ≡ i) × (x ≡ y)) ⊎ (slice_get xs j ≡ Some x)
set_at [] i j y x e = absurd (none_in j x e)
set_at (z ∷ xs) zero zero y x e = inl (refl, sym (same_Some y x e))
set_at (z ∷ xs) zero (suc j) y x e = inr e
set_at (z ∷ xs) (suc i) zero y x e = inr e
set_at (z ∷ xs) (suc i) (suc j) y x e = elim (set_at xs i j y x e) [ inl p ↦ inl (ap suc p.0, p.1) | inr p ↦ inr p ]

-- ---- inboxes
pub put_line : (answer : PutAnswer) (message : Message) (old new : Traffic) → MatchPut answer message old new → new.line ≡ old.line
put_line Put message old new h = ap (λ (t : Traffic). t.line) h
put_line (Full back) message old new h = ap (λ (t : Traffic). t.line) h.1
put_line (Gone back) message old new h = ap (λ (t : Traffic). t.line) h.1

pub take_line : (answer : Option Message) (old new : Takings) → MatchTake answer old new → new.line ≡ old.line
take_line None old new h = ap (λ (t : Takings). t.line) h.0
take_line (Some message) old new h = ap (λ (t : Takings). t.line) h.0

-- ---- the ends
-- each row is as long as there are processes
pub row_long : (l : EndsState) (puts : List Traffic) (takes : List Takings) (turn i : ℕ) (d : Vec Line Global) → AreLinks l puts takes turn → i ≡ l.own → length (get_or l.lines i d).items ≡ l.n
row_long l puts takes turn i d a at =
    a.network.receivers i (get_or l.lines i d) (slice_get-get_or l.lines i d (subst (λ j. j < length l.lines) (sym at) (subst (λ n. l.own < n) (sym a.network.senders) a.own)))

-- the inbox of which a process has an end to put
pub line_to : (l : EndsState) (puts : List Traffic) (takes : List Takings) (turn i to : ℕ) (d : Vec Line Global) (line : Line) → AreLinks l puts takes turn → i ≡ l.own → to < l.n
    → line ≡ get_or (get_or l.lines i d).items to line → IsAt l.lines l.own to line
line_to l puts takes turn i to d line a at lt is =
    let row = get_or l.lines i d in
    subst (λ j. IsAt l.lines j to line) at (
      row,
      slice_get-get_or l.lines i d (subst (λ j. j < length l.lines) (sym at) (subst (λ n. l.own < n) (sym a.network.senders) a.own)),
      slice_get_read row.items l.n to line (sym (row_long l puts takes turn i d a at)) lt is,
    )

pub put_at : (l : EndsState) (puts : List Traffic) (takes : List Takings) (turn to : ℕ) (t : Traffic) → AreLinks l puts takes turn → to < l.n → t ≡ get_or puts to t → IsAt l.lines l.own to t.line
put_at l puts takes turn to t a lt is = a.putting to t (slice_get_read puts l.n to t (sym a.receivers) lt is)

pub put_links : (l : EndsState) (puts : List Traffic) (takes : List Takings) (turn to : ℕ) (old new : Traffic) → AreLinks l puts takes turn → to < l.n → old ≡ get_or puts to old → new.line ≡ old.line
    → AreLinks l (set puts to new) takes turn
put_links l puts takes turn to old new a lt is same = record {
  own = a.own;
  few = a.few;
  network = a.network;
  receivers = length-set puts to new ∙ a.receivers;
  senders = a.senders;
  putting = λ j t at. elim (set_at puts to j new t at) [
    | inl here ↦ subst (λ k. IsAt l.lines l.own k t.line) (sym here.0) (subst (IsAt l.lines l.own to) (sym (ap (λ (u : Traffic). u.line) here.1 ∙ same)) (put_at l puts takes turn to old a lt is))
    | inr there ↦ a.putting j t there
  ];
  taking = a.taking;
  in_turn = a.in_turn;
}

pub take_links : (l : EndsState) (puts : List Traffic) (takes : List Takings) (turn from next : ℕ) (old new : Takings) → AreLinks l puts takes turn → from < l.n → old ≡ get_or takes from old → new.line ≡ old.line → next < l.n
    → AreLinks l puts (set takes from new) next
take_links l puts takes turn from next old new a lt is same within = record {
  own = a.own;
  few = a.few;
  network = a.network;
  receivers = a.receivers;
  senders = length-set takes from new ∙ a.senders;
  putting = a.putting;
  taking = λ j t at. elim (set_at takes from j new t at) [
    | inl here ↦ subst (λ k. IsAt l.lines k l.own t.line) (sym here.0) (subst (IsAt l.lines from l.own) (sym (ap (λ (u : Takings). u.line) here.1 ∙ same)) (a.taking from old (slice_get_read takes l.n from old (sym a.senders) lt is)))
    | inr there ↦ a.taking j t there
  ];
  in_turn = within;
}

-- ---- messages
-- a frame goes from the process to the one that it is for
pub frame_goes : (c : CoreState) (to ssn : ℕ) (o : Option QueueEntry) (m : Message) → frame_of c to ssn o ≡ Some m → (m.from ≡ c.own) × (m.to ≡ to)
frame_goes c to ssn None m e = absurd (none-some m e)
frame_goes c to ssn (Some x) m e = let same = same_Some _ m e in (sym (ap (λ (n : Message). n.from) same), sym (ap (λ (n : Message). n.to) same))
