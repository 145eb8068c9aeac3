-- Bytes that are taken one after another.
use Rattle.std.proofs.Common.{◌≡◌, ◌≢◌, ℕ, ◌+◌, ◌<◌, List, [], ◌∷◌, ◌++◌, length, get_or, take, drop, take-append-drop, Option, Bool, true, false, Result, Ok, Err, OnOk, refl, sym, ap, subst, ◌∙◌, append_assoc, append-nil}
use Rattle.std.specs.Prelude.{MatchBool}
use Rattle.std.specs.Io.KnownBytes.{Appends, Consumes, IsAtEnd, Keeps}
use Rattle.std.proofs.lemmas.List.{take_more}
use Rattle.std.proofs.KnownBytes.{Appends-nil, Appends-trans, Consumes-kept, Consumes-nil, Consumes-trans}
use Rattle.om_inferiors.specs.declared.serving.ServeError.{ServeError}
use Rattle.om_inferiors.specs.Serving.{SessionState, Takes, TakesByte}
use Rattle.om_inferiors.specs.steps.Serving.{AreRead, AreTaken}

true_not : false ≢ true
true_not e = cc

-- ---- more bytes
pub takes_none : (s : SessionState) → Takes s [] [] false s
takes_none s = (refl, refl, refl)

more_by : (s m mid new : SessionState) (byte : ℕ) (bytes more written rest first : List ℕ) (last over : Bool) → TakesByte s byte first last m
    → MatchBool last ((written ≡ first) × (false ≡ true) × (mid ≡ m)) ((r : List ℕ) × (written ≡ first ++ r) × Takes m bytes r false mid)
    → ((r : List ℕ) → Takes m bytes r false mid → Takes m (bytes ++ more) (r ++ rest) over new)
    → Takes s (byte ∷ (bytes ++ more)) (written ++ rest) over new
more_by s m mid new byte bytes more written rest first true over taken h then = absurd (true_not h.1)
more_by s m mid new byte bytes more written rest first false over taken h then =
    (first, false, m, taken, (h.0 ++ rest, ap (λ w. w ++ rest) h.1 ∙ append_assoc first h.0 rest, then h.0 h.2))

-- some bytes, and then others
pub takes_more : (s mid new : SessionState) (bytes more written rest : List ℕ) (over : Bool) → Takes s bytes written false mid → Takes mid more rest over new
    → Takes s (bytes ++ more) (written ++ rest) over new
takes_more s mid new [] more written rest over first then =
    subst (λ w. Takes s more (w ++ rest) over new) (sym first.0) (subst (λ m. Takes m more rest over new) first.2 then)
takes_more s mid new (byte ∷ bytes) more written rest over first then =
    more_by s first.2 mid new byte bytes more written rest first.0 first.1 over first.3
    first.4
    (λ r taken. takes_more first.2 mid new bytes more r rest over taken then)

last_by : (s m new : SessionState) (byte : ℕ) (bytes more written first : List ℕ) (last : Bool) → TakesByte s byte first last m
    → MatchBool last ((written ≡ first) × (true ≡ true) × (new ≡ m)) ((r : List ℕ) × (written ≡ first ++ r) × Takes m bytes r true new)
    → ((r : List ℕ) → Takes m bytes r true new → Takes m (bytes ++ more) r true new)
    → Takes s (byte ∷ (bytes ++ more)) written true new
last_by s m new byte bytes more written first true taken h then = (first, true, m, taken, h)
last_by s m new byte bytes more written first false taken h then = (first, false, m, taken, (h.0, h.1, then h.0 h.2))

-- what stands behind the last packet is of no matter
pub takes_last : (s new : SessionState) (bytes more written : List ℕ) → Takes s bytes written true new → Takes s (bytes ++ more) written true new
takes_last s new [] more written h = absurd (true_not (sym h.1))
takes_last s new (byte ∷ bytes) more written h =
    last_by s h.2 new byte bytes more written h.0 h.1 h.3 h.4 (λ r taken. takes_last h.2 new bytes more r taken)

one_by : (s new : SessionState) (byte : ℕ) (written : List ℕ) (over : Bool) → TakesByte s byte written over new
    → MatchBool over ((written ≡ written) × (over ≡ true) × (new ≡ new)) ((r : List ℕ) × (written ≡ written ++ r) × Takes new [] r over new)
    → Takes s (byte ∷ []) written over new
one_by s new byte written over taken h = (written, over, new, taken, h)

-- one byte
pub takes_one : (s new : SessionState) (byte : ℕ) (written : List ℕ) (over : Bool) → TakesByte s byte written over new → Takes s (byte ∷ []) written over new
takes_one s new byte written true taken = one_by s new byte written true taken (refl, refl, refl)
takes_one s new byte written false taken = one_by s new byte written false taken ([], sym (append-nil written), takes_none new)

-- ---- and what is written
pub taken_none : (s : SessionState) (a : Option (List ℕ)) → AreTaken s [] a a false s
taken_none s a = record { written = []; takes = takes_none s; appends = Appends-nil a }

pub taken_more : (s mid new : SessionState) (bytes more : List ℕ) (a b c : Option (List ℕ)) (over : Bool) → AreTaken s bytes a b false mid → AreTaken mid more b c over new
    → AreTaken s (bytes ++ more) a c over new
taken_more s mid new bytes more a b c over first then = record {
  written = first.written ++ then.written;
  takes = takes_more s mid new bytes more first.written then.written over first.takes then.takes;
  appends = Appends-trans a b c first.written then.written first.appends then.appends;
}

pub taken_last : (s new : SessionState) (bytes more : List ℕ) (a b : Option (List ℕ)) → AreTaken s bytes a b true new → AreTaken s (bytes ++ more) a b true new
taken_last s new bytes more a b first = record {
  written = first.written;
  takes = takes_last s new bytes more first.written first.takes;
  appends = first.appends;
}

pub taken_one : (s new : SessionState) (byte : ℕ) (a b : Option (List ℕ)) (over : Bool) → ((written : List ℕ) × TakesByte s byte written over new × Appends a b written)
    → AreTaken s (byte ∷ []) a b over new
taken_one s new byte a b over one = record { written = one.0; takes = takes_one s new byte one.0 over one.1; appends = one.2 }

-- the next of many bytes
pub taken_next : (s mid new : SessionState) (bytes : List ℕ) (i : ℕ) (a b c : Option (List ℕ)) (over flag : Bool) → i < length bytes → AreTaken s (take i bytes) a b false mid
    → ((written : List ℕ) × TakesByte mid (get_or bytes i 0) written flag new × Appends b c written) → flag ≡ over → AreTaken s (take (i + 1) bytes) a c over new
taken_next s mid new bytes i a b c over flag less first one same =
    subst (λ xs. AreTaken s xs a c over new) (sym (take_more bytes i 0 less))
    (taken_more s mid new (take i bytes) (get_or bytes i 0 ∷ []) a b c over first
    (taken_one mid new (get_or bytes i 0) b c over (subst (λ f. (written : List ℕ) × TakesByte mid (get_or bytes i 0) written f new × Appends b c written) same one)))

-- the last of them
pub taken_all : (s new : SessionState) (bytes : List ℕ) (k : ℕ) (a b : Option (List ℕ)) → AreTaken s (take k bytes) a b true new → AreTaken s bytes a b true new
taken_all s new bytes k a b h =
    subst (λ xs. AreTaken s xs a b true new) (take-append-drop k bytes) (taken_last s new (take k bytes) (drop k bytes) a b h)

-- ---- and what is read
pub read_none : (s : SessionState) (left rest a : Option (List ℕ)) → Keeps left rest → AreRead s left rest a a false s
read_none s left rest a kept = record { bytes = []; consumes = Consumes-kept left left rest [] (Consumes-nil left) kept; taken = taken_none s a }

pub read_more : (s mid new : SessionState) (r0 r1 r2 a b c : Option (List ℕ)) (over : Bool) → AreRead s r0 r1 a b false mid → AreRead mid r1 r2 b c over new
    → AreRead s r0 r2 a c over new
read_more s mid new r0 r1 r2 a b c over first then = record {
  bytes = first.bytes ++ then.bytes;
  consumes = Consumes-trans r0 r1 r2 first.bytes then.bytes first.consumes then.consumes;
  taken = taken_more s mid new first.bytes then.bytes a b c over first.taken then.taken;
}

-- a text is written, and then flushed
pub sent : (r : Result (Unit {0}) ServeError) (a b c : Option (List ℕ)) (text packet : List ℕ) → OnOk r (Appends b c []) → Appends a b text → text ≡ packet → OnOk r (Appends a c packet)
sent (Ok done) a b c text packet flushed written same =
    subst (Appends a c) (append-nil text ∙ same) (Appends-trans a b c text [] written flushed)
sent (Err error) a b c text packet flushed written same = flushed

-- what is served where the reader has no more
pub served_end : (s mid new : SessionState) (r0 r1 r2 a b c : Option (List ℕ)) → AreRead s r0 r1 a b false mid → AreRead mid r1 r2 b c false new → IsAtEnd r2
    → (bytes : List ℕ) × (written : List ℕ) × (over : Bool) × (last : SessionState) × Takes s bytes written over last × Appends a c written × Consumes r0 r2 bytes × (over ≡ false → IsAtEnd r2)
served_end s mid new r0 r1 r2 a b c first then end =
    let all : AreRead s r0 r2 a c false new = read_more s mid new r0 r1 r2 a b c false first then in
    (all.bytes, all.taken.written, false, new, all.taken.takes, all.taken.appends, all.consumes, λ e. end)

-- and behind the last answer
pub served_last : (s mid new : SessionState) (r0 r1 r2 a b c : Option (List ℕ)) → AreRead s r0 r1 a b false mid → AreRead mid r1 r2 b c true new
    → (bytes : List ℕ) × (written : List ℕ) × (over : Bool) × (last : SessionState) × Takes s bytes written over last × Appends a c written × Consumes r0 r2 bytes × (over ≡ false → IsAtEnd r2)
served_last s mid new r0 r1 r2 a b c first then =
    let all : AreRead s r0 r2 a c true new = read_more s mid new r0 r1 r2 a b c true first then in
    (all.bytes, all.taken.written, true, new, all.taken.takes, all.taken.appends, all.consumes, λ e. absurd (true_not (sym e)))
