-- Flights: what stands first in a log still does while the process goes on, and what was gained of it.
use Rattle.std.proofs.Common.{◌≡◌, ℕ, zero, suc, ◌+◌, ◌-◌, ◌≤◌, List, [], ◌∷◌, ◌++◌, Vec, length, map, take, refl, sym, ap, ◌∙◌, subst, arith, length-append}
use Rattle.std.specs.Prelude.{Bool}
use Rattle.std.specs.declared.alloc.Global.{Global}
use Rattle.std.proofs.lemmas.List.{length-map, take-append-le, take_all}
use Rattle.om_format.specs.declared.message.Message.{Message}
use Rattle.om_stable.specs.Content.{Content, bytes_of, with_receipts}
use Rattle.om_process.specs.declared.flight.Flight.{Flight}
use Rattle.om_process.specs.Accepts.{receipt_for, taken}
use Rattle.om_process.specs.Core.{CoreState, LoggedRecord}
use Rattle.om_process.specs.Flights.{Carries, StillFirst}
use Rattle.om_process.specs.Process.{Process}
use Rattle.om_process.specs.Stores.{HasGainedFirst, HasGainedLog, first_logged}
use Rattle.om_process.specs.steps.Pieces.{SpellLog}
use Rattle.om_process.proofs.Logging.{spell_long, take_counted}

-- a receipt more comes behind the others, and begins an interval
pub first_when_taken : (k : ℕ) (c : CoreState) (m : Message) → k ≤ length c.log → StillFirst k c (taken c m)
first_when_taken k c m within =
    let new : List LoggedRecord = record { receipt = receipt_for c m; vec = (taken c m).now.vec; got = (taken c m).now.got } ∷ [] in
    let long : length (c.log ++ new) ≡ length c.log + 1 = length-append c.log new in
    record { log = take-append-le k c.log new within; first = omega arith }

pub first_when_going : (k : ℕ) (c : CoreState) (p : Process) → p.interval ≡ c.now.interval → StillFirst k c (record c { now = p })
first_when_going k c p same = record { log = refl; first = ap (λ x. x + 1 - length c.log) same }

pub first_along : (k : ℕ) (c d e : CoreState) → StillFirst k c d → StillFirst k d e → StillFirst k c e
first_along k c d e a b = record { log = b.log ∙ a.log; first = b.first ∙ a.first }

-- a flight carries as many receipts as there are among the first k
carries_long : (k : ℕ) (due : Bool) (c : CoreState) (f : Flight) → Carries k due c f → length f.receipts.items ≡ length (take k c.log)
carries_long k due c f carries = sym (length-map f.receipts.items (λ (r : Vec ℕ Global). r.items)) ∙ spell_long (take k c.log) (bytes_of f.receipts.items) carries.spelled

pub flight_carried : (k : ℕ) (due : Bool) (c : CoreState) (f : Flight) → Carries k due c f → take (length f.receipts.items) c.log ≡ take k c.log
flight_carried k due c f carries = ap (λ j. take j c.log) (carries_long k due c f carries) ∙ take_counted k c.log

-- bytes that are put at an interval, which is of no matter where there are none
put_at : (held : Content) (x y : ℕ) (bytes : List (List ℕ)) → ((bytes ≡ [] → ⊥) → x ≡ y) → with_receipts held x bytes ≡ with_receipts held y bytes
put_at held x y [] same = refl
put_at held x y (b ∷ bytes) same = ap (λ z. with_receipts held z (b ∷ bytes)) (same (λ none. cc))

pub flight_gained : (k : ℕ) (due : Bool) (c d : CoreState) (f : Flight) (held : Content) → Carries k due c f → StillFirst (length f.receipts.items) c d
    → HasGainedFirst (length f.receipts.items) d held (with_receipts held f.first (bytes_of f.receipts.items))
flight_gained k due c d f held carries still = (
  bytes_of f.receipts.items,
  subst (λ ls. SpellLog ls (bytes_of f.receipts.items)) (sym (still.log ∙ flight_carried k due c f carries)) carries.spelled,
  put_at held f.first (first_logged d) (bytes_of f.receipts.items) (λ some. carries.first some ∙ sym still.first),
)

pub whole_first : (c : CoreState) (old new : Content) → HasGainedLog c old new → HasGainedFirst (length c.log) c old new
whole_first c old new gained = (gained.0, subst (λ ls. SpellLog ls gained.0) (sym (take_all (length c.log) c.log (omega arith))) gained.1, gained.2)
