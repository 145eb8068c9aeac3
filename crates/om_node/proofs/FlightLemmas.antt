-- What a process hands over has intervals.
use Rattle.std.proofs.Common.{◌≡◌, ℕ, ◌+◌, ◌-◌, ◌<◌, ◌≤◌, List, [], ◌∷◌, Vec, Bool, length, min, take, refl, sym, ap, ◌∙◌, arith}
use Rattle.std.specs.declared.alloc.Global.{Global}
use Rattle.std.proofs.lemmas.List.{length-map, length-take}
use Rattle.om_stable.specs.Content.{bytes_of}
use Rattle.om_process.specs.Core.{AreLast, CoreState}
use Rattle.om_process.specs.Flights.{Carries}
use Rattle.om_process.specs.declared.flight.Flight.{Flight}
use Rattle.om_process.proofs.Logging.{spell_long}

-- the receipts of a flight end with the present interval, which is the last of its log
pub flight_fits : (k : ℕ) (due : Bool) (c : CoreState) (f : Flight) → Carries k due c f → AreLast c.now.interval c.log
    → c.now.interval < 4294967296 → f.first < 4294967296 → f.first + length f.receipts.items ≤ 4294967296
flight_fits k due c f carries last within first = by_bytes (bytes_of f.receipts.items) refl
  where
    long : length (bytes_of f.receipts.items) ≡ length f.receipts.items
    long = length-map f.receipts.items (λ (r : Vec ℕ Global). r.items)

    fewer : length (bytes_of f.receipts.items) ≡ min k (length c.log)
    fewer = spell_long (take k c.log) (bytes_of f.receipts.items) carries.spelled ∙ length-take k c.log

    by_bytes : (bytes : List (List ℕ)) → bytes ≡ bytes_of f.receipts.items → f.first + length f.receipts.items ≤ 4294967296
    by_bytes [] is =
        let none : length f.receipts.items ≡ 0 = sym long ∙ ap length (sym is) in
        omega arith
    by_bytes (b ∷ more) is =
        let at : f.first ≡ c.now.interval + 1 - length c.log = carries.first (λ none. no (sym none ∙ sym is)) in
        let have : length c.log ≤ c.now.interval = last.within in
        let long_ = long in
        let fewer_ = fewer in
        omega arith
      where
        no : {b : List ℕ} {more : List (List ℕ)} → [] ≡ b ∷ more → ⊥
        no e = cc
