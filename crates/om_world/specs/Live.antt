-- Lists of receipts that a cluster without failures could have, and what a cut leaves of one.
use Rattle.std.specs.Prelude.{◌≡◌, ◌-◌, ◌≤◌, ◌<◌, List, [], ◌∷◌, ◌++◌, ℕ, Some, length, nat_lt, nat_eq, if◌then◌else◌, slice_get, slice_index, slice_index_or, slice_set}
use Rattle.om_isa.specs.declared.ext.Ext.TheVariants.{I}
use Rattle.om_process.specs.Process.{Program, Received}
use Rattle.om_process.specs.Dependencies.{count_from}
use Rattle.om_process.specs.Claims.{AtInterval, Makes, LeadsToWait}
use Rattle.om_world.specs.declared.entry.Entry.{Entry}

-- the program of a process; none runs where there is no process
abbrev pub program_at : List Program → ℕ → Program
program_at programs p = slice_index_or programs p (record { image = []; size = 0; ext = I })

-- what is received with an entry
abbrev pub receipt_of : Entry → Received
receipt_of e = record { from = e.from; interval = e.interval; body = e.body }

-- what a process received, in order
abbrev pub received : ℕ → List Entry → List Received
received p [] = []
received p (e ∷ es) = if nat_eq e.to p then receipt_of e ∷ received p es else received p es

-- an entry may come after these: its sender had made this very message in this interval, along what it had then received;
-- its number is how many came before it from there; and its receiver waits
pub record MayFollow (programs : List Program) (before : List Entry) (e : Entry) : Type 0 where
  pub to : e.to < length programs
  pub from : e.from < length programs
  pub number : e.ssn ≡ count_from e.from (received e.to before)
  pub said : AtInterval (received e.from before) e.interval
      (Makes (program_at programs e.from) e.from (length programs) e.to e.ssn (record { interval = e.interval; body = e.body }))
  pub waits : LeadsToWait (program_at programs e.to) e.to (length programs) (received e.to before)

-- the entries are a run without failures: each may come after those before it
abbrev pub Legal : List Program → List Entry → Type 0
Legal programs es = (before after : List Entry) (e : Entry) → es ≡ before ++ e ∷ after → MayFollow programs before e

-- of each process its first entries, as many as the list says, in order
abbrev pub cut_list : List ℕ → List Entry → List Entry
cut_list left [] = []
cut_list left (e ∷ es) =
    if nat_lt 0 (slice_index left e.to) then e ∷ cut_list (slice_set left e.to (slice_index left e.to - 1)) es
    else cut_list left es

-- no receipt of an interval within the state is from an interval outside it
abbrev pub Closed : List ℕ → List Entry → Type 0
Closed state es =
    (p x : ℕ) (r : Received) → x < slice_index state p → slice_get (received p es) x ≡ Some r → r.interval ≤ slice_index state r.from
