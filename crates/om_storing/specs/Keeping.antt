-- What is put into a store beside its records.
use Rattle.std.specs.Prelude.{ℕ, ◌-◌, nat_lt, if◌then◌else◌, List, [], ◌∷◌, drop, filter, map, max, slice_range}
use Rattle.om_process.specs.Core.{CoreState}
use Rattle.om_process.specs.Frames.{outputs_of}
use Rattle.om_process.specs.Kept.{made_as, numbered}
use Rattle.om_process.specs.declared.queues.Made.{Made}
use Rattle.om_restart.specs.Outputs.{output_bytes}

-- the outputs that a process keeps, from a number on
abbrev pub kept_from : CoreState → ℕ → List Made
kept_from core seq =
    let kept = outputs_of core in
    numbered made_as (max kept.first seq) (drop (seq - kept.first) kept.entries)

-- the number of the first of some outputs; 0 of none
abbrev pub first_number : List Made → ℕ
first_number [] = 0
first_number (output ∷ more) = output.seq

-- the records of those whose numbers are below
abbrev pub released_recs : List Made → ℕ → List (List ℕ)
released_recs outputs released = map output_bytes (filter (λ output. nat_lt output.seq released) outputs)

-- the record of the senders from a number of receipts on, up to another, if there are any between
abbrev pub sender_recs : List ℕ → ℕ → ℕ → List (List ℕ)
sender_recs senders from to = if nat_lt from to then slice_range senders from to ∷ [] else []
