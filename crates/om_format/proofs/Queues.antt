-- Reading queues is reading the fields of their format.
use Rattle.std.proofs.Common.{◌≡◌, ℕ, zero, suc, ◌+◌, ◌*◌, List, [], ◌∷◌, ◌++◌, length, Result, Ok, Err, refl, sym, ap, ◌∙◌, append_assoc, arith}
use Rattle.std.proofs.lemmas.List.{append-nil}
use Rattle.std.specs.List.{flat_map}
use Rattle.om_format.specs.declared.error.DecodeError.{DecodeError}
use Rattle.om_format.specs.Formats.{Size, two, four, bytes_in, Format, end, is_body_size}
use Rattle.om_format.specs.Queues.{entries, queue, queues, entry_values, queue_values}
use Rattle.om_format.specs.steps.Reading.{◌>>=◌, allow, number_at, fields_at, counted_at, end_at}
use Rattle.om_format.specs.steps.CheckpointReading.{entry_at, entries_at, queue_at, queues_at}
use Rattle.om_format.proofs.Parts.{one_number, counted_is, ends, bind_assoc, bind_same}

pub bind_done : {A : Type 0} (r : Result A DecodeError) → r ≡ (r >>= λ x. Ok x)
bind_done (Ok x) = refl
bind_done (Err d) = refl

-- what comes behind a part, after the values of the part
abbrev pub behind_of : Format → List (List ℕ) → ℕ → List ℕ → Result (List (List ℕ)) DecodeError
behind_of behind values offset bytes = fields_at behind offset bytes >>= λ rest. Ok (values ++ rest)

pub entries_is : (newest low count : ℕ) (behind : Format) (offset : ℕ) (bytes : List ℕ)
    → fields_at (entries newest low count behind) offset bytes ≡ (entries_at newest low count offset bytes >>= λ x. behind_of behind (flat_map entry_values x.0) x.1 x.2)
unfolding entries entries_at entry_at
entries_is newest low zero behind offset bytes = bind_done (fields_at behind offset bytes)
entries_is newest low (suc count) behind offset bytes =
    simp (one_number, counted_is, bind_assoc) (bind_same (number_at four bytes) _ _ (λ n. bind_same (allow _ _) _ _ (λ fine. bind_same (counted_at two is_body_size (offset + 4) n.1) _ _ (λ b.
    ap (λ (r : Result (List (List ℕ)) DecodeError). r >>= λ rest. Ok ((n.0 ∷ []) ∷ (length b.0 ∷ []) ∷ b.0 ∷ rest)) (entries_is newest n.0 count behind (offset + 4 + 2 + length b.0) b.1)
    ∙ bind_assoc (entries_at newest n.0 count (offset + 4 + 2 + length b.0) b.1) _ _
    ∙ bind_same (entries_at newest n.0 count (offset + 4 + 2 + length b.0) b.1) _ _ (λ x. bind_assoc (fields_at behind x.1 x.2) _ _)))))

pub queue_is : (size : Size) (newest stop : ℕ) (behind : Format) (offset : ℕ) (bytes : List ℕ)
    → fields_at (queue size newest stop behind) offset bytes ≡ (queue_at size newest stop offset bytes >>= λ x. behind_of behind (queue_values x.0) x.1 x.2)
unfolding queue queue_at
queue_is size newest stop behind offset bytes =
    let one_wide : 1 * bytes_in size ≡ bytes_in size = omega arith in
    rw one_wide (simp (one_number, entries_is, bind_assoc))

pub queues_is : (newest : ℕ) (stops : List ℕ) (behind : Format) (offset : ℕ) (bytes : List ℕ)
    → fields_at (queues newest stops behind) offset bytes ≡ (queues_at newest stops offset bytes >>= λ x. behind_of behind (flat_map queue_values x.0) x.1 x.2)
unfolding queues queues_at
queues_is newest [] behind offset bytes = bind_done (fields_at behind offset bytes)
queues_is newest (stop ∷ stops) behind offset bytes =
    queue_is four newest stop (queues newest stops behind) offset bytes
    ∙ bind_same (queue_at four newest stop offset bytes) _ _ (λ q.
    ap (λ (r : Result (List (List ℕ)) DecodeError). r >>= λ rest. Ok (queue_values q.0 ++ rest)) (queues_is newest stops behind q.1 q.2)
    ∙ bind_assoc (queues_at newest stops q.1 q.2) _ _
    ∙ bind_same (queues_at newest stops q.1 q.2) _ _ (λ x. bind_assoc (fields_at behind x.1 x.2) _ _ ∙ bind_same (fields_at behind x.1 x.2) _ _ (λ rest. ap (λ (vs : List (List ℕ)). Ok vs) (sym (append_assoc (queue_values q.0) (flat_map queue_values x.0) rest))))
    ∙ sym (bind_assoc (queues_at newest stops q.1 q.2) _ _))
    ∙ sym (bind_assoc (queue_at four newest stop offset bytes) _ _)

-- a queue that comes last
pub last_queue_is : (size : Size) (newest stop offset : ℕ) (bytes : List ℕ)
    → fields_at (queue size newest stop end) offset bytes ≡ (queue_at size newest stop offset bytes >>= λ x. end_at x.2 >>= λ u. Ok (queue_values x.0))
last_queue_is size newest stop offset bytes =
    queue_is size newest stop end offset bytes
    ∙ bind_same (queue_at size newest stop offset bytes) _ _ (λ x.
    ap (λ (r : Result (List (List ℕ)) DecodeError). r >>= λ rest. Ok (queue_values x.0 ++ rest)) (ends x.1 x.2)
    ∙ bind_assoc (end_at x.2) _ _
    ∙ bind_same (end_at x.2) _ _ (λ u. ap (λ (vs : List (List ℕ)). Ok vs) (append-nil (queue_values x.0))))
