-- Lines of settings, one by one.
use Rattle.std.specs.Prelude.{ℕ, List, Result, Ok}
use Rattle.om_text.specs.Numbers.{number_of, long_number_of}
use Rattle.om_text.specs.Reading.{◌>>=◌}
use Rattle.om_text.specs.declared.error.LineError.{LineError}
use Rattle.om_run_commands.specs.ClusterScript.{ClusterFile, closed, count_in}

-- `flush K`, by the words behind its first, as are the others
abbrev pub flush_line : ClusterFile → List (List ℕ) → Result ClusterFile LineError
flush_line script words = count_in number_of words >>= λ k. Ok (closed (record script { flush = k }))

-- `checkpoint K`, by the words behind its first
abbrev pub checkpoint_line : ClusterFile → List (List ℕ) → Result ClusterFile LineError
checkpoint_line script words = count_in number_of words >>= λ k. Ok (closed (record script { checkpoint = k }))

-- `fuel K`, by the words behind its first
abbrev pub fuel_line : ClusterFile → List (List ℕ) → Result ClusterFile LineError
fuel_line script words = count_in long_number_of words >>= λ k. Ok (closed (record script { fuel = k }))
