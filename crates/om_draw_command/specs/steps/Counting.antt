-- Numbers of lines, counted.
use Rattle.std.specs.Prelude.{ℕ, List, nat_le}
use Rattle.std.specs.List.{count_by}

-- how many of these lines stand at this line or before it
abbrev pub count_within : List ℕ → ℕ → ℕ
count_within lines last = count_by (λ line. nat_le line last) lines
