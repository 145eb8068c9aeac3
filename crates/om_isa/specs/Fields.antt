use Rattle.std.specs.Prelude.{◌≡◌, ◌%◌, ℤ, unsigned_abs}

-- a multiple of 2
abbrev pub IsEven : ℤ → Type 0
IsEven z = unsigned_abs z % 2 ≡ 0
