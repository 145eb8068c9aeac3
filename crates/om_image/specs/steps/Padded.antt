-- Bytes as whole words.
use Rattle.std.specs.Prelude.{◌≡◌, ℕ, ◌*◌, ◌/◌, ◌<◌, List, ◌++◌, flat_map, length, replicate, take}
use Rattle.std.specs.Int.{to_le_bytes, w32}
use Rattle.om_image.specs.Image.{IsPadded}

-- the bytes, and fewer than four zeros up to a whole number of words
pub record IsWholePadded (bytes padded : List ℕ) : Type 0 where
  pub zeros : ℕ
  pub few : zeros < 4
  pub is : padded ≡ bytes ++ replicate zeros 0
  pub whole : length padded / 4 * 4 ≡ length padded

-- the words have these bytes, the lowest of each first; behind them the last word is padded with zeros
abbrev pub AreWordsOf : List ℕ → List ℕ → Type 0
AreWordsOf bytes words = IsPadded bytes (flat_map (to_le_bytes w32) words)

-- the words have these bytes, as far as they make whole words
abbrev pub AreWholeWordsOf : List ℕ → List ℕ → Type 0
AreWholeWordsOf bytes words = flat_map (to_le_bytes w32) words ≡ take (length bytes / 4 * 4) bytes
