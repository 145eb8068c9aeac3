use Rattle.std.proofs.Common.{◌≡◌, ◌++◌, take, string_bytes}
use Rattle.std.specs.List.{flat_map}
use Rattle.om_svg.specs.ShapeText.{band_text}
use Rattle.om_svg.proofs.text.push_bands.Given as goal

abbrev pub invariant-loop-band : goal.invariant-loop-band
invariant-loop-band l = string_bytes l.text ≡ string_bytes l.initial.text ++ flat_map (band_text l.bottom) (take l.band-index l.bands)
