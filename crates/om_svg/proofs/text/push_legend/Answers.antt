use Rattle.std.proofs.Common.{◌++◌, ◌∙◌, ap, codes, string_bytes}
use Rattle.om_svg.specs.PictureText.{key_text, legend_text}
use Rattle.om_svg.specs.steps.Sheets.{moved_text}
use Rattle.om_svg.proofs.Pieces.{ends, legend_ends}
use Rattle.om_svg.proofs.text.push_legend.Goals as goal

pub returns : goal.returns
unfolding legend_text moved_text
returns c =
    ends c.push_str-2.result (string_bytes c.push_str-2.new.self) (string_bytes c.push_str.new.self) (codes "</g>\n</svg>\n") (string_bytes c.args.text.now)
    (legend_text c.args.drawn.now) c.push_str-2.ensures.bytes
    (legend_ends (string_bytes c.args.text.now) (string_bytes c.push_moved.new.text) (string_bytes c.push_str.new.self)
    (moved_text c.args.drawn.now.legend) key_text (codes "</g>\n</svg>\n") c.in_ok-push_moved.ensures
    (c.in_ok-push_str.ensures.bytes ∙ ap (λ key. string_bytes c.push_moved.new.text ++ key) c.key.ensures))
