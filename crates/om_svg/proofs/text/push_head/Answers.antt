use Rattle.std.proofs.Common.{codes, string_bytes}
use Rattle.om_svg.specs.PictureText.{head_text}
use Rattle.om_svg.specs.steps.Sheets.{head_parts}
use Rattle.om_svg.proofs.Pieces.{by_parts, ends, head_ends, head_is}
use Rattle.om_svg.proofs.text.push_head.Goals as goal

pub returns : goal.returns
unfolding head_parts
returns c =
    let end = codes "</text>\n" in
    let old = string_bytes c.args.text.now in
    by_parts c.push_str-3.result (string_bytes c.push_str-3.new.self) old (head_text c.args.drawn.now) (head_parts c.args.drawn.now) (head_is c.args.drawn.now)
    (ends c.push_str-3.result (string_bytes c.push_str-3.new.self) (string_bytes c.push_outputs.new.text) end old (head_parts c.args.drawn.now)
    c.push_str-3.ensures.bytes
    (head_ends old _ _ _ _ _ _ _ _ _ _ _ _ end c.in_ok-push_str.ensures.bytes c.in_ok-push_summary.ensures c.in_ok-push_str-2.ensures.bytes
    c.in_ok-push_sent.ensures c.in_ok-push_failed.ensures c.in_ok-push_outputs.ensures))
