use Rattle.std.proofs.Common.{◌≡◌, append_assoc, ap, ◌∙◌, sym, length}
use Rattle.std.proofs.lemmas.List.{length-map}
use Rattle.om_pages.specs.Pages.{page_at, kept_pages}
use Rattle.om_format.proofs.checkpoint_writing.put_memory.Goals as goal

pub returns : goal.returns
returns c =
    let memory = c.args.memory.now in
    let count : length c.args.kept.now ≡ length (kept_pages memory) = sym (length-map c.args.kept.now (page_at memory)) ∙ ap length c.requires.kept in
    rw (c.in_ok-put_pages.ensures, c.in_ok-extend_from_slice-3.ensures.items, c.to_le_bytes-3.ensures, c.in_ok-extend_from_slice-2.ensures.items, c.to_le_bytes-2.ensures, c.in_ok-extend_from_slice.ensures.items, c.to_le_bytes.ensures, count, c.requires.kept) (simp append_assoc)
