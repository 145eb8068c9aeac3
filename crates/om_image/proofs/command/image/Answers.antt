use Rattle.std.proofs.Common.{◌≤◌, length, subst}
use Rattle.std.specs.Prelude.{OnOk}
use Rattle.std.specs.Io.KnownBytes.{Appends}
use Rattle.om_isa.specs.declared.memory.TheConstants.{MAX_MEMORY}
use Rattle.om_image.specs.Image.{IsImageLine}
use Rattle.om_image.proofs.Whole.{line_written}
use Rattle.om_image.proofs.command.image.Goals as goal

pub returns-clause-text : goal.returns-clause-text
returns-clause-text g c =
    let old = g.W.Write.contents c.args.writer.now in
    let new = g.W.Write.contents c.written.new.writer in
    line_written c.args.ext c.args.name.now c.args.size.now c.in_ok-bytes.bytes.items c.in_ok-line.line.items (g.I.Read.remaining c.args.reader.now) c.written.result old new
    c.in_ok-bytes.ensures
    (subst (λ l. length l ≤ MAX_MEMORY) c.deref.ensures.value c.in_ok-line.ensures.short)
    (subst (λ l. IsImageLine c.args.ext c.args.name.now c.args.size.now l c.in_ok-line.line.items) c.deref.ensures.value c.in_ok-line.ensures.line)
    (subst (λ l. OnOk c.written.result (Appends old new l)) c.deref-2.ensures.value c.written.ensures.text)
