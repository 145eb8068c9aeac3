use Rattle.std.proofs.Common.{◌++◌, ◌∙◌, ap, string_bytes}
use Rattle.std.specs.Prelude.{codes, decimal}
use Rattle.om_commands.specs.Quoted.{bytes_text}
use Rattle.om_explore_command.proofs.PlaceLemmas.{grows_by_two}
use Rattle.om_explore_command.proofs.text.push_made.Goals as goal

pub returns : goal.returns
returns c =
    grows_by_two c.write.result (string_bytes c.args.text.now) (string_bytes c.push_bytes_in.new.text) (string_bytes c.write.new.self)
    (bytes_text c.args.form c.args.output.now.bytes) (codes " in interval ") (decimal c.args.output.now.interval)
    (c.in_ok-push_bytes_in.ensures ∙ ap (λ bytes. string_bytes c.args.text.now ++ bytes_text c.args.form bytes) c.as_slice.ensures) c.write.ensures.bytes
