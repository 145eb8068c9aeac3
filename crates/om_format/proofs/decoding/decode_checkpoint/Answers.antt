use Rattle.std.proofs.Common.{Ok, sym, ap, ◌∙◌, subst, arith}
use Rattle.std.specs.Prelude.{map, Result}
use Rattle.om_format.specs.declared.error.DecodeError.{DecodeError}
use Rattle.om_format.specs.declared.version.Version.{Version}
use Rattle.om_format.specs.steps.Reading.{◌>>=◌}
use Rattle.om_format.specs.Queues.{queue_record}
use Rattle.om_format.specs.Checkpoints.{CheckpointRecord, IsSpelled, IsFrontRead, checkpoint_fault}
use Rattle.om_format.proofs.Formats.{fault_or_memory}
use Rattle.om_format.proofs.Lawful.{fit_together}
use Rattle.om_format.proofs.Checkpoints.{checkpoint_found, checkpoint_again, checkpoint_faulty, front_read, parts_are, no_front}
use Rattle.om_format.proofs.decoding.decode_checkpoint.Goals as goal

-- a reading without its version
abbrev second : Result (Version × CheckpointRecord) DecodeError → Result CheckpointRecord DecodeError
second r = r >>= λ x. Ok x.1

pub fitted-requires : goal.fitted-requires
fitted-requires c =
    fit_together c.args.bytes.now c.in-Ok.behind.now c.in-Ok.front c.in-Ok-rest_at.rest.memory (map queue_record c.in-Ok-rest_at.rest.kept.items) (queue_record c.in-Ok-rest_at.rest.outputs) c.in-Ok.ensures.exact c.in-Ok-rest_at.ensures.exact

pub returns-in-Ok-rest_at-clause-found : goal.returns-in-Ok-rest_at-clause-found
returns-in-Ok-rest_at-clause-found c =
    let read = parts_are c.args.bytes.now c.in-Ok.front c.in-Ok.behind.now _ c.in-Ok.ensures.exact c.in-Ok-rest_at.ensures.exact in
    subst (λ (r : CheckpointRecord). IsSpelled r c.args.bytes.now) (sym c.fitted.ensures) (c.in-Ok.front.version, checkpoint_found c.args.bytes.now _ (λ i. omega (arith, c.type_inv.bytes i)) read)

pub returns-in-Ok-rest_at-clause-only : goal.returns-in-Ok-rest_at-clause-only
returns-in-Ok-rest_at-clause-only c = λ version r spelled.
    let read = parts_are c.args.bytes.now c.in-Ok.front c.in-Ok.behind.now _ c.in-Ok.ensures.exact c.in-Ok-rest_at.ensures.exact in
    ap second (sym (checkpoint_again c.args.bytes.now version r spelled) ∙ read) ∙ ap (λ (s : CheckpointRecord). Ok s) (sym c.fitted.ensures)

pub returns-in-Err-rest_at-clause-only : goal.returns-in-Err-rest_at-clause-only
returns-in-Err-rest_at-clause-only c = λ version r spelled other.
    let read = parts_are c.args.bytes.now c.in-Ok.front c.in-Ok.behind.now _ c.in-Ok.ensures.exact (c.in-Err-rest_at.ensures.exact other) in
    ap second (sym (checkpoint_again c.args.bytes.now version r spelled) ∙ read)

pub returns-in-Err-rest_at-clause-fault : goal.returns-in-Err-rest_at-clause-fault
returns-in-Err-rest_at-clause-fault c =
    fault_or_memory c.in-Err-rest_at.fault (checkpoint_fault c.args.bytes.now) (IsFrontRead c.args.bytes.now)
    (λ other. checkpoint_faulty c.args.bytes.now c.in-Err-rest_at.fault (parts_are c.args.bytes.now c.in-Ok.front c.in-Ok.behind.now _ c.in-Ok.ensures.exact (c.in-Err-rest_at.ensures.exact other)))
    (λ h. front_read c.args.bytes.now c.in-Ok.behind.now c.in-Ok.front c.in-Ok.ensures.exact (c.in-Err-rest_at.ensures.memory h))

pub returns-in-Err-clause-only : goal.returns-in-Err-clause-only
returns-in-Err-clause-only c = λ version r spelled other. ap second (sym (checkpoint_again c.args.bytes.now version r spelled) ∙ no_front c.args.bytes.now c.in-Err.fault c.in-Err.ensures.exact.0)

pub returns-in-Err-clause-fault : goal.returns-in-Err-clause-fault
returns-in-Err-clause-fault c =
    fault_or_memory c.in-Err.fault (checkpoint_fault c.args.bytes.now) (IsFrontRead c.args.bytes.now)
    (λ other. checkpoint_faulty c.args.bytes.now c.in-Err.fault (no_front c.args.bytes.now c.in-Err.fault c.in-Err.ensures.exact.0))
    (λ h. absurd (c.in-Err.ensures.exact.1 h))
