-- What a run of a cluster ends with, by its stores.
use Rattle.std.specs.Prelude.{◌≡◌, ℕ, List, Some, Bool, IsTrue, Vec, slice_get, length}
use Rattle.std.specs.declared.alloc.Global.{Global}
use Rattle.om_manager.specs.declared.output_log.Output.{Output}
use Rattle.om_process.specs.Ends.{IsWholeRun}
use Rattle.om_process.specs.Images.{program_of}
use Rattle.om_process.specs.declared.image.Image.{Image}
use Rattle.om_process.specs.declared.status.Status.{Status}

-- By process: where its store is clean, it comes to its status along its image, and its outputs are as many as it has then made.
abbrev pub AreWholeOver : {S : Type 0} → (S → Bool) → List Image → List Status → List (Vec Output Global) → List S → Type 0
AreWholeOver is_clean images statuses released stores =
    (p : ℕ) (image : Image) (status : Status) (outputs : Vec Output Global) (store : _)
    → slice_get images p ≡ Some image → slice_get statuses p ≡ Some status → slice_get released p ≡ Some outputs
    → slice_get stores p ≡ Some store → IsTrue (is_clean store)
    → IsWholeRun (program_of image) p (length images) status (length outputs.items)
