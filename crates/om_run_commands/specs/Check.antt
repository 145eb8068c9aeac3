-- What the command `run --check` answers to the bytes of its input.
use Rattle.std.specs.Prelude.{◌≡◌, ℕ, List}
use Rattle.om_check.specs.FailureFree.{IsRunBy}
use Rattle.om_manager.specs.Outputs.{HeldOutput}
use Rattle.om_process.specs.declared.status.Status.{Status}
use Rattle.om_scripts.specs.Programs.{Cluster, programs_of}
use Rattle.om_world.specs.declared.entry.Entry.{Entry}
use Rattle.om_run_commands.specs.RunText.{run_text_in}
use Rattle.om_commands.specs.declared.bytes_text.BytesForm.{BytesForm}

-- the text of the run without failures of these programs in which this was received, with the bytes of outputs in a form
pub record IsTextIn (form : BytesForm) (cluster : Cluster) (live : List Entry) (text : List ℕ) : Type 0 where
  pub outputs : List (List HeldOutput)
  pub statuses : List Status
  pub run : IsRunBy (programs_of cluster) live outputs statuses
  pub written : text ≡ run_text_in form cluster outputs statuses

-- the text of some run without failures of these programs
abbrev pub IsFailureFreeIn : BytesForm → Cluster → List ℕ → Type 0
IsFailureFreeIn form cluster text = (live : List Entry) × IsTextIn form cluster live text
