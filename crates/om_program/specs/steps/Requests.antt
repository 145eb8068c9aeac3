-- Which requests have ends of their own, and which read their input as a text.
use Rattle.std.specs.Prelude.{Bool, true, false}
use Rattle.om_arguments.specs.declared.arguments.Request.{Request}
use Rattle.om_arguments.specs.declared.arguments.Request.TheVariants as requests

-- the request is for a run
abbrev pub IsRunRequest : Request → Type 0
IsRunRequest (requests.Run running) = Unit {0}
IsRunRequest _ = ⊥

-- its input is a text, of which a line may be refused
abbrev pub reads_text : Request → Bool
reads_text (requests.DebugStore file interval) = false
reads_text (requests.Look look) = false
reads_text (requests.Image ext name size) = false
reads_text _ = true
