-- What the command line asks for.
use Rattle.std.specs.Prelude.{ℕ, List, Bool, Option, None, Some, codes, if◌then◌else◌}
use Rattle.std.specs.Str.{bytes_eq}
use Rattle.om_isa.specs.declared.ext.Ext.{Ext}
use Rattle.om_isa.specs.declared.ext.Ext.TheVariants.{I, Im}
use Rattle.om_arguments.specs.declared.arguments.OutputForm.{OutputForm}
use Rattle.om_arguments.specs.declared.arguments.OutputForm.TheVariants.{Hex, Text}
use Rattle.om_arguments.specs.declared.arguments.Request.{Request}
use Rattle.om_arguments.specs.declared.arguments.Request.TheVariants as requests
use Rattle.om_arguments.specs.declared.arguments.Subcommand.{Subcommand}
use Rattle.om_arguments.specs.declared.look_requests.Look.{Look}
use Rattle.om_arguments.specs.declared.look_requests.Look.TheVariants as looks
use Rattle.om_arguments.specs.declared.arguments.Subcommand.TheVariants.{Decode, Frontier, Sim, Draw, Run, Explore, Debug, Replay, Show, Image}

-- the instructions that a program may use, by whether the flag `--m` was given
abbrev pub ext_of : Bool → Ext
ext_of with_m = if with_m then Im else I

-- how the bytes of outputs are written, by whether the flag `--text` was given
abbrev pub form_of : Bool → OutputForm
form_of with_text = if with_text then Text else Hex

-- the subcommand of a name
abbrev pub subcommand_named : List ℕ → Option Subcommand
subcommand_named name =
    if bytes_eq name (codes "decode") then Some Decode
    else (if bytes_eq name (codes "frontier") then Some Frontier
    else (if bytes_eq name (codes "sim") then Some Sim
    else (if bytes_eq name (codes "draw") then Some Draw
    else (if bytes_eq name (codes "run") then Some Run
    else (if bytes_eq name (codes "explore") then Some Explore
    else (if bytes_eq name (codes "debug") then Some Debug
    else (if bytes_eq name (codes "replay") then Some Replay
    else (if bytes_eq name (codes "show") then Some Show
    else (if bytes_eq name (codes "image") then Some Image
    else None)))))))))

-- the subcommand that looks into a store so
abbrev pub looked_by : Look → Subcommand
looked_by (looks.Show file bodies) = Show
looked_by (looks.Replay file interval short) = Replay
looked_by (looks.Steps file interval steps traced short) = Replay

-- the subcommand that a request is of
abbrev pub asked_by : Request → Subcommand
asked_by (requests.Decode ext) = Decode
asked_by requests.Frontier = Frontier
asked_by (requests.Sim form) = Sim
asked_by (requests.Draw lines) = Draw
asked_by (requests.Run running) = Run
asked_by (requests.Explore exploring) = Explore
asked_by (requests.Debug process) = Debug
asked_by (requests.DebugStore file interval) = Debug
asked_by (requests.Look look) = looked_by look
asked_by (requests.Image ext name size) = Image
