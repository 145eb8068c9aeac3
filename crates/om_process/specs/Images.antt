-- What an image is to a process.
use Rattle.om_process.specs.Process.{Program}
use Rattle.om_process.specs.declared.image.Image.{Image}

-- an image as a program
abbrev pub program_of : Image → Program
program_of image = record { image = image.bytes.items; size = image.size; ext = image.ext }
