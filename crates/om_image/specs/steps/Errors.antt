-- The errors of an image, by those of its parts.
use Rattle.om_text.specs.declared.error.BuildError.{BuildError}
use Rattle.om_text.specs.declared.error.BuildError.TheVariants as building
use Rattle.om_text.specs.declared.error.LineError.{LineError}
use Rattle.om_text.specs.declared.text.ReadError.{ReadError}
use Rattle.om_text.specs.declared.text.ReadError.TheVariants as reading
use Rattle.om_image.specs.declared.error.ImageError.{ImageError}
use Rattle.om_image.specs.declared.error.ImageError.TheVariants as errors

-- the errors of what is read and of what is made of it
abbrev pub error_of_building : BuildError LineError → ImageError
error_of_building (building.Invalid error) = errors.Line error
error_of_building building.Memory = errors.NoMemory

abbrev pub error_of_reading : ReadError → ImageError
error_of_reading reading.TooLong = errors.CannotRead
error_of_reading reading.CannotRead = errors.CannotRead
error_of_reading reading.Memory = errors.NoMemory
