-- The steps of the code, as functions on lists. Only private functions speak of them; what they come to is stated over
-- the formats.
pub mod Reading
pub mod Offsets
pub mod CheckpointReading
pub mod ReceiptBytes
pub mod CheckpointBytes
pub mod Kinds
pub mod Telling
