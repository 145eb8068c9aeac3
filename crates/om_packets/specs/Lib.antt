pub mod Decoding
pub mod Packets
pub mod Reading
