pub mod Inboxes
pub mod Fronts
pub mod CellNames
pub mod Waits
pub mod Boards
pub mod Made
pub mod steps
