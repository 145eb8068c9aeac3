pub mod Pages
pub mod Marks
