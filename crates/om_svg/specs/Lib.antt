pub mod AnswerText
pub mod PictureText
pub mod Plain
pub mod ShapeText
pub mod WordText
pub mod steps
