pub mod Released
pub mod Reports
pub mod Telling
