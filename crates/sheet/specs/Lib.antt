pub mod Bytes
pub mod Fields
pub mod Headings
pub mod Letters
pub mod Values
pub mod Replies
pub mod Lines
pub mod Columns
