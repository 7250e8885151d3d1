pub mod LinesCut
pub mod DigitCounts
pub mod FieldsOfTexts
pub mod LinesOfTexts
