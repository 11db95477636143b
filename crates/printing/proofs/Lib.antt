pub mod DigitPairs
mod DigitLanes
pub mod PrintLaws
pub mod SpellLaws
