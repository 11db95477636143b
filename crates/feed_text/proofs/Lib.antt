pub mod SaidLaws
pub mod UnderLaws
