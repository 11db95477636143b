pub mod SaidLaws
pub mod RefusalLaws
pub mod EndLaws
