pub mod BigLaws
pub mod CivilLaws
pub mod DecimalLaws
pub mod LabelLaws
pub mod ValueLaws
