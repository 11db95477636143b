pub mod NumberLaws
pub mod CrcAhead
pub mod CrcLaws
pub mod EventLaws
pub mod LogLaws
pub mod CutLaws
mod Examples
