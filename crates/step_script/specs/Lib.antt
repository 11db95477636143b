pub mod ScriptLines
pub mod ScriptRefusal
pub mod Private
