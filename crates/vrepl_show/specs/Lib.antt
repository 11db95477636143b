pub mod ShowJson
