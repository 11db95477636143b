mod SourceLaws
mod EndLaws
