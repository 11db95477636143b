mod LeftLaws
mod SizedLaws
mod WritingLaws
mod CutLaws
mod CompactLaws
