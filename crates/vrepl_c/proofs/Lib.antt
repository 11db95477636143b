mod Texts
mod Messages
mod Plans
mod DifferenceLaws
mod RangeLaws
