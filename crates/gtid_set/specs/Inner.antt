-- What private functions alone need: the order of intervals, and how a set and a text's intervals are kept.
pub mod Order
pub mod Kept
