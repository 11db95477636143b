pub mod Alike
pub mod BaseEvents
pub mod Cuts
pub mod InForce
pub mod WrittenMessages
pub mod Laws
