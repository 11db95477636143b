-- What serves the code alone, and no public contract.
pub mod Bytes
pub mod Sees
pub mod Goes
pub mod Sends
pub mod Opens
pub mod Cuts
