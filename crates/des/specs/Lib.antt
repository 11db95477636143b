pub mod Tables
pub mod Des
pub mod Laws
pub mod Private
