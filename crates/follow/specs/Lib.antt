pub mod Follow
pub mod View
pub mod Sample
pub mod Adding
