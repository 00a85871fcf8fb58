pub mod Record
pub mod Check
pub mod Accept
pub mod Run
pub mod Build
