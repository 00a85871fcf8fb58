pub mod Class
pub mod Rule
pub mod Word
