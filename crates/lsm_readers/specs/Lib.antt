pub mod Publications
pub mod Writers
pub mod Rule
