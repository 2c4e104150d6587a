pub mod Below
pub mod Numbers
pub mod Once
