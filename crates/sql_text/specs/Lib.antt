pub mod Tree
pub mod Number
pub mod Rule
pub mod Grammar
pub mod Reading
pub mod Sentence
pub mod Answer
pub mod Laws
