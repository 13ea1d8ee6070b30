pub mod Fixed
pub mod Lexeme
pub mod Byte
pub mod Spelling
pub mod Reads
pub mod CutLaws
