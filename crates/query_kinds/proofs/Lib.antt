pub mod Besides
pub mod OneKind
pub mod OneOrder
