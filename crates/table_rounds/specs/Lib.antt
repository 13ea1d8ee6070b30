pub mod Courses
pub mod Rounds
pub mod Headline
pub mod Outcomes
pub mod Steps
pub mod SessionLaws
