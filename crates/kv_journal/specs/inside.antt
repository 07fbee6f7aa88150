pub mod Redoes
pub mod Contents
pub mod Reachable
pub mod Courses
