pub mod Refusals
pub mod Answers
pub mod Apart
pub mod Left
pub mod Recorded
pub mod Leaves
pub mod Replies
