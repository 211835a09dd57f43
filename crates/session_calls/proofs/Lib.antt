pub mod Watched
pub mod Judged
pub mod Replies
pub mod Refused
