pub mod Asking
pub mod CommandSpelling
pub mod Cutting
pub mod ShardRows
pub mod Following
pub mod FollowingBytes
pub mod LayoutRoom
pub mod Ups
