pub mod ContentLaws
pub mod Contents
pub mod FrameLaws
pub mod Frames
pub mod Inboxes
pub mod Scans
pub mod WholeFrames
