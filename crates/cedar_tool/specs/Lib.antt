pub mod Answers
pub mod Disks
pub mod Ends
pub mod Layouts
pub mod Listed
pub mod Streams
pub mod Told
