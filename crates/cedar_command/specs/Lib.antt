pub mod Ends
pub mod FaultLines
pub mod PolicyLines
pub mod Request
pub mod Streams
