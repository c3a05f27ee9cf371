pub mod Replays
pub mod Delivery
pub mod PrintedText
pub mod RecordedTrace
pub mod Steps
