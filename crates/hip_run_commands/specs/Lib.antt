pub mod RunLaws
pub mod Record
pub mod Run
pub mod StepsToEntry
pub mod Crash
pub mod ImagesAtEntries
pub mod CrashLaws
