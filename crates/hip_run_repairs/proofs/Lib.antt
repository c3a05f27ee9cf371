pub mod SparedCounts
