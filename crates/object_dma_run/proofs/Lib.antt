pub mod Since
pub mod Copy
pub mod Shared
pub mod ObjectDmaRun
