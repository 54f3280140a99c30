pub mod Calls
pub mod SwitchBlind
pub mod OnceCalls
