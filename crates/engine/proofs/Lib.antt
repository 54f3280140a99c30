pub mod SwitchBlind
pub mod OnceCalls
