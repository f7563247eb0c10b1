pub mod Computed
pub mod Worked
pub mod ModuleRules
pub mod TraceRules
pub mod ArbitrationRules
pub mod RestartRules
pub mod NightRules
