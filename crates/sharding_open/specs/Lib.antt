pub mod Cached
pub mod OpenShards
pub mod OpenSessions
pub mod PreparedWrites
pub mod Slices
