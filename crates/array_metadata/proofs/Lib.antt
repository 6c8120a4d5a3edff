pub mod Lists
pub mod ShardCodecs
