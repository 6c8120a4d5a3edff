pub mod Configuration
pub mod Configurations
pub mod CodecLists
pub mod ConfigurationLaws
pub mod CodecListLaws
