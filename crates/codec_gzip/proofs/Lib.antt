pub mod GzipLaws
pub mod WrittenLaws
pub mod AdlerLaws
pub mod ZlibLaws
