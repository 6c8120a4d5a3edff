pub mod ValueLists
