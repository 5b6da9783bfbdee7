pub mod EnoughRead
