pub mod Buckets
pub mod Lending
pub mod Lookups
pub mod Tags
pub mod TextLists
pub mod TextMaps
pub mod TextTables
