pub mod Shards
pub mod Empty
pub mod ShardWalks
pub mod Inserted
pub mod SharedShards
pub mod SharedTables
