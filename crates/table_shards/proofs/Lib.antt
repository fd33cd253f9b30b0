pub mod Shards
pub mod ShardsApart
pub mod ShardWalks
pub mod SharedShards
mod SharedTables
