pub mod Sync
