pub mod Digest
