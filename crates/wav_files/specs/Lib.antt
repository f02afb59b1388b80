pub mod Files
