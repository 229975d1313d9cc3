pub mod Upstreams
