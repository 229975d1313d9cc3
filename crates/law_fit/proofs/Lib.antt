pub mod Readers
pub mod Placed
pub mod GoodNodes
pub mod Packets
pub mod FitWorlds
pub mod Replicas
