pub mod Healing
