mod Tallying
mod Replicas
mod Linking
mod Seeing
