pub mod Answering
pub mod BatchLists
mod FirstBatch
mod ItemLists
mod Mapped
pub mod Nothing
pub mod Standing
