mod Dropping
pub mod Firsts
pub mod Filing
pub mod Taking
pub mod Ends
pub mod Served
pub mod Opening
pub mod Dues
